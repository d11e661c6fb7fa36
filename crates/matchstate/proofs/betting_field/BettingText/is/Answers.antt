use Rattle.std.proofs.Common.{[], sym, ◌∙◌}
use Rattle.std.proofs.lemmas.Bool.{false≢true}
use Rattle.std.proofs.lemmas.List.{append-nil}
use Rattle.matchstate.proofs.Missing.{missing}
use Rattle.matchstate.proofs.betting_field.BettingText.is.Goals as goal

pub returns-in-None : goal.returns-in-None
returns-in-None c = (
  λ t. absurd (false≢true t),
  λ is. absurd (missing _ c.in-None.is (c.after.ensures.only [] (is ∙ sym (append-nil c.args.self.now)))),
)
