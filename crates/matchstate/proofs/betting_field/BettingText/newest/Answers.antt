use Rattle.std.proofs.Common.{refl, sym, ap, ◌∙◌}
use Rattle.betting.specs.Text.{slash_counts}
use Rattle.matchstate.specs.Line.{newest_text}
use Rattle.matchstate.proofs.Texts.{text_none}
use Rattle.matchstate.proofs.betting_field.BettingText.newest.Goals as goal

pub of_actions-requires-clause-slashes : goal.of_actions-requires-clause-slashes
unfolding slash_counts
of_actions-requires-clause-slashes c = refl

pub returns-in-None : goal.returns-in-None
returns-in-None c = c.of_actions.ensures ∙ text_none c.game.result.now ∙ sym (ap (newest_text c.args.table.now.game) c.in-None.ensures)
