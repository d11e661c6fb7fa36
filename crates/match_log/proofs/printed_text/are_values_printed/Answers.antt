use Rattle.std.proofs.lemmas.Grind.{common_steps}
use Rattle.std.proofs.Common.{[], sym, ◌∙◌, arith}
use Rattle.std.proofs.lemmas.Bool.{false≢true}
use Rattle.std.proofs.lemmas.List.{append-nil}
use Rattle.match_log.specs.Lines.{values_field}
use Rattle.match_log.proofs.printed_text.are_values_printed.Goals as goal

pub returns-in-None : goal.returns-in-None
returns-in-None c = (λ passed. absurd (false≢true passed), λ is. absurd (c.in-None.ensures.only [] (is ∙ sym (append-nil (values_field c.args.values.now)))))

pub returns-in-Some : goal.returns-in-Some
returns-in-Some c = grind (arith, common_steps)
