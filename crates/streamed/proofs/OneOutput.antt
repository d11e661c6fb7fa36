-- A script has one output.
use Rattle.std.proofs.Common.{sym, ◌∙◌, ap, subst}
use Rattle.matchstate.specs.OneReading.{ActionTextsSayOneAction}
use Rattle.matchstate.specs.OneToOne.{DealTextsAreOneToOne}
use Rattle.streamed.specs.Script.{SayInTurn, answers}
use Rattle.streamed.specs.OneOutput.{OneOutput}
use Rattle.streamed.proofs.OneCut.{same_lines}
use Rattle.streamed.proofs.OneSaying.{same_says}

pub one_output : ActionTextsSayOneAction → DealTextsAreOneToOne → OneOutput
one_output actions deals game count log bytes output other script again =
    let lines = same_lines bytes script.lines again.lines script.rest again.rest script.are_lines again.are_lines in
    let turn = subst (λ ls. SayInTurn game count ls again.says) (sym lines) again.say_in_turn in
    script.written ∙ ap (answers game count log) (same_says actions deals game count script.lines script.says again.says script.say_in_turn turn) ∙ sym again.written
