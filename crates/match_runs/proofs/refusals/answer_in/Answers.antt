use Rattle.match_runs.proofs.Answering.{no_answer, has_colon}
use Rattle.match_runs.proofs.refusals.answer_in.Goals as goal

pub returns-in-Ok-clause-missing : goal.returns-in-Ok-clause-missing
returns-in-Ok-clause-missing c = λ none text is. absurd (has_colon _ _ _ _ c.in-Ok.ensures (c.answer_of.ensures.missing none))

pub returns-in-Err-clause-missing : goal.returns-in-Err-clause-missing
returns-in-Err-clause-missing c = λ none. no_answer c.args.game.now c.args.piece.now c.in-Some.text.now c.in-Err.field-0 c.in-Some.ensures.found c.in-Err.ensures
