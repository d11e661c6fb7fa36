use Rattle.match_log.proofs.Verdicts.{one_verdict}
use Rattle.match_log.proofs.laws.one_verdict.Goals as goal

pub returns : goal.returns
returns c = one_verdict c.betting_texts_are_one_to_one.ensures c.payoffs_are_those_of_what_is_shown.ensures c.nobody_passes_his_stack.ensures c.hands_end_finished.ensures
