use Rattle.matchstate.proofs.OneLine.{lines_read_one_way}
use Rattle.matchstate.proofs.OneAnswer.{answers_read_one_way, one_action}
use Rattle.matchstate.proofs.laws.a_text_reads_one_way.Goals as goal

pub returns-clause-line : goal.returns-clause-line
returns-clause-line c = lines_read_one_way

pub returns-clause-answer : goal.returns-clause-answer
returns-clause-answer c = answers_read_one_way

pub returns-clause-action : goal.returns-clause-action
returns-clause-action c = one_action
