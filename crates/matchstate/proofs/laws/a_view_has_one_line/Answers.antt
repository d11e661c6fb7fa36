use Rattle.matchstate.proofs.OneLine.{texts_are_lines, lines_are_texts, lines_say_one_view, texts_read_back}
use Rattle.matchstate.proofs.laws.a_view_has_one_line.Goals as goal

pub returns-clause-text : goal.returns-clause-text
returns-clause-text c = texts_are_lines

pub returns-clause-only : goal.returns-clause-only
returns-clause-only c = lines_are_texts

pub returns-clause-one : goal.returns-clause-one
returns-clause-one c = lines_say_one_view

pub returns-clause-back : goal.returns-clause-back
returns-clause-back c = texts_read_back
