use Rattle.std.proofs.Common.{◌∷◌, ◌++◌}
use Rattle.match_file.proofs.Keeping.{line_found}
use Rattle.match_file.proofs.kept_lines.read_line.Goals as goal

pub returns-in-Some-clause-found : goal.returns-in-Some-clause-found
returns-in-Some-clause-found c = line_found c.args.text.now c.args.word.now c.in-Some.behind.now c.cut.result c.in-Some.ensures.found c.cut.ensures.found

pub returns-in-None-clause-only : goal.returns-in-None-clause-only
returns-in-None-clause-only c = λ value rest one_line is. c.in-None.ensures.only (value ++ 10 ∷ rest) is
