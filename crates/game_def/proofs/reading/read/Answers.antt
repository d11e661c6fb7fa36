use Rattle.std.proofs.Common.{◌∙◌}
use Rattle.game_def.proofs.Grammar.{is_found, file_is_read}
use Rattle.game_def.proofs.reading.read.Goals as goal

pub returns-clause-found : goal.returns-clause-found
returns-clause-found c = is_found c.args.text.now c.read_all.result c.read_all.ensures

pub returns-clause-only : goal.returns-clause-only
returns-clause-only c = λ game file. c.read_all.ensures ∙ file_is_read c.args.text.now game file
