use Rattle.std.proofs.Common.{ap, Some, []}
use Rattle.match_file.proofs.node_kept.read_life.Goals as goal

pub returns-in_err-life-clause-only : goal.returns-in_err-life-clause-only
returns-in_err-life-clause-only c = λ life are many is. absurd (c.in_err-life.ensures.only life [] are many is)

pub returns-then-is_empty-clause-only : goal.returns-then-is_empty-clause-only
returns-then-is_empty-clause-only c = λ life are many is. ap Some (c.in_ok-life.ensures.only life [] are many is).0
