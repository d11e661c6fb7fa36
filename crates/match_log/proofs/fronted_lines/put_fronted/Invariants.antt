use Rattle.std.proofs.Common.{◌≡◌, ◌++◌, drop, true}
use Rattle.match_log.specs.Fronted.{fronted}
use Rattle.match_log.proofs.fronted_lines.put_fronted.Given as goal

abbrev pub invariant-loop-byte : goal.invariant-loop-byte
invariant-loop-byte l = l.out.items ++ fronted l.front l.begins (drop l.byte-index l.text) ≡ l.fn.out.items ++ fronted l.front true l.text
