use Rattle.std.proofs.Common.{◌≡◌, ◌++◌}
use Rattle.std.specs.List.{flat_map, range_with_len}
use Rattle.streamed.specs.Answer.{line_for}
use Rattle.streamed.proofs.dealing.Dealing.put_lines.Given as goal

abbrev pub invariant-loop-seat : goal.invariant-loop-seat
invariant-loop-seat l = l.out.items ≡ l.fn.out.items ++ flat_map (line_for l.self.table.game l.self.table.hands) (range_with_len 0 l.seat)
