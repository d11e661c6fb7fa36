use Rattle.std.proofs.Common.{◌≡◌, ◌≤◌, take}
use Rattle.std.specs.List.{count_by}
use Rattle.line_cursor.specs.Naming.{is_action_letter}
use Rattle.line_cursor.proofs.naming.action_count.Given as goal

abbrev pub invariant-loop-byte : goal.invariant-loop-byte
invariant-loop-byte l = (l.count ≡ count_by is_action_letter (take l.byte-index l.betting)) × (l.count ≤ l.byte-index)
