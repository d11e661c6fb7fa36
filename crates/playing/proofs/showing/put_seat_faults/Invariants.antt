use Rattle.std.proofs.Common.{◌≡◌, ◌++◌, drop}
use Rattle.std.specs.List.{flat_map}
use Rattle.playing.specs.Showing.{seat_fault_text}
use Rattle.playing.proofs.showing.put_seat_faults.Given as goal

abbrev pub invariant-loop-told : goal.invariant-loop-told
invariant-loop-told l = l.out.items ++ flat_map (seat_fault_text l.node) (drop l.told-index l.faults) ≡ l.fn.out.items ++ flat_map (seat_fault_text l.node) l.faults
