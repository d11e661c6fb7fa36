use Rattle.std.proofs.Common.{◌≡◌, ◌+◌, ◌-◌, ◌≤◌, drop, reverse, vec_len}
use Rattle.std.specs.Vec.{vec_capacity}
use Rattle.slot_log.specs.Slots.{settled}
use Rattle.slot_log.proofs.known.advance_front.Given as goal

abbrev pub invariant-loop-run : goal.invariant-loop-run
invariant-loop-run l =
    (settled (reverse l.below.items) (drop l.run l.beyond.items) ≡ settled (reverse l.fn.below.items) l.fn.beyond.items)
    × (l.run ≤ vec_len l.beyond)
    × (vec_len l.below ≡ vec_len l.fn.below + l.run)
    × (vec_capacity l.below ≡ vec_capacity l.fn.below)

abbrev pub decreases-loop-run : goal.decreases-loop-run
decreases-loop-run l = vec_len l.beyond - l.run
