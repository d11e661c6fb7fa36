use Rattle.std.proofs.Common.{◌≡◌, ◌+◌, ◌-◌, ◌≤◌, ◌++◌, false, replicate}
use Rattle.std.specs.Prelude.{vec_len, vec_capacity}
use Rattle.playing.proofs.marks.put_marks.Given as goal

abbrev pub invariant-loop-mark : goal.invariant-loop-mark
invariant-loop-mark l = (l.delivered.items ≡ l.fn.delivered.items ++ replicate l._mark false) × (vec_len l.delivered + (l.frames - l._mark) ≤ vec_capacity l.delivered)
