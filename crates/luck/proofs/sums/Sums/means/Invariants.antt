use Rattle.std.proofs.Common.{◌≡◌, ℕ, ◌/◌, ◌<◌, pos, ◌*ℤ◌, length, get_or}
use Rattle.luck.proofs.sums.Sums.means.Given as goal

abbrev pub invariant-loop-position : goal.invariant-loop-position
invariant-loop-position l = record {
  places : length l.means ≡ 10;
  so_far : (k : ℕ) → k < l.position → get_or l.means k (pos 0) ≡ pos (l.parts / l.self.deals) *ℤ get_or l.self.amounts k (pos 0);
}
