use Rattle.std.proofs.Common.{◌≡◌, ℕ, ◌<◌, ◌≤◌, pos, ◌+ℤ◌, ◌-ℤ◌, length, get_or}
use Rattle.luck.proofs.hand_luck.add_moved.Given as goal

abbrev pub invariant-loop-position : goal.invariant-loop-position
invariant-loop-position l = record {
  places : length l.sums ≡ 10;
  so_far : (k : ℕ) → k < l.position → get_or l.sums k (pos 0) ≡ get_or l.fn.lucks k (pos 0) +ℤ (get_or l.behind k (pos 0) -ℤ get_or l.before k (pos 0));
  others : (k : ℕ) → l.position ≤ k → get_or l.sums k (pos 0) ≡ get_or l.fn.lucks k (pos 0);
}
