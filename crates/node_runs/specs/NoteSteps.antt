-- What a step leaves of what waits.
use Rattle.std.specs.Prelude.{◌≡◌, ℕ}
use Rattle.node_runs.specs.NoteLimits.{waiting_at}
use Rattle.node_runs.specs.declared.note_limits.NoteLimits.{NoteLimits}

-- of a group this waits now, and of the others what waited before
pub record Waits (group count : ℕ) (old new : NoteLimits) : Type 0 where
  pub here : waiting_at new group ≡ count
  pub others : (other : ℕ) → (group ≡ other → ⊥) → waiting_at new other ≡ waiting_at old other
