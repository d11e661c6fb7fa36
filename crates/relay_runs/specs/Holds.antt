-- When a relay dials no node for a while, since nodes end its connections soon and say nothing of why.
use Rattle.std.specs.Prelude.{◌≡◌, ℕ, ◌+◌, ◌*◌, ◌-◌, ◌^◌, min, None}
use Rattle.relay_runs.specs.declared.holding.Holding.{Holding}
use Rattle.relay_runs.specs.declared.node_state.NodeState.{NodeState}

-- a hold of so many microseconds begins now: as long as the next one was to be. The one behind it is twice as long, up to a minute
pub record Holds (old new : Holding) (pause now : ℕ) : Type 0 where
  pub length : pause ≡ old.pause
  pub until : new.until ≡ min (now + pause) (2 ^ 64 - 1)
  pub next : new.pause ≡ min (2 * pause) 60_000_000

-- no hold begins, and neither the last one nor the next one gets longer
pub record HoldsOn (old new : Holding) : Type 0 where
  pub until : new.until ≡ old.until
  pub next : new.pause ≡ old.pause

-- a connection that the relay itself ended counts for nothing, and its node is dialled so many microseconds later
pub record IsLeft (state : NodeState) (pause now : ℕ) : Type 0 where
  pub short : state.was_short ≡ None
  pub dial_at : state.dial_at ≡ min (now + pause) (2 ^ 64 - 1)
