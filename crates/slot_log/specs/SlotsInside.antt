-- What the fields of a log of slots keep, and the log that they hold.
use Rattle.std.specs.Prelude.{ℕ, ◌+◌, ◌-◌, ◌≤◌, ◌==◌, if◌then◌else◌, List, [], ◌∷◌, min, reverse, vec_len, vec_capacity}
use Rattle.slot_log.specs.Slots.{Log, Slots, IsLog}
use Rattle.slot_log.specs.declared.known.Known.{Known}
use Rattle.slot_log.specs.declared.slots.SlotLog.TheInside.{Inside}

-- how far the front goes on, from one on, over these
abbrev pub run_of : ℕ → List Known → ℕ
run_of from [] = 0
run_of from (known ∷ others) = if known.slot == from then 1 + run_of (from + 1) others else 0

abbrev pub log_of : Inside → Log
log_of s = record { below = reverse s.below.items; beyond = s.beyond.items }

-- a further command takes a place beyond the front, or one below it and those of all that are known beyond
abbrev pub slots_of : Inside → Slots
slots_of s = record {
  log = log_of s;
  room = min (vec_capacity s.below - (vec_len s.below + vec_len s.beyond)) (vec_capacity s.beyond - vec_len s.beyond);
}

-- below the front there is room for all that lies beyond it
pub record IsKept (s : Inside) : Type 0 where
  pub log : IsLog (log_of s)
  pub room : vec_len s.below + vec_len s.beyond ≤ vec_capacity s.below
