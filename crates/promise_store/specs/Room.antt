-- What is seen of a value that indexes a store.
use Rattle.std.specs.Prelude.{◌≡◌, ◌⊎◌, ℕ, ◌-◌, Option, Some, length}
use Rattle.std.specs.Vec.{vec_len, vec_capacity}
use Rattle.paxos_wire.specs.declared.ballot.Ballot.{Ballot}
use Rattle.paxos_wire.specs.Fits.{IsBallot, IsSlot}
use Rattle.protocol_model.specs.Ballots.{no_ballot}
use Rattle.promise_store.specs.declared.placed.Placed.{Placed}
use Rattle.promise_store.specs.declared.held.Held.{Held}
use Rattle.promise_store.specs.declared.records.Record.{Record}
use Rattle.promise_store.specs.declared.records.Record.TheVariants.{Promised, VotedOne, Opened, Voted}
use Rattle.promise_store.specs.Index.{found}

-- for how many entries more there is room
abbrev pub room : Held → ℕ
room held = vec_capacity held.entries - vec_len held.entries

abbrev pub promised_in : Held → Ballot
promised_in held = held.promised

-- where the entry of a slot stands
abbrev pub placed_in : Held → ℕ → Option Placed
placed_in held slot = found slot held.entries.items

-- what is promised is a ballot or none, and each entry's ballot and slot are within the ranges of frames
pub record AreWithinRanges (held : Held) : Type 0 where
  pub promise : (promised_in held ≡ no_ballot) ⊎ IsBallot (promised_in held)
  pub entries : (slot : ℕ) (placed : Placed) → placed_in held slot ≡ Some placed → IsBallot placed.ballot × IsSlot placed.slot

-- the one shows what the other does
pub record ShowSame (before after : Held) : Type 0 where
  pub promise : promised_in after ≡ promised_in before
  pub entries : (slot : ℕ) → placed_in after slot ≡ placed_in before slot

-- how many entries a record may take room for
abbrev pub room_for : Record → ℕ
room_for (Promised ballot) = 0
room_for (VotedOne ballot slot command) = 1
room_for Opened = 0
room_for (Voted ballot slot commands) = length commands
