-- The ballot that a node is known to have promised.
use Rattle.std.specs.Prelude.{◌≡◌, ℕ, ◌<◌, ◌+◌, ◌^◌, ◌==◌, ◌&&◌, ◌||◌, nat_le, Bool, true, false, if◌then◌else◌, List, [], ◌∷◌, ◌++◌, length, drop, slice_index, Option, Some, None, Result, Ok, Err}
use Rattle.byteorder.specs.Endian.{big_bytes, big_number}
use Rattle.paxos_wire.specs.declared.ballot.Ballot.{Ballot}
use Rattle.paxos_wire.specs.Order.{is_below}
use Rattle.peer_codes.specs.declared.fault.RecordFault.{RecordFault}
use Rattle.peer_codes.specs.declared.fault.RecordFault.TheVariants.{BadLength}
use Rattle.peer_codes.specs.declared.more.More.{More}
use Rattle.node_links.specs.declared.limits.TheConstants.{PROMISED, PROMISED_BYTES}
use Rattle.node_links.specs.Owing.{has_kind}

-- from this place on a round and a node
abbrev pub ballot_at : List ℕ → ℕ → Ballot
ballot_at bytes at = record { round = big_number 4 (drop at bytes); node = slice_index bytes (at + 4) }

-- a Promise and an Accepted show their ballot, and a Refuse the one that it names behind its slot
abbrev pub promise_in : List ℕ → Option Ballot
promise_in frame =
    if has_kind frame 2 || has_kind frame 5 then Some (ballot_at frame 6)
    else if has_kind frame 3 && nat_le 20 (length frame) then Some (ballot_at frame 15)
    else None

-- this is below what is known to be promised; no ballot is below any
abbrev pub promises_less : Option Ballot → Option Ballot → Bool
promises_less promised None = false
promises_less None (Some known) = true
promises_less (Some promised) (Some known) = is_below promised known

-- the greater of both
abbrev pub higher : Option Ballot → Option Ballot → Option Ballot
higher one other = if promises_less one other then other else one

-- ---- the record that tells it

abbrev pub promised_of : List ℕ → Result Ballot RecordFault
promised_of bytes = if length bytes == PROMISED_BYTES then Ok (ballot_at bytes 0) else Err BadLength

abbrev pub promised_text : Ballot → List ℕ
promised_text ballot = big_bytes 4 ballot.round ++ ballot.node ∷ []

abbrev pub promised_more : Ballot → More
promised_more ballot = record { kind = PROMISED; bytes = record { items = promised_text ballot } }

-- what is told reads back
abbrev pub PromisedReadsBack : Type 0
PromisedReadsBack = (ballot : Ballot) → ballot.round < 2 ^ 32 → promised_of (promised_text ballot) ≡ Ok ballot
