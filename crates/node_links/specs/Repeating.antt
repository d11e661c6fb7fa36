-- The last Accepted that went to a peer, and when it goes again.
use Rattle.std.specs.Prelude.{ℕ, ◌-◌, ◌%◌, ◌==◌, ◌&&◌, nat_le, max, Bool, if◌then◌else◌, List, length, drop, slice_index, Option, Some, None, is_some}
use Rattle.byteorder.specs.Endian.{big_number}
use Rattle.peer_codes.specs.declared.frame.Frame.{Frame}
use Rattle.node_links.specs.declared.limits.TheConstants.{BLOCK, REPEAT}
use Rattle.node_links.specs.declared.accepted.LastAccepted.{LastAccepted}
use Rattle.node_links.specs.declared.accepted.Accepted.{Accepted}

-- the slot of an Accepted: its sixth byte tells that it is one, and a ballot and the slot stand behind
abbrev pub accepted_slot : List ℕ → Option ℕ
accepted_slot frame = if nat_le 15 (length frame) && slice_index frame 5 == 5 then Some (big_number 4 (drop 11 frame)) else None

-- a Chosen of the last slot of a block: its sixth byte tells that it is one, and the slot stands behind
abbrev pub ends_block : List ℕ → Bool
ends_block frame = nat_le 10 (length frame) && (slice_index frame 5 == 6 && big_number 4 (drop 6 frame) % BLOCK == BLOCK - 1)

-- a frame that goes is kept if it is an Accepted
abbrev pub kept_after : Option ℕ → Frame → ℕ → Accepted → Accepted
kept_after None frame now old = old
kept_after (Some slot) frame now old = record { last = Some (record { frame = frame; slot = slot }); sent = now }

abbrev pub slot_of : Option LastAccepted → Option ℕ
slot_of None = None
slot_of (Some last) = Some last.slot

abbrev pub slot_in : Accepted → Option ℕ
slot_in a = slot_of a.last

-- it goes again each time that so long has passed, and the way there and back
abbrev pub is_due : Accepted → ℕ → ℕ → Bool
is_due a now round_trip = is_some a.last && nat_le (max REPEAT round_trip) (now - a.sent)

-- the same frame, if there is one
abbrev pub copy_of : Option LastAccepted → Option Frame
copy_of None = None
copy_of (Some last) = Some last.frame
