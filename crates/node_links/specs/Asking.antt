-- Which Asks go to a peer.
use Rattle.std.specs.Prelude.{ℕ, ◌-◌, ◌/◌, ◌==◌, ◌&&◌, nat_le, nat_lt, max, Bool, false, if◌then◌else◌, List, length, drop, slice_index, Option, Some, None}
use Rattle.byteorder.specs.Endian.{big_number}
use Rattle.node_links.specs.declared.limits.TheConstants.{AGAIN, BLOCK}
use Rattle.node_links.specs.declared.asked.LastAsk.{LastAsk}

-- the slot that a frame asks of: its sixth byte tells that it is an Ask, and the slot stands behind
abbrev pub asked_slot : List ℕ → Option ℕ
asked_slot frame = if nat_le 10 (length frame) && slice_index frame 5 == 7 then Some (big_number 4 (drop 6 frame)) else None

-- this block was asked of less than so long ago
abbrev pub is_repeated : Option LastAsk → ℕ → ℕ → ℕ → Bool
is_repeated None block now pause = false
is_repeated (Some ask) block now pause = ask.block == block && nat_lt (now - ask.at) pause

-- an Ask of the block that was asked of last, before its answer can be here
abbrev pub is_again : Option LastAsk → Option ℕ → ℕ → ℕ → Bool
is_again last None now round_trip = false
is_again last (Some slot) now round_trip = is_repeated last (slot / BLOCK) now (max AGAIN round_trip)

-- the last Ask behind this frame
abbrev pub asked_after : Option LastAsk → Option ℕ → ℕ → ℕ → Option LastAsk
asked_after last None now round_trip = last
asked_after last (Some slot) now round_trip = if is_repeated last (slot / BLOCK) now (max AGAIN round_trip) then last else Some (record { block = slot / BLOCK; at = now })
