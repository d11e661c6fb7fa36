-- The last act that went on to a peer, and when it goes again.
use Rattle.std.specs.Prelude.{ℕ, ◌-◌, ◌==◌, ◌&&◌, nat_le, max, Bool, true, false, List, length, slice_index, Option, Some, None}
use Rattle.peer_codes.specs.declared.frame.Frame.{Frame}
use Rattle.node_links.specs.declared.limits.TheConstants.{FORWARD_AGAIN, LOOK}
use Rattle.node_links.specs.declared.forwarded.Forwarded.{Forwarded}

-- a Forward: its sixth byte tells that it is one
abbrev pub is_forward : List ℕ → Bool
is_forward frame = nat_le 6 (length frame) && slice_index frame 5 == 8

-- a frame that goes is kept if it is a Forward
abbrev pub forwarded_after : Bool → Frame → ℕ → Forwarded → Forwarded
forwarded_after true frame now old = record { last = Some frame; sent = now }
forwarded_after false frame now old = old

abbrev pub left_of : Option Frame → ℕ → ℕ
left_of None left = LOOK
left_of (Some frame) left = left

-- it goes again each time that so long has passed, and the way there and back
abbrev pub again_in : Forwarded → ℕ → ℕ → ℕ
again_in f now round_trip = left_of f.last (max FORWARD_AGAIN round_trip - (now - f.sent))
