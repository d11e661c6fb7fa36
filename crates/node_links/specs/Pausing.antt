-- How long a peer isn't dialled that refuses this node, or is refused.
use Rattle.std.specs.Prelude.{ℕ, ◌*◌, nat_lt, nat_le, min, Bool, true, false, if◌then◌else◌}
use Rattle.node_links.specs.declared.limits.TheConstants.{CLOSED, MOST_CLOSED, REFUSED, LONGEST}
use Rattle.node_links.specs.declared.peer_fault.PeerFault.{PeerFault}
use Rattle.node_links.specs.declared.peer_fault.PeerFault.TheVariants as faults

-- it stays so until somebody changes a file or a process ends
abbrev pub is_standing : PeerFault → Bool
is_standing (faults.Record fault) = false
is_standing (faults.OtherMatch what) = true
is_standing faults.WrongProof = true
is_standing faults.WrongTag = false
is_standing faults.UnexpectedRecord = false
is_standing (faults.StoreReplaced whose) = true
is_standing faults.AlreadyHere = true
is_standing (faults.StoreOlder whose) = true

-- twice as long as the last one, from REFUSED to LONGEST; 0 stands for none
abbrev pub longer : ℕ → ℕ
longer last = if nat_lt last REFUSED then REFUSED else (if nat_le LONGEST (last * 2) then LONGEST else last * 2)

abbrev pub pause_after : PeerFault → ℕ → ℕ
pause_after fault last = if is_standing fault then longer last else REFUSED

-- so many times as long as the first, up to ten times
abbrev pub closed_pause : ℕ → ℕ
closed_pause closed = CLOSED * min closed MOST_CLOSED
