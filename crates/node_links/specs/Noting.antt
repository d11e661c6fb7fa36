-- Which faults of a peer are told again.
use Rattle.std.specs.Prelude.{ℕ, ◌-◌, nat_le, Bool, true, if◌then◌else◌, get_or, set, Option, Some, None}
use Rattle.peer_codes.specs.declared.fault.RecordFault.TheVariants.{BadLength, BadKind, BadHello}
use Rattle.node_links.specs.declared.limits.TheConstants.{REPEATED}
use Rattle.node_links.specs.declared.peer_fault.Mismatch.TheVariants.{Digest, Nodes, Number}
use Rattle.node_links.specs.declared.peer_fault.Whose.TheVariants.{Own, Other}
use Rattle.node_links.specs.declared.peer_fault.PeerFault.{PeerFault}
use Rattle.node_links.specs.declared.peer_fault.PeerFault.TheVariants as faults
use Rattle.node_links.specs.declared.notes.Notes.{Notes}

-- each fault has a place of its own
abbrev pub fault_place : PeerFault → ℕ
fault_place (faults.Record BadLength) = 0
fault_place (faults.Record BadKind) = 1
fault_place (faults.Record BadHello) = 2
fault_place (faults.OtherMatch (Digest heads)) = 3
fault_place (faults.OtherMatch (Nodes numbers)) = 4
fault_place (faults.OtherMatch (Number wrong)) = 5
fault_place faults.WrongProof = 6
fault_place faults.WrongTag = 7
fault_place faults.UnexpectedRecord = 8
fault_place (faults.StoreReplaced Own) = 9
fault_place (faults.StoreReplaced Other) = 10
fault_place faults.AlreadyHere = 11
fault_place (faults.StoreOlder Own) = 12
fault_place (faults.StoreOlder Other) = 13

-- one that wasn't told yet, or so long ago
abbrev pub is_told : Option ℕ → ℕ → Bool
is_told None now = true
is_told (Some at) now = nat_le REPEATED (now - at)

abbrev pub told_last : Notes → PeerFault → Option ℕ
told_last notes fault = get_or notes.told (fault_place fault) None

abbrev pub and_told : Notes → PeerFault → ℕ → Notes
and_told notes fault now = if is_told (told_last notes fault) now then record { told = set notes.told (fault_place fault) (Some now) } else notes
