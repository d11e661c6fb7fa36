-- The callers who were refused, for notes.
use Rattle.std.specs.Prelude.{◌≡◌, ℕ, ◌+◌, ◌-◌, ◌<◌, nat_le, min, Bool, true, if◌then◌else◌, get_or, set, Option, Some, None}
use Rattle.peer_codes.specs.declared.fault.RecordFault.TheVariants.{BadLength, BadKind, BadHello}
use Rattle.node_links.specs.declared.limits.TheConstants.{NOTED}
use Rattle.node_links.specs.declared.peer_fault.PeerFault.{PeerFault}
use Rattle.node_links.specs.declared.peer_fault.PeerFault.TheVariants as faults
use Rattle.node_links.specs.declared.refusals.Refused.{Refused}
use Rattle.node_links.specs.declared.refusals.Refusals.{Refusals}

-- they are counted as far as four bytes hold, and the last one's fault is told
abbrev pub and_refused : PeerFault → Option Refused → Refused
and_refused fault None = record { count = 1; fault = fault }
and_refused fault (Some refused) = record { count = min 4294967295 (refused.count + 1); fault = fault }

-- each number has a place of its own
abbrev pub number_of : PeerFault → ℕ
number_of (faults.Record BadLength) = 0
number_of (faults.Record BadKind) = 1
number_of (faults.Record BadHello) = 2
number_of (faults.OtherMatch what) = 3
number_of faults.WrongProof = 4
number_of faults.WrongTag = 5
number_of faults.UnexpectedRecord = 6
number_of (faults.StoreReplaced whose) = 7
number_of faults.AlreadyHere = 8
number_of (faults.StoreOlder whose) = 9

-- one more of the number of this fault
abbrev pub refused_by : PeerFault → Refusals → Refusals
refused_by fault old = record old { since = set old.since (number_of fault) (Some (and_refused fault (get_or old.since (number_of fault) None))) }

-- a note so long after the last one
abbrev pub is_noted : Option ℕ → ℕ → Bool
is_noted None now = true
is_noted (Some at) now = nat_le NOTED (now - at)

-- what is noted now of the number at a place
abbrev pub due_at : Refusals → ℕ → ℕ → Option Refused
due_at refusals number now = if is_noted (get_or refusals.noted number None) now then get_or refusals.since number None else None

-- behind it nobody of that number was refused
abbrev pub behind_note : ℕ → ℕ → Refusals → Refusals
behind_note number now old = record old { since = set old.since number None; noted = set old.noted number (Some now) }

-- what is due of one number is noted, and nothing only where of none anything is due
abbrev pub Notes : Refusals → ℕ → Option Refused → Refusals → Type 0
Notes old now None new = (new ≡ old) × ((number : ℕ) → number < 10 → due_at old number now ≡ None)
Notes old now (Some refused) new = (number : ℕ) × (due_at old number now ≡ Some refused) × (new ≡ behind_note number now old)
