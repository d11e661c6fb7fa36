-- Which Prepares and Accepts of peers count: of each peer the newest that was read.
use Rattle.std.specs.Prelude.{◌≡◌, ◌≤◌, ℕ, ◌==◌, ◌||◌, ◌&&◌, nat_lt, nat_le, Bool, true, false, if◌then◌else◌, List, length, slice_index, set, get_or, Option, Some, None}
use Rattle.paxos_wire.specs.Order.{is_below, is_same_ballot}
use Rattle.peer_codes.specs.declared.beat.Beat.{Beat}
use Rattle.peer_codes.specs.declared.frame.Frame.{Frame}
use Rattle.node_links.specs.declared.owed.Question.{Question}
use Rattle.node_links.specs.declared.owed.Request.TheVariants.{Prepare, Accept}
use Rattle.node_links.specs.declared.owed.Request.{Request}
use Rattle.node_links.specs.declared.owed.Subject.{Subject}
use Rattle.node_links.specs.Owing.{question_in}
use Rattle.node_peers.specs.declared.link.Link.{Link}

-- a Refuse, an Accepted, a Chosen and an Ask have a node store nothing
abbrev pub is_free : ℕ → Bool
is_free kind = kind == 3 || (kind == 5 || (kind == 6 || kind == 7))

-- the sixth byte of a frame tells what it is
abbrev pub costs_no_sync : List ℕ → Bool
costs_no_sync frame = nat_lt 5 (length frame) && is_free (slice_index frame 5)

-- by ballot, and then by slot
abbrev pub is_older : Subject → Subject → Bool
is_older one other = is_below one.ballot other.ballot || (is_same_ballot one.ballot other.ballot && nat_lt one.slot other.slot)

-- the newer of both
abbrev pub newer_of : Option Subject → Subject → Subject
newer_of None one = one
newer_of (Some other) one = if is_older one other then other else one

-- the newest of each peer, once this was read of one of them
abbrev pub marked : ℕ → Option Question → List (Option Subject) → List (Option Subject)
marked from None newest = newest
marked from (Some question) newest = set newest from (Some (newer_of (get_or newest from None) question.subject))

-- a newer one was read
abbrev pub is_outdated : Option Subject → Question → Bool
is_outdated None question = false
is_outdated (Some newest) question = is_older question.subject newest

-- a peer with this front knows as chosen all for which this asks
abbrev pub is_known_by : Request → ℕ → Bool
is_known_by Prepare front = false
is_known_by (Accept behind) front = nat_le behind front

abbrev pub is_needless : Option Beat → Question → Bool
is_needless None question = false
is_needless (Some beat) question = is_known_by question.request beat.front

-- what the frame asks that is set aside of a peer
abbrev pub asked_in : Option Frame → Option Question
asked_in None = None
asked_in (Some frame) = question_in frame.bytes.items

abbrev pub question_at : List (Option Frame) → ℕ → Option Question
question_at frames number = asked_in (get_or frames number None)

-- an Accept isn't for a slot above this front
abbrev pub IsDueBy : Request → ℕ → ℕ → Type 0
IsDueBy Prepare slot front = Unit {0}
IsDueBy (Accept behind) slot front = slot ≤ front

abbrev pub IsDue : ℕ → Question → Type 0
IsDue front question = IsDueBy question.request question.subject.slot front

-- more may have come over a connection than was read
abbrev pub unread_in : Option Link → Bool
unread_in None = false
unread_in (Some link) = link.has_more
