-- What a peer owes an answer to.
use Rattle.std.specs.Prelude.{ℕ, ◌==◌, ◌&&◌, ◌||◌, nat_le, nat_lt, ◌+◌, Bool, true, false, if◌then◌else◌, List, length, drop, slice_index, Option, Some, None}
use Rattle.std.specs.List.{list_any}
use Rattle.byteorder.specs.Endian.{big_number}
use Rattle.peer_codes.specs.declared.frame.Frame.{Frame}
use Rattle.paxos_wire.specs.declared.ballot.Ballot.{Ballot}
use Rattle.paxos_wire.specs.Order.{is_same_ballot}
use Rattle.node_links.specs.declared.owed.Request.TheVariants.{Prepare, Accept}
use Rattle.node_links.specs.declared.owed.Request.{Request}
use Rattle.node_links.specs.declared.owed.Subject.{Subject}
use Rattle.node_links.specs.declared.owed.Question.{Question}
use Rattle.node_links.specs.declared.owed.Owed.{Owed}

-- its sixth byte tells what a frame is
abbrev pub has_kind : List ℕ → ℕ → Bool
has_kind frame kind = nat_le 15 (length frame) && slice_index frame 5 == kind

-- and then stand a ballot and a slot
abbrev pub subject_in : List ℕ → Subject
subject_in frame = record { ballot = record { round = big_number 4 (drop 6 frame); node = slice_index frame 10 }; slot = big_number 4 (drop 11 frame) }

-- an Accept has the count of its slots behind the first
abbrev pub count_in : List ℕ → ℕ
count_in frame = if nat_lt 15 (length frame) then slice_index frame 15 else 1

-- a Prepare and an Accept ask
abbrev pub question_in : List ℕ → Option Question
question_in frame =
    if has_kind frame 1 then Some (record { request = Prepare; subject = subject_in frame })
    else if has_kind frame 4 then Some (record { request = Accept (big_number 4 (drop 11 frame) + count_in frame); subject = subject_in frame })
    else None

-- a Promise, a Refuse and an Accepted answer
abbrev pub answered_in : List ℕ → Option Subject
answered_in frame = if has_kind frame 2 || has_kind frame 3 || has_kind frame 5 then Some (subject_in frame) else None

-- what is answered is of the same ballot and slot
abbrev pub is_answer : Option Question → Subject → Bool
is_answer None answered = false
is_answer (Some asked) answered = is_same_ballot asked.subject.ballot answered.ballot && asked.subject.slot == answered.slot

-- who asks for votes needs no promise any more
abbrev pub stays_owed : Request → Request → Bool
stays_owed Prepare Prepare = true
stays_owed Prepare (Accept behind) = false
stays_owed (Accept behind) request = true

abbrev pub still_owed : Option Question → Request → Option Question
still_owed None request = None
still_owed (Some question) request = if stays_owed question.request request then Some question else None

-- both ask for promises, or both for votes
abbrev pub is_same_kind : Request → Request → Bool
is_same_kind Prepare Prepare = true
is_same_kind Prepare (Accept behind) = false
is_same_kind (Accept behind) Prepare = false
is_same_kind (Accept behind) (Accept other) = true

-- what is asked is of the same kind, ballot and slot
abbrev pub is_asked : Option Question → Question → Bool
is_asked None question = false
is_asked (Some asked) question = is_same_kind asked.request question.request && is_answer (Some asked) question.subject

-- a frame asks this
abbrev pub is_asked_by : List ℕ → Question → Bool
is_asked_by frame question = is_asked (question_in frame) question

-- one of the frames that wait does
abbrev pub waits_in : List Frame → Question → Bool
waits_in frames question = list_any (λ (frame : Frame). is_asked_by frame.bytes.items question) frames

-- what was asked last is lost once a connection opens over which it doesn't go
abbrev pub lost_of : List Frame → Option Question → Option Question
lost_of frames None = None
lost_of frames (Some question) = if waits_in frames question then None else Some question

-- what is asked last is owed
abbrev pub asked_by : Option Question → Owed → Owed
asked_by None owed = owed
asked_by (Some question) owed = record { last = Some question; unanswered = still_owed owed.unanswered question.request }

-- its answer ends all of it
abbrev pub heard_by : Option Subject → Owed → Owed
heard_by None owed = owed
heard_by (Some answered) owed = if is_answer owed.last answered then record { last = None; unanswered = None } else owed

-- a promise is of use whatever was chosen since, votes only where the front is before the last of their slots or at it
abbrev pub is_of_use : Request → ℕ → Bool
is_of_use Prepare front = true
is_of_use (Accept behind) front = nat_lt front behind

abbrev pub is_open : Question → ℕ → Bool
is_open question front = is_of_use question.request front

-- its answer serves a node that campaigns in this ballot and has this front
abbrev pub serves : Question → Option Ballot → ℕ → Bool
serves question None front = false
serves question (Some ballot) front = is_same_ballot ballot question.subject.ballot && is_open question front
