-- What the notes tell of what a turn of a node's process had to tell.
use Rattle.std.specs.Prelude.{◌≡◌, ℕ, ◌+◌, ◌==◌, ◌&&◌, nat_lt, Bool, true, false, cond, if◌then◌else◌, codes, List, [], ◌∷◌, ◌++◌, Option, Some, None, slice_get}
use Rattle.node_service.specs.declared.server_notice.ServerNotice.{ServerNotice}
use Rattle.node_service.specs.declared.server_notice.ServerNotice.TheVariants as told
use Rattle.seat_session.specs.declared.session_fault.SessionFault.{SessionFault}
use Rattle.seat_session.specs.declared.session_fault.SessionFault.TheVariants.{NotYourTurn, Illegal}
use Rattle.node_service.specs.declared.server_notice.Setting.{Setting}
use Rattle.node_service.specs.declared.server_notice.Setting.TheVariants.{Patience, Start, Away, Tokens}
use Rattle.operator_notes.specs.Notes.{AreNoted, seat_text, about_text, faulty_text, faulty_in_text, waiting_text, times_text}
use Rattle.operator_notes.specs.Notes as served
use Rattle.operator_notes.specs.declared.note.About.TheVariants as about
use Rattle.operator_notes.specs.NodeNotes.{note_text, note_line, peer_text, difference_text, time_text, away_text}
use Rattle.node_runs.specs.NoteGroups.{weight_of, others, no_place}
use Rattle.operator_notes.specs.declared.node_note.NodeNote.TheVariants as note
use Rattle.node_runs.specs.declared.note_limits.Count.{Count}
use Rattle.node_runs.specs.declared.server_notes.Noted.{Noted}
use Rattle.node_runs.specs.declared.server_notes.Noted.TheVariants.{OfNode, OfSeat}

-- what is told of a seat, if there is one of this number
abbrev pub seat_said : List (List ℕ) → ℕ → List ℕ → Option (List ℕ)
seat_said names seat text = elim (slice_get names seat) [ Some name ↦ Some (seat_text seat name ++ text) | None ↦ None ]

-- that all wait for a seat, and where it is awaited, if there is one of this number
abbrev pub awaited_text : List (List ℕ) → ℕ → ℕ → ℕ → Option (List ℕ)
awaited_text names node port seat = elim (slice_get names seat) [ Some name ↦ Some (waiting_text seat name node port None) | None ↦ None ]

-- in what the match file of a peer differs
abbrev pub setting_text : ℕ → Setting → ℕ → ℕ → List ℕ
setting_text peer Patience there here = peer_text peer (difference_text (codes "patience") (time_text there) (time_text here))
setting_text peer Start there here = peer_text peer (difference_text (codes "start") (time_text there) (time_text here))
setting_text peer Away there here = peer_text peer (difference_text (codes "away") (away_text (nat_lt 0 there)) (away_text (nat_lt 0 here)))
setting_text peer Tokens there here = peer_text peer (codes "tokens differ")

-- a fault of an answer to the seat's newest line
abbrev pub is_of_newest : SessionFault → Bool
is_of_newest NotYourTurn = true
is_of_newest (Illegal why) = true
is_of_newest other = false

-- a fault in what a seat sent, and of an answer to the newest line in which hand
abbrev pub fault_said : ℕ → SessionFault → Option ℕ → List ℕ
fault_said node fault None = faulty_text node fault
fault_said node fault (Some hand) = if is_of_newest fault then faulty_in_text node hand fault else faulty_text node fault

-- what is told of one thing, at a node that awaits seat 0 at this port, by the seats' names; nothing of a seat that there isn't
abbrev pub notice_text : List (List ℕ) → ℕ → ℕ → ServerNotice → Option (List ℕ)
notice_text names node first (told.Joined peer life) = Some (note_text (note.Joined peer))
notice_text names node first (told.Gone peer) = Some (note_text (note.Gone peer))
notice_text names node first (told.Refused peer fault source) = Some (note_text (note.Refused peer fault source))
notice_text names node first (told.Callers peer count fault) = Some (note_text (note.Caller peer fault))
notice_text names node first (told.Setting peer what there here) = Some (setting_text peer what there here)
notice_text names node first (told.Unreached peer refuses) = Some (note_text (note.Unreached peer refuses))
notice_text names node first (told.Seated seat) = seat_said names seat (about_text (about.Seated node))
notice_text names node first (told.Left seat) = seat_said names seat (about_text (about.Gone node))
notice_text names node first (told.Faulty seat fault hand) = seat_said names seat (fault_said node fault hand)
notice_text names node first (told.WrongToken seat count source) = seat_said names seat (about_text (about.WrongToken node source))
notice_text names node first (told.TurnedAway seat count) = seat_said names seat (about_text (about.NoPlace node))
notice_text names node first (told.OtherLine seat) = seat_said names seat (about_text (about.OtherLine node))
notice_text names node first (told.Ordered seat) = seat_said names seat (about_text (about.Ordered node))
notice_text names node first (told.Missing seat) = seat_said names seat (about_text about.Missing)
notice_text names node first (told.Waits seat) = awaited_text names node (first + seat) seat
notice_text names node first (told.Behind peer behind slowest) = Some (note_text (note.Behind peer behind slowest))
notice_text names node first told.Quorum = Some (note_text note.Quorum)
notice_text names node first told.QuorumLost = Some (note_text note.QuorumLost)
notice_text names node first (told.Campaigns ballot) = Some (note_text (note.Campaigns ballot))

-- a text as a line, with how many times it was
abbrev pub times_lines : Option (List ℕ) → ℕ → List (List ℕ)
times_lines (Some text) count = (text ++ (times_text count ++ 10 ∷ [])) ∷ []
times_lines None count = []

-- what is told of so many things of one kind, of which this is the newest
abbrev pub counted_lines : List (List ℕ) → ℕ → ℕ → ServerNotice → ℕ → List (List ℕ)
counted_lines names node first thing count = times_lines (notice_text names node first thing) count

-- what is told of one thing
abbrev pub notice_lines : List (List ℕ) → ℕ → ℕ → ServerNotice → List (List ℕ)
notice_lines names node first thing = counted_lines names node first thing (weight_of thing)

-- what is told of so many of a group, of which this is the newest: several that have no group of their own are only counted
abbrev pub group_lines : List (List ℕ) → ℕ → ℕ → Option ServerNotice → ℕ → ℕ → List (List ℕ)
group_lines names node first (Some thing) group count =
    cond (group == others && nat_lt 1 count) (note_line (note.LeftOut count) ∷ []) (counted_lines names node first thing count)
group_lines names node first None group count =
    cond (group == no_place) (times_lines (Some (note_text note.NoPlace)) count) (note_line (note.LeftOut count) ∷ [])

-- what a note says
abbrev pub noted_text : Noted → List ℕ
noted_text (OfNode told) = note_text told
noted_text (OfSeat told) = served.note_text told

-- lines of what waited were told at this time, one after another, each by its group and how many they were
pub data Later (texts : ℕ → ℕ → List (List ℕ)) (time : ℕ) (start : Option (List ℕ)) : List Count → Option (List ℕ) → Type 0 where
  none : Later texts time start [] start
  more : (lines : List Count) (one : Count) (held held_after : Option (List ℕ)) → Later texts time start lines held → one.time ≡ time → AreNoted (texts one.group one.count) held held_after → Later texts time start (lines ++ one ∷ []) held_after
