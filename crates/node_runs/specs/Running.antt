-- What a node's process does with its server, turn after turn, and what it tells.
use Rattle.std.specs.Prelude.{◌≡◌, ◌⊎◌, ℕ, ◌+◌, ◌-◌, ◌^◌, Bool, true, false, cond, List, [], ◌∷◌, ◌++◌, Option, Some, None, Result, Ok, Err, length}
use Rattle.promise_store.specs.declared.disk.Disk.{Ghosts}
use Rattle.node_wires.specs.declared.wire.Wire.{Ghosts as OfWire}
use Rattle.peer_codes.specs.declared.hello.Life.{Life}
use Rattle.dealer_node.specs.Nodes.{Node}
use Rattle.dealer_node.specs.Seeing.{front_in, runs}
use Rattle.dealer_node.specs.declared.fault.NodeFault.{NodeFault}
use Rattle.dealer_node.specs.declared.fault.NodeFault.TheVariants.{Spent}
use Rattle.stations.specs.Stations.{Look}
use Rattle.operator_notes.specs.Notes.{IsNoted, AreNoted}
use Rattle.node_links.specs.declared.own.Own.{Own}
use Rattle.node_wires.specs.Passages.{Passage}
use Rattle.node_service.specs.Company.{IsShown, AreShown}
use Rattle.node_service.specs.Going.{GoesOn as WentOn, GoesOnWith, GoesOnToLife, Does}
use Rattle.node_service.specs.Turns.{IsTurnOf}
use Rattle.node_service.specs.Bots.{AreServed}
use Rattle.node_service.specs.Served.{Served}
use Rattle.node_service.specs.Ending.{is_well, IsFault, IsOverAt}
use Rattle.node_service.specs.Meaning.{IsMeant, IsKnownEverywhere}
use Rattle.node_service.specs.Serving.{served_of, told_in, outcome_in, ending_in}
use Rattle.node_service.specs.declared.outcome.Outcome.{Outcome}
use Rattle.node_service.specs.declared.outcome.Outcome.TheVariants as leaves
use Rattle.node_service.specs.declared.server.NodeServer.{NodeServer}
use Rattle.node_service.specs.declared.server_notice.ServerNotice.{ServerNotice}
use Rattle.node_service.specs.declared.server_notice.ServerNotice.TheVariants as tells
use Rattle.operator_notes.specs.NodeNotes.{note_line}
use Rattle.node_runs.specs.NoteGroups.{group_of, no_place}
use Rattle.node_runs.specs.NoteLimits.{IsAtOnce, IsNoneDue, IsWhole, counted_at, latest}
use Rattle.node_runs.specs.ServerNotes.{notice_lines, group_lines, Later}
use Rattle.node_runs.specs.WaitingNotes.{Holds, newest_of, notice_at, with_line}
use Rattle.node_runs.specs.declared.note_limits.Count.{Count}
use Rattle.node_runs.specs.declared.waiting_notes.WaitingNotes.{WaitingNotes}
use Rattle.node_runs.specs.declared.node_end.NodeEnd.{NodeEnd}
use Rattle.node_runs.specs.declared.node_end.NodeEnd.TheVariants as end
use Rattle.operator_notes.specs.declared.node_note.NodeNote.TheVariants as note

-- a fault of the node as an end of its process
abbrev pub by_fault : NodeFault → NodeEnd
by_fault fault = end.Node fault

-- ---- what is told

-- which node of which match begins
abbrev pub begin_line : {D : Type 0} → Look (Node D) → List ℕ
begin_line look = note_line (note.Begins look.config.setting.title.name look.number (front_in look.node))

-- a life that was first seen is kept, and else nothing is done
abbrev pub KeepsLife : {K : Type 0} → (K → ℕ → Life → K → Type 0) → ServerNotice → K → K → Type 0
KeepsLife kept (tells.Joined peer (Some life)) old new = kept old peer life new
KeepsLife kept other old new = new ≡ old

-- there is a life in it that was first seen
abbrev pub HasLife : ServerNotice → Type 0
HasLife thing = (peer : ℕ) × ((life : Life) × (thing ≡ tells.Joined peer (Some life)))

-- one thing came, at this node, which awaits seat 0 at this port: the life in it was kept, if one is in it, and then it was told, or waits to be counted
pub record TellsOne {K N : Type 0} (kept : K → ℕ → Life → K → Type 0) (look : Look N) (port : ℕ) (thing : ServerNotice) (is_told : Bool) (held held_after : Option (List ℕ)) (lives lives_after : K) : Type 0 where
  pub keeps : KeepsLife kept thing lives lives_after
  pub noted : AreNoted (cond is_told (notice_lines look.config.setting.names look.number port thing) []) held held_after

-- the lines of so many of a group, where these came
abbrev pub later_lines : {N : Type 0} → Look N → ℕ → List ServerNotice → ℕ → ℕ → List (List ℕ)
later_lines look port things group count = group_lines look.config.setting.names look.number port (newest_of group things) group count

-- so many things came, one after another, while turns were left at these moments, and these lines were told of them, since notes and keeper were these at this moment
pub data Tells {K N : Type 0} (kept : K → ℕ → Life → K → Type 0) (look : Look N) (port : ℕ) (start : Option (List ℕ)) (first : K) (began : ℕ)
    : List ServerNotice → (moments : List ℕ) → (came lines : List Count) → Option (List ℕ) → K → Type 0 where
  none : Tells kept look port start first began [] [] [] [] start first
  -- one more came, which is told at once where there is room
  one : (before : List ServerNotice) (thing : ServerNotice) (moments : List ℕ) (came lines : List Count) (is_told : Bool) (held held_after : Option (List ℕ)) (lives lives_after : K)
      → Tells kept look port start first began before moments came lines held lives → TellsOne kept look port thing is_told held held_after lives lives_after
      → IsAtOnce came lines (latest began moments) (group_of thing) is_told
      → Tells kept look port start first began (before ++ thing ∷ []) moments (came ++ notice_at (latest began moments) thing ∷ []) (with_line lines is_told (notice_at (latest began moments) thing)) held_after lives_after
  -- callers came for whom there was no place
  turned_away : (before : List ServerNotice) (moments : List ℕ) (came lines : List Count) (count : ℕ) (is_told : Bool) (held held_after : Option (List ℕ)) (lives : K)
      → Tells kept look port start first began before moments came lines held lives → AreNoted (cond is_told (later_lines look port before no_place count) []) held held_after
      → IsAtOnce came lines (latest began moments) no_place is_told
      → Tells kept look port start first began before moments (came ++ counted_at (latest began moments) no_place count ∷ []) (with_line lines is_told (counted_at (latest began moments) no_place count)) held_after lives
  -- a turn was left at this moment, and lines count what waited, until there is room for none
  later : (before : List ServerNotice) (moments : List ℕ) (moment : ℕ) (came lines more : List Count) (held held_after : Option (List ℕ)) (lives : K)
      → Tells kept look port start first began before moments came lines held lives → Later (later_lines look port before) (latest began (moments ++ moment ∷ [])) held more held_after
      → IsNoneDue came (lines ++ more) (latest began (moments ++ moment ∷ []))
      → Tells kept look port start first began before (moments ++ moment ∷ []) came (lines ++ more) held_after lives

-- ---- how it ends

-- by what the last turn left to do; none where a further turn comes
abbrev pub end_of : Outcome → Option (Result (Unit {0}) NodeEnd)
end_of leaves.GoesOn = None
end_of leaves.Over = Some (Ok tt)
end_of leaves.StoreReplaced = Some (Err end.StoreReplaced)
end_of leaves.StoreOlder = Some (Err end.StoreOlder)
end_of (leaves.Failed fault) = Some (Err (by_fault fault))
end_of leaves.LogFailed = Some (Err end.LogFailed)

-- of all that turns had to tell this was taken when it ended so, after so many turns the last of which left this to do
pub data EndsBy (outcome : Outcome) (count : ℕ) : (waiting told : List ServerNotice) → Result (Unit {0}) NodeEnd → Type 0 where
  -- all of it
  by_turn : (told : List ServerNotice) (answer : Result (Unit {0}) NodeEnd) → end_of outcome ≡ Some answer → EndsBy outcome count told told answer
  -- all before a life that couldn't be kept
  unkept : (told more : List ServerNotice) (peer : ℕ) (life : Life) (fault : NodeFault) → EndsBy outcome count (told ++ tells.Joined peer (Some life) ∷ more) told (Err (by_fault fault))
  -- as much as there were steps left
  by_count : (told more : List ServerNotice) → count + length told ≡ 2 ^ 64 - 1 → EndsBy outcome count (told ++ more) told (Err (by_fault Spent))

-- a life stands behind what was told, which its node showed
abbrev pub StopsAtLife : Own → List Passage → (waiting told : List ServerNotice) → Type 0
StopsAtLife own lines waiting told =
    (peer : ℕ) × ((life : Life) × ((more : List ServerNotice) × ((waiting ≡ told ++ tells.Joined peer (Some life) ∷ more) × IsShown own lines (tells.Joined peer (Some life)))))

-- ---- turns

module _ {D : Type 0} (disk : Ghosts D) where
  -- it left this to do: where that is no fault its node runs, and all text of its log was written
  pub record IsLeft (next : Served (Node D)) (outcome : Outcome) : Type 0 where
    pub log : is_well outcome ≡ true → next.log_failed ≡ false
    pub up : is_well outcome ≡ true → runs next.look.node ≡ true

  -- what the start comes to: nothing comes in it
  pub record IsStart (before next : Served (Node D)) (outcome : Outcome) : Type 0 where
    pub goes : Does disk [] before next
    pub left : IsLeft next outcome

  -- what one turn comes to: it takes what one may take, and nothing of peers behind a life that is to be kept; where it says that the match is over it is; and where a further one comes each bot was told all lines that it may be told
  pub record IsOneTurn (before next : Served (Node D)) (outcome : Outcome) : Type 0 where
    pub goes : WentOn disk [] before next
    pub lives : GoesOnToLife disk before next
    pub takes : GoesOnWith disk (IsTurnOf before.bots) before next
    pub left : IsLeft next outcome
    pub over : outcome ≡ leaves.Over → IsOverAt next.look.node
    pub served : outcome ≡ leaves.GoesOn → AreServed next.look next.bots

  -- what goes on up to the one goes on up to the other
  abbrev pub GoesOnTo : Served (Node D) → Served (Node D) → Type 0
  GoesOnTo here there = (before : Served (Node D)) → WentOn disk [] before here → WentOn disk [] before there

module _ {D W : Type 0} {disk : Ghosts D} {wire : OfWire W} where
  -- what a turn left to do is that for its reason: the match is over and known everywhere, or a fault is meant
  pub record HasReason (next : NodeServer D W disk wire) (outcome : Outcome) : Type 0 where
    pub known : outcome ≡ leaves.Over → IsKnownEverywhere next next.left
    pub fault : IsFault outcome → IsMeant next outcome
    -- it is over only where nothing else ends the process, and a further one comes only where nothing does
    pub behind : outcome ≡ leaves.Over → ending_in next ≡ leaves.GoesOn
    pub further : outcome ≡ leaves.GoesOn → outcome_in next ≡ leaves.GoesOn

  -- and what a start left to do: by it no match is over
  pub record HasFirstReason (started : NodeServer D W disk wire) (first : Outcome) : Type 0 where
    pub known : first ≡ leaves.Over → ⊥
    pub fault : IsFault first → IsMeant started first
    pub further : first ≡ leaves.GoesOn → outcome_in started ≡ leaves.GoesOn

  -- so many turns after one another since the node was started, which left this to do: when each was left, all that start and turns had to tell, and what the last turn left to do
  pub data Turns (started : NodeServer D W disk wire) (first : Outcome) : ℕ → (moments : List ℕ) → List ServerNotice → Outcome → NodeServer D W disk wire → Type 0 where
    none : Turns started first 0 [] (told_in started) first started
    one : (count : ℕ) (moments : List ℕ) (waiting : List ServerNotice) (before next : NodeServer D W disk wire) (outcome : Outcome) → Turns started first count moments waiting leaves.GoesOn before
        → IsOneTurn disk (served_of before) (served_of next) outcome → HasReason next outcome → Turns started first (count + 1) (moments ++ next.left ∷ []) (waiting ++ told_in next) outcome next

  -- turns were taken and told until it ended so; the keeper is as it was when the last thing was told, unless a life couldn't be kept then; each life is one that its node showed
  pub record Went {K : Type 0} (kept : K → ℕ → Life → K → Type 0) (port : ℕ) (started : NodeServer D W disk wire) (first : Outcome) (answer : Result (Unit {0}) NodeEnd)
      (new : NodeServer D W disk wire) (held held_after : Option (List ℕ)) (lives lives_after : K) (notes : WaitingNotes) : Type 0 where
    pub count : ℕ
    pub outcome : Outcome
    pub last : NodeServer D W disk wire
    pub moments : List ℕ
    pub waiting : List ServerNotice
    pub turns : Turns started first count moments waiting outcome last
    pub served : served_of new ≡ served_of last
    pub told : List ServerNotice
    pub came : List Count
    pub lines : List Count
    pub lives_then : K
    pub noted : Tells kept (served_of started).look port held lives started.left told moments came lines held_after lives_then
    pub holds : Holds told came lines notes
    pub clock : notes.limits.clock ≡ latest started.left moments
    pub shown : AreShown (served_of new).own (served_of new).lines told
    pub keeper : (lives_after ≡ lives_then) ⊎ StopsAtLife (served_of new).own (served_of new).lines waiting told
    pub ends : EndsBy outcome count waiting told answer

  -- the node was started, which was told first, and then turns were taken; what waited then was told
  pub record Ran {K : Type 0} (kept : K → ℕ → Life → K → Type 0) (port : ℕ) (old : NodeServer D W disk wire) (answer : Result (Unit {0}) NodeEnd) (new : NodeServer D W disk wire)
      (held held_after : Option (List ℕ)) (lives lives_after : K) : Type 0 where
    pub started : NodeServer D W disk wire
    pub first : Outcome
    pub begins : IsStart disk (served_of old) (served_of started) first
    pub left : outcome_in old ≡ leaves.GoesOn → HasFirstReason started first
    -- a process that was to end before is as it was
    pub still : (outcome_in old ≡ leaves.GoesOn → ⊥) → started ≡ old
    pub between : Option (List ℕ)
    pub begun : IsNoted (begin_line (served_of started).look) held between
    pub behind : Option (List ℕ)
    pub notes : WaitingNotes
    pub went : Went kept port started first answer new between behind lives lives_after notes
    -- what waited was told at last, so that all that came was told or counted, by lines that are so few
    pub rest : List Count
    pub told_rest : Later (later_lines (served_of started).look port went.told) (latest started.left went.moments) behind rest held_after
    pub whole : IsWhole went.came went.lines rest
