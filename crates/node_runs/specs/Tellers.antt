-- What a teller of notes does with one thing that came, with what is due, and with the rest.
use Rattle.std.specs.Prelude.{◌≡◌, ℕ, ◌≤◌, Bool, cond, List, [], ◌++◌, Option, length}
use Rattle.std.specs.List.{count_by}
use Rattle.peer_codes.specs.declared.hello.Life.{Life}
use Rattle.stations.specs.Stations.{Look}
use Rattle.operator_notes.specs.Notes.{AreNoted}
use Rattle.node_service.specs.declared.server_notice.ServerNotice.{ServerNotice}
use Rattle.node_runs.specs.NoteGroups.{no_place}
use Rattle.node_runs.specs.NoteLimits.{IsNoneDue, is_of, sum_of, waiting_at}
use Rattle.node_runs.specs.Running.{TellsOne, later_lines}
use Rattle.node_runs.specs.ServerNotes.{Later}
use Rattle.node_runs.specs.WaitingNotes.{Holds, TakesCount, TakesOne}
use Rattle.node_runs.specs.declared.note_limits.Count.{Count}
use Rattle.node_runs.specs.declared.teller.Teller.{Teller}
use Rattle.node_runs.specs.declared.waiting_notes.WaitingNotes.{WaitingNotes}

-- one thing came, which was told at once or waits
pub record TellsNow {K N : Type 0} (kept : K → ℕ → Life → K → Type 0) (look : Look N) (thing : ServerNotice) (old new : Teller) (held held_after : Option (List ℕ)) (lives lives_after : K) : Type 0 where
  pub is_told : Bool
  pub one : TellsOne kept look old.port thing is_told held held_after lives lives_after
  pub takes : TakesOne old.waiting.limits.clock thing is_told old.waiting new.waiting

-- so many lines of what waited were told at this time, where these things came
pub record SomeLater {N : Type 0} (look : Look N) (port time count : ℕ) (new : WaitingNotes) (things : List ServerNotice) (came lines : List Count) (held held_after : Option (List ℕ)) : Type 0 where
  pub more : List Count
  pub told : Later (later_lines look port things) time held more held_after
  pub holds : Holds things came (lines ++ more) new
  pub counted : length more ≡ count

abbrev pub TellsSome : {N : Type 0} → Look N → (port time count : ℕ) → (old new : WaitingNotes) → (held held_after : Option (List ℕ)) → Type 0
TellsSome look port time count old new held held_after = (things : List ServerNotice) (came lines : List Count) → Holds things came lines old → SomeLater look port time count new things came lines held held_after

-- lines of what waited were told at this time, where these things came, until there was room for none
pub record AllLater {N : Type 0} (look : Look N) (port time : ℕ) (new : WaitingNotes) (things : List ServerNotice) (came lines : List Count) (held held_after : Option (List ℕ)) : Type 0 where
  pub more : List Count
  pub told : Later (later_lines look port things) time held more held_after
  pub holds : Holds things came (lines ++ more) new
  pub none : IsNoneDue came (lines ++ more) time

abbrev pub TellsLater : {N : Type 0} → Look N → (port time : ℕ) → (old new : WaitingNotes) → (held held_after : Option (List ℕ)) → Type 0
TellsLater look port time old new held held_after = (things : List ServerNotice) (came lines : List Count) → Holds things came lines old → AllLater look port time new things came lines held held_after

-- so many callers came for whom there was no place, or none did
pub data TurnsAway {N : Type 0} (look : Look N) (port count : ℕ) (old new : WaitingNotes) (held : Option (List ℕ)) : Option (List ℕ) → Type 0 where
  none : count ≡ 0 → new ≡ old → TurnsAway look port count old new held held
  some : (is_told : Bool) (held_after : Option (List ℕ)) → TakesCount old.limits.clock no_place count is_told old new
      → ((things : List ServerNotice) (came lines : List Count) → Holds things came lines old → AreNoted (cond is_told (later_lines look port things no_place count) []) held held_after) → TurnsAway look port count old new held held_after

-- of each group so many were told at this time, in so many lines at most, where these things came
pub record Rest {N : Type 0} (look : Look N) (port time : ℕ) (count most : ℕ → ℕ) (things : List ServerNotice) (held held_after : Option (List ℕ)) : Type 0 where
  pub rest : List Count
  pub told : Later (later_lines look port things) time held rest held_after
  pub sums : (group : ℕ) → sum_of group rest ≡ count group
  pub few : (group : ℕ) → count_by (is_of group) rest ≤ most group

-- of what waits so much of each group was told, in so many lines at most
abbrev pub TellsOf : {N : Type 0} → Look N → ℕ → (count most : ℕ → ℕ) → WaitingNotes → (held held_after : Option (List ℕ)) → Type 0
TellsOf look port count most waiting held held_after =
    (things : List ServerNotice) (came lines : List Count) → Holds things came lines waiting → Rest look port waiting.limits.clock count most things held held_after

-- all that waits was told, of each group in one line at most
abbrev pub TellsRest : {N : Type 0} → Look N → ℕ → WaitingNotes → (held held_after : Option (List ℕ)) → Type 0
TellsRest look port waiting held held_after = TellsOf look port (waiting_at waiting.limits) (λ _. 1) waiting held held_after
