-- What of the notes of turns is told at once, and what waits.
use Rattle.std.specs.Prelude.{◌≡◌, ℕ, ◌==◌, Bool, cond, List, [], ◌∷◌, ◌++◌, Option, Some, None, get_or}
use Rattle.std.specs.List.{fold}
use Rattle.node_service.specs.declared.server_notice.ServerNotice.{ServerNotice}
use Rattle.node_runs.specs.NoteGroups.{group_of, weight_of}
use Rattle.node_runs.specs.NoteLimits.{IsAccount, IsAtOnce, counted_at}
use Rattle.node_runs.specs.declared.note_limits.Count.{Count}
use Rattle.node_runs.specs.declared.waiting_notes.WaitingNotes.{WaitingNotes}

-- the newest of a group among these
abbrev pub newest_of : ℕ → List ServerNotice → Option ServerNotice
newest_of group things = fold (λ (newest : Option ServerNotice) (thing : ServerNotice). cond (group_of thing == group) (Some thing) newest) None things

-- the newest that is kept of a group
abbrev pub newest_at : WaitingNotes → ℕ → Option ServerNotice
newest_at waiting group = get_or waiting.newest group None

-- these notices came, so many of these groups came in all, and these lines were told
pub record Holds (things : List ServerNotice) (came lines : List Count) (waiting : WaitingNotes) : Type 0 where
  pub account : IsAccount came lines waiting.limits
  pub newest : (group : ℕ) → newest_at waiting group ≡ newest_of group things

-- a notice as it came at this time
abbrev pub notice_at : ℕ → ServerNotice → Count
notice_at time thing = counted_at time (group_of thing) (weight_of thing)

-- so many lines more were told of it: one if it was told at once
abbrev pub with_line : List Count → Bool → Count → List Count
with_line lines is_told one = lines ++ cond is_told (one ∷ []) []

-- a notice came at this time, and was told at once or not
pub record TakesOne (time : ℕ) (thing : ServerNotice) (is_told : Bool) (old new : WaitingNotes) : Type 0 where
  pub holds : (things : List ServerNotice) (came lines : List Count) → Holds things came lines old → Holds (things ++ thing ∷ []) (came ++ notice_at time thing ∷ []) (with_line lines is_told (notice_at time thing)) new
  pub at_once : (things : List ServerNotice) (came lines : List Count) → Holds things came lines old → IsAtOnce came lines time (group_of thing) is_told

-- so many of a group came at this time that no notice tells, and were told at once or not
pub record TakesCount (time group count : ℕ) (is_told : Bool) (old new : WaitingNotes) : Type 0 where
  pub holds : (things : List ServerNotice) (came lines : List Count) → Holds things came lines old → Holds things (came ++ counted_at time group count ∷ []) (with_line lines is_told (counted_at time group count)) new
  pub at_once : (things : List ServerNotice) (came lines : List Count) → Holds things came lines old → IsAtOnce came lines time group is_told

-- of one group it is the newest from now on, and of the others as before
pub record IsNewest (group : ℕ) (thing : ServerNotice) (old new : WaitingNotes) : Type 0 where
  pub here : newest_at new group ≡ Some thing
  pub others : (other : ℕ) → (group ≡ other → ⊥) → newest_at new other ≡ newest_at old other
