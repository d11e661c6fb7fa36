-- How far a script of `play` was read and answered.
use Rattle.std.specs.Prelude.{◌≡◌, ℕ, List, ◌++◌, Option}
use Rattle.std.specs.Io.KnownBytes.{Appends}
use Rattle.dealer_kind.specs.Plans.{Plan}
use Rattle.playing.specs.Playing.{Plays, HasOneList}
use Rattle.playing.specs.PlayingInside.{scene_of}
use Rattle.streamed.specs.Script.{AreLines}
use Rattle.match_runs.specs.Played.{Played}
use Rattle.match_runs.specs.declared.scripted.Scripted.{Scripted}

-- so much of a script was read, its whole lines are answered, and what has come of the next one is kept
pub record Reaches (plan : Plan) (start : Option (List ℕ)) (seen : List ℕ) (scripted : Scripted) (now : Option (List ℕ)) : Type 0 where
  pub lines : List (List ℕ)
  pub output : List ℕ
  pub are_lines : AreLines seen lines scripted.line.items
  pub plays : Plays plan lines output (scene_of scripted.playing)
  pub shows : HasOneList (scene_of scripted.playing)
  pub written : Appends start now output

-- what was written is a beginning of what is to be written for a beginning of the script
pub record BeginsPlay (plan : Plan) (start : Option (List ℕ)) (read : List ℕ) (now : Option (List ℕ)) : Type 0 where
  pub front : List ℕ
  pub behind : List ℕ
  pub front_read : read ≡ front ++ behind
  pub output : List ℕ
  pub played : Played plan front output
  pub shown : List ℕ
  pub missing : List ℕ
  pub front_shown : output ≡ shown ++ missing
  pub written : Appends start now shown

-- taking these bytes brings a script further: what was read and answered before them is so with them
abbrev pub ReachesOn : List ℕ → Scripted → Scripted → Option (List ℕ) → Option (List ℕ) → Type 0
ReachesOn bytes old new held held_after = (plan : Plan) (start : Option (List ℕ)) (seen : List ℕ) → Reaches plan start seen old held
    → Reaches plan start (seen ++ bytes) new held_after

-- taking them failed: of what is to be written with them a beginning is written
abbrev pub BreaksPlay : List ℕ → Scripted → Option (List ℕ) → Option (List ℕ) → Type 0
BreaksPlay bytes old held held_after = (plan : Plan) (start : Option (List ℕ)) (seen : List ℕ) → Reaches plan start seen old held
    → BeginsPlay plan start (seen ++ bytes) held_after
