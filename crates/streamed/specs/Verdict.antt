-- What `check` says of a log, and how a run of it ends.
use Rattle.std.specs.Prelude.{◌≡◌, ℕ, List, [], ◌∷◌, ◌++◌, Option, Result, Ok, Err, codes, decimal}
use Rattle.std.specs.Io.KnownBytes.{Appends, Consumes, IsAtEnd, Keeps}
use Rattle.game_def.specs.Game.{Game}
use Rattle.game_def.specs.GameFile.{IsGameFile}
use Rattle.game_def.specs.WholeFile.{read_game}
use Rattle.match_log.specs.Fault.{kind_text}
use Rattle.match_log.specs.Check.{Says}
use Rattle.match_log.specs.declared.fault.LogFault.{LogFault}
use Rattle.streamed.specs.declared.ending.Ending.{Ending}
use Rattle.streamed.specs.declared.ending.Ending.TheVariants.{Done, SaidNo, Refused, Match, StoreExists, Store, StoreInUse, OtherMatch, Unreadable, OutOfMemory, StreamFailed, WrongWords}

-- what is printed of a log: yes, or no with the line at fault and its fault
abbrev pub verdict_text : Result (Unit {0}) LogFault → List ℕ
verdict_text (Ok _) = codes "yes\n"
verdict_text (Err fault) = codes "no " ++ decimal fault.line ++ codes " " ++ kind_text fault.kind ++ 10 ∷ []

-- some of the log was read
abbrev pub SomeRead : Option (List ℕ) → Option (List ℕ) → Type 0
SomeRead left left_after = (bytes : List ℕ) × Consumes left left_after bytes

-- all of the log was read, and this is to be said of it
pub record IsJudged (game : Game) (left left_after : Option (List ℕ)) (verdict : Result (Unit {0}) LogFault) : Type 0 where
  pub bytes : List ℕ
  pub read : Consumes left left_after bytes
  pub at_end : IsAtEnd left_after
  pub says : Says game bytes verdict

-- a beginning of a text was written
pub record BeginsText (text : List ℕ) (held held_after : Option (List ℕ)) : Type 0 where
  pub shown : List ℕ
  pub missing : List ℕ
  pub whole : text ≡ shown ++ missing
  pub written : Appends held held_after shown

-- how the writing of a verdict ends
abbrev pub EndsVerdict : Result (Unit {0}) LogFault → Option (List ℕ) → Option (List ℕ) → Ending → Type 0
EndsVerdict verdict held held_after Done = (verdict ≡ Ok tt) × Appends held held_after (verdict_text (Ok tt))
EndsVerdict verdict held held_after (SaidNo fault) = (verdict ≡ Err fault) × Appends held held_after (verdict_text (Err fault))
EndsVerdict verdict held held_after (Refused fault) = ⊥
EndsVerdict verdict held held_after (Match fault) = ⊥
EndsVerdict verdict held held_after StoreExists = ⊥
EndsVerdict verdict held held_after (Store fault) = ⊥
EndsVerdict verdict held held_after StoreInUse = ⊥
EndsVerdict verdict held held_after (OtherMatch difference) = ⊥
EndsVerdict verdict held held_after Unreadable = ⊥
EndsVerdict verdict held held_after OutOfMemory = Keeps held held_after
EndsVerdict verdict held held_after (WrongWords words) = ⊥
EndsVerdict verdict held held_after StreamFailed = BeginsText (verdict_text verdict) held held_after

-- how a run ends whose game is this one, over the bytes that a reader has left, and those that a writer holds
abbrev pub EndsLog : Game → Option (List ℕ) → Option (List ℕ) → Option (List ℕ) → Option (List ℕ) → Ending → Type 0
EndsLog game left left_after held held_after Done = IsJudged game left left_after (Ok tt) × Appends held held_after (verdict_text (Ok tt))
EndsLog game left left_after held held_after (SaidNo fault) =
    IsJudged game left left_after (Err fault) × Appends held held_after (verdict_text (Err fault))
EndsLog game left left_after held held_after (Refused fault) = ⊥
EndsLog game left left_after held held_after (Match fault) = ⊥
EndsLog game left left_after held held_after StoreExists = ⊥
EndsLog game left left_after held held_after (Store fault) = ⊥
EndsLog game left left_after held held_after StoreInUse = ⊥
EndsLog game left left_after held held_after (OtherMatch difference) = ⊥
EndsLog game left left_after held held_after Unreadable = SomeRead left left_after × Keeps held held_after
EndsLog game left left_after held held_after OutOfMemory = SomeRead left left_after × Keeps held held_after
EndsLog game left left_after held held_after (WrongWords words) = ⊥
EndsLog game left left_after held held_after StreamFailed =
    (verdict : Result (Unit {0}) LogFault) × IsJudged game left left_after verdict × BeginsText (verdict_text verdict) held held_after

-- how a run over a game file ends
abbrev pub EndsCheck : List ℕ → Option (List ℕ) → Option (List ℕ) → Option (List ℕ) → Option (List ℕ) → Ending → Type 0
EndsCheck text left left_after held held_after (Refused fault) = (read_game text ≡ Err fault) × Keeps left left_after × Keeps held held_after
EndsCheck text left left_after held held_after outcome =
    (game : Game) × IsGameFile text game × EndsLog game left left_after held held_after outcome
