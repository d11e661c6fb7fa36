-- How a run of `hand` ends.
use Rattle.std.specs.Prelude.{◌≡◌, ℕ, List, Option, Err}
use Rattle.std.specs.Io.KnownBytes.{Appends, Consumes, IsAtEnd, Keeps}
use Rattle.game_def.specs.Game.{Game}
use Rattle.game_def.specs.GameFile.{IsGameFile}
use Rattle.game_def.specs.WholeFile.{read_game}
use Rattle.streamed.specs.Script.{Script}
use Rattle.streamed.specs.Running.{Begins}
use Rattle.streamed.specs.declared.ending.Ending.{Ending}
use Rattle.streamed.specs.declared.ending.Ending.TheVariants.{Done, SaidNo, Refused, Match, StoreExists, Store, StoreInUse, OtherMatch, Unreadable, OutOfMemory, StreamFailed, WrongWords}

-- all of the script was read, and just what is to be written for it was written
pub record Answers (game : Game) (count : ℕ) (log : Option (List ℕ)) (left left_after held held_after : Option (List ℕ)) : Type 0 where
  pub bytes : List ℕ
  pub read : Consumes left left_after bytes
  pub at_end : IsAtEnd left_after
  pub output : List ℕ
  pub script : Script game count log bytes output
  pub written : Appends held held_after output

-- some of the script was read, and a beginning of what is to be written was written
pub record Stops (game : Game) (count : ℕ) (log : Option (List ℕ)) (left left_after held held_after : Option (List ℕ)) : Type 0 where
  pub bytes : List ℕ
  pub read : Consumes left left_after bytes
  pub begun : Begins game count log held bytes held_after

-- what a run over the bytes that a reader has left, and the bytes that a writer holds, has done by its end
abbrev pub Ends : List ℕ → ℕ → Option (List ℕ) → Option (List ℕ) → Option (List ℕ) → Option (List ℕ) → Option (List ℕ) → Ending → Type 0
Ends text count log left left_after held held_after Done =
    (game : Game) × IsGameFile text game × Answers game count log left left_after held held_after
Ends text count log left left_after held held_after (Refused fault) =
    (read_game text ≡ Err fault) × Keeps left left_after × Keeps held held_after
Ends text count log left left_after held held_after (SaidNo fault) = ⊥
Ends text count log left left_after held held_after (Match fault) = ⊥
Ends text count log left left_after held held_after StoreExists = ⊥
Ends text count log left left_after held held_after (Store fault) = ⊥
Ends text count log left left_after held held_after StoreInUse = ⊥
Ends text count log left left_after held held_after (OtherMatch difference) = ⊥
Ends text count log left left_after held held_after Unreadable = ⊥
Ends text count log left left_after held held_after (WrongWords words) = ⊥
Ends text count log left left_after held held_after OutOfMemory =
    (game : Game) × IsGameFile text game × Stops game count log left left_after held held_after
Ends text count log left left_after held held_after StreamFailed =
    (game : Game) × IsGameFile text game × Stops game count log left left_after held held_after
