-- How `luck` ends over a log.
use Rattle.std.specs.Prelude.{ℕ, List, Option, Err}
use Rattle.std.specs.Io.KnownBytes.{Appends, Keeps}
use Rattle.game_def.specs.Game.{Game}
use Rattle.luck.specs.Lines.{AreLucksOf}
use Rattle.match_log.specs.Check.{Says}
use Rattle.streamed.specs.Verdict.{BeginsText, verdict_text}
use Rattle.streamed.specs.declared.ending.Ending.{Ending}
use Rattle.streamed.specs.declared.ending.Ending.TheVariants.{Done, SaidNo, Refused, Match, StoreExists, Store, StoreInUse, OtherMatch, Unreadable, OutOfMemory, StreamFailed, WrongWords}

-- by the bytes that a writer holds before and after: the lines of the log, or what `check` says of one that isn't right
abbrev pub EndsLuck : Game → List ℕ → Option (List ℕ) → Option (List ℕ) → Ending → Type 0
EndsLuck game log held held_after Done = (lines : List ℕ) × AreLucksOf game log lines × Appends held held_after lines
EndsLuck game log held held_after (SaidNo fault) = Says game log (Err fault) × Appends held held_after (verdict_text (Err fault))
EndsLuck game log held held_after (Refused fault) = ⊥
EndsLuck game log held held_after (Match fault) = ⊥
EndsLuck game log held held_after StoreExists = ⊥
EndsLuck game log held held_after (Store fault) = ⊥
EndsLuck game log held held_after StoreInUse = ⊥
EndsLuck game log held held_after (OtherMatch difference) = ⊥
EndsLuck game log held held_after Unreadable = ⊥
EndsLuck game log held held_after OutOfMemory = Keeps held held_after
EndsLuck game log held held_after (WrongWords words) = ⊥
EndsLuck game log held held_after StreamFailed = (text : List ℕ) × BeginsText text held held_after
