-- How a run of `play` ends.
use Rattle.std.specs.Prelude.{◌⊎◌, ℕ, List, Option}
use Rattle.std.specs.Io.KnownBytes.{Appends, Consumes, IsAtEnd, Keeps}
use Rattle.toml.specs.Data.{Members}
use Rattle.dealer_kind.specs.Plans.{Plan}
use Rattle.match_file.specs.declared.match_fault.MatchFault.{MatchFault}
use Rattle.match_file.specs.Matches.{HasMembers, SaysMatch}
use Rattle.match_file.specs.Refusals.{IsNoToml, IsRefused}
use Rattle.match_runs.specs.Played.{Played}
use Rattle.match_runs.specs.Scripted.{BeginsPlay}
use Rattle.streamed.specs.declared.ending.Ending.{Ending}
use Rattle.streamed.specs.declared.ending.Ending.TheVariants.{Done, SaidNo, Refused, Match, StoreExists, Store, StoreInUse, OtherMatch, Unreadable, OutOfMemory, StreamFailed, WrongWords}

-- a match file and its game file, none where it can't be read, say this match
abbrev pub SaysPlan : List ℕ → Option (List ℕ) → Plan → Type 0
SaysPlan file game plan = (table : Members) × HasMembers file table × SaysMatch game table plan

-- or they are refused
abbrev pub IsNoPlan : List ℕ → Option (List ℕ) → MatchFault → Type 0
IsNoPlan file game fault = IsNoToml file fault ⊎ ((table : Members) × HasMembers file table × IsRefused game table fault)

-- all of the script was read, and just what is to be written for it was written
pub record AnswersPlay (plan : Plan) (left left_after held held_after : Option (List ℕ)) : Type 0 where
  pub bytes : List ℕ
  pub read : Consumes left left_after bytes
  pub at_end : IsAtEnd left_after
  pub output : List ℕ
  pub played : Played plan bytes output
  pub written : Appends held held_after output

-- some of the script was read, and a beginning of what is to be written, maybe nothing, was written
pub record StopsPlay (plan : Plan) (left left_after held held_after : Option (List ℕ)) : Type 0 where
  pub bytes : List ℕ
  pub read : Consumes left left_after bytes
  pub begun : Keeps held held_after ⊎ BeginsPlay plan held bytes held_after

-- what a run over the bytes that a reader has left, and the bytes that a writer holds, has done by its end
abbrev pub EndsPlay : List ℕ → Option (List ℕ) → Option (List ℕ) → Option (List ℕ) → Option (List ℕ) → Option (List ℕ) → Ending → Type 0
EndsPlay file game left left_after held held_after Done = (plan : Plan) × SaysPlan file game plan × AnswersPlay plan left left_after held held_after
EndsPlay file game left left_after held held_after (Match fault) = IsNoPlan file game fault × Keeps left left_after × Keeps held held_after
EndsPlay file game left left_after held held_after (Refused fault) = ⊥
EndsPlay file game left left_after held held_after (SaidNo fault) = ⊥
EndsPlay file game left left_after held held_after StoreExists = ⊥
EndsPlay file game left left_after held held_after (Store fault) = ⊥
EndsPlay file game left left_after held held_after StoreInUse = ⊥
EndsPlay file game left left_after held held_after (OtherMatch difference) = ⊥
EndsPlay file game left left_after held held_after Unreadable = ⊥
EndsPlay file game left left_after held held_after (WrongWords words) = ⊥
EndsPlay file game left left_after held held_after OutOfMemory = (plan : Plan) × SaysPlan file game plan × StopsPlay plan left left_after held held_after
EndsPlay file game left left_after held held_after StreamFailed = (plan : Plan) × SaysPlan file game plan × StopsPlay plan left left_after held held_after
