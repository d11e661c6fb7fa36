-- What the last note of `serve` tells: the score, as the last line of a log.
use Rattle.std.specs.Prelude.{◌≡◌, ◌⊎◌, ℕ, ◌<◌, ◌≤◌, ◌+◌, ◌-◌, ◌^◌, List, [], ◌∷◌, ◌++◌, Option, Some, slice_get}
use Rattle.std.specs.Io.KnownBytes.{Keeps}
use Rattle.protocol_model.specs.Dealers.{Log}
use Rattle.dealer_world.specs.Records.{Piece}
use Rattle.streamed.specs.Script.{HasNoFeed}
use Rattle.operator_notes.specs.Notes.{IsNoted}

-- a text that ends in a line feed
abbrev pub EndsInFeed : List ℕ → Type 0
EndsInFeed text = (front : List ℕ) × (text ≡ front ++ 10 ∷ [])

-- the last line of a text that ends in a line feed, without that: it stands at the text's beginning or behind a line feed, and has none
pub record IsLastLine (text line : List ℕ) : Type 0 where
  pub before : List ℕ
  pub parts : text ≡ before ++ line ++ 10 ∷ []
  pub begins : (before ≡ []) ⊎ EndsInFeed before
  pub unbroken : HasNoFeed line

-- from this number on no log got anything, of as much as can be counted
abbrev pub HasNoLogFrom : List Piece → ℕ → Type 0
HasNoLogFrom shown first =
    (number : ℕ) (piece : Piece) → first ≤ number → number < 2 ^ 64 - 1 → slice_get shown number ≡ Some piece → piece.reader ≡ Log → ⊥

abbrev pub HasNoLog : List Piece → Type 0
HasNoLog shown = HasNoLogFrom shown 0

-- what a log got last of all that was shown
pub record IsLastLog (shown : List Piece) (text : List ℕ) : Type 0 where
  pub number : ℕ
  pub piece : Piece
  pub found : slice_get shown number ≡ Some piece
  pub of_log : piece.reader ≡ Log
  pub of_text : piece.text ≡ text
  pub last : HasNoLogFrom shown (number + 1)

-- the score is told as the last line of what a log got last; nothing is told where that isn't a line, or no log got anything
pub data TellsScore (shown : List Piece) (held held_after : Option (List ℕ)) : Type 0 where
  score : (text line : List ℕ) → IsLastLog shown text → IsLastLine text line → IsNoted (line ++ 10 ∷ []) held held_after → TellsScore shown held held_after
  no_line : (text : List ℕ) → IsLastLog shown text → (EndsInFeed text → ⊥) → Keeps held held_after → TellsScore shown held held_after
  no_log : HasNoLog shown → Keeps held held_after → TellsScore shown held held_after
