-- What of a kept log counts, and whether another log goes on as it does.
use Rattle.std.specs.Prelude.{◌≡◌, ◌≤◌, ◌⊎◌, ℕ, List, [], ◌∷◌, ◌++◌, codes}
use Rattle.std.specs.List.{AllByRecursion}
use Rattle.operator_notes.specs.LogNames.{StandsIn}

-- a line begins as a header, the line of a hand or the score
abbrev pub BeginsWell : List ℕ → Type 0
BeginsWell line = StandsIn (codes "# name/game/hands ") line ⊎ (StandsIn (codes "STATE:") line ⊎ StandsIn (codes "SCORE:") line)

-- printable ASCII characters alone, the space among them
abbrev pub ArePrintable : List ℕ → Type 0
ArePrintable line = AllByRecursion (λ byte. (32 ≤ byte) × (byte ≤ 126)) line

-- a line of a log, without its line feed
abbrev pub IsLogLine : List ℕ → Type 0
IsLogLine line = BeginsWell line × ArePrintable line

-- whole lines of this kind, and nothing else
pub data AreLogLines : List ℕ → Type 0 where
  no_line : (text : List ℕ) → text ≡ [] → AreLogLines text
  one_more : (line more text : List ℕ) → IsLogLine line → AreLogLines more → text ≡ line ++ 10 ∷ more → AreLogLines text

-- the front of a kept log that has its whole lines of this kind, up to the first other one
pub record IsCounted (front kept : List ℕ) : Type 0 where
  pub lines : AreLogLines front
  pub behind : List ℕ
  pub whole : kept ≡ front ++ behind
  pub last : (line more : List ℕ) → IsLogLine line → ¬ (behind ≡ line ++ 10 ∷ more)

-- a log has this text next, where that was still to come of a kept one, and this is then
abbrev pub GoesOn : List ℕ → List ℕ → List ℕ → Type 0
GoesOn text old new = (old ≡ text ++ new) ⊎ (StandsIn old text × (new ≡ []))
