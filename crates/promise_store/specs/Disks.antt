-- What calls of a disk do to a file, and what a crash may leave of it.
use Rattle.std.specs.Prelude.{◌≡◌, ◌⊎◌, ℕ, ◌+◌, ◌-◌, ◌^◌, ◌≤◌, min, max, List, ◌++◌, length, take, drop, Result, MatchResult}

-- new is old with these bytes at this offset
abbrev pub Holds : List ℕ → ℕ → List ℕ → List ℕ → Type 0
Holds old at bytes new = new ≡ take at old ++ bytes ++ drop (at + length bytes) old

-- a write of n bytes at the offset that a crash cut short: any bytes in its range and past the old end, elsewhere the old ones
pub record Torn (at n : ℕ) (old new : List ℕ) : Type 0 where
  pub before : take (min at (length old)) new ≡ take at old
  pub after : drop (at + n) new ≡ drop (at + n) old
  pub no_shorter : length old ≤ length new
  pub no_longer : length new ≤ max (length old) (at + n)

-- one of these, after such a torn write
abbrev pub TornFrom : ℕ → ℕ → (List ℕ → Type 0) → List ℕ → Type 0
TornFrom at n images image = (before : List ℕ) × images before × Torn at n before image

-- whatever is among the new ones is among the others
abbrev pub Within : (List ℕ → Type 0) → (List ℕ → Type 0) → Type 0
Within others new = (image : List ℕ) → new image → others image

-- a crash leaves this file and nothing else
abbrev pub Only : List ℕ → (List ℕ → Type 0) → Type 0
Only file images = (image : List ℕ) → images image → image ≡ file

-- time goes on in a call: what is an image at some moment since t was one before the call or is one now, and what was one stays one
pub record Elapses (before now : ℕ) (past since : ℕ → List ℕ → Type 0) (images : List ℕ → Type 0) : Type 0 where
  pub later : before ≤ now
  pub nothing_else : (t : ℕ) (image : List ℕ) → since t image → past t image ⊎ images image
  pub keeps : (t : ℕ) (image : List ℕ) → t ≤ before → past t image → since t image

-- from the one disk to the other an image at some moment was one at a moment before, or is of these
abbrev pub During : (ℕ → List ℕ → Type 0) → (ℕ → List ℕ → Type 0) → (List ℕ → Type 0) → Type 0
During past since These = (t : ℕ) (image : List ℕ) → since t image → past t image ⊎ These image

-- a count of failures that rose, or stands at its last value
abbrev pub Rose : ℕ → ℕ → Type 0
Rose old new = min (old + 1) (2 ^ 64 - 1) ≤ new

-- a stop left what was picked, and no call failed; or one failed, and a read gives what it gave before
abbrev pub Picks : (picked before now : List ℕ) (old new : ℕ) → Type 0
Picks picked before now old new = ((now ≡ picked) × (new ≡ old)) ⊎ ((now ≡ before) × Rose old new)

-- the count stays at Ok and rises at Err
abbrev pub Counts : {T E : Type 0} → Result T E → ℕ → ℕ → Type 0
Counts result old new = MatchResult result (λ _. new ≡ old) (λ _. (old ≤ new) × Rose old new)
