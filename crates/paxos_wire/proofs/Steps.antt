-- Steps of reading that gave a value, and what a reader took from the front of bytes.
use Rattle.std.proofs.Common.{◌≡◌, ℕ, ◌+◌, ◌<◌, Bool, true, false, cond, List, ◌++◌, get_or, drop, Option, Some, None, refl, sym, ap, ◌∙◌, append_assoc, inl, inr, ◌⊎◌}
use Rattle.std.proofs.lemmas.List.{get_or-drop}
use Rattle.std.proofs.lemmas.Option.{same_Some}
use Rattle.paxos_wire.specs.Reading.{◌>>=◌, when}

abbrev pub IsBytes : List ℕ → Type 0
IsBytes bytes = (i : ℕ) → get_or bytes i 0 < 256

pub IsBytes-drop : (n : ℕ) (bytes : List ℕ) → IsBytes bytes → IsBytes (drop n bytes)
IsBytes-drop n bytes h i = rw get_or-drop (h (n + i))

-- the step before gave a value
pub bind_some : {A B : Type 0} (r : Option A) (f : A → Option B) (y : B) → (r >>= f) ≡ Some y → (x : A) × (r ≡ Some x) × (f x ≡ Some y)
bind_some (Some x) f y e = (x, refl, e)
bind_some None f y e = absurd cc

-- the test was passed
pub when_some : {A : Type 0} (b : Bool) (x y : A) → when b x ≡ Some y → (b ≡ true) × (x ≡ y)
when_some true x y e = (refl, same_Some x y e)
when_some false x y e = absurd cc

pub then_some : {A : Type 0} (b : Bool) (r : Option A) (y : A) → cond b r None ≡ Some y → (b ≡ true) × (r ≡ Some y)
then_some true r y e = (refl, e)
then_some false r y e = absurd cc

-- one way or the other
pub either : {A : Type 0} (b : Bool) (r s : Option A) (y : A) → cond b r s ≡ Some y → ((b ≡ true) × (r ≡ Some y)) ⊎ ((b ≡ false) × (s ≡ Some y))
either true r s y e = inl (refl, e)
either false r s y e = inr (refl, e)

-- a value of this text and this kind was taken from the front
pub record Takes {X : Type 0} (text : X → List ℕ) (P : X → Type 0) (bytes : List ℕ) (x : X × List ℕ) : Type 0 where
  pub parts : bytes ≡ text x.0 ++ x.1
  pub rest : IsBytes x.1
  pub fits : P x.0

-- two texts in a row
pub both : (a x b y c : List ℕ) → a ≡ x ++ b → b ≡ y ++ c → a ≡ (x ++ y) ++ c
both a x b y c p q = p ∙ ap (λ (t : List ℕ). x ++ t) q ∙ sym (append_assoc x y c)
