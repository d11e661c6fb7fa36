-- Entries in the order of their slots: where a slot's place is, and what putting one there makes of them.
use Rattle.std.proofs.Common.{◌≡◌, ℕ, zero, suc, ◌+◌, ◌<◌, ◌≤◌, Bool, true, false, List, [], ◌∷◌, ◌++◌, length, take, drop, get_or, set, refl, sym, ◌∙◌, ap, subst, arith}
use Rattle.std.specs.Prelude.{nat_eq, if◌then◌else◌, Option, Some, None}
use Rattle.std.specs.List.{AllByRecursion}
use Rattle.std.proofs.lemmas.Bool.{eq-eqb, ne_eqb}
use Rattle.std.proofs.lemmas.Bool.Decides.{nat_tests}
use Rattle.promise_store.specs.declared.placed.Placed.{Placed}
use Rattle.std.proofs.lemmas.List.{drop_all, get_or_default}
use Rattle.promise_store.specs.Index.{Rise, found, IsPosition, later}
use Rattle.paxos_wire.specs.Order.{is_below}

abbrev pub Below : ℕ → List Placed → Type 0
Below slot entries = AllByRecursion (λ e. e.slot < slot) entries

abbrev pub From : ℕ → List Placed → Type 0
From slot entries = AllByRecursion (λ e. slot ≤ e.slot) entries

rise_all : (slot from : ℕ) (xs : List Placed) → Rise from xs → slot ≤ from → From slot xs
rise_all slot from [] rise low = tt
rise_all slot from (x ∷ xs) rise low = (omega (arith, rise.0, low), rise_all slot (x.slot + 1) xs rise.1 (omega (arith, rise.0, low)))

rise_least : (from : ℕ) (xs : List Placed) (k : ℕ) (e : Placed) → Rise from xs → k < length xs → e ≡ get_or xs k e → from ≤ e.slot
rise_least from [] k e rise within is = absurd (omega arith)
rise_least from (x ∷ xs) zero e rise within is = subst (λ (y : Placed). from ≤ y.slot) (sym is) rise.0
rise_least from (x ∷ xs) (suc k) e rise within is = omega (arith, rise.0, rise_least (x.slot + 1) xs k e rise.1 (omega (arith, within)) is)

-- up to an entry of a lower slot all are of lower ones
pub rise_below : (slot from : ℕ) (xs : List Placed) (k : ℕ) (e : Placed) → Rise from xs → k < length xs → e ≡ get_or xs k e → e.slot < slot → Below slot (take (suc k) xs)
rise_below slot from [] k e rise within is below = absurd (omega arith)
rise_below slot from (x ∷ xs) zero e rise within is below = (subst (λ (y : Placed). y.slot < slot) is below, tt)
rise_below slot from (x ∷ xs) (suc k) e rise within is below =
    (omega (arith, below, rise_least (x.slot + 1) xs k e rise.1 (omega (arith, within)) is), rise_below slot (x.slot + 1) xs k e rise.1 (omega (arith, within)) is below)

-- from an entry of no lower slot on all are of no lower ones
pub rise_from : (slot from : ℕ) (xs : List Placed) (k : ℕ) (e : Placed) → Rise from xs → k < length xs → e ≡ get_or xs k e → slot ≤ e.slot → From slot (drop k xs)
rise_from slot from [] k e rise within is above = absurd (omega arith)
rise_from slot from (x ∷ xs) zero e rise within is above =
    let high : slot ≤ x.slot = subst (λ (y : Placed). slot ≤ y.slot) is above in
    (high, rise_all slot (x.slot + 1) xs rise.1 (omega (arith, high)))
rise_from slot from (x ∷ xs) (suc k) e rise within is above = rise_from slot (x.slot + 1) xs k e rise.1 (omega (arith, within)) is above

pub rise_insert : (from : ℕ) (xs : List Placed) (k : ℕ) (e : Placed) → Rise from xs → from ≤ e.slot → Below e.slot (take k xs) → From (e.slot + 1) (drop k xs) → Rise from (take k xs ++ e ∷ drop k xs)
rise_insert from [] zero e rise low below above = (low, tt)
rise_insert from [] (suc k) e rise low below above = (low, tt)
rise_insert from (x ∷ xs) zero e rise low below above = (low, (above.0, rise.1))
rise_insert from (x ∷ xs) (suc k) e rise low below above = (rise.0, rise_insert (x.slot + 1) xs k e rise.1 (omega (arith, below.0)) below.1 above)

pub rise_set : (from : ℕ) (xs : List Placed) (k : ℕ) (old e : Placed) → Rise from xs → old ≡ get_or xs k old → old.slot ≡ e.slot → k < length xs → Rise from (set xs k e)
rise_set from [] k old e rise is same within = absurd (omega arith)
rise_set from (x ∷ xs) zero old e rise is same within =
    let slot : x.slot ≡ e.slot = sym (ap (λ (y : Placed). y.slot) is) ∙ same in
    (subst (λ (n : ℕ). from ≤ n) slot rise.0, subst (λ (n : ℕ). Rise (n + 1) xs) slot rise.1)
rise_set from (x ∷ xs) (suc k) old e rise is same within = (rise.0, rise_set (x.slot + 1) xs k old e rise.1 is same (omega (arith, within)))

-- the entry at the place of a slot is that slot's
pub found_at : (slot : ℕ) (xs : List Placed) (k : ℕ) (e : Placed) → Below slot (take k xs) → k < length xs → e ≡ get_or xs k e → e.slot ≡ slot → found slot xs ≡ Some e
found_at slot [] k e below within is same = absurd (omega arith)
found_at slot (x ∷ xs) zero e below within is same =
    rw (eq-eqb slot x.slot (sym same ∙ ap (λ (y : Placed). y.slot) is)) (ap Some (sym is))
found_at slot (x ∷ xs) (suc k) e below within is same =
    rw (ne_eqb slot x.slot (λ eq. omega (arith, below.0, eq))) (found_at slot xs k e below.1 (omega (arith, within)) is same)

pub found_none : (slot : ℕ) (xs : List Placed) (k : ℕ) → Below slot (take k xs) → From (slot + 1) (drop k xs) → found slot xs ≡ None
found_none slot [] k below above = refl
found_none slot (x ∷ xs) zero below above =
    rw (ne_eqb slot x.slot (λ eq. omega (arith, above.0, eq))) (found_none slot xs zero (none xs) above.1)
  where
    none : (xs : List Placed) → Below slot (take 0 xs)
    none [] = tt
    none (x ∷ xs) = tt
found_none slot (x ∷ xs) (suc k) below above =
    rw (ne_eqb slot x.slot (λ eq. omega (arith, below.0, eq))) (found_none slot xs k below.1 above)

-- of two tests that don't both hold either may come first
turned : (x e : Placed) (a b : Bool) (rest : Option Placed) → (a ≡ true → b ≡ true → ⊥) → (if a then Some x else (if b then Some e else rest)) ≡ (if b then Some e else (if a then Some x else rest))
turned x e true true rest apart = absurd (apart refl refl)
turned x e true false rest apart = refl
turned x e false b rest apart = refl

pub found_insert : (s : ℕ) (xs : List Placed) (k : ℕ) (e : Placed) → Below e.slot (take k xs) → found s (take k xs ++ e ∷ drop k xs) ≡ (if nat_eq s e.slot then Some e else found s xs)
found_insert s [] zero e below = refl
found_insert s [] (suc k) e below = refl
found_insert s (x ∷ xs) zero e below = refl
found_insert s (x ∷ xs) (suc k) e below =
    ap (λ o. if nat_eq s x.slot then Some x else o) (found_insert s xs k e below.1)
    ∙ turned x e (nat_eq s x.slot) (nat_eq s e.slot) (found s xs) (λ one two. let a : s ≡ x.slot = grind (arith, nat_tests, one) in let b : s ≡ e.slot = grind (arith, nat_tests, two) in omega (arith, a, b, below.0))

pub found_set : (s : ℕ) (xs : List Placed) (k : ℕ) (old e : Placed) → Below e.slot (take k xs) → k < length xs → old ≡ get_or xs k old → old.slot ≡ e.slot → found s (set xs k e) ≡ (if nat_eq s e.slot then Some e else found s xs)
found_set s [] k old e below within is same = absurd (omega arith)
found_set s (x ∷ xs) zero old e below within is same =
    let slot : x.slot ≡ e.slot = sym (ap (λ (y : Placed). y.slot) is) ∙ same in
    covered (nat_eq s e.slot) (nat_eq s x.slot) (ap (λ (n : ℕ). nat_eq s n) slot)
  where
    covered : (b a : Bool) → a ≡ b → (if b then Some e else found s xs) ≡ (if b then Some e else (if a then Some x else found s xs))
    covered true a is_same = refl
    covered false a is_same = rw is_same refl
found_set s (x ∷ xs) (suc k) old e below within is same =
    ap (λ o. if nat_eq s x.slot then Some x else o) (found_set s xs k old e below.1 (omega (arith, within)) is same)
    ∙ turned x e (nat_eq s x.slot) (nat_eq s e.slot) (found s xs) (λ one two. let a : s ≡ x.slot = grind (arith, nat_tests, one) in let b : s ≡ e.slot = grind (arith, nat_tests, two) in omega (arith, a, b, below.0))

module _ (slot : ℕ) (xs : List Placed) (k : ℕ) (d : Placed) (rise : Rise 0 xs) (within : k < length xs) where
  there_is : get_or xs k d ≡ get_or xs k (get_or xs k d)
  there_is = get_or_default xs k d (get_or xs k d) within

  -- past an entry of a lower slot
  pub below_up : (get_or xs k d).slot < slot → Below slot (take (k + 1) xs)
  below_up below = let next : suc k ≡ k + 1 = omega arith in subst (λ (n : ℕ). Below slot (take n xs)) next (rise_below slot 0 xs k (get_or xs k d) rise within there_is below)

  pub above_here : slot ≤ (get_or xs k d).slot → From slot (drop k xs)
  above_here above = rise_from slot 0 xs k (get_or xs k d) rise within there_is above

  pub position_end : k + 1 ≡ length xs → (get_or xs k d).slot < slot → IsPosition slot xs (length xs)
  position_end last below = record {
    within = omega arith;
    below = subst (λ (n : ℕ). Below slot (take n xs)) last (below_up below);
    above = subst (λ (l : List Placed). From slot l) (sym (drop_all (length xs) xs (omega arith))) tt;
  }

from_head : (slot : ℕ) (xs : List Placed) (k : ℕ) (e : Placed) → From slot (drop k xs) → k < length xs → e ≡ get_or xs k e → slot ≤ e.slot
from_head slot [] k e above within is = absurd (omega arith)
from_head slot (x ∷ xs) zero e above within is = subst (λ (y : Placed). slot ≤ y.slot) (sym is) above.0
from_head slot (x ∷ xs) (suc k) e above within is = from_head slot xs k e above (omega (arith, within)) is

-- where the entry at a slot's place is of another slot, those from there on are of higher ones
pub above_more : (slot : ℕ) (xs : List Placed) (k : ℕ) (e : Placed) → Rise 0 xs → From slot (drop k xs) → k < length xs → e ≡ get_or xs k e → (e.slot ≡ slot → ⊥) → From (slot + 1) (drop k xs)
above_more slot xs k e rise above within is differs =
    let high = from_head slot xs k e above within is in
    rise_from (slot + 1) 0 xs k e rise within is (omega (arith, high, differs))

pub past_end : (slot : ℕ) (xs : List Placed) (k : ℕ) → length xs ≤ k → From slot (drop k xs)
past_end slot xs k past = subst (λ (l : List Placed). From slot l) (sym (drop_all k xs past)) tt

module _ (s : ℕ) (xs : List Placed) (k : ℕ) (new : Placed) (place : IsPosition new.slot xs k) where
  -- at the new entry's slot its vote is chosen, elsewhere all is as before
  chosen : (ys : List Placed) (next : Placed) → found s ys ≡ (if nat_eq s new.slot then Some next else found s xs) → ((s ≡ new.slot) → later (λ (e : Placed). e.ballot) (found s xs) new ≡ next)
      → found s ys ≡ (if nat_eq s new.slot then Some (later (λ (e : Placed). e.ballot) (found s xs) new) else found s xs)
  chosen ys next is same = is ∙ by (nat_eq s new.slot) refl
    where
      by : (test : Bool) → nat_eq s new.slot ≡ test → (if test then Some next else found s xs) ≡ (if test then Some (later (λ (e : Placed). e.ballot) (found s xs) new) else found s xs)
      by true test = ap (λ (p : Placed). Some p) (sym (same (grind (arith, nat_tests, test))))
      by false test = refl

  pub put_inserted : From (new.slot + 1) (drop k xs) → found s (take k xs ++ new ∷ drop k xs) ≡ (if nat_eq s new.slot then Some (later (λ (e : Placed). e.ballot) (found s xs) new) else found s xs)
  put_inserted above =
      chosen (take k xs ++ new ∷ drop k xs) new (found_insert s xs k new place.below)
      (λ here. ap (λ (o : Option Placed). later (λ (e : Placed). e.ballot) o new) (ap (λ (n : ℕ). found n xs) here ∙ found_none new.slot xs k place.below above))

  module _ (old : Placed) (within : k < length xs) (is : old ≡ get_or xs k old) (same : old.slot ≡ new.slot) where
    there : s ≡ new.slot → later (λ (e : Placed). e.ballot) (found s xs) new ≡ (if is_below new.ballot old.ballot then old else new)
    there here = ap (λ (o : Option Placed). later (λ (e : Placed). e.ballot) o new) (ap (λ (n : ℕ). found n xs) here ∙ found_at new.slot xs k old place.below within is same)

    pub put_replaced : is_below new.ballot old.ballot ≡ false → found s (set xs k new) ≡ (if nat_eq s new.slot then Some (later (λ (e : Placed). e.ballot) (found s xs) new) else found s xs)
    put_replaced test =
        chosen (set xs k new) new (found_set s xs k old new place.below within is same)
        (λ here. there here ∙ ap (λ (b : Bool). if b then old else new) test)

    pub put_kept : is_below new.ballot old.ballot ≡ true → found s xs ≡ (if nat_eq s new.slot then Some (later (λ (e : Placed). e.ballot) (found s xs) new) else found s xs)
    put_kept test =
        chosen xs old (by (nat_eq s new.slot) refl) (λ here. there here ∙ ap (λ (b : Bool). if b then old else new) test)
      where
        by : (test : Bool) → nat_eq s new.slot ≡ test → found s xs ≡ (if test then Some old else found s xs)
        by true test = let here : s ≡ new.slot = grind (arith, nat_tests, test) in ap (λ (n : ℕ). found n xs) here ∙ found_at new.slot xs k old place.below within is same
        by false test = refl

-- the entry of a slot, by its place
pub find_there : (slot : ℕ) (xs : List Placed) (k : ℕ) (d : Placed) → IsPosition slot xs k → k < length xs → (get_or xs k d).slot ≡ slot → Some (get_or xs k d) ≡ found slot xs
find_there slot xs k d place within same = sym (found_at slot xs k (get_or xs k d) place.below within (get_or_default xs k d (get_or xs k d) within) same)

pub find_nowhere : (slot : ℕ) (xs : List Placed) (k : ℕ) (d : Placed) → Rise 0 xs → IsPosition slot xs k → k < length xs → ((get_or xs k d).slot ≡ slot → ⊥) → None ≡ found slot xs
find_nowhere slot xs k d rise place within other =
    sym (found_none slot xs k place.below (above_more slot xs k (get_or xs k d) rise place.above within (get_or_default xs k d (get_or xs k d) within) other))

pub find_past : (slot : ℕ) (xs : List Placed) (k : ℕ) → IsPosition slot xs k → length xs ≤ k → None ≡ found slot xs
find_past slot xs k place past = sym (found_none slot xs k place.below (past_end (slot + 1) xs k past))

-- what replacing leaves: the list, or the list with the new entry
pub replaced : (xs ys : List Placed) (k : ℕ) (old new : Placed) → Rise 0 xs → IsPosition new.slot xs k → k < length xs → old ≡ get_or xs k old → old.slot ≡ new.slot
    → (is_below new.ballot old.ballot ≡ true → ys ≡ xs) → (is_below new.ballot old.ballot ≡ false → ys ≡ set xs k new)
    → Rise 0 ys × ((s : ℕ) → found s ys ≡ (if nat_eq s new.slot then Some (later (λ (e : Placed). e.ballot) (found s xs) new) else found s xs))
replaced xs ys k old new rise place within is same stays comes = by (is_below new.ballot old.ballot) refl
  where
    by : (test : Bool) → is_below new.ballot old.ballot ≡ test → Rise 0 ys × ((s : ℕ) → found s ys ≡ (if nat_eq s new.slot then Some (later (λ (e : Placed). e.ballot) (found s xs) new) else found s xs))
    by true test = (subst (λ (l : List Placed). Rise 0 l) (sym (stays test)) rise, λ s. ap (λ (l : List Placed). found s l) (stays test) ∙ put_kept s xs k new place old within is same test)
    by false test = (subst (λ (l : List Placed). Rise 0 l) (sym (comes test)) (rise_set 0 xs k old new rise is same within), λ s. ap (λ (l : List Placed). found s l) (comes test) ∙ put_replaced s xs k new place old within is same test)
