-- Entries of distinct keys: there are no more of them than keys, and a new key keeps them distinct.
use Rattle.std.proofs.Common.{◌≡◌, ℕ, zero, suc, ◌+◌, ◌<◌, ◌≤◌, true, false, cond, ltb, eqb, List, [], ◌∷◌, ◌++◌, length, map, IsTrue, refl, sym, ap, ◌∙◌, arith, inl, inr}
use Rattle.std.specs.List.{IsDistinct, AllByRecursion, list_all}
use Rattle.std.proofs.lemmas.Bool.{cases_Bool, or_parts, eqb-true, eqb-false, ltb-true}
use Rattle.std.proofs.lemmas.List.{length-append}
use Rattle.std.proofs.lemmas.Bool.Decides.{nat_tests}
use Rattle.game_def.specs.Key.{place_of, same_key, fits}
use Rattle.game_def.specs.Entries.{is_set, AreEntries}
use Rattle.game_def.specs.declared.key.Key.{Key}
use Rattle.game_def.specs.declared.key.Key.TheVariants.{Limit, Nolimit, NumPlayers, NumRounds, Stack, Blind, RaiseSize, FirstPlayer, MaxRaises, NumSuits, NumRanks, NumHoleCards, NumBoardCards}
use Rattle.game_def.specs.declared.entry.Entry.{Entry}

-- how many entries have a place below a number, and how many have that place
below : ℕ → List Entry → ℕ
below n [] = 0
below n (entry ∷ entries) = cond (ltb (place_of entry.key) n) 1 0 + below n entries

at : ℕ → List Entry → ℕ
at n [] = 0
at n (entry ∷ entries) = cond (eqb (place_of entry.key) n) 1 0 + at n entries

none_at : (key : Key) (entries : List Entry) → AllByRecursion (λ other. same_key key other ≡ false) (map (λ entry. entry.key) entries) → at (place_of key) entries ≡ 0
unfolding at
none_at key [] apart = refl
none_at key (entry ∷ entries) apart =
    elim (cases_Bool (eqb (place_of entry.key) (place_of key))) [
      | inl is ↦ absurd (eqb-false _ _ apart.0 (sym (eqb-true _ _ is)))
      | inr is ↦ rw (is, none_at key entries apart.1) refl
    ]

one_at : (n : ℕ) (entries : List Entry) → IsDistinct same_key (map (λ entry. entry.key) entries) → at n entries ≤ 1
unfolding at IsDistinct
one_at n [] once = omega arith
one_at n (entry ∷ entries) once =
    elim (cases_Bool (eqb (place_of entry.key) n)) [
      | inl is ↦ let none : at n entries ≡ 0 = ap (λ (m : ℕ). at m entries) (sym (eqb-true _ _ is)) ∙ none_at entry.key entries once.0 in rw is (omega (arith, none))
      | inr is ↦ rw is (omega (arith, one_at n entries once.1))
    ]

below_none : (entries : List Entry) → below 0 entries ≡ 0
unfolding below
below_none [] = refl
below_none (entry ∷ entries) =
    elim (cases_Bool (ltb (place_of entry.key) 0)) [
      | inl is ↦ let no = ltb-true _ _ is in absurd (omega arith)
      | inr is ↦ rw (is, below_none entries) refl
    ]

place_counted : (place n : ℕ) → cond (ltb place (suc n)) 1 0 ≤ cond (ltb place n) 1 0 + cond (eqb place n) 1 0
place_counted place n = grind (arith, nat_tests)

below_more : (n : ℕ) (entries : List Entry) → below (suc n) entries ≤ below n entries + at n entries
unfolding below at
below_more n [] = omega arith
below_more n (entry ∷ entries) = omega (arith, place_counted (place_of entry.key) n, below_more n entries)

few_below : (n : ℕ) (entries : List Entry) → IsDistinct same_key (map (λ entry. entry.key) entries) → below n entries ≤ n
few_below zero entries once = omega (arith, below_none entries)
few_below (suc n) entries once = omega (arith, below_more n entries, few_below n entries once, one_at n entries once)

place_below : (key : Key) → ltb (place_of key) 12 ≡ true
place_below Limit = refl
place_below Nolimit = refl
place_below NumPlayers = refl
place_below NumRounds = refl
place_below Stack = refl
place_below Blind = refl
place_below RaiseSize = refl
place_below FirstPlayer = refl
place_below MaxRaises = refl
place_below NumSuits = refl
place_below NumRanks = refl
place_below NumHoleCards = refl
place_below NumBoardCards = refl

all_below : (entries : List Entry) → below 12 entries ≡ length entries
unfolding below
all_below [] = refl
all_below (entry ∷ entries) = rw (place_below entry.key, all_below entries) (omega arith)

apart_more : (key : Key) (entries : List Entry) (entry : Entry) → AllByRecursion (λ other. same_key key other ≡ false) (map (λ e. e.key) entries) → same_key key entry.key ≡ false
    → AllByRecursion (λ other. same_key key other ≡ false) (map (λ e. e.key) (entries ++ entry ∷ []))
apart_more key [] entry apart new = (new, tt)
apart_more key (first ∷ entries) entry apart new = (apart.0, apart_more key entries entry apart.1 new)

once_more : (entries : List Entry) (entry : Entry) → IsDistinct same_key (map (λ e. e.key) entries) → is_set entries entry.key ≡ false → IsDistinct same_key (map (λ e. e.key) (entries ++ entry ∷ []))
unfolding IsDistinct
once_more [] entry once new = (tt, tt)
once_more (first ∷ entries) entry once new =
    let parts = or_parts (same_key first.key entry.key) (is_set entries entry.key) new in
    (apart_more first.key entries entry once.0 parts.0, once_more entries entry once.1 parts.1)

fits_more : (entries : List Entry) (entry : Entry) → AllByRecursion (λ e. IsTrue (list_all (fits e.key) e.values.items)) entries → IsTrue (list_all (fits entry.key) entry.values.items)
    → AllByRecursion (λ e. IsTrue (list_all (fits e.key) e.values.items)) (entries ++ entry ∷ [])
fits_more [] entry fitting fit = (fit, tt)
fits_more (first ∷ entries) entry fitting fit = (fitting.0, fits_more entries entry fitting.1 fit)

pub no_entries : AreEntries []
unfolding IsDistinct
no_entries = record { once = tt; fitting = tt }

pub more_entries : (entries : List Entry) (entry : Entry) → AreEntries entries → is_set entries entry.key ≡ false → IsTrue (list_all (fits entry.key) entry.values.items) → AreEntries (entries ++ entry ∷ [])
more_entries entries entry are new fit = record { once = once_more entries entry are.once new; fitting = fits_more entries entry are.fitting fit }

pub few_entries : (entries : List Entry) → AreEntries entries → length entries ≤ 12
few_entries entries are = omega (arith, all_below entries, few_below 12 entries are.once)

-- a new key finds room
pub room_for : (entries : List Entry) (entry : Entry) → AreEntries (entries ++ entry ∷ []) → length entries < 12
room_for entries entry are = omega (arith, few_entries (entries ++ entry ∷ []) are, length-append entries (entry ∷ []))
