-- Where seats are that were told lines: each where it was, or leaving.
use Rattle.std.proofs.Common.{◌≡◌, ℕ, zero, suc, ◌+◌, ◌≤◌, ◌⊎◌, inl, inr, List, [], ◌∷◌, ◌++◌, map, replicate, set, slice_get, Option, Some, None, cond, refl, ap, sym, subst, ◌∙◌, arith, eq-eqb}
use Rattle.std.specs.List.{count_by}
use Rattle.std.proofs.lemmas.List.Sums.{sum_by-append}
use Rattle.dealer_world.specs.Records.{Piece}
use Rattle.match_links.specs.Passages.{Passage, Told}
use Rattle.serving.specs.declared.place.Place.{Place}
use Rattle.serving.specs.declared.place.Place.TheVariants.{Awaited, Seated, Leaving}
use Rattle.serving.specs.Giving.{given_as, is_line_to, IsGiven, AreGiven, MissesALine}
use Rattle.serving.specs.Going.{OnlyLeave}

-- ---- how many lines a seat was told

told_both : (node seat : ℕ) (xs ys : List Passage) → count_by (is_line_to node seat) (xs ++ ys) ≡ count_by (is_line_to node seat) xs + count_by (is_line_to node seat) ys
told_both node seat xs ys = sum_by-append (λ x. cond (is_line_to node seat x) 1 0) xs ys

-- none is told more than there are for it
one_within : (places : List Place) (piece : Piece) (given : List Passage) (node seat : ℕ) → IsGiven places piece given
    → count_by (is_line_to node seat) given ≤ count_by (is_line_to node seat) (given_as piece ∷ [])
one_within places piece given node seat (inl is) = let same = ap (count_by (is_line_to node seat)) is in omega (arith, same)
one_within places piece given node seat (inr (away, is)) =
    let none : count_by (is_line_to node seat) given ≡ 0 = ap (count_by (is_line_to node seat)) is in
    omega (arith, none)

pub all_within : (places : List Place) (pieces : List Piece) (given : List Passage) (node seat : ℕ) → AreGiven places pieces given
    → count_by (is_line_to node seat) given ≤ count_by (is_line_to node seat) (map given_as pieces)
all_within places [] given node seat is =
    let none : count_by (is_line_to node seat) given ≡ 0 = ap (count_by (is_line_to node seat)) is in
    omega (arith, none)
all_within places (piece ∷ pieces) given node seat (first, rest, one, more, whole) =
    let given_parts : count_by (is_line_to node seat) given ≡ count_by (is_line_to node seat) first + count_by (is_line_to node seat) rest =
    ap (count_by (is_line_to node seat)) whole ∙ told_both node seat first rest in
    let line_parts : count_by (is_line_to node seat) (given_as piece ∷ map given_as pieces)
    ≡ count_by (is_line_to node seat) (given_as piece ∷ []) + count_by (is_line_to node seat) (map given_as pieces) =
    told_both node seat (given_as piece ∷ []) (map given_as pieces) in
    omega (arith, given_parts, line_parts, one_within places piece first node seat one, all_within places pieces rest node seat more)

pub piece_within : (places : List Place) (piece : Piece) (given : List Passage) → IsGiven places piece given
    → (node seat : ℕ) → count_by (is_line_to node seat) given ≤ count_by (is_line_to node seat) (given_as piece ∷ [])
piece_within places piece given is node seat = one_within places piece given node seat is

-- a line that was missed before is missed still
missed_before : (node seat : ℕ) (lines given more last : List Passage) → count_by (is_line_to node seat) last ≤ count_by (is_line_to node seat) more
    → MissesALine node seat lines given → MissesALine node seat (lines ++ more) (given ++ last)
missed_before node seat lines given more last within misses =
    omega (arith, within, misses, told_both node seat lines more, told_both node seat given last)

missed_now : (node seat : ℕ) (lines given more last : List Passage) → count_by (is_line_to node seat) given ≤ count_by (is_line_to node seat) lines
    → MissesALine node seat more last → MissesALine node seat (lines ++ more) (given ++ last)
missed_now node seat lines given more last within misses =
    omega (arith, within, misses, told_both node seat lines more, told_both node seat given last)

-- ---- who leaves

-- one that leaves stays no longer where it had a connection
no_seated_leaves : (place : Option Place) (at node : ℕ) → place ≡ Some (Leaving at) → place ≡ Some (Seated node) → ⊥
no_seated_leaves place at node leaves seated = let both : Some (Leaving at) ≡ Some (Seated node) = sym leaves ∙ seated in cc

-- who has a connection had it before
pub seated_before : (lines given : List Passage) (old new : List Place) → OnlyLeave lines given old new
    → (seat node : ℕ) → slice_get new seat ≡ Some (Seated node) → slice_get old seat ≡ Some (Seated node)
seated_before lines given old new leave seat node seated = elim (leave seat) [
  | inl same ↦ sym same ∙ seated
  | inr (at, was, is, misses) ↦ absurd (no_seated_leaves (slice_get new seat) at node is seated)
]

-- from moment to moment
pub leave_twice : (lines given more last : List Passage) (first old new : List Place)
    → ((node seat : ℕ) → count_by (is_line_to node seat) given ≤ count_by (is_line_to node seat) lines)
    → ((node seat : ℕ) → count_by (is_line_to node seat) last ≤ count_by (is_line_to node seat) more)
    → OnlyLeave lines given first old → OnlyLeave more last old new → OnlyLeave (lines ++ more) (given ++ last) first new
leave_twice lines given more last first old new within within_too before now seat = elim (now seat) [
  | inl same ↦ elim (before seat) [
    | inl as_before ↦ inl (same ∙ as_before)
    | inr (at, was, is, misses) ↦ inr (at, was, same ∙ is, missed_before at seat lines given more last (within_too at seat) misses)
  ]
  | inr (node, was, is, misses) ↦ elim (before seat) [
    | inl as_before ↦ inr (node, sym as_before ∙ was, is, missed_now node seat lines given more last (within node seat) misses)
    | inr (at, had, left, missed) ↦ absurd (no_seated_leaves (slice_get old seat) at node left was)
  ]
]

left_at : (places : List Place) (at seat node : ℕ) → slice_get places at ≡ Some (Seated node)
    → (slice_get (set places at (Leaving node)) seat ≡ slice_get places seat)
    ⊎ ((at ≡ seat) × (slice_get places seat ≡ Some (Seated node)) × (slice_get (set places at (Leaving node)) seat ≡ Some (Leaving node)))
left_at [] at seat node seated = inl refl
left_at (place ∷ places) zero zero node seated = inr (refl, seated, refl)
left_at (place ∷ places) zero (suc seat) node seated = inl refl
left_at (place ∷ places) (suc at) zero node seated = inl refl
left_at (place ∷ places) (suc at) (suc seat) node seated = elim (left_at places at seat node seated) [
  | inl same ↦ inl same
  | inr (same, was, is) ↦ inr (ap suc same, was, is)
]

-- its own line is one that a seat is told
own_line : (node seat : ℕ) (line : List ℕ) → count_by (is_line_to node seat) (Told node seat line ∷ []) ≡ 1
own_line node seat line = let here = eq-eqb node node refl in let too = eq-eqb seat seat refl in rw here (rw too refl)

-- one seat left, which wasn't told this line
pub one_leaves : (places : List Place) (at node : ℕ) (line : List ℕ) → slice_get places at ≡ Some (Seated node)
    → OnlyLeave (Told node at line ∷ []) [] places (set places at (Leaving node))
one_leaves places at node line seated seat = elim (left_at places at seat node seated) [
  | inl same ↦ inl same
  | inr (same, was, is) ↦ inr (node, was, is, subst (λ (s : ℕ). MissesALine node s (Told node at line ∷ []) []) same (let one = own_line node at line in omega (arith, one)))
]

-- it has no connection there now
pub no_longer_seated : (places : List Place) (at node : ℕ) → slice_get (set places at (Leaving node)) at ≡ Some (Seated node) → ⊥
no_longer_seated [] zero node seated = cc
no_longer_seated [] (suc at) node seated = cc
no_longer_seated (place ∷ places) zero node seated = cc
no_longer_seated (place ∷ places) (suc at) node seated = no_longer_seated places at node seated

-- ---- where nobody has a connection

abbrev pub NoneSeated : List Place → Type 0
NoneSeated places = (seat node : ℕ) → slice_get places seat ≡ Some (Seated node) → ⊥

-- where all are awaited nobody has one
pub none_seated : (count node : ℕ) → NoneSeated (replicate count (Awaited node))
none_seated zero at zero node is = cc
none_seated zero at (suc seat) node is = cc
none_seated (suc count) at zero node is = cc
none_seated (suc count) at (suc seat) node is = none_seated count at seat node is

same_place : (a b : Place) → ◌≡◌ {A = Option Place} (Some a) (Some b) → a ≡ b
same_place a b same = cc

same_by_each : (xs ys : List Place) → ((seat : ℕ) → slice_get xs seat ≡ slice_get ys seat) → xs ≡ ys
same_by_each [] [] each = refl
same_by_each [] (y ∷ ys) each = let first : None ≡ Some y = each zero in cc
same_by_each (x ∷ xs) [] each = let first : Some x ≡ None = each zero in cc
same_by_each (x ∷ xs) (y ∷ ys) each =
    ap (λ (place : Place). place ∷ xs) (same_place x y (each zero)) ∙ ap (λ (places : List Place). y ∷ places) (same_by_each xs ys (λ seat. each (suc seat)))

-- so nobody leaves
pub none_leaves : (old new : List Place) → NoneSeated old → ((seat : ℕ) → (slice_get new seat ≡ slice_get old seat) ⊎ ((node : ℕ) × (slice_get old seat ≡ Some (Seated node)))) → new ≡ old
none_leaves old new none leave = same_by_each new old (λ seat. elim (leave seat) [
  | inl same ↦ same
  | inr (node, was) ↦ absurd (none seat node was)
])
