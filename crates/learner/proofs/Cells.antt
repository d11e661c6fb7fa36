-- Cells emptied as the front moves on, and the room in cells.
use Rattle.std.proofs.Common.{ℕ, zero, suc, ◌≡◌, ◌≢◌, ◌<◌, ◌≤◌, ◌+◌, ◌-◌, ◌%◌, ◌⊎◌, inl, inr, List, [], ◌∷◌, ◌++◌, refl, sym, ◌∙◌, ap, arith, length, get_or, set, replicate, length-set, get_or-set_same, get_or-set_other, Vec, Global}
use Rattle.std.proofs.lemmas.Bool.Decides.{eqb_tells}
use Rattle.std.proofs.lemmas.List.{map-set, length-map}
use Rattle.paxos_wire.specs.declared.limits.TheConstants.{WINDOW}
use Rattle.learner.specs.declared.tally.Tally.{Tally}
use Rattle.learner.specs.Learning.{emptied}
use Rattle.learner.specs.Cells.{tallies_in, spare_of, spares, spare_at, least_with, least, room_in}

-- ---- emptied cells

pub emptied_length : (slot n : ℕ) (cells : List (List Tally)) → length (emptied slot n cells) ≡ length cells
emptied_length slot zero cells = refl
emptied_length slot (suc n) cells = length-set (emptied slot n cells) ((slot + n) % WINDOW) [] ∙ emptied_length slot n cells

-- a place that is emptied has nothing, wherever it is
nothing_at : (cells : List (List Tally)) (place : ℕ) → get_or (set cells place []) place [] ≡ []
nothing_at [] place = refl
nothing_at (cell ∷ cells) zero = refl
nothing_at (cell ∷ cells) (suc place) = nothing_at cells place

emptied_step : (cells : List (List Tally)) (place other : ℕ) → get_or cells other [] ≡ [] → get_or (set cells place []) other [] ≡ []
emptied_step cells place other h = elim (eqb_tells other place) [
  | inl same ↦ ap (λ k. get_or (set cells place []) k []) same.1 ∙ nothing_at cells place
  | inr ne ↦ get_or-set_other cells place other [] [] ne.1 ∙ h
]

-- the cell of a slot that is passed has nothing
pub emptied_at : (slot n k place : ℕ) (cells : List (List Tally)) → k < n → (slot + k) % WINDOW ≡ place → get_or (emptied slot n cells) place [] ≡ []
emptied_at slot zero k place cells below same = absurd (omega arith)
emptied_at slot (suc n) k place cells below same = elim (eqb_tells k n) [
  | inl last ↦
      ap (λ p. get_or (set (emptied slot n cells) ((slot + n) % WINDOW) []) p []) (sym same ∙ ap (λ m. (slot + m) % WINDOW) last.1)
      ∙ nothing_at (emptied slot n cells) ((slot + n) % WINDOW)
  | inr ne ↦
      let differs = ne.1 in
      emptied_step (emptied slot n cells) ((slot + n) % WINDOW) place (emptied_at slot n k place cells (omega (arith, differs)) same)
]

-- and the others have what they had
pub emptied_other : (slot n place : ℕ) (cells : List (List Tally)) → ((k : ℕ) → k < n → (slot + k) % WINDOW ≢ place) → get_or (emptied slot n cells) place [] ≡ get_or cells place []
emptied_other slot zero place cells none = refl
emptied_other slot (suc n) place cells none =
    get_or-set_other (emptied slot n cells) ((slot + n) % WINDOW) place [] [] (λ same. none n (omega arith) (sym same))
    ∙ emptied_other slot n place cells (λ k below. none k (omega arith))

pub emptied_or : (slot n place : ℕ) (cells : List (List Tally)) → (get_or (emptied slot n cells) place [] ≡ get_or cells place []) ⊎ (get_or (emptied slot n cells) place [] ≡ [])
emptied_or slot zero place cells = inl refl
emptied_or slot (suc n) place cells = elim (eqb_tells place ((slot + n) % WINDOW)) [
  | inl same ↦ inr (ap (λ k. get_or (set (emptied slot n cells) ((slot + n) % WINDOW) []) k []) same.1 ∙ nothing_at (emptied slot n cells) ((slot + n) % WINDOW))
  | inr ne ↦
      let there = get_or-set_other (emptied slot n cells) ((slot + n) % WINDOW) place [] [] ne.1 in
      elim (emptied_or slot n place cells) [ inl was ↦ inl (there ∙ was) | inr none ↦ inr (there ∙ none) ]
]

-- one further slot is passed
pub one_passed : (from slot : ℕ) (cells : List (List Tally)) → from ≤ slot → set (emptied from (slot - from) cells) (slot % WINDOW) [] ≡ emptied from (slot + 1 - from) cells
one_passed from slot cells reached =
    let next : slot + 1 - from ≡ suc (slot - from) = omega arith in
    let at : slot ≡ from + (slot - from) = omega arith in
    ap (λ s. set (emptied from (slot - from) cells) (s % WINDOW) []) at ∙ sym (ap (λ n. emptied from n cells) next)

-- ---- cells that a vector each holds

pub tallies_set : (cells : List (Vec Tally Global)) (place : ℕ) (cell : Vec Tally Global) → tallies_in (set cells place cell) ≡ set (tallies_in cells) place cell.items
tallies_set cells place cell = map-set (λ (v : Vec Tally Global). v.items) cells place cell

pub spares_set : (cells : List (Vec Tally Global)) (place : ℕ) (cell : Vec Tally Global) → spares (set cells place cell) ≡ set (spares cells) place (spare_of cell)
spares_set cells place cell = map-set spare_of cells place cell

pub tallies_get : (cells : List (Vec Tally Global)) (place : ℕ) (cell : Vec Tally Global) → place < length cells → cell ≡ get_or cells place cell
    → cell.items ≡ get_or (tallies_in cells) place []
tallies_get [] place cell within is = absurd (omega arith)
tallies_get (v ∷ vs) zero cell within is = ap (λ (x : Vec Tally Global). x.items) is
tallies_get (v ∷ vs) (suc place) cell within is = tallies_get vs place cell (omega arith) is

pub spares_get : (cells : List (Vec Tally Global)) (place d : ℕ) (cell : Vec Tally Global) → place < length cells → cell ≡ get_or cells place cell
    → spare_of cell ≡ get_or (spares cells) place d
spares_get [] place d cell within is = absurd (omega arith)
spares_get (v ∷ vs) zero d cell within is = ap spare_of is
spares_get (v ∷ vs) (suc place) d cell within is = spares_get vs place d cell (omega arith) is

-- ---- the least of rooms

least_with_most : (m : ℕ) (xs : List ℕ) → least_with m xs ≤ m
least_with_most m [] = omega arith
least_with_most m (x ∷ xs) = let rest = least_with_most m xs in omega arith

least_with_below : (m : ℕ) (xs : List ℕ) (i d : ℕ) → i < length xs → least_with m xs ≤ get_or xs i d
least_with_below m [] i d within = absurd (omega arith)
least_with_below m (x ∷ xs) zero d within = omega arith
least_with_below m (x ∷ xs) (suc i) d within = let rest = least_with_below m xs i d (omega arith) in omega arith

least_with_all : (m v : ℕ) (xs : List ℕ) → v ≤ m → ((i : ℕ) → i < length xs → v ≤ get_or xs i 0) → v ≤ least_with m xs
least_with_all m v [] most all = most
least_with_all m v (x ∷ xs) most all = let rest = least_with_all m v xs most (λ i within. all (suc i) (omega arith)) in let first = all zero (omega arith) in omega arith

least_below : (xs : List ℕ) (i : ℕ) → i < length xs → least xs ≤ get_or xs i 0
least_below [] i within = absurd (omega arith)
least_below (x ∷ xs) zero within = least_with_most x xs
least_below (x ∷ xs) (suc i) within = least_with_below x xs i 0 (omega arith)

least_all : (v : ℕ) (xs : List ℕ) → 0 < length xs → ((i : ℕ) → i < length xs → v ≤ get_or xs i 0) → v ≤ least xs
least_all v [] some all = absurd (omega arith)
least_all v (x ∷ xs) some all = least_with_all x v xs (all zero (omega arith)) (λ i within. all (suc i) (omega arith))

-- where each goes down by no more than this, so does the least
least_step : (d : ℕ) (xs ys : List ℕ) → length xs ≡ length ys → ((i : ℕ) → i < length xs → get_or xs i 0 ≤ get_or ys i 0 + d) → least xs ≤ least ys + d
least_step d [] ys e all = omega arith
least_step d (x ∷ xs) ys e all =
    let most = least_all (least (x ∷ xs) - d) ys (omega (arith, e)) (λ i within.
    let below = least_below (x ∷ xs) i (omega (arith, e, within)) in
    let step = all i (omega (arith, e, within)) in omega (arith, below, step)) in
    omega (arith, most)

-- ---- one cell changed

-- where a cell has what it had, so have all
pub tallies_same : (cells : List (Vec Tally Global)) (place : ℕ) (old new : Vec Tally Global) → place < length cells → old ≡ get_or cells place old
    → new.items ≡ old.items → tallies_in (set cells place new) ≡ tallies_in cells
tallies_same [] place old new within is same = refl
tallies_same (v ∷ vs) zero old new within is same = ap (λ (ts : List Tally). ts ∷ tallies_in vs) (same ∙ ap (λ (x : Vec Tally Global). x.items) is)
tallies_same (v ∷ vs) (suc place) old new within is same = ap (λ (tss : List (List Tally)). v.items ∷ tss) (tallies_same vs place old new (omega arith) is same)

pub spare_there : (cells : List (Vec Tally Global)) (place : ℕ) (new : Vec Tally Global) → place < length cells → get_or (spares (set cells place new)) place 0 ≡ spare_of new
spare_there cells place new within =
    ap (λ (xs : List ℕ). get_or xs place 0) (spares_set cells place new) ∙ get_or-set_same (spares cells) place (spare_of new) 0 (omega (arith, length-map cells spare_of))

pub spare_other : (cells : List (Vec Tally Global)) (place other : ℕ) (new : Vec Tally Global) → other ≢ place → get_or (spares (set cells place new)) other 0 ≡ get_or (spares cells) other 0
spare_other cells place other new differs =
    ap (λ (xs : List ℕ). get_or xs other 0) (spares_set cells place new) ∙ get_or-set_other (spares cells) place other (spare_of new) 0 differs

-- one further cell has room
pub room_more : (votes : ℕ) (cells : List (Vec Tally Global)) (place : ℕ) (new : Vec Tally Global) → place < length cells → votes ≤ spare_of new
    → ((other : ℕ) → other < place → votes ≤ get_or (spares cells) other 0)
    → (other : ℕ) → other < place + 1 → votes ≤ get_or (spares (set cells place new)) other 0
room_more votes cells place new within most rest other below = elim (eqb_tells other place) [
  | inl same ↦
      let there = ap (λ (k : ℕ). get_or (spares (set cells place new)) k 0) same.1 ∙ spare_there cells place new within in
      omega (arith, there)
  | inr ne ↦
      let differs = ne.1 in
      let there = spare_other cells place other new differs in
      let was = rest other (omega (arith, differs)) in omega (arith, there, was)
]

-- where one cell's room goes down by no more than this, so does each
pub spare_less : (d : ℕ) (cells : List (Vec Tally Global)) (place other : ℕ) (old new : Vec Tally Global) → place < length cells → old ≡ get_or cells place old → spare_of old ≤ spare_of new + d
    → spare_at cells other ≤ spare_at (set cells place new) other + d
spare_less d cells place other old new low is more = elim (eqb_tells other place) [
  | inl here ↦
      let there = spare_there cells place new low in
      let was = spares_get cells place 0 old low is in
      let at : spare_at cells other ≡ spare_at cells place = ap (λ (k : ℕ). spare_at cells k) here.1 in
      let now : spare_at (set cells place new) other ≡ spare_at (set cells place new) place = ap (λ (k : ℕ). spare_at (set cells place new) k) here.1 in
      omega (arith, there, was, at, now, more)
  | inr apart ↦ let same = spare_other cells place other new apart.1 in omega (arith, same)
]

pub spare_kept : (cells : List (Vec Tally Global)) (place other : ℕ) (old new : Vec Tally Global) → place < length cells → old ≡ get_or cells place old → spare_of old ≤ spare_of new
    → spare_at cells other ≤ spare_at (set cells place new) other
spare_kept cells place other old new low is more = let less = spare_less 0 cells place other old new low is (omega (arith, more)) in omega (arith, less)

-- ---- the room of all cells

pub room_in_step : (d : ℕ) (old new : List (Vec Tally Global)) → length old ≡ length new → ((place : ℕ) → place < length old → spare_at old place ≤ spare_at new place + d) → room_in old ≤ room_in new + d
room_in_step d old new e all =
    least_step d (spares old) (spares new) (length-map old spare_of ∙ e ∙ sym (length-map new spare_of)) (λ i within. all i (omega (arith, within, length-map old spare_of)))

pub room_in_at : (cells : List (Vec Tally Global)) (place : ℕ) → place < length cells → room_in cells ≤ spare_at cells place
room_in_at cells place within = least_below (spares cells) place (omega (arith, within, length-map cells spare_of))

pub room_in_all : (v : ℕ) (cells : List (Vec Tally Global)) → 0 < length cells → ((place : ℕ) → place < length cells → v ≤ spare_at cells place) → v ≤ room_in cells
room_in_all v cells some all = least_all v (spares cells) (omega (arith, some, length-map cells spare_of)) (λ i within. all i (omega (arith, within, length-map cells spare_of)))

-- ---- new cells

replicated : (n : ℕ) (x : List Tally) → replicate n x ++ x ∷ [] ≡ replicate (suc n) x
replicated zero x = refl
replicated (suc n) x = ap (λ (xs : List (List Tally)). x ∷ xs) (replicated n x)

tallies_behind : (cells : List (Vec Tally Global)) (new : Vec Tally Global) → tallies_in (cells ++ new ∷ []) ≡ tallies_in cells ++ new.items ∷ []
tallies_behind [] new = refl
tallies_behind (v ∷ vs) new = ap (λ (tss : List (List Tally)). v.items ∷ tss) (tallies_behind vs new)

-- one further empty cell
pub one_new : (n : ℕ) (cells : List (Vec Tally Global)) (new : Vec Tally Global) → tallies_in cells ≡ replicate n [] → new.items ≡ []
    → tallies_in (cells ++ new ∷ []) ≡ replicate (n + 1) []
one_new n cells new before none =
    tallies_behind cells new
    ∙ ap (λ (ts : List Tally). tallies_in cells ++ ts ∷ []) none
    ∙ ap (λ (tss : List (List Tally)). tss ++ [] ∷ []) before
    ∙ replicated n []
    ∙ ap (λ (k : ℕ). replicate k []) (let e : suc n ≡ n + 1 = omega arith in e)
