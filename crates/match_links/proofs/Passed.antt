-- What one more passage leaves of the lines and the logs.
use Rattle.std.proofs.Common.{◌≡◌, ℕ, zero, suc, ◌+◌, ◌≤◌, ◌<◌, ◌==◌, if◌then◌else◌, List, [], ◌∷◌, ◌++◌, map, length, get_or, set, refl, ap, subst, ◌∙◌, arith, rules}
use Rattle.std.proofs.lemmas.List.{append-nil}
use Rattle.match_links.specs.Passages.{Passage, Came, Told, Emptied, Logged, sat, came, lines_in, logged_by, log_after, log_of}

lines_more : (xs ys : List Passage) → lines_in (xs ++ ys) ≡ lines_in xs ++ lines_in ys
lines_more [] ys = refl
lines_more (Came node seat bytes ∷ xs) ys = lines_more xs ys
lines_more (Told node seat line ∷ xs) ys = ap (λ ls. Told node seat line ∷ ls) (lines_more xs ys)
lines_more (Emptied node ∷ xs) ys = lines_more xs ys
lines_more (Logged node text ∷ xs) ys = lines_more xs ys

more : (node : ℕ) (log : List ℕ) (xs ys : List Passage) → log_after node log (xs ++ ys) ≡ log_after node (log_after node log xs) ys
more node log [] ys = refl
more node log (x ∷ xs) ys = more node (logged_by node log x) xs ys

-- a line more
pub lines_when_told : (passed : List Passage) (node seat : ℕ) (line : List ℕ) → lines_in (passed ++ Told node seat line ∷ []) ≡ lines_in passed ++ Told node seat line ∷ []
lines_when_told passed node seat line = lines_more passed (Told node seat line ∷ [])

-- no line more
pub lines_when_came : (passed : List Passage) (node seat : ℕ) (bytes : List ℕ) → lines_in (passed ++ came node seat bytes) ≡ lines_in passed
lines_when_came passed node seat [] = ap lines_in (append-nil passed)
lines_when_came passed node seat (byte ∷ bytes) = lines_more passed (Came node seat (byte ∷ bytes) ∷ []) ∙ append-nil (lines_in passed)

pub lines_when_sat : (passed : List Passage) (node seat : ℕ) → lines_in (passed ++ sat node seat ∷ []) ≡ lines_in passed
lines_when_sat passed node seat = lines_more passed (sat node seat ∷ []) ∙ append-nil (lines_in passed)

pub lines_when_emptied : (passed : List Passage) (node : ℕ) → lines_in (passed ++ Emptied node ∷ []) ≡ lines_in passed
lines_when_emptied passed node = lines_more passed (Emptied node ∷ []) ∙ append-nil (lines_in passed)

pub lines_when_logged : (passed : List Passage) (node : ℕ) (text : List ℕ) → lines_in (passed ++ Logged node text ∷ []) ≡ lines_in passed
lines_when_logged passed node text = lines_more passed (Logged node text ∷ []) ∙ append-nil (lines_in passed)

-- a log grows by what is put behind it, and is emptied; nothing else changes it
pub log_when_told : (passed : List Passage) (i node seat : ℕ) (line : List ℕ) → log_of (passed ++ Told node seat line ∷ []) i ≡ log_of passed i
log_when_told passed i node seat line = more i [] passed (Told node seat line ∷ [])

pub log_when_came : (passed : List Passage) (i node seat : ℕ) (bytes : List ℕ) → log_of (passed ++ came node seat bytes) i ≡ log_of passed i
log_when_came passed i node seat [] = ap (λ ps. log_of ps i) (append-nil passed)
log_when_came passed i node seat (byte ∷ bytes) = more i [] passed (Came node seat (byte ∷ bytes) ∷ [])

pub log_when_sat : (passed : List Passage) (i node seat : ℕ) → log_of (passed ++ sat node seat ∷ []) i ≡ log_of passed i
log_when_sat passed i node seat = more i [] passed (sat node seat ∷ [])

pub log_when_emptied : (passed : List Passage) (i node : ℕ) → log_of (passed ++ Emptied node ∷ []) i ≡ (if node == i then [] else log_of passed i)
log_when_emptied passed i node = more i [] passed (Emptied node ∷ [])

pub log_when_logged : (passed : List Passage) (i node : ℕ) (text : List ℕ) → log_of (passed ++ Logged node text ∷ []) i ≡ (if node == i then log_of passed i ++ text else log_of passed i)
log_when_logged passed i node text = more i [] passed (Logged node text ∷ [])

-- ---- lists

same : (n i : ℕ) → (n == i) ≡ (suc n == suc i)
same n i = search rules

-- of a list in which one is put at its place, that one is found there and the others at theirs
pub put_in : {A : Type 0} (f : A → List ℕ) (xs : List A) (n i : ℕ) (v : A) → n < length xs → get_or (map f (set xs n v)) i [] ≡ (if n == i then f v else get_or (map f xs) i [])
put_in f [] n i v within = absurd (omega (arith, within))
put_in f (x ∷ xs) zero zero v within = refl
put_in f (x ∷ xs) zero (suc i) v within = search rules
put_in f (x ∷ xs) (suc n) zero v within = search rules
put_in f (x ∷ xs) (suc n) (suc i) v within = put_in f xs n i v (omega (arith, within)) ∙ ap (λ b. if b then f v else get_or (map f xs) i []) (same n i)

-- where each is empty, and one more that is
pub none_more : {A : Type 0} (f : A → List ℕ) (xs : List A) (v : A) → ((i : ℕ) → get_or (map f xs) i [] ≡ []) → f v ≡ [] → (i : ℕ) → get_or (map f (xs ++ v ∷ [])) i [] ≡ []
none_more f [] v none empty zero = empty
none_more f [] v none empty (suc i) = refl
none_more f (x ∷ xs) v none empty zero = none zero
none_more f (x ∷ xs) v none empty (suc i) = none_more f xs v (λ k. none (suc k)) empty i

-- the one at its place got more
pub put_more : {A : Type 0} (f : A → List ℕ) (xs : List A) (n i : ℕ) (v : A) (text : List ℕ) → n < length xs → f v ≡ get_or (map f xs) n [] ++ text
    → get_or (map f (set xs n v)) i [] ≡ (if n == i then get_or (map f xs) i [] ++ text else get_or (map f xs) i [])
put_more f [] n i v text within is = absurd (omega (arith, within))
put_more f (x ∷ xs) zero zero v text within is = is
put_more f (x ∷ xs) zero (suc i) v text within is = search rules
put_more f (x ∷ xs) (suc n) zero v text within is = search rules
put_more f (x ∷ xs) (suc n) (suc i) v text within is =
    put_more f xs n i v text (omega (arith, within)) is ∙ ap (λ b. if b then get_or (map f xs) i [] ++ text else get_or (map f xs) i []) (same n i)

-- the one at its place has what was there
pub put_same : {A : Type 0} (f : A → List ℕ) (xs : List A) (n : ℕ) (v : A) → n < length xs → f v ≡ get_or (map f xs) n [] → map f (set xs n v) ≡ map f xs
put_same f [] n v within is = refl
put_same f (x ∷ xs) zero v within is = ap (λ y. y ∷ map f xs) is
put_same f (x ∷ xs) (suc n) v within is = ap (λ ys. f x ∷ ys) (put_same f xs n v (omega (arith, within)) is)

pub in_place : {A : Type 0} (f : A → List ℕ) (xs : List A) (n : ℕ) (d : A) → n < length xs → f (get_or xs n d) ≡ get_or (map f xs) n []
in_place f [] n d within = absurd (omega (arith, within))
in_place f (x ∷ xs) zero d within = refl
in_place f (x ∷ xs) (suc n) d within = in_place f xs n d (omega (arith, within))

-- ---- what is counted of each

pub count_at : {A : Type 0} (f : A → ℕ) (xs : List A) (n : ℕ) (d : A) → n < length xs → f (get_or xs n d) ≡ get_or (map f xs) n 0
count_at f [] n d within = absurd (omega (arith, within))
count_at f (x ∷ xs) zero d within = refl
count_at f (x ∷ xs) (suc n) d within = count_at f xs n d (omega (arith, within))

-- where one is put at its place of which as much is counted, and so much more was, no more than that is lost there, and nothing elsewhere
pub count_left : {A : Type 0} (f : A → ℕ) (xs : List A) (n i used : ℕ) (v : A) → n < length xs → get_or (map f xs) n 0 ≤ f v + used
    → get_or (map f xs) i 0 ≤ get_or (map f (set xs n v)) i 0 + (if n == i then used else 0)
count_left f [] n i used v within is = absurd (omega (arith, within))
count_left f (x ∷ xs) zero zero used v within is = is
count_left f (x ∷ xs) zero (suc i) used v within is = omega arith
count_left f (x ∷ xs) (suc n) zero used v within is = omega arith
count_left f (x ∷ xs) (suc n) (suc i) used v within is =
    subst (λ b. get_or (map f xs) i 0 ≤ get_or (map f (set xs n v)) i 0 + (if b then used else 0)) (same n i) (count_left f xs n i used v (omega (arith, within)) is)

-- and where as much is counted of it as before, nothing is lost
pub count_kept : {A : Type 0} (f : A → ℕ) (xs : List A) (n i : ℕ) (v : A) → n < length xs → get_or (map f xs) n 0 ≤ f v → get_or (map f xs) i 0 ≤ get_or (map f (set xs n v)) i 0
count_kept f [] n i v within is = absurd (omega (arith, within))
count_kept f (x ∷ xs) zero zero v within is = is
count_kept f (x ∷ xs) zero (suc i) v within is = omega arith
count_kept f (x ∷ xs) (suc n) zero v within is = omega arith
count_kept f (x ∷ xs) (suc n) (suc i) v within is = count_kept f xs n i v (omega (arith, within)) is

-- where so much is counted of each before it, and of the one that is put at its place
pub count_more : {A : Type 0} (f : A → ℕ) (xs : List A) (n text : ℕ) (v : A) → n < length xs → text ≤ f v → ((i : ℕ) → i < n → text ≤ get_or (map f xs) i 0)
    → (i : ℕ) → i < n + 1 → text ≤ get_or (map f (set xs n v)) i 0
count_more f [] n text v within here before i below = absurd (omega (arith, within))
count_more f (x ∷ xs) zero text v within here before zero below = here
count_more f (x ∷ xs) zero text v within here before (suc i) below = absurd (omega (arith, below))
count_more f (x ∷ xs) (suc n) text v within here before zero below = before zero (omega arith)
count_more f (x ∷ xs) (suc n) text v within here before (suc i) below =
    count_more f xs n text v (omega (arith, within)) here (λ k less. before (suc k) (omega (arith, less))) i (omega (arith, below))
