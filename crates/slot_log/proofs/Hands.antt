-- How many of a table's hands are finished, and what stands at a number.
use Rattle.std.proofs.Common.{◌≡◌, ℕ, zero, suc, ◌+◌, ◌<◌, Bool, true, cond, List, [], ◌∷◌, ◌++◌, map, reverse, length, take, drop, Option, Some, None, refl, sym, ap, ◌∙◌, arith}
use Rattle.std.specs.List.{AllByRecursion, count_by, sum_by, slice_get}
use Rattle.std.specs.Option.{option_to_list}
use Rattle.std.proofs.lemmas.List.{take_at, drop_at, append-nil, reverse-append, reverse-reverse, length-reverse, length-map}
use Rattle.std.proofs.lemmas.List.Sums.{sum_by-cons, sum_by_push}
use Rattle.game_def.specs.Game.{Game}
use Rattle.slot_log.specs.Hand.{Hand}
use Rattle.slot_log.specs.Dealer.{is_finished, finished_count}
use Rattle.slot_log.specs.PlayedHand.{hand_of}
use Rattle.slot_log.specs.declared.played_hand.PlayedHand.{PlayedHand}

-- what stands in front stays where it is
pub in_front : {X : Type 0} (xs ys : List X) (i : ℕ) → i < length xs → slice_get (xs ++ ys) i ≡ slice_get xs i
in_front [] ys i below = absurd (omega (arith, below))
in_front (x ∷ xs) ys zero below = refl
in_front (x ∷ xs) ys (suc i) below = in_front xs ys i (omega (arith, below))

pub got_before : {X : Type 0} (xs ys : List X) (i : ℕ) (x : X) → slice_get xs i ≡ Some x → slice_get (xs ++ ys) i ≡ Some x
got_before [] ys i x e = cc
got_before (y ∷ xs) ys zero x e = e
got_before (y ∷ xs) ys (suc i) x e = got_before xs ys i x e

-- two lists of one length in front of two others
pub same_fronts : (xs ys p q : List ℕ) → length xs ≡ length ys → xs ++ p ≡ ys ++ q → (xs ≡ ys) × (p ≡ q)
same_fronts xs ys p q long same = (
  sym (take_at xs p (length xs) refl) ∙ ap (λ (l : List ℕ). take (length xs) l) same ∙ take_at ys q (length xs) (sym long),
  sym (drop_at xs p (length xs) refl) ∙ ap (λ (l : List ℕ). drop (length xs) l) same ∙ drop_at ys q (length xs) (sym long),
)

-- what stands behind all others
pub at_end : {X : Type 0} (xs : List X) (x : X) → slice_get (xs ++ x ∷ []) (length xs) ≡ Some x
at_end [] x = refl
at_end (y ∷ xs) x = at_end xs x

pub reverse-cons : {A : Type 0} (x : A) (xs : List A) → reverse (x ∷ xs) ≡ reverse xs ++ x ∷ []
reverse-cons x xs = reverse-append (x ∷ []) xs

sum_by-reverse : {X : Type 0} (f : X → ℕ) (xs : List X) → sum_by f (reverse xs) ≡ sum_by f xs
sum_by-reverse f [] = refl
sum_by-reverse f (x ∷ xs) =
    ap (sum_by f) (reverse-cons x xs) ∙ omega (arith, sum_by_push f (reverse xs) x, sum_by-cons f x xs, sum_by-reverse f xs)

pub count_all : {X : Type 0} (p : X → Bool) (xs : List X) → AllByRecursion (λ x. p x ≡ true) xs → count_by p xs ≡ length xs
count_all {X} p [] all = refl
count_all {X} p (x ∷ xs) all =
    let passes : p x ≡ true = all.0 in
    let here : ◌≡◌ {A = ℕ} (cond (p x) 1 0) 1 = rw passes refl in
    omega (arith, sum_by-cons (λ y. cond (p y) 1 0) x xs, count_all p xs all.1)

-- all hands, newest first
abbrev pub hands_from : Option PlayedHand → List PlayedHand → List Hand
hands_from newest earlier = map hand_of (option_to_list newest) ++ reverse (map hand_of earlier)

all_mapped : (p : Hand → Bool) (hands : List PlayedHand) → AllByRecursion (λ hand. p (hand_of hand) ≡ true) hands → AllByRecursion (λ hand. p hand ≡ true) (map hand_of hands)
all_mapped p [] all = tt
all_mapped p (hand ∷ hands) all = (all.0, all_mapped p hands all.1)

pub finished_before : (game : Game) (earlier : List PlayedHand) → AllByRecursion (λ hand. is_finished game (hand_of hand) ≡ true) earlier → finished_count game (reverse (map hand_of earlier)) ≡ length earlier
finished_before game earlier all =
    sum_by-reverse (λ hand. cond (is_finished game hand) 1 0) (map hand_of earlier)
    ∙ count_all (is_finished game) (map hand_of earlier) (all_mapped (is_finished game) earlier all)
    ∙ length-map earlier hand_of

pub finished_with : (game : Game) (newest : Hand) (earlier : List Hand) → finished_count game (newest ∷ earlier) ≡ cond (is_finished game newest) 1 0 + finished_count game earlier
finished_with game newest earlier = sum_by-cons (λ hand. cond (is_finished game hand) 1 0) newest earlier

pub length-earlier : (earlier : List PlayedHand) → length (reverse (map hand_of earlier)) ≡ length earlier
length-earlier earlier = length-reverse (map hand_of earlier) ∙ length-map earlier hand_of

-- oldest first
pub reverse-hands : (newest : Option PlayedHand) (earlier : List PlayedHand) → reverse (hands_from newest earlier) ≡ map hand_of earlier ++ map hand_of (option_to_list newest)
reverse-hands None earlier = reverse-reverse (map hand_of earlier) ∙ sym (append-nil (map hand_of earlier))
reverse-hands (Some hand) earlier =
    reverse-cons (hand_of hand) (reverse (map hand_of earlier)) ∙ ap (λ hs. hs ++ hand_of hand ∷ []) (reverse-reverse (map hand_of earlier))
