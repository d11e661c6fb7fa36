-- What holds of lists of which each item says the one in its place.
use Rattle.std.proofs.Common.{◌≡◌, ℕ, zero, suc, ◌<◌, List, [], ◌∷◌, ◌++◌, length, get_or, refl, ap, arith}
use Rattle.std.specs.List.{All}
use Rattle.toml.specs.Data.{Data}
use Rattle.match_file.specs.Said.{EachSays}

-- one more on both sides
pub each-push : {T : Type 0} (Says : Data → T → Type 0) (ds : List Data) (xs : List T) (d : Data) (x : T) → EachSays Says ds xs → Says d x → EachSays Says (ds ++ d ∷ []) (xs ++ x ∷ [])
each-push Says [] [] d x each says = (says, tt)
each-push Says [] (y ∷ xs) d x each says = absurd each
each-push Says (e ∷ ds) [] d x each says = absurd each
each-push Says (e ∷ ds) (y ∷ xs) d x each says = (each.0, each-push Says ds xs d x each.1 says)

-- they are as many
pub each-length : {T : Type 0} (Says : Data → T → Type 0) (ds : List Data) (xs : List T) → EachSays Says ds xs → length ds ≡ length xs
each-length Says [] [] each = refl
each-length Says [] (y ∷ xs) each = absurd each
each-length Says (e ∷ ds) [] each = absurd each
each-length Says (e ∷ ds) (y ∷ xs) each = ap suc (each-length Says ds xs each.1)

-- an item at a place says something
pub each-at : {T : Type 0} (Says : Data → T → Type 0) (ds : List Data) (xs : List T) (i : ℕ) (d : Data) → i < length ds → EachSays Says ds xs → (x : T) × Says (get_or ds i d) x
each-at Says [] xs i d within each = absurd (omega arith)
each-at Says (e ∷ ds) [] i d within each = absurd each
each-at Says (e ∷ ds) (y ∷ xs) zero d within each = (y, each.0)
each-at Says (e ∷ ds) (y ∷ xs) (suc i) d within each = each-at Says ds xs i d (omega arith) each.1

-- where an item says one thing alone, so do the items
pub each-same : {T : Type 0} (Says : Data → T → Type 0) → ((d : Data) (x y : T) → Says d x → Says d y → x ≡ y) → (ds : List Data) (xs ys : List T) → EachSays Says ds xs → EachSays Says ds ys → xs ≡ ys
each-same Says one [] [] [] left right = refl
each-same Says one [] [] (y ∷ ys) left right = absurd right
each-same Says one [] (x ∷ xs) ys left right = absurd left
each-same Says one (d ∷ ds) [] ys left right = absurd left
each-same Says one (d ∷ ds) (x ∷ xs) [] left right = absurd right
each-same Says one (d ∷ ds) (x ∷ xs) (y ∷ ys) left right =
    let head : x ≡ y = one d x y left.0 right.0 in
    let tail : xs ≡ ys = each-same Says one ds xs ys left.1 right.1 in
    cc

-- what holds of whatever an item says holds of all
pub each-all : {T : Type 0} (Says : Data → T → Type 0) (P : T → Type 0) → ((d : Data) (x : T) → Says d x → P x) → (ds : List Data) (xs : List T) → EachSays Says ds xs → All P xs
each-all Says P from ds [] each = λ k d within. absurd (omega arith)
each-all Says P from [] (x ∷ xs) each = absurd each
each-all Says P from (d ∷ ds) (x ∷ xs) each = λ k z within. at_place P x xs (from d x each.0) (each-all Says P from ds xs each.1) k z within
  where
    at_place : {T : Type 0} (P : T → Type 0) (x : T) (xs : List T) → P x → All P xs → All P (x ∷ xs)
    at_place P x xs here more zero z within = here
    at_place P x xs here more (suc k) z within = more k z (omega arith)
