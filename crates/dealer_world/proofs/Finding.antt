-- What stands under a number in a record.
use Rattle.std.proofs.Common.{◌≡◌, ℕ, zero, suc, ◌-◌, ◌≤◌, List, [], ◌∷◌, ◌++◌, map, length, Some, ap, ◌∙◌, arith}
use Rattle.std.specs.Prelude.{slice_get}
use Rattle.std.specs.Option.{option_map}
use Rattle.std.proofs.lemmas.Option.{slice_get-map}
use Rattle.dealer_node.specs.Texts.{Marked}
use Rattle.dealer_node.specs.declared.reader.Reader.{Reader}
use Rattle.dealer_world.specs.Records.{Piece}
use Rattle.dealer_world.specs.Views.{piece_of}
use Rattle.dealer_world.specs.KeptShown.{piece_by}
use Rattle.dealer_world.specs.Recordings.{text_by}

behind_others : {A : Type 0} (xs ys : List A) (number : ℕ) → length xs ≤ number → slice_get (xs ++ ys) number ≡ slice_get ys (number - length xs)
behind_others [] ys number past = let e : number ≡ number - 0 = omega arith in ap (slice_get ys) e
behind_others (x ∷ xs) ys zero past = absurd (omega (arith, past))
behind_others (x ∷ xs) ys (suc number) past =
    let e : number - length xs ≡ suc number - suc (length xs) = omega arith in behind_others xs ys number (omega (arith, past)) ∙ ap (slice_get ys) e

pub shown_at : (pieces : List Piece) (node start : ℕ) (shown : List (Marked Reader)) (number : ℕ) (reader : Reader) (text : List ℕ) → length pieces ≤ number
    → slice_get shown (number - length pieces) ≡ Some (record { mark = reader; text = text })
    → slice_get (pieces ++ map (piece_of node start) (map text_by shown)) number ≡ Some (piece_by node start reader text)
shown_at pieces node start shown number reader text past here =
    let rest = map (piece_of node start) (map text_by shown) in
    behind_others pieces rest number past
    ∙ (slice_get-map (piece_of node start) (map text_by shown) (number - length pieces)
    ∙ (ap (option_map (piece_of node start)) (slice_get-map text_by shown (number - length pieces))
    ∙ ap (λ found. option_map (piece_of node start) (option_map text_by found)) here))
