-- Cards put at the first of five places, one after another.
use Rattle.std.proofs.Common.{◌≡◌, ℕ, suc, ◌+◌, ◌-◌, ◌<◌, List, [], ◌∷◌, ◌++◌, map, take, drop, set, get_or, length, replicate, Option, Some, None, sym, ap, ◌∙◌, arith}
use Rattle.std.proofs.lemmas.List.{take_more_set, take_more, map-append, drop-drop, drop-set-lt}

pub board_next :
    (board : List (Option ℕ)) (cards : List ℕ) (place d : ℕ) → place < 5 → length board ≡ 5 → place < length cards →
    take place board ≡ map Some (take place cards) → drop place board ≡ replicate (5 - place) None →
    (take (place + 1) (set board place (Some (get_or cards place d))) ≡ map Some (take (place + 1) cards))
    × (drop (place + 1) (set board place (Some (get_or cards place d))) ≡ replicate (5 - (place + 1)) None)
board_next board cards place d below five within front back =
    let card = get_or cards place d in
    let inside : place < length board = omega arith in
    let one_less : 5 - place ≡ suc (5 - (place + 1)) = omega arith in (
      take_more_set board place (Some card) inside ∙ ap (λ f. f ++ Some card ∷ []) front
          ∙ sym (map-append Some (take place cards) (card ∷ [])) ∙ ap (map Some) (sym (take_more cards place d within)),
      drop-set-lt (place + 1) board place (Some card) (omega arith) ∙ sym (drop-drop 1 place board) ∙ ap (drop 1) (back ∙ ap (λ n. replicate n None) one_less),
    )
