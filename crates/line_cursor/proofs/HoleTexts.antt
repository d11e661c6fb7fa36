-- The hole cards in a line, one position more at a time.
use Rattle.std.proofs.Common.{◌≡◌, ℕ, ◌+◌, List, [], ◌∷◌, ◌++◌, map, length, sym, ap, ◌∙◌, arith, append_assoc, append-nil}
use Rattle.std.specs.List.{flat_map, range_with_len}
use Rattle.std.proofs.lemmas.Grind.{flat_map-append}
use Rattle.std.proofs.lemmas.List.FromFn.{map-range_with_len_more, length-range_with_len}
use Rattle.std.proofs.lemmas.List.{length-map}
use Rattle.matchstate.specs.Cards.{cards_text, holes_text}
use Rattle.matchstate.specs.SeenCards.{separator}

-- one more position
joined_more : (holes : List (List ℕ)) (hole : List ℕ) → holes_text (holes ++ hole ∷ []) ≡ holes_text holes ++ (separator (length holes) ++ cards_text hole)
joined_more [] hole = append-nil (cards_text hole)
joined_more (first ∷ more) hole =
    let each : List ℕ → List ℕ = λ cards. 124 ∷ cards_text cards in
    ap (λ (text : List ℕ). cards_text first ++ text) (flat_map-append each more (hole ∷ []) ∙ ap (λ (text : List ℕ). flat_map each more ++ text) (append-nil (each hole)))
    ∙ sym (append_assoc (cards_text first) (flat_map each more) (each hole))

pub holes_more : (hole : ℕ → List ℕ) (position : ℕ) (before text marked more : List ℕ) → text ≡ before ++ holes_text (map hole (range_with_len 0 position))
    → marked ≡ text ++ separator position → more ≡ marked ++ cards_text (hole position) → more ≡ before ++ holes_text (map hole (range_with_len 0 (position + 1)))
holes_more hole position before text marked more so_far mark then_cards =
    let holes : List (List ℕ) = map hole (range_with_len 0 position) in
    let many : length holes ≡ position = length-map (range_with_len 0 position) hole ∙ length-range_with_len 0 position in
    let next : map hole (range_with_len 0 (position + 1)) ≡ holes ++ hole position ∷ [] = map-range_with_len_more hole 0 position position (omega arith) in
    let longer : holes_text (map hole (range_with_len 0 (position + 1))) ≡ holes_text holes ++ (separator position ++ cards_text (hole position)) =
    ap holes_text next ∙ (joined_more holes (hole position) ∙ ap (λ (n : ℕ). holes_text holes ++ (separator n ++ cards_text (hole position))) many) in
    then_cards
    ∙ (ap (λ (l : List ℕ). l ++ cards_text (hole position)) (mark ∙ ap (λ (l : List ℕ). l ++ separator position) so_far)
    ∙ (append_assoc (before ++ holes_text holes) (separator position) (cards_text (hole position))
    ∙ (append_assoc before (holes_text holes) (separator position ++ cards_text (hole position)) ∙ ap (λ (l : List ℕ). before ++ l) (sym longer))))
