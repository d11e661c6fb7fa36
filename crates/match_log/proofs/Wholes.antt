-- Lines as their pieces, one behind another.
use Rattle.std.proofs.Common.{◌≡◌, ℕ, ℤ, List, [], ◌∷◌, ◌++◌, codes, decimal, ap, ◌∙◌, append_assoc}
use Rattle.match_log.specs.Lines.{header_line, values_field, names_field, score_text}

pub header_is : (name game : List ℕ) (hands : ℕ) (rest : List ℕ) → header_line name game hands ++ rest ≡ codes "# name/game/hands " ++ (name ++ 32 ∷ (game ++ 32 ∷ (decimal hands ++ 10 ∷ rest)))
unfolding header_line
header_is name game hands rest =
    append_assoc (codes "# name/game/hands ") (name ++ 32 ∷ (game ++ 32 ∷ (decimal hands ++ 10 ∷ []))) rest
    ∙ ap (λ (t : List ℕ). codes "# name/game/hands " ++ t) (append_assoc name (32 ∷ (game ++ 32 ∷ (decimal hands ++ 10 ∷ []))) rest
    ∙ ap (λ (t : List ℕ). name ++ 32 ∷ t) (append_assoc game (32 ∷ (decimal hands ++ 10 ∷ [])) rest
    ∙ ap (λ (t : List ℕ). game ++ 32 ∷ t) (append_assoc (decimal hands) (10 ∷ []) rest)))

pub score_is : (totals : List ℤ) (names : List (List ℕ)) (rest : List ℕ) → score_text totals names ++ rest ≡ codes "SCORE:" ++ (values_field totals ++ 58 ∷ (names_field names ++ 10 ∷ rest))
unfolding score_text
score_is totals names rest =
    append_assoc (codes "SCORE:") (values_field totals ++ 58 ∷ (names_field names ++ 10 ∷ [])) rest
    ∙ ap (λ (t : List ℕ). codes "SCORE:" ++ t) (append_assoc (values_field totals) (58 ∷ (names_field names ++ 10 ∷ [])) rest
    ∙ ap (λ (t : List ℕ). values_field totals ++ 58 ∷ t) (append_assoc (names_field names) (10 ∷ []) rest))
