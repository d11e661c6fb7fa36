-- A script is cut into lines in one way.
use Rattle.std.proofs.Common.{◌≡◌, ℕ, List, [], ◌∷◌, ◌++◌, reverse, refl, sym, ◌∙◌, ap, subst, append_assoc}
use Rattle.std.specs.List.{AllByRecursion, flat_map}
use Rattle.std.proofs.lemmas.List.{reverse-reverse}
use Rattle.matchstate.proofs.Fronts.{stands_within, cut_alike}
use Rattle.streamed.specs.Script.{AreLines, HasNoFeed}
use Rattle.slot_log.proofs.Inside.{all_reversed}

-- the first line, its line feed and what stands behind it
first_line : (line : List ℕ) (lines : List (List ℕ)) (rest : List ℕ) → flat_map (λ l. l ++ 10 ∷ []) (line ∷ lines) ++ rest ≡ line ++ 10 ∷ (flat_map (λ l. l ++ 10 ∷ []) lines ++ rest)
first_line line lines rest =
    let others : List ℕ = flat_map (λ l. l ++ 10 ∷ []) lines in
    append_assoc (line ++ 10 ∷ []) others rest ∙ append_assoc line (10 ∷ []) (others ++ rest)

-- lines oldest first
cut_once : (lines others : List (List ℕ)) (rest behind : List ℕ) → AllByRecursion HasNoFeed lines → AllByRecursion HasNoFeed others → HasNoFeed rest → HasNoFeed behind
    → flat_map (λ l. l ++ 10 ∷ []) lines ++ rest ≡ flat_map (λ l. l ++ 10 ∷ []) others ++ behind → lines ≡ others
cut_once [] [] rest behind whole all partial clear e = refl
cut_once [] (other ∷ others) rest behind whole all partial clear e =
    absurd (stands_within 10 other (flat_map (λ l. l ++ 10 ∷ []) others ++ behind) (subst HasNoFeed (e ∙ first_line other others behind) partial))
cut_once (line ∷ lines) [] rest behind whole all partial clear e =
    absurd (stands_within 10 line (flat_map (λ l. l ++ 10 ∷ []) lines ++ rest) (subst HasNoFeed (sym e ∙ first_line line lines rest) clear))
cut_once (line ∷ lines) (other ∷ others) rest behind whole all partial clear e =
    let cut = cut_alike 10 line other _ _ whole.0 all.0 (sym (first_line line lines rest) ∙ e ∙ first_line other others behind) in
    ap (λ (l : List ℕ). l ∷ lines) cut.0 ∙ ap (λ (ls : List (List ℕ)). other ∷ ls) (cut_once lines others rest behind whole.1 all.1 partial clear cut.1)

pub same_lines : (bytes : List ℕ) (lines others : List (List ℕ)) (rest behind : List ℕ) → AreLines bytes lines rest → AreLines bytes others behind → lines ≡ others
same_lines bytes lines others rest behind are those =
    let same = cut_once (reverse lines) (reverse others) rest behind (all_reversed HasNoFeed lines are.whole) (all_reversed HasNoFeed others those.whole) are.partial those.partial (sym are.joined ∙ those.joined) in
    sym (reverse-reverse lines) ∙ ap reverse same ∙ reverse-reverse others
