-- A deal's text shows all its cards.
use Rattle.std.proofs.Common.{◌≡◌, ℕ, zero, suc, ◌+◌, ◌-◌, ◌*◌, ◌<◌, ◌≤◌, true, false, cond, List, [], ◌∷◌, ◌++◌, map, length, take, drop, get_or, replicate, Option, refl, sym, ap, ◌∙◌, arith}
use Rattle.std.specs.List.{concat, range_with_len}
use Rattle.std.proofs.lemmas.List.{append-nil, take-append-drop, take-take, drop-take, drop-drop, take_more, map-append, get_or-replicate}
use Rattle.card_core.specs.Deal.{IsDeal, hole_of, board_of}
use Rattle.matchstate.specs.Cards.{holes_seen, holes_of, boards_of, all_cards}
use Rattle.matchstate.specs.SeenCards.{hole_in, seen_at}
use Rattle.matchstate.proofs.Joined.{concat_push}

pub gather_more : (holes : List (Option (List ℕ))) (p : ℕ) (d : Option (List ℕ)) → p < length holes → concat (map hole_in (take (p + 1) holes)) ≡ concat (map hole_in (take p holes)) ++ hole_in (get_or holes p d)
gather_more holes p d below =
    ap (λ hs. concat (map hole_in hs)) (take_more holes p d below)
    ∙ ap concat (map-append hole_in (take p holes) (get_or holes p d ∷ []))
    ∙ concat_push (map hole_in (take p holes)) (hole_in (get_or holes p d))

take-add : (m k : ℕ) (xs : List ℕ) → take (m + k) xs ≡ take m xs ++ take k (drop m xs)
take-add m k xs =
    sym (take-append-drop m (take (m + k) xs))
    ∙ ap (λ f. f ++ drop m (take (m + k) xs)) (take-take m (m + k) xs (omega arith)) ∙ ap (λ r. take m xs ++ r) (drop-take m k xs)

concat_holes : (deal : List ℕ) (a n : ℕ) → concat (map (hole_of deal) (range_with_len a n)) ≡ take (2 * n) (drop (2 * a) deal)
concat_holes deal a zero = refl
concat_holes deal a (suc n) =
    let two : 2 + 2 * n ≡ 2 * suc n = omega arith in
    let next : 2 * a + 2 ≡ 2 * (a + 1) = omega arith in
    let later : drop 2 (drop (2 * a) deal) ≡ drop (2 * (a + 1)) deal = drop-drop 2 (2 * a) deal ∙ ap (λ k. drop k deal) next in
    ap (λ r. hole_of deal a ++ r) (concat_holes deal (a + 1) n ∙ ap (take (2 * n)) (sym later))
    ∙ sym (take-add 2 (2 * n) (drop (2 * a) deal)) ∙ ap (λ k. take k (drop (2 * a) deal)) two

concat_parts : (b : List ℕ) → concat (take 3 b ∷ take 1 (drop 3 b) ∷ drop 4 b ∷ []) ≡ b
concat_parts b =
    let river : drop 1 (drop 3 b) ≡ drop 4 b = drop-drop 1 3 b in
    let later : take 1 (drop 3 b) ++ (drop 4 b ++ []) ≡ drop 3 b =
    ap (λ r. take 1 (drop 3 b) ++ r) (append-nil (drop 4 b) ∙ sym river) ∙ take-append-drop 1 (drop 3 b) in
    ap (λ r. take 3 b ++ r) later ∙ take-append-drop 3 b

pub all_of : (players : ℕ) (deal : List ℕ) → IsDeal players deal → all_cards (holes_of players deal) (boards_of deal) ≡ deal
all_of players deal dealt =
    let count = dealt.count in
    let at : length deal - 5 ≡ 2 * players = omega arith in
    ap (λ h. h ++ concat (boards_of deal)) (concat_holes deal 0 players)
    ∙ ap (λ b. take (2 * players) deal ++ b) (concat_parts (board_of deal) ∙ ap (λ k. drop k deal) at) ∙ take-append-drop (2 * players) deal

same_map : (f g : ℕ → List ℕ) (a n : ℕ) → ((p : ℕ) → a ≤ p → p < a + n → f p ≡ g p) → map f (range_with_len a n) ≡ map g (range_with_len a n)
same_map f g a zero same = refl
same_map f g a (suc n) same =
    let here = same a (omega arith) (omega arith) in
    let rest = same_map f g (a + 1) n (λ p low high. same p (omega arith) (omega arith)) in
    cc

pub all_seen : (players : ℕ) (deal : List ℕ) → players ≤ 10 → holes_of players deal ≡ holes_seen players (seen_at (replicate 10 true)) deal
all_seen players deal few =
    same_map (hole_of deal) (λ p. cond (seen_at (replicate 10 true) p) (hole_of deal p) []) 0 players
    (λ p low high. ap (λ b. cond b (hole_of deal p) []) (sym (get_or-replicate 10 p true false (omega arith))))
