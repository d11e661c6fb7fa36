-- A text of all hole cards and the board of some rounds: the cards that it shows, with others behind them, make a deal that shows just them.
use Rattle.std.proofs.Common.{◌≡◌, ℕ, zero, suc, ◌+◌, ◌-◌, ◌*◌, ◌<◌, ◌≤◌, Bool, true, false, cond, nat_eq, List, [], ◌∷◌, ◌++◌, map, length, take, drop, get_or, replicate, refl, sym, ap, ◌∙◌, arith, append_assoc, length-append, length-take}
use Rattle.std.specs.List.{IsDistinct, concat, range_with_len}
use Rattle.std.proofs.lemmas.List.{drop_at, get_or-replicate, take-take, take-append-drop}
use Rattle.std.proofs.lemmas.List.FromFn.{fill_by_all}
use Rattle.card_core.specs.Deal.{IsDeal, hole_of, board_of}
use Rattle.matchstate.specs.Cards.{holes_of, boards_of, all_cards, AreSeenOf}
use Rattle.matchstate.specs.SeenCards.{seen_at, AreCounted}
use Rattle.matchstate.proofs.Seen.{AreTwos, length-twos, hole_of-twos, board_from_lengths, length-board, boards_of-board, board_parts, place_from_seen}
use Rattle.matchstate.proofs.Dealt.{all_seen}

abbrev all_positions : ℕ → Bool
all_positions = seen_at (replicate 10 true)

record Twos (players : ℕ) (holes : List (List ℕ)) : Type 0 where
  twos : AreTwos holes
  count : length holes ≡ players

twos_from_counts : (sees : ℕ → Bool) (holes : List (List ℕ)) (a n : ℕ) → ((p : ℕ) → p < a + n → sees p ≡ true) → map length holes ≡ map (λ p. cond (sees p) 2 0) (range_with_len a n) → Twos n holes
unfolding AreTwos
twos_from_counts sees [] a zero all shape = record { twos = tt; count = refl }
twos_from_counts sees [] a (suc n) all shape = cc
twos_from_counts sees (hole ∷ holes) a zero all shape = cc
twos_from_counts sees (hole ∷ holes) a (suc n) all shape =
    let later : map length holes ≡ map (λ p. cond (sees p) 2 0) (range_with_len (a + 1) n) = cc in
    let seen : length hole ≡ cond (sees a) 2 0 = cc in
    let here : ◌≡◌ {A = ℕ} (cond (sees a) 2 0) 2 = ap (λ b. cond b 2 0) (all a (omega arith)) in
    let rest = twos_from_counts sees holes (a + 1) n (λ p below. all p (omega arith)) later in
    record { twos = (seen ∙ here, rest.twos); count = ap suc rest.count }

twos_of : (players rounds : ℕ) (holes boards : List (List ℕ)) → players ≤ 10 → AreCounted players all_positions rounds holes boards → Twos players holes
twos_of players rounds holes boards few counted =
    twos_from_counts all_positions holes 0 players (λ p below. get_or-replicate 10 p true false (omega arith)) counted.hole_counts

pub shown_count : (players rounds : ℕ) (holes boards : List (List ℕ)) → players ≤ 10 → rounds ≤ 3 → AreCounted players all_positions rounds holes boards → length (all_cards holes boards) ≤ 2 * players + 5
shown_count players rounds holes boards few most counted =
    let shape = twos_of players rounds holes boards few counted in
    let board = board_from_lengths rounds boards most counted.board_counts in
    omega (arith, length-append (concat holes) (concat boards), length-twos holes shape.twos, shape.count, length-board board)

-- the deal of these cards, and others behind them, shows them again
pub shown_again : (players rounds : ℕ) (holes boards : List (List ℕ)) (others : List ℕ) → players ≤ 10 → rounds ≤ 3 → AreCounted players all_positions rounds holes boards → length (all_cards holes boards ++ others) ≡ 2 * players + 5
    → (holes_of players (all_cards holes boards ++ others) ≡ holes) × (take rounds (boards_of (all_cards holes boards ++ others)) ≡ boards)
shown_again players rounds holes boards others few most counted whole =
    let shape = twos_of players rounds holes boards few counted in
    let board = board_from_lengths rounds boards most counted.board_counts in
    let cards = all_cards holes boards ++ others in
    let behind = concat boards ++ others in
    let twos : length (concat holes) ≡ 2 * players = omega (arith, length-twos holes shape.twos, shape.count) in
    let parts : cards ≡ concat holes ++ behind = append_assoc (concat holes) (concat boards) others in
    let five : length (concat boards) + length others ≡ 5 =
    omega (arith, length-append (concat holes ++ concat boards) others, length-append (concat holes) (concat boards)) in
    let hole_is : (p : ℕ) → p < players → get_or holes p [] ≡ hole_of cards p = λ p below.
    sym (ap (λ k. hole_of k p) parts ∙ hole_of-twos holes behind p shape.twos (omega (arith, shape.count))) in
    let at : length cards - 5 ≡ length (concat holes) = omega arith in
    let board_is : board_of cards ≡ behind = ap (λ k. drop k cards) at ∙ ap (drop (length (concat holes))) parts ∙ drop_at (concat holes) behind (length (concat holes)) refl in (
      sym (fill_by_all (hole_of cards) holes players [] shape.count hole_is),
      ap (λ b. take rounds (board_parts b)) board_is ∙ sym (boards_of-board others board five),
    )

-- what a deal shows is counted right, and no card stands there twice
pub shown_counted : (players rounds : ℕ) (deal : List ℕ) → players ≤ 10 → IsDeal players deal
    → AreCounted players all_positions rounds (holes_of players deal) (take rounds (boards_of deal)) × IsDistinct nat_eq (all_cards (holes_of players deal) (take rounds (boards_of deal)))
shown_counted players rounds deal few dealt =
    let seen : AreSeenOf players all_positions rounds (holes_of players deal) (take rounds (boards_of deal)) deal =
    record { dealt = dealt; hole_cards = all_seen players deal few; board_cards = refl } in
    let place = place_from_seen players all_positions rounds (holes_of players deal) (take rounds (boards_of deal)) deal seen in
    let counted : AreCounted players all_positions rounds (holes_of players deal) (take rounds (boards_of deal)) =
    record { hole_counts = place.hole_counts; board_counts = place.board_counts; pack = place.pack } in
    (counted, place.distinct)

-- the same, where the cards were put at the front of a deal's places and the rest was filled
pub shown_from_filled :
    (players rounds count : ℕ) (holes boards : List (List ℕ)) (gathered filled deal : List ℕ) →
    players ≤ 10 → rounds ≤ 3 → AreCounted players all_positions rounds holes boards →
    take count gathered ≡ all_cards holes boards → take count filled ≡ take count gathered → count ≤ length filled →
    deal ≡ take (2 * players + 5) filled → length deal ≡ 2 * players + 5 →
    (holes_of players deal ≡ holes) × (take rounds (boards_of deal) ≡ boards)
shown_from_filled players rounds count holes boards gathered filled deal few most counted front kept within is whole =
    let shown : take count filled ≡ all_cards holes boards = kept ∙ front in
    let size : count ≡ length (all_cards holes boards) = omega (arith, length-take count filled, ap length shown) in
    let small : count ≤ 2 * players + 5 = omega (arith, shown_count players rounds holes boards few most counted) in
    let others = drop count deal in
    let first : take count deal ≡ all_cards holes boards = ap (take count) is ∙ take-take count (2 * players + 5) filled small ∙ shown in
    let parts : deal ≡ all_cards holes boards ++ others = sym (take-append-drop count deal) ∙ ap (λ f. f ++ others) first in
    let again = shown_again players rounds holes boards others few most counted (sym (ap length parts) ∙ whole) in
    (ap (holes_of players) parts ∙ again.0, ap (λ d. take rounds (boards_of d)) parts ∙ again.1)
