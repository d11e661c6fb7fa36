-- Cards at the same places have one text.
use Rattle.std.proofs.Common.{◌≡◌, ℕ, ◌<◌, true, List, [], ◌∷◌, ◌++◌, map, length, take, refl, sym, ap, ◌∙◌, arith, append_assoc}
use Rattle.std.specs.List.{concat, flat_map, join_by}
use Rattle.card_core.specs.Card.{text_of}
use Rattle.card_core.specs.Deal.{IsDeal}
use Rattle.matchstate.specs.Cards.{cards_text, holes_of, boards_of, all_cards, AreSeenOf, AreInPlace}
use Rattle.matchstate.proofs.Seen.{place_from_seen}
use Rattle.matchstate.proofs.Dealt.{all_of}
use Rattle.matchstate.proofs.Joined.{All-part}
use Rattle.matchstate.proofs.Parts.{AllOfPack}
use Rattle.matchstate.specs.OneToOne.{CardsFieldsAreOneToOne, SeenFieldsAreOneToOne, ShownDealsAreOneToOne, DealTextsAreOneToOne}
use Rattle.card_core.proofs.Letters.{text_of-one}

-- as many cards in front
same_cards : (cards others behind rest : List ℕ) → length cards ≡ length others → AllOfPack cards → AllOfPack others → cards_text cards ++ behind ≡ cards_text others ++ rest → (cards ≡ others) × (behind ≡ rest)
same_cards [] [] behind rest count all each e = (refl, e)
same_cards [] (other ∷ others) behind rest count all each e = absurd (omega arith)
same_cards (card ∷ cards) [] behind rest count all each e = absurd (omega arith)
same_cards (card ∷ cards) (other ∷ others) behind rest count all each e =
    let letters : text_of card ≡ text_of other = cc in
    let first = text_of-one card other all.0 each.0 letters in
    let later : cards_text cards ++ behind ≡ cards_text others ++ rest = cc in
    let same = same_cards cards others behind rest (omega arith) all.1 each.1 later in
    (cc, same.1)

-- groups of cards, a mark before each
abbrev pub marked : ℕ → List (List ℕ) → List ℕ
marked mark groups = flat_map (λ cards. mark ∷ cards_text cards) groups

-- groups of the same counts in front
same_groups : (mark : ℕ) (groups others : List (List ℕ)) (behind rest : List ℕ) → map length groups ≡ map length others → AllOfPack (concat groups) → AllOfPack (concat others) → marked mark groups ++ behind ≡ marked mark others ++ rest → (groups ≡ others) × (behind ≡ rest)
same_groups mark [] [] behind rest counts all each e = (refl, e)
same_groups mark [] (other ∷ others) behind rest counts all each e = cc
same_groups mark (group ∷ groups) [] behind rest counts all each e = cc
same_groups mark (group ∷ groups) (other ∷ others) behind rest counts all each e =
    let count : length group ≡ length other = cc in
    let more : map length groups ≡ map length others = cc in
    let parts = All-part (λ card. card < 52) group (concat groups) all in
    let pieces = All-part (λ card. card < 52) other (concat others) each in
    let shape : mark ∷ (cards_text group ++ (marked mark groups ++ behind)) ≡ mark ∷ (cards_text other ++ (marked mark others ++ rest)) =
    ap (λ t. mark ∷ t) (sym (append_assoc (cards_text group) (marked mark groups) behind)) ∙ e ∙ ap (λ t. mark ∷ t) (append_assoc (cards_text other) (marked mark others) rest) in
    let inner : cards_text group ++ (marked mark groups ++ behind) ≡ cards_text other ++ (marked mark others ++ rest) = cc in
    let first = same_cards group other (marked mark groups ++ behind) (marked mark others ++ rest) count parts.0 pieces.0 inner in
    let later = same_groups mark groups others behind rest more parts.1 pieces.1 first.1 in
    let here = first.0 in
    let rest_same = later.0 in
    (cc, later.1)

-- hole cards of the same counts in front
same_holes : (holes others : List (List ℕ)) (behind rest : List ℕ) → map length holes ≡ map length others → AllOfPack (concat holes) → AllOfPack (concat others) → join_by cards_text (124 ∷ []) holes ++ behind ≡ join_by cards_text (124 ∷ []) others ++ rest → (holes ≡ others) × (behind ≡ rest)
same_holes [] [] behind rest counts all each e = (refl, e)
same_holes [] (other ∷ others) behind rest counts all each e = cc
same_holes (hole ∷ holes) [] behind rest counts all each e = cc
same_holes (hole ∷ holes) (other ∷ others) behind rest counts all each e =
    let count : length hole ≡ length other = cc in
    let more : map length holes ≡ map length others = cc in
    let parts = All-part (λ card. card < 52) hole (concat holes) all in
    let pieces = All-part (λ card. card < 52) other (concat others) each in
    let shape : cards_text hole ++ (marked 124 holes ++ behind) ≡ cards_text other ++ (marked 124 others ++ rest) =
    sym (append_assoc (cards_text hole) (marked 124 holes) behind) ∙ e ∙ append_assoc (cards_text other) (marked 124 others) rest in
    let first = same_cards hole other (marked 124 holes ++ behind) (marked 124 others ++ rest) count parts.0 pieces.0 shape in
    let later = same_groups 124 holes others behind rest more parts.1 pieces.1 first.1 in
    let here = first.0 in
    let rest_same = later.0 in
    (cc, later.1)

pub cards_fields_are_one_to_one : CardsFieldsAreOneToOne
cards_fields_are_one_to_one players sees rounds holes boards others streets place spot e =
    let parts = All-part (λ card. card < 52) (concat holes) (concat boards) place.pack in
    let pieces = All-part (λ card. card < 52) (concat others) (concat streets) spot.pack in
    let first = same_holes holes others (marked 47 boards) (marked 47 streets) (place.hole_counts ∙ sym spot.hole_counts) parts.0 pieces.0 e in
    let board : marked 47 boards ++ [] ≡ marked 47 streets ++ [] = ap (λ t. t ++ []) first.1 in
    let later = same_groups 47 boards streets [] [] (place.board_counts ∙ sym spot.board_counts) parts.1 pieces.1 board in
    (first.0, later.0)

pub seen_fields_are_one_to_one : SeenFieldsAreOneToOne
seen_fields_are_one_to_one players sees rounds holes boards others streets seen shown e =
    cards_fields_are_one_to_one players sees rounds holes boards others streets
    (place_from_seen players sees rounds holes boards seen.0 seen.1) (place_from_seen players sees rounds others streets shown.0 shown.1) e

-- where all positions are seen
all_in_place : (players rounds : ℕ) (deal : List ℕ) → IsDeal players deal → AreInPlace players (λ _. true) rounds (holes_of players deal) (take rounds (boards_of deal))
all_in_place players rounds deal dealt =
    let seen : AreSeenOf players (λ _. true) rounds (holes_of players deal) (take rounds (boards_of deal)) deal = record { dealt = dealt; hole_cards = refl; board_cards = refl } in
    place_from_seen players (λ _. true) rounds (holes_of players deal) (take rounds (boards_of deal)) deal seen

pub shown_deals_are_one_to_one : ShownDealsAreOneToOne
shown_deals_are_one_to_one players rounds first second dealt given e =
    cards_fields_are_one_to_one players (λ _. true) rounds (holes_of players first) (take rounds (boards_of first)) (holes_of players second) (take rounds (boards_of second))
    (all_in_place players rounds first dealt) (all_in_place players rounds second given) e

pub deal_texts_are_one_to_one : DealTextsAreOneToOne
deal_texts_are_one_to_one players first second dealt given e =
    let same = shown_deals_are_one_to_one players 3 first second dealt given e in
    sym (all_of players first dealt) ∙ ap (λ h. all_cards h (boards_of first)) same.0 ∙ ap (λ b. all_cards (holes_of players second) b) same.1 ∙ all_of players second given
