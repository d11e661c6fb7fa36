-- Card texts, card by card.
use Rattle.std.proofs.Common.{◌≡◌, ℕ, zero, suc, ◌+◌, ◌*◌, ◌<◌, List, [], ◌∷◌, ◌++◌, map, length, take, drop, set, get_or, refl, sym, ap, ◌∙◌, subst, arith, append_assoc}
use Rattle.std.specs.List.{AllByRecursion, concat, flat_map}
use Rattle.std.proofs.lemmas.List.{append-nil, take_more_set, take_more, drop_more, drop-drop, drop_at}
use Rattle.std.proofs.lemmas.List.Concat.{flat_map-append}
use Rattle.std.proofs.SliceLists.{all_by_recursion_push}
use Rattle.card_core.specs.Card.{text_of}
use Rattle.matchstate.specs.Cards.{cards_text}

pub cards_text_push : (cards : List ℕ) (card : ℕ) → cards_text (cards ++ card ∷ []) ≡ cards_text cards ++ text_of card
cards_text_push cards card = flat_map-append text_of cards (card ∷ []) ∙ ap (λ t. cards_text cards ++ t) (append-nil (text_of card))

pub All-at : (P : ℕ → Type 0) (xs : List ℕ) (i : ℕ) → i < length xs → AllByRecursion P xs → P (get_or xs i 0)
All-at P [] i below all = absurd (omega arith)
All-at P (x ∷ xs) zero below all = all.0
All-at P (x ∷ xs) (suc i) below all = All-at P xs i (omega arith) all.1

-- the next of the cards that stand there
pub card_next : (cards behind rest : List ℕ) (i : ℕ) → i < length cards → rest ≡ cards_text (drop i cards) ++ behind → rest ≡ text_of (get_or cards i 0) ++ (cards_text (drop (i + 1) cards) ++ behind)
card_next cards behind rest i below is =
    is ∙ ap (λ cs. cards_text cs ++ behind) (drop_more cards i 0 below) ∙ append_assoc (text_of (get_or cards i 0)) (cards_text (drop (i + 1) cards)) behind

module _ (bytes rest next : List ℕ) (kept : List ℕ) (i card : ℕ) (below : i < length kept) (here : rest ≡ text_of card ++ drop 2 rest) (moved : next ≡ drop 2 rest) where
  pub place_next : rest ≡ drop (2 * i) bytes → next ≡ drop (2 * (i + 1)) bytes
  place_next at =
      let two : 2 * i + 2 ≡ 2 * (i + 1) = omega arith in
      moved ∙ ap (drop 2) at ∙ drop-drop 2 (2 * i) bytes ∙ ap (λ k. drop k bytes) two

  pub text_next_card : bytes ≡ cards_text (take i kept) ++ rest → bytes ≡ cards_text (take (i + 1) (set kept i card)) ++ next
  text_next_card whole =
      whole ∙ ap (λ r. cards_text (take i kept) ++ r) (here ∙ ap (λ r. text_of card ++ r) (sym moved))
      ∙ sym (append_assoc (cards_text (take i kept)) (text_of card) next)
      ∙ ap (λ t. t ++ next) (sym (cards_text_push (take i kept) card))
      ∙ ap (λ cs. cards_text cs ++ next) (sym (take_more_set kept i card below))

  pub pack_next : AllByRecursion (λ c. c < 52) (take i kept) → card < 52 → AllByRecursion (λ c. c < 52) (take (i + 1) (set kept i card))
  pack_next all small = subst (AllByRecursion (λ c. c < 52)) (sym (take_more_set kept i card below)) (all_by_recursion_push (λ c. c < 52) (take i kept) card all small)

  -- the cards that stand there are those that were read
  pub same_next : (cards behind : List ℕ) → i < length cards → rest ≡ cards_text (drop i cards) ++ behind → take i kept ≡ take i cards → card ≡ get_or cards i 0 → (next ≡ cards_text (drop (i + 1) cards) ++ behind) × (take (i + 1) (set kept i card) ≡ take (i + 1) cards)
  same_next cards behind within is same card_is = (
    moved ∙ ap (drop 2) (card_next cards behind rest i within is) ∙ drop_at (text_of (get_or cards i 0)) (cards_text (drop (i + 1) cards) ++ behind) 2 refl,
    take_more_set kept i card below ∙ ap (λ front. front ++ card ∷ []) same ∙ ap (λ c. take i cards ++ c ∷ []) card_is ∙ sym (take_more cards i 0 within),
  )

pub length_cards_text : (cards : List ℕ) → length (cards_text cards) ≡ 2 * length cards
length_cards_text [] = refl
length_cards_text (card ∷ cards) = let rest = length_cards_text cards in omega arith

-- a round that has begun: its cards behind a slash
pub record Street (n : ℕ) (street : List (List ℕ)) (bytes behind : List ℕ) : Type 0 where
  pub cards : List ℕ
  pub is : street ≡ cards ∷ []
  pub count : length cards ≡ n
  pub pack : AllByRecursion (λ card. card < 52) cards
  pub text_is : bytes ≡ 47 ∷ (cards_text cards ++ behind)

All-front : (P : ℕ → Type 0) (xs ys : List ℕ) → AllByRecursion P (xs ++ ys) → AllByRecursion P xs
All-front P [] ys all = tt
All-front P (x ∷ xs) ys all = (all.0, All-front P xs ys all.1)

pub street_begun : (n : ℕ) (street : List (List ℕ)) (bytes behind : List ℕ) → map length street ≡ n ∷ [] → AllByRecursion (λ card. card < 52) (concat street) → bytes ≡ flat_map (λ cards. 47 ∷ cards_text cards) street ++ behind → Street n street bytes behind
street_begun n [] bytes behind count all is = cc
street_begun n (cards ∷ []) bytes behind count all is =
    record {
      cards = cards;
      is = refl;
      count = cc;
      pack = All-front (λ card. card < 52) cards [] all;
      text_is = is ∙ ap (λ t. 47 ∷ (t ++ behind)) (append-nil (cards_text cards));
    }
street_begun n (cards ∷ other ∷ street) bytes behind count all is = cc

pub street_unbegun : (street : List (List ℕ)) (bytes behind : List ℕ) → map (length {A = ℕ}) street ≡ [] → bytes ≡ flat_map (λ cards. 47 ∷ cards_text cards) street ++ behind → (street ≡ []) × (bytes ≡ behind)
street_unbegun [] bytes behind count is = (refl, is)
street_unbegun (cards ∷ street) bytes behind count is = cc
