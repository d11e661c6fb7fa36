-- How many deals are counted: as many as a chip has parts, or a part of them.
use Rattle.std.proofs.Common.{◌≡◌, ℕ, zero, suc, ◌+◌, ◌-◌, ◌*◌, ◌%◌, ◌<◌, ◌≤◌, true, false, ◌&&◌, ◌||◌, List, [], ◌∷◌, ◌++◌, length, nat_eq, inl, inr, refl, sym, ◌∙◌, ap, arith}
use Rattle.std.specs.List.{AllByRecursion, IsDistinct, filter, range_with_len}
use Rattle.std.specs.Set.{is_member}
use Rattle.std.proofs.lemmas.Bool.{cases_eq}
use Rattle.std.proofs.lemmas.Bool.Decides.{nat_tests}
use Rattle.std.proofs.lemmas.Cmp.{nat_eq_equiv}
use Rattle.std.proofs.lemmas.List.{length-map}
use Rattle.std.proofs.lemmas.List.Filters.{length-filter_both}
use Rattle.std.proofs.lemmas.List.FromFn.{length-range_with_len}
use Rattle.std.proofs.lemmas.Map.Made.{length-le_from_is_member, is_member-filter}
use Rattle.std.proofs.Math.Nat.{mul-mod_left, mod_self}
use Rattle.card_core.specs.Deal.{IsDeal}
use Rattle.card_core.proofs.Distinct.{All-take}
use Rattle.matchstate.specs.Laws.{board_count}
use Rattle.match_log.specs.BestFive.{choices}
use Rattle.luck.specs.Deals.{known_at, completions}
use Rattle.luck.specs.Draws.{stream_of_hand}
use Rattle.luck.specs.Laws.{DealsDivideParts}
use Rattle.luck.specs.Left.{left_of}
use Rattle.luck.specs.Means.{parts_of}
use Rattle.luck.proofs.Completing.{count_one, count_each, count_pairs}
use Rattle.luck.proofs.Drawn.{same_test, taken_few}
use Rattle.luck.proofs.Left.{is_left}
use Rattle.luck.proofs.Lucky.{known_count, known_distinct, length_drawn}

member_below : (known : List ℕ) (card : ℕ) → AllByRecursion (λ other. other < 52) known → is_member nat_eq known card ≡ true → card < 52
member_below [] card pack member = cc
member_below (first ∷ known) card pack member =
    elim (cases_eq card first) [
      | inl same ↦ omega (arith, pack.0)
      | inr other ↦
          let test : nat_eq card first ≡ false = grind (arith, nat_tests) in
          member_below known card pack.1 (sym (ap (λ b. b || is_member nat_eq known card) test) ∙ member)
    ]

below_member : (a n card : ℕ) → a ≤ card → card < a + n → is_member nat_eq (range_with_len a n) card ≡ true
below_member a zero card least most = absurd (omega arith)
below_member a (suc n) card least most =
    elim (cases_eq card a) [
      | inl same ↦
          let test : nat_eq card a ≡ true = grind (arith, nat_tests) in
          ap (λ b. b || is_member nat_eq (range_with_len (a + 1) n) card) test
      | inr other ↦
          let test : nat_eq card a ≡ false = grind (arith, nat_tests) in
          ap (λ b. b || is_member nat_eq (range_with_len (a + 1) n) card) test ∙ below_member (a + 1) n card (omega arith) (omega arith)
    ]

-- as many cards are gone as are known
taken_all : (known : List ℕ) → IsDistinct nat_eq known → AllByRecursion (λ card. card < 52) known → length known ≤ length (filter (is_member nat_eq known) (range_with_len 0 52))
taken_all known distinct pack =
    length-le_from_is_member nat_eq_equiv known (filter (is_member nat_eq known) (range_with_len 0 52)) distinct
    (λ card member.
    is_member-filter nat_eq_equiv (is_member nat_eq known) card (same_test known card) (range_with_len 0 52)
    ∙ ap (λ b. b && is_member nat_eq known card) (below_member 0 52 card (omega arith) (omega (arith, member_below known card pack member)))
    ∙ member)

left_count : (known : List ℕ) → IsDistinct nat_eq known → AllByRecursion (λ card. card < 52) known → length (left_of known) + length known ≡ 52
unfolding left_of
left_count known distinct pack =
    let both : length (filter (is_member nat_eq known) (range_with_len 0 52)) + length (filter (is_left known) (range_with_len 0 52)) ≡ length (range_with_len 0 52) =
    length-filter_both (is_member nat_eq known) (is_left known) (λ x. refl) (range_with_len 0 52) in
    omega (arith, both, taken_few known, taken_all known distinct pack, length-range_with_len 0 52)

completed_count : (players : ℕ) (known : List ℕ) → length (completions players known) ≡ length (choices (2 * players + 5 - length known) (left_of known))
unfolding completions
completed_count players known = length-map (choices (2 * players + 5 - length known) (left_of known)) (λ more. known ++ more)

-- ---- how often the deals of a street go into the parts

divides : (weight parts count : ℕ) → parts ≡ weight * count → parts % count ≡ 0
divides weight parts count is = ap (λ n. n % count) is ∙ mul-mod_left weight count

no_card_missing : (players : ℕ) (others : List ℕ) → parts_of players % length (choices 0 others) ≡ 0
no_card_missing players others = divides (parts_of players) (parts_of players) (length (choices 0 others)) (omega (arith, ap (λ n. parts_of players * n) (count_one others)))

a_river_missing : (players : ℕ) (others : List ℕ) → length others ≡ 48 - 2 * players → parts_of players % length (choices 1 others) ≡ 0
a_river_missing players others count =
    let rivers : length (choices 1 others) ≡ 48 - 2 * players = count_each others ∙ count in
    divides (49 - 2 * players) (parts_of players) (length (choices 1 others)) (sym (ap (λ n. (49 - 2 * players) * n) rivers))

turns_and_rivers : (pairs cards : ℕ) → 2 * pairs + cards ≡ cards * cards → 1 ≤ cards → cards * (cards - 1) ≡ 2 * pairs
turns_and_rivers pairs zero is some = absurd (omega arith)
turns_and_rivers pairs (suc cards) is some = let fewer : suc cards - 1 ≡ cards = omega arith in ap (λ n. suc cards * n) fewer ∙ omega (arith, is)

turn_and_river_missing : (players : ℕ) (others : List ℕ) → players ≤ 10 → length others ≡ 49 - 2 * players → parts_of players % length (choices 2 others) ≡ 0
turn_and_river_missing players others few count =
    let fewer : 48 - 2 * players ≡ length others - 1 = omega (arith, count) in
    divides 2 (parts_of players) (length (choices 2 others))
    (ap (λ n. n * (48 - 2 * players)) (sym count)
    ∙ ap (λ n. length others * n) fewer
    ∙ turns_and_rivers (length (choices 2 others)) (length others) (count_pairs others) (omega (arith, count)))

-- the cards that are left, and those that are missing
module _ (players : ℕ) (deal : List ℕ) (street : ℕ) (few : players ≤ 10) (within : street ≤ 3) (dealt : IsDeal players deal) where
  known : List ℕ
  known = known_at players deal street

  others_count : length (left_of known) + (2 * players + board_count street) ≡ 52
  unfolding known
  others_count =
      omega (
        arith,
        left_count (known_at players deal street) (known_distinct players deal street dealt) (All-take (λ card. card < 52) (2 * players + board_count street) deal dealt.cards_of_the_pack),
        known_count players deal street dealt within,
      )

  missing : (cards : ℕ) → board_count street + cards ≡ 5 → length (completions players known) ≡ length (choices cards (left_of known))
  unfolding known
  missing cards is =
      let same : 2 * players + 5 - length (known_at players deal street) ≡ cards = omega (arith, known_count players deal street dealt within, is) in
      completed_count players (known_at players deal street) ∙ ap (λ n. length (choices n (left_of (known_at players deal street)))) same

divided : (parts count other : ℕ) → count ≡ other → parts % other ≡ 0 → parts % count ≡ 0
divided parts count other same is = ap (λ n. parts % n) same ∙ is

pub deals_divide_parts : DealsDivideParts
unfolding known
deals_divide_parts key number players deal zero few within dealt =
    divided (parts_of players) _ (parts_of players) (length_drawn (known_at players deal zero) (stream_of_hand key number) (parts_of players)) (mod_self (parts_of players))
deals_divide_parts key number players deal (suc zero) few within dealt =
    divided (parts_of players) _ _ (missing players deal 1 few within dealt 2 refl)
    (turn_and_river_missing players _ few (omega (arith, others_count players deal 1 few within dealt, few)))
deals_divide_parts key number players deal (suc (suc zero)) few within dealt =
    divided (parts_of players) _ _ (missing players deal 2 few within dealt 1 refl)
    (a_river_missing players _ (omega (arith, others_count players deal 2 few within dealt, few)))
deals_divide_parts key number players deal (suc (suc (suc zero))) few within dealt =
    divided (parts_of players) _ _ (missing players deal 3 few within dealt 0 refl) (no_card_missing players _)
deals_divide_parts key number players deal (suc (suc (suc (suc street)))) few within dealt = absurd (omega arith)
