-- Luck street by street.
use Rattle.std.proofs.Common.{◌≡◌, ℕ, zero, suc, ◌+◌, ◌-◌, ◌*◌, ◌<◌, ◌≤◌, le_trans, ℤ, pos, ◌+ℤ◌, ◌-ℤ◌, Bool, List, [], ◌∷◌, ◌++◌, ◌/◌, length, replicate, get_or, nat_eq, refl, sym, ◌∙◌, ap, subst, arith}
use Rattle.std.specs.Prelude.{◌*ℤ◌}
use Rattle.std.specs.List.{All, IsDistinct}
use Rattle.std.proofs.lemmas.Int.{ints}
use Rattle.std.proofs.Math.Nat.{mul-le-mul_left}
use Rattle.std.proofs.Math.IntN.{*ℤ-zero}
use Rattle.std.proofs.lemmas.List.{length-append, length-take-le, get_or-replicate, get_or_past}
use Rattle.std.proofs.lemmas.List.FromFn.{length-map-range_with_len}
use Rattle.std.proofs.lemmas.List.Elements.{All-get_or, All-from_get_or}
use Rattle.game_def.specs.Game.{Game}
use Rattle.rand.specs.Shuffle.{partially_shuffled}
use Rattle.rand_core.specs.Steps.{stream_of, steps_u32}
use Rattle.rand_core.specs.Stream.{Stream}
use Rattle.rand_chacha.specs.ChaCha.{ChaCha, next_word}
use Rattle.card_core.specs.Deal.{IsDeal, board_of}
use Rattle.card_core.proofs.Distinct.{IsDistinct-take}
use Rattle.slot_log.specs.Hand.{Hand}
use Rattle.matchstate.specs.Laws.{board_count}
use Rattle.match_log.specs.BestFive.{choices}
use Rattle.side_pots.specs.Pots.{payoff}
use Rattle.match_log.specs.Payoffs.{IsWithin, most_payoff, values_of, amounts_of, folds_of}
use Rattle.match_log.proofs.Settling.{length_amounts}
use Rattle.luck.specs.Deals.{known_at, completions}
use Rattle.luck.specs.Draws.{generator_of, stream_of_hand, drawn}
use Rattle.luck.specs.Left.{left_of}
use Rattle.luck.specs.Lucks.{deals_at, mean_at, street_luck, luck_through}
use Rattle.luck.specs.Means.{parts_of, mean_of, paid, pay}
use Rattle.luck.specs.Streets.{before_street}
use Rattle.luck.specs.Sums.{AddsPaid, IsSumOver}
use Rattle.luck.specs.declared.sums.Sums.{Sums}
use Rattle.luck.proofs.Drawn.{left_enough}
use Rattle.luck.proofs.Left.{known_and_left}
use Rattle.luck.proofs.Completing.{with_choices, count_one, count_each, count_pairs}

-- ---- what is known

pub board_cards : (street : ℕ) → street ≤ 3 → get_or (0 ∷ 3 ∷ 4 ∷ 5 ∷ []) street 0 ≡ board_count street
board_cards zero within = refl
board_cards (suc zero) within = refl
board_cards (suc (suc zero)) within = refl
board_cards (suc (suc (suc zero))) within = refl
board_cards (suc (suc (suc (suc street)))) within = absurd (omega arith)

pub board_fits : (street : ℕ) → street ≤ 3 → board_count street ≤ 5
board_fits zero within = omega arith
board_fits (suc zero) within = omega arith
board_fits (suc (suc zero)) within = omega arith
board_fits (suc (suc (suc zero))) within = omega arith
board_fits (suc (suc (suc (suc street)))) within = absurd (omega arith)

-- behind the flop at most two cards are missing
pub board_most : (street : ℕ) → 0 < street → street ≤ 3 → 3 ≤ board_count street
board_most zero some within = absurd (omega arith)
board_most (suc zero) some within = omega arith
board_most (suc (suc zero)) some within = omega arith
board_most (suc (suc (suc zero))) some within = omega arith
board_most (suc (suc (suc (suc street)))) some within = absurd (omega arith)

pub known_count : (players : ℕ) (deal : List ℕ) (street : ℕ) → IsDeal players deal → street ≤ 3 → length (known_at players deal street) ≡ 2 * players + board_count street
known_count players deal street dealt within = length-take-le (2 * players + board_count street) deal (omega (arith, dealt.count, board_fits street within))

pub known_distinct : (players : ℕ) (deal : List ℕ) (street : ℕ) → IsDeal players deal → IsDistinct nat_eq (known_at players deal street)
known_distinct players deal street dealt = IsDistinct-take nat_eq (2 * players + board_count street) deal dealt.distinct

pub few_choices : (missing : ℕ) (others : List ℕ) → missing ≤ 2 → length others ≤ 52 → length (choices missing others) ≤ 10000
few_choices zero others few within = omega (arith, count_one others)
few_choices (suc zero) others few within = omega (arith, count_each others)
few_choices (suc (suc zero)) others few within = pairs (length (choices 2 others)) (length others) (count_pairs others) within
  where
    squares : (n : ℕ) → n ≤ 52 → n * n ≤ 2704
    squares n within = le_trans (mul-le-mul_left n within) (omega arith)

    pairs : (count n : ℕ) → 2 * count + n ≡ n * n → n ≤ 52 → count ≤ 10000
    pairs count n is within = omega (arith, is, squares n within)
few_choices (suc (suc (suc missing))) others few within = absurd (omega arith)

pub some_choices : (missing : ℕ) (others : List ℕ) → missing ≤ 2 → 2 ≤ length others → 0 < length (choices missing others)
some_choices zero others few some = omega (arith, count_one others)
some_choices (suc zero) others few some = omega (arith, count_each others)
some_choices (suc (suc zero)) others few some = pairs (length (choices 2 others)) (length others) (count_pairs others) some
  where
    pairs : (count n : ℕ) → 2 * count + n ≡ n * n → 2 ≤ n → 0 < count
    pairs zero n is some = absurd (omega (arith, is, mul-le-mul_left n some))
    pairs (suc count) n is some = omega arith
some_choices (suc (suc (suc missing))) others few some = absurd (omega arith)

-- ---- what is counted

pub deals_later : (key : List ℕ) (number players : ℕ) (deal : List ℕ) (street : ℕ) → 0 < street → deals_at key number players deal street ≡ completions players (known_at players deal street)
deals_later key number players deal zero some = absurd (omega arith)
deals_later key number players deal (suc street) some = refl

pub nothing_at : (position : ℕ) → position < 10 → get_or (replicate 10 (pos 0)) position (pos 0) ≡ pos 0
nothing_at position within = get_or-replicate 10 position (pos 0) (pos 0) within

pub sum_of_all : (spent : List ℕ) (folded : List Bool) (deals : List (List ℕ)) (none sums : Sums) → none.amounts ≡ replicate 10 (pos 0) → none.deals ≡ 0 → AddsPaid spent folded deals none sums → IsSumOver spent folded deals sums
sum_of_all spent folded deals none sums amounts count adds = record {
  count = omega (arith, adds.count, count);
  each = λ position within.
      let start : get_or none.amounts position (pos 0) ≡ pos 0 = ap (λ (xs : List ℤ). get_or xs position (pos 0)) amounts ∙ nothing_at position within in
      omega (arith, ints, adds.each position within, start);
}

-- ---- street by street

pub luck_none : (key : List ℕ) (game : Game) (number : ℕ) (hand : Hand) (position : ℕ) → luck_through key game number hand position 0 ≡ pos 0
unfolding luck_through
luck_none key game number hand position = refl

pub luck_more : (key : List ℕ) (game : Game) (number : ℕ) (hand : Hand) (position street : ℕ) → luck_through key game number hand position (street + 1) ≡ luck_through key game number hand position street +ℤ street_luck key game number hand position street
unfolding luck_through
luck_more key game number hand position street = let next : street + 1 ≡ suc street = omega arith in ap (luck_through key game number hand position) next

pub mean_as : (key : List ℕ) (number : ℕ) (deal : List ℕ) (position : ℕ) (spent amounts : List ℕ) (folded folds : List Bool) (count players street other : ℕ)
    → spent ≡ amounts → folded ≡ folds → count ≡ players → street ≡ other
    → mean_of spent folded position (deals_at key number count deal street) ≡ mean_of amounts folds position (deals_at key number players deal other)
mean_as key number deal position spent amounts folded folds count players street other as_amounts as_folds as_players as_street =
    ap (λ (s : List ℕ). mean_of s folded position (deals_at key number count deal street)) as_amounts
    ∙ ap (λ (f : List Bool). mean_of amounts f position (deals_at key number count deal street)) as_folds
    ∙ ap (λ n. mean_of amounts folds position (deals_at key number n deal street)) as_players
    ∙ ap (λ n. mean_of amounts folds position (deals_at key number players deal n)) as_street

pub luck_within : (street : ℕ) (luck behind before : ℤ) → IsWithin (most_payoff * (4000 * street)) luck → IsWithin (most_payoff * 2000) behind → IsWithin (most_payoff * 2000) before
    → IsWithin (most_payoff * (4000 * (street + 1))) (luck +ℤ (behind -ℤ before))
luck_within street luck behind before so_far here there = record {
  least = omega (arith, ints, so_far.least, here.least, there.greatest);
  greatest = omega (arith, ints, so_far.greatest, here.greatest, there.least);
}

pub within_wider : (least most : ℕ) (xs : List ℤ) → least ≤ most → All (IsWithin least) xs → All (IsWithin most) xs
within_wider least most xs wider all =
    All-from_get_or (IsWithin most) xs (pos 0) (λ k place.
    let near = All-get_or (IsWithin least) xs k (pos 0) place all in
    record { least = omega (arith, ints, wider, near.least); greatest = omega (arith, ints, wider, near.greatest) })

-- ---- nobody's

nobody_paid : (spent : List ℕ) (folded : List Bool) (position : ℕ) (deals : List (List ℕ)) → length spent ≤ position → paid spent folded position deals ≡ pos 0
unfolding paid
nobody_paid spent folded position [] behind = refl
nobody_paid spent folded position (deal ∷ deals) behind =
    let count : length (pay spent folded deal) ≡ length spent = length-map-range_with_len (payoff spent folded (values_of (length spent) deal)) 0 (length spent) in
    let none : get_or (pay spent folded deal) position (pos 0) ≡ pos 0 = get_or_past (pay spent folded deal) position (pos 0) (omega (arith, count)) in
    omega (arith, ints, none, nobody_paid spent folded position deals behind)

nobody_moved : (game : Game) (hand : Hand) (street position : ℕ) (deals : List (List ℕ)) → game.players ≤ position → mean_at game hand street position deals ≡ pos 0
nobody_moved game hand street position deals behind =
    let past = before_street game street hand.past in
    let spent = amounts_of game past in
    ap (λ (z : ℤ). pos (parts_of (length spent) / length deals) *ℤ z) (nobody_paid spent (folds_of game past) position deals (omega (arith, length_amounts game past)))
    ∙ *ℤ-zero (pos (parts_of (length spent) / length deals))

-- behind the last player there is no luck
pub nobody_lucky : (key : List ℕ) (game : Game) (number : ℕ) (hand : Hand) (position streets : ℕ) → game.players ≤ position → luck_through key game number hand position streets ≡ pos 0
unfolding luck_through
nobody_lucky key game number hand position zero behind = refl
nobody_lucky key game number hand position (suc street) behind =
    omega (
      arith,
      ints,
      nobody_lucky key game number hand position street behind,
      nobody_moved game hand (suc street) position (deals_at key number game.players hand.deal (suc street)) behind,
      nobody_moved game hand (suc street) position (deals_at key number game.players hand.deal street) behind,
    )

-- ---- the deals that are counted

pub drawn_as : (key : List ℕ) (number players : ℕ) (deal : List ℕ) (street : ℕ) (cards : List ℕ) (generator : ChaCha) (count : ℕ)
    → street ≡ 0 → cards ≡ known_at players deal street → generator ≡ generator_of key number → count ≡ parts_of players
    → (drawn cards (stream_of (steps_u32 (next_word 10)) generator) count).0 ≡ deals_at key number players deal street
drawn_as key number players deal street cards generator count none known same parts =
    ap (λ (xs : List ℕ). (drawn xs (stream_of (steps_u32 (next_word 10)) generator) count).0) (known ∙ ap (known_at players deal) none)
    ∙ ap (λ (g : ChaCha). (drawn (known_at players deal 0) (stream_of (steps_u32 (next_word 10)) g) count).0) same
    ∙ ap (λ n. (drawn (known_at players deal 0) (stream_of_hand key number) n).0) parts
    ∙ sym (ap (deals_at key number players deal) none)

pub completed_as : (key : List ℕ) (number players : ℕ) (deal : List ℕ) (street : ℕ) (cards left : List ℕ)
    → 0 < street → cards ≡ known_at players deal street → left ≡ left_of cards
    → with_choices cards (2 * players + 5 - length cards) left ≡ deals_at key number players deal street
unfolding completions
completed_as key number players deal street cards left some known is =
    ap (with_choices cards (2 * players + 5 - length cards)) is
    ∙ ap (λ (xs : List ℕ). with_choices xs (2 * players + 5 - length xs) (left_of xs)) known
    ∙ sym (deals_later key number players deal street some)

pub length_drawn : (known : List ℕ) (stream : Stream) (count : ℕ) → length (drawn known stream count).0 ≡ count
unfolding drawn
length_drawn known stream zero = refl
length_drawn known stream (suc count) = omega (arith, length_drawn known stream count, length-append (drawn known stream count).0 ((known ++ board_of (partially_shuffled (left_of known) 5 (drawn known stream count).1).0) ∷ []))

pub mean_is : (spent : List ℕ) (folded : List Bool) (deals : List (List ℕ)) (sums : Sums) (parts position : ℕ) (mean : ℤ) → position < 10 → IsSumOver spent folded deals sums → parts ≡ parts_of (length spent)
    → mean ≡ pos (parts / sums.deals) *ℤ get_or sums.amounts position (pos 0) → mean ≡ mean_of spent folded position deals
mean_is spent folded deals sums parts position mean within sum same is =
    is
    ∙ ap (λ (z : ℤ). pos (parts / sums.deals) *ℤ z) (sum.each position within)
    ∙ ap (λ n. pos (n / sums.deals) *ℤ paid spent folded position deals) same
    ∙ ap (λ n. pos (parts_of (length spent) / n) *ℤ paid spent folded position deals) sum.count

-- ---- what a count asks for

pub known_as : (players other : ℕ) (deal cards : List ℕ) (street : ℕ) → other ≡ players → cards ≡ known_at other deal street → cards ≡ known_at players deal street
known_as players other deal cards street same known = known ∙ ap (λ n. known_at n deal street) same

pub drawn_room : (players : ℕ) (deal cards : List ℕ) (street : ℕ) → IsDeal players deal → street ≡ 0 → cards ≡ known_at players deal street → length cards ≡ 2 * players
drawn_room players deal cards street dealt none known =
    let count : length (known_at players deal 0) ≡ 2 * players + 0 = known_count players deal 0 dealt (omega arith) in
    let same : length cards ≡ length (known_at players deal 0) = ap length (known ∙ ap (known_at players deal) none) in
    omega (arith, same, count)

pub cards_distinct : (players : ℕ) (deal cards : List ℕ) (street : ℕ) → IsDeal players deal → cards ≡ known_at players deal street → IsDistinct nat_eq cards
cards_distinct players deal cards street dealt known = subst (IsDistinct nat_eq) (sym known) (known_distinct players deal street dealt)

pub both_distinct : (players : ℕ) (deal cards left : List ℕ) (street : ℕ) → IsDeal players deal → cards ≡ known_at players deal street → left ≡ left_of cards → IsDistinct nat_eq (cards ++ left)
both_distinct players deal cards left street dealt known is =
    subst (λ (xs : List ℕ). IsDistinct nat_eq (cards ++ xs)) (sym is) (known_and_left cards (cards_distinct players deal cards street dealt known))

cards_count : (players : ℕ) (deal cards : List ℕ) (street : ℕ) → IsDeal players deal → street ≤ 3 → cards ≡ known_at players deal street → length cards ≡ 2 * players + board_count street
cards_count players deal cards street dealt within known = ap length known ∙ known_count players deal street dealt within

pub completed_room : (players : ℕ) (deal cards : List ℕ) (street : ℕ) → IsDeal players deal → street ≤ 3 → cards ≡ known_at players deal street → length cards ≤ 2 * players + 5
completed_room players deal cards street dealt within known = omega (arith, cards_count players deal cards street dealt within known, board_fits street within)

pub completed_few : (players : ℕ) (deal cards left : List ℕ) (street : ℕ) → IsDeal players deal → 0 < street → street ≤ 3 → cards ≡ known_at players deal street → length left ≤ 52
    → length (choices (2 * players + 5 - length cards) left) ≤ 10000
completed_few players deal cards left street dealt some within known most =
    few_choices (2 * players + 5 - length cards) left (omega (arith, cards_count players deal cards street dealt within known, board_most street some within)) most

pub completed_some : (players : ℕ) (deal cards left : List ℕ) (street : ℕ) → players ≤ 10 → IsDeal players deal → 0 < street → street ≤ 3 → cards ≡ known_at players deal street → left ≡ left_of cards
    → 0 < length (choices (2 * players + 5 - length cards) left)
completed_some players deal cards left street few dealt some within known is =
    some_choices (2 * players + 5 - length cards) left (omega (arith, cards_count players deal cards street dealt within known, board_most street some within))
    (omega (arith, ap length is, left_enough cards, completed_room players deal cards street dealt within known))

-- ---- before the first street

pub none_within : (most : ℕ) → All (IsWithin most) (replicate 10 (pos 0))
none_within most =
    All-from_get_or (IsWithin most) (replicate 10 (pos 0)) (pos 0) (λ k place.
    subst (IsWithin most) (sym (nothing_at k place)) (record { least = omega (arith, ints); greatest = omega (arith, ints) }))
