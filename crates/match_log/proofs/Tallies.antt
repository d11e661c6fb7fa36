-- A running score, one hand after another.
use Rattle.std.proofs.Common.{◌≡◌, ℕ, ◌+◌, ◌-◌, ◌%◌, ◌<◌, ℤ, pos, ◌+ℤ◌, List, [], ◌∷◌, Some, length, map, take, drop, replicate, reverse, get_or, zero, suc, add-zero, refl, sym, ◌∙◌, ap, arith}
use Rattle.std.specs.List.{range_with_len}
use Rattle.std.proofs.lemmas.List.{get_or-take, get_or-reverse, drop_all}
use Rattle.std.proofs.lemmas.List.FromFn.{get_or-map-range_with_len, fill_by_all}
use Rattle.std.proofs.lemmas.Option.{get_or_from_slice_get}
use Rattle.std.proofs.Math.Nat.{mod-eq_of_lt}
use Rattle.std.proofs.Math.Seq.{drop-cons}
use Rattle.game_def.specs.Game.{Game}
use Rattle.slot_log.specs.Hand.{Hand}
use Rattle.slot_log.specs.Dealer.{hand_at}
use Rattle.matchstate.specs.View.{position_of, seat_of}
use Rattle.match_log.specs.Names.{names_by_position}
use Rattle.match_log.specs.Payoffs.{payoffs_of, total_of, totals_of}
use Rattle.match_log.specs.Tally.{Tally, IsTallyOf}
use Rattle.match_log.proofs.Settling.{length_payoffs}

zero_at : (n seat : ℕ) → get_or (replicate n (pos 0)) seat (pos 0) ≡ pos 0
zero_at zero seat = refl
zero_at (suc n) zero = refl
zero_at (suc n) (suc seat) = zero_at n seat

-- before the first hand
pub no_hands : (game : Game) (tally : Tally) → tally.hands ≡ 0 → tally.totals ≡ replicate 10 (pos 0) → IsTallyOf game [] tally
unfolding total_of
no_hands game tally none zeros = record {
  count = none;
  each_seat = λ seat within. ap (λ (xs : List ℤ). get_or xs seat (pos 0)) zeros ∙ zero_at 10 seat;
}

-- one hand more
pub hand_more : (game : Game) (earlier : List Hand) (hand : Hand) (old new : Tally) (payoffs : List ℤ) → payoffs ≡ payoffs_of game hand → new.hands ≡ old.hands + 1
    → take (length payoffs) new.totals ≡ map (λ seat. get_or old.totals seat (pos 0) +ℤ get_or payoffs (position_of (length payoffs) old.hands seat) (pos 0)) (range_with_len 0 (length payoffs))
    → IsTallyOf game earlier old → IsTallyOf game (hand ∷ earlier) new
unfolding total_of
hand_more game earlier hand old new payoffs paid one_more added tally =
    let players : length payoffs ≡ game.players = ap length paid ∙ length_payoffs game hand in
    let count : old.hands ≡ length earlier = tally.count in
    record {
      count = omega (arith, one_more, count);
      each_seat = λ seat within.
          let place : seat < length payoffs = omega (arith, players) in
          sym (get_or-take (length payoffs) new.totals seat (pos 0) place)
          ∙ (ap (λ (xs : List ℤ). get_or xs seat (pos 0)) added
          ∙ (get_or-map-range_with_len (λ s. get_or old.totals s (pos 0) +ℤ get_or payoffs (position_of (length payoffs) old.hands s) (pos 0)) 0 (length payoffs) seat seat (pos 0) place (omega arith)
          ∙ (ap (λ (z : ℤ). z +ℤ get_or payoffs (position_of (length payoffs) old.hands seat) (pos 0)) (tally.each_seat seat within)
          ∙ (ap (λ (n : ℕ). total_of game earlier seat +ℤ get_or payoffs (position_of n old.hands seat) (pos 0)) players
          ∙ (ap (λ (h : ℕ). total_of game earlier seat +ℤ get_or payoffs (position_of game.players h seat) (pos 0)) count
          ∙ ap (λ (xs : List ℤ). total_of game earlier seat +ℤ get_or xs (position_of game.players (length earlier) seat) (pos 0)) paid)))));
    }

-- the oldest so many of the hands
abbrev pub older : List Hand → ℕ → List Hand
older hands number = drop (length hands - number) hands

pub older_none : (hands : List Hand) → older hands 0 ≡ []
older_none hands = drop_all (length hands - 0) hands (omega arith)

pub older_all : (hands : List Hand) → older hands (length hands) ≡ hands
older_all hands =
    let all : length hands - length hands ≡ 0 = omega arith in
    ap (λ (n : ℕ). drop n hands) all

pub older_more : (hands : List Hand) (number : ℕ) (found : Hand) → number < length hands → hand_at hands number ≡ Some found → older hands (number + 1) ≡ found ∷ older hands number
older_more hands number found within there =
    let place : ℕ = length hands - (number + 1) in
    let next : suc place ≡ length hands - number = omega arith in
    let same : length hands - 1 - number ≡ place = omega arith in
    let read : get_or hands place found ≡ found =
    ap (λ (n : ℕ). get_or hands n found) (sym same) ∙ (sym (get_or-reverse hands number found within) ∙ get_or_from_slice_get (reverse hands) number found found there) in
    drop-cons hands place found (omega arith)
    ∙ (ap (λ (h : Hand). h ∷ drop (suc place) hands) read ∙ ap (λ (n : ℕ). found ∷ drop n hands) next)

-- ---- the fields of the score's line

pub totals_as : (game : Game) (hands : List Hand) (tally : Tally) (values : List ℤ) → IsTallyOf game hands tally → values ≡ take game.players tally.totals → length values ≡ game.players → values ≡ totals_of game hands
unfolding totals_of
totals_as game hands tally values of_hands read count =
    fill_by_all (total_of game hands) values game.players (pos 0) count (λ seat within.
    ap (λ (xs : List ℤ). get_or xs seat (pos 0)) read ∙ (get_or-take game.players tally.totals seat (pos 0) within ∙ of_hands.each_seat seat within))

-- in the first hand the positions are the seats
pub names_in_seat_order : (names : List (List ℕ)) → names_by_position (length names) 0 names ≡ names
names_in_seat_order names =
    sym (fill_by_all (λ position. get_or names (seat_of (length names) 0 position) []) names (length names) [] refl (λ k within.
    let seat : seat_of (length names) 0 k ≡ k = ap (λ (n : ℕ). n % length names) (add-zero k) ∙ mod-eq_of_lt within in
    ap (λ (n : ℕ). get_or names n []) (sym seat)))
