-- Pot after pot is shared, from the lowest amount of an unfolded player up.
use Rattle.std.proofs.Common.{Option, Some, None, MatchOption, inl, inr, ◌≡◌, ℕ, ◌+◌, ◌-◌, ◌*◌, ◌<◌, ◌≤◌, ℤ, pos, ◌-ℤ◌, Bool, true, false, max, min, List, ◌∷◌, length, get_or, map, replicate, zero, suc, refl, sym, ◌∙◌, ap, subst, arith}
use Rattle.std.specs.List.{All, fold, range_with_len, sum, sum_by}
use Rattle.std.proofs.lemmas.List.Elements.{All-get_or, All-from_get_or}
use Rattle.std.proofs.lemmas.List.Folds.{sum_by-replicate}
use Rattle.std.proofs.lemmas.List.FromFn.{get_or-map-range_with_len, length-map-range_with_len}
use Rattle.std.proofs.lemmas.List.Sums.{sum-map, sum_by-le}
use Rattle.hand_rank.specs.Worth.{Worth}
use Rattle.side_pots.specs.Amounts.{IsAmount, IsNextAmount, IsLastAmount, chips_between}
use Rattle.side_pots.specs.Pots.{is_eligible, pot_of, winners_of, wins, share, won, payoff, payoffs}
use Rattle.side_pots.proofs.Levels.{IsBottom, owner_within, eligible_reached, sum_by-add, sum_by-nothing, pot_of-top, share_of_set, won_upto, won_upto-next, next_within, last_is_greatest}
use Rattle.side_pots.proofs.BestHands.{some_winner}
use Rattle.side_pots.proofs.PayoffLaws.{chips_upto_greatest}

-- all pots up to an amount are shared
pub record IsSettledUpto (spent : List ℕ) (folded : List Bool) (values : List Worth) (gains : List ℕ) (below : ℕ) : Type 0 where
  pub bottom : IsBottom spent folded below
  pub shares : gains ≡ map (won_upto spent folded values below) (range_with_len 0 (length spent))
  pub chips : sum gains ≡ chips_between spent 0 below

pub map_range-same : {X : Type 0} (f g : ℕ → X) (a k : ℕ) → ((v : ℕ) → a ≤ v → v < a + k → f v ≡ g v) → map f (range_with_len a k) ≡ map g (range_with_len a k)
map_range-same {X} f g a zero same = refl
map_range-same {X} f g a (suc k) same =
    ap (λ (x : X). x ∷ map f (range_with_len (a + 1) k)) (same a (omega arith) (omega arith))
    ∙ ap (λ (xs : List X). g a ∷ xs) (map_range-same f g (a + 1) k (λ v from to. same v (omega arith) (omega arith)))

nothing_by_position : (a k : ℕ) → replicate k 0 ≡ map (λ (p : ℕ). let none : ℕ = 0 in none) (range_with_len a k)
nothing_by_position a zero = refl
nothing_by_position a (suc k) = ap (λ (xs : List ℕ). 0 ∷ xs) (nothing_by_position (a + 1) k)

pub settled_none : (spent : List ℕ) (folded : List Bool) (values : List Worth) (gains : List ℕ) → gains ≡ replicate (length spent) 0 → IsSettledUpto spent folded values gains 0
settled_none spent folded values gains e = record {
  bottom = inl refl;
  shares = e ∙ nothing_by_position 0 (length spent);
  chips =
      let none : sum gains ≡ 0 = ap sum e ∙ (sum_by-replicate (λ (x : ℕ). x) (length spent) 0 ∙ omega arith) in
      none ∙ sym (sum_by-nothing (λ (amount : ℕ). min amount 0 - min amount 0) spent (λ amount. omega arith));
}

-- the chips up to one amount, and from there up to the next
chips_join : (spent : List ℕ) (below top : ℕ) → below < top → chips_between spent 0 below + chips_between spent below top ≡ chips_between spent 0 top
chips_join spent below top above =
    sum_by-add (λ (amount : ℕ). min amount below - min amount 0) (λ (amount : ℕ). min amount top - min amount below) (λ (amount : ℕ). min amount top - min amount 0) spent (λ amount. omega arith)

gain_at : (spent : List ℕ) (folded : List Bool) (values : List Worth) (gains : List ℕ) (below position : ℕ) → IsSettledUpto spent folded values gains below → position < length spent → get_or gains position 0 ≡ won_upto spent folded values below position
gain_at spent folded values gains below position settled within =
    ap (λ (xs : List ℕ). get_or xs position 0) settled.shares
    ∙ get_or-map-range_with_len (won_upto spent folded values below) 0 (length spent) position position 0 within (omega arith)

pub gains_length : (spent : List ℕ) (folded : List Bool) (values : List Worth) (gains : List ℕ) (below : ℕ) → IsSettledUpto spent folded values gains below → length gains ≡ length spent
gains_length spent folded values gains below settled =
    ap length settled.shares ∙ length-map-range_with_len (won_upto spent folded values below) 0 (length spent)

pub settled_next : (spent : List ℕ) (folded : List Bool) (values : List Worth) (gains new : List ℕ) (below top pot : ℕ) (winners : List Bool) → length folded ≡ length spent → IsNextAmount spent folded below top → pot ≡ chips_between spent below top → winners ≡ winners_of values (is_eligible spent folded top) → new ≡ map (λ p. get_or gains p 0 + share pot winners p) (range_with_len 0 (length gains)) → sum new ≡ sum gains + pot → IsSettledUpto spent folded values gains below → IsSettledUpto spent folded values new top
settled_next spent folded values gains new below top pot winners one_length next pot_is winners_are new_is new_sum settled =
    let count : length gains ≡ length spent = gains_length spent folded values gains below settled in
    let whole : pot ≡ pot_of spent folded (is_eligible spent folded top) =
    pot_is ∙ sym (pot_of-top spent folded below top one_length settled.bottom next (next_within spent folded below top next)) in
    let above : below < top = next.above in
    let chips : sum gains ≡ chips_between spent 0 below = settled.chips in
    record {
      bottom = inr next.amount_of_one;
      shares =
          new_is
          ∙ (ap (λ (n : ℕ). map (λ p. get_or gains p 0 + share pot winners p) (range_with_len 0 n)) count
          ∙ map_range-same (λ p. get_or gains p 0 + share pot winners p) (won_upto spent folded values top) 0 (length spent) (λ p from to.
          let before : get_or gains p 0 ≡ won_upto spent folded values below p = gain_at spent folded values gains below p settled (omega arith) in
          let part : share pot winners p ≡ share_of_set spent folded values p (is_eligible spent folded top) =
          ap (λ (n : ℕ). share n winners p) whole ∙ ap (λ (ws : List Bool). share (pot_of spent folded (is_eligible spent folded top)) ws p) winners_are in
          omega (arith, before, part, won_upto-next spent folded values below top p one_length settled.bottom next)));
      chips = omega (arith, new_sum, chips, pot_is, chips_join spent below top above);
    }

-- somebody wins each pot
pub pot_has_winner : (spent : List ℕ) (folded : List Bool) (values : List Worth) (below top : ℕ) (winners : List Bool) → length folded ≡ length spent → length values ≡ length spent → IsNextAmount spent folded below top → winners ≡ winners_of values (is_eligible spent folded top) → 0 < wins winners
pot_has_winner spent folded values below top winners folded_length values_length next winners_are =
    let p : ℕ = next.amount_of_one.owner in
    let unfolded : get_or folded p true ≡ false = next.amount_of_one.unfolded in
    let exactly : get_or spent p 0 ≡ top = next.amount_of_one.exactly in
    let within : p < length values = omega (arith, owner_within folded p unfolded) in
    let P : List Bool → Type 0 = λ ws. 0 < wins ws in
    subst P (sym winners_are) (some_winner values (is_eligible spent folded top) p within (eligible_reached spent folded top p unfolded (omega (arith, exactly))))

-- ten players' chips are few
pub chips_bound : (spent : List ℕ) (below : ℕ) → All (λ amount. amount ≤ 2147483647) spent → chips_between spent 0 below ≤ length spent * 2147483647
chips_bound spent below amounts =
    sum_by-le (λ (amount : ℕ). min amount below - min amount 0) 2147483647 spent
    (All-from_get_or (λ amount. min amount below - min amount 0 ≤ 2147483647) spent 0 (λ i h.
    let low : get_or spent i 0 ≤ 2147483647 = All-get_or (λ amount. amount ≤ 2147483647) spent i 0 h amounts in
    omega (arith, low)))

pub next_fits : (spent : List ℕ) (folded : List Bool) (values : List Worth) (gains : List ℕ) (below top pot : ℕ) → length spent ≤ 10 → All (λ amount. amount ≤ 2147483647) spent → IsNextAmount spent folded below top → pot ≡ chips_between spent below top → IsSettledUpto spent folded values gains below → sum gains + pot < 9223372036854775808
next_fits spent folded values gains below top pot few amounts next pot_is settled =
    let above : below < top = next.above in
    let chips : sum gains ≡ chips_between spent 0 below = settled.chips in
    omega (arith, chips, pot_is, chips_join spent below top above, chips_bound spent top amounts)

pub all_fit : (spent : List ℕ) (folded : List Bool) (values : List Worth) (gains : List ℕ) (below : ℕ) → length spent ≤ 10 → All (λ amount. amount ≤ 2147483647) spent → IsSettledUpto spent folded values gains below → sum gains < 9223372036854775808
all_fit spent folded values gains below few amounts settled =
    let chips : sum gains ≡ chips_between spent 0 below = settled.chips in
    omega (arith, chips, chips_bound spent below amounts)

-- ---- when no amount is left

won_is : (spent : List ℕ) (folded : List Bool) (values : List Worth) (below position : ℕ) → below ≡ fold max 0 spent → won_upto spent folded values below position ≡ won spent folded values position
unfolding won
won_is spent folded values below position e = ap (λ (n : ℕ). won_upto spent folded values n position) e

pub payoffs_settled : (spent : List ℕ) (folded : List Bool) (values : List Worth) (gains : List ℕ) (result : List ℤ) (below : ℕ) → IsLastAmount spent folded below → IsAmount spent folded (fold max 0 spent) → IsSettledUpto spent folded values gains below → result ≡ map (λ p. pos (get_or gains p 0) -ℤ pos (get_or spent p 0)) (range_with_len 0 (length spent)) → result ≡ payoffs spent folded values
payoffs_settled spent folded values gains result below last greatest settled e =
    let end_at : below ≡ fold max 0 spent = last_is_greatest spent folded below settled.bottom last greatest in
    e ∙ map_range-same (λ p. pos (get_or gains p 0) -ℤ pos (get_or spent p 0)) (payoff spent folded values) 0 (length spent) (λ p from to.
    ap (λ (n : ℕ). pos n -ℤ pos (get_or spent p 0)) (gain_at spent folded values gains below p settled (omega arith) ∙ won_is spent folded values below p end_at))

pub all_is_won : (spent : List ℕ) (folded : List Bool) (values : List Worth) (gains : List ℕ) (below : ℕ) → IsLastAmount spent folded below → IsAmount spent folded (fold max 0 spent) → IsSettledUpto spent folded values gains below → sum_by (won spent folded values) (range_with_len 0 (length spent)) ≡ sum spent
all_is_won spent folded values gains below last greatest settled =
    let end_at : below ≡ fold max 0 spent = last_is_greatest spent folded below settled.bottom last greatest in
    let same : gains ≡ map (won spent folded values) (range_with_len 0 (length spent)) =
    settled.shares ∙ map_range-same (won_upto spent folded values below) (won spent folded values) 0 (length spent) (λ p from to. won_is spent folded values below p end_at) in
    let chips : sum gains ≡ chips_between spent 0 below = settled.chips in
    sym (sum-map (won spent folded values) (range_with_len 0 (length spent)))
    ∙ (ap sum (sym same) ∙ (chips ∙ (ap (chips_between spent 0) end_at ∙ chips_upto_greatest spent)))

pub settled_as : (spent : List ℕ) (folded : List Bool) (values : List Worth) (gains others : List ℕ) (below : ℕ) → others ≡ gains → IsSettledUpto spent folded values gains below → IsSettledUpto spent folded values others below
settled_as spent folded values gains others below e settled =
    let P : List ℕ → Type 0 = λ xs. IsSettledUpto spent folded values xs below in
    subst P (sym e) settled

pub last_from_none : (spent : List ℕ) (folded : List Bool) (below : ℕ) (next : Option ℕ) → ((amount : ℕ) → next ≡ Some amount → ⊥) → MatchOption next (IsLastAmount spent folded below) (λ amount. IsNextAmount spent folded below amount) → IsLastAmount spent folded below
last_from_none spent folded below None none found = found
last_from_none spent folded below (Some amount) none found = absurd (none amount refl)

-- an unfolded player sits at the table
pub last_within : (spent : List ℕ) (folded : List Bool) (position : ℕ) → length folded ≡ length spent → get_or folded position true ≡ false → position < length spent
last_within spent folded position one_length unfolded = omega (arith, owner_within folded position unfolded)

-- the rest gets smaller
pub less_left : (spent : List ℕ) (folded : List Bool) (below top : ℕ) → IsNextAmount spent folded below top → fold max 0 spent - top < fold max 0 spent - below
less_left spent folded below top next =
    let above : below < top = next.above in
    omega (arith, next_within spent folded below top next)
