use Rattle.std.proofs.Common.{◌≡◌, ℕ, ◌<◌, ◌≤◌, List, Option, MatchOption, length, sym, subst, rules}
use Rattle.hand_rank.specs.Best.{IsBestOf}
use Rattle.hand_rank.specs.Worth.{Worth}
use Rattle.hand_rank.specs.Profile.{IsNoneAbove}
use Rattle.hand_rank.proofs.Values.{best_straight_flush, best_flush_ranks, none_above_seven_with}
use Rattle.hand_rank.proofs.seven.best_with_flush.Goals as goal

pub returns-in-Some : goal.returns-in-Some
returns-in-Some c = λ cards suit seven profile low many suited.
    let P : Worth → Type 0 = λ w. IsBestOf cards w in
    subst P (sym c.new.ensures) (best_straight_flush cards suit c.args.suited.bits c.in-Some.top seven low many suited c.in-Some.ensures.value)

pub returns-in-Some-four_or_full_house : goal.returns-in-Some-four_or_full_house
returns-in-Some-four_or_full_house c = λ cards suit seven profile low many suited.
    let P : Option Worth → Type 0 = λ o. MatchOption o (IsNoneAbove cards 5) (λ value. IsBestOf cards value) in
    subst P c.in-Some-four_or_full_house.is (c.four_or_full_house.ensures cards seven profile (none_above_seven_with cards suit c.args.suited.bits seven many suited c.in-None.ensures.value))

pub returns-in-None-four_or_full_house : goal.returns-in-None-four_or_full_house
returns-in-None-four_or_full_house c = λ cards suit seven profile low many suited.
    let P : Option Worth → Type 0 = λ o. MatchOption o (IsNoneAbove cards 5) (λ value. IsBestOf cards value) in
    let above : IsNoneAbove cards 5 = subst P c.in-None-four_or_full_house.is (c.four_or_full_house.ensures cards seven profile (none_above_seven_with cards suit c.args.suited.bits seven many suited c.in-None.ensures.value)) in
    let Q : Worth → Type 0 = λ w. IsBestOf cards w in
    let count : length c.five_highest.result ≡ 5 = search rules in
    subst Q (sym c.new-in-None-four_or_full_house.ensures) (best_flush_ranks cards c.five_highest.result suit c.args.suited.bits count seven low many above suited c.five_highest.ensures.highest)
