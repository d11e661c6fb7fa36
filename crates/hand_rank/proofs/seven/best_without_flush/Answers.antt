use Rattle.std.proofs.Common.{◌≡◌, ℕ, ◌<◌, ◌≤◌, List, Option, MatchOption, length, sym, subst}
use Rattle.hand_rank.specs.Best.{IsBestOf}
use Rattle.hand_rank.specs.Worth.{Worth}
use Rattle.hand_rank.specs.Profile.{IsNoneAbove}
use Rattle.hand_rank.proofs.Values.{best_straight, none_above_seven, none_above_four, none_above_three}
use Rattle.hand_rank.proofs.seven.best_without_flush.Goals as goal

pub returns-in-Some : goal.returns-in-Some
returns-in-Some c = λ cards seven profile few.
    let P : Option Worth → Type 0 = λ o. MatchOption o (IsNoneAbove cards 5) (λ value. IsBestOf cards value) in
    subst P c.in-Some.is (c.four_or_full_house.ensures cards seven profile (none_above_seven cards seven few))

pub returns-in-Some-straight_top : goal.returns-in-Some-straight_top
returns-in-Some-straight_top c = λ cards seven profile few.
    let P : Option Worth → Type 0 = λ o. MatchOption o (IsNoneAbove cards 5) (λ value. IsBestOf cards value) in
    let above : IsNoneAbove cards 5 = subst P c.in-None.is (c.four_or_full_house.ensures cards seven profile (none_above_seven cards seven few)) in
    let Q : Worth → Type 0 = λ w. IsBestOf cards w in
    subst Q (sym c.new.ensures) (best_straight cards c.args.profile.once.bits c.in-Some-straight_top.top seven (none_above_four cards seven above few) profile.once c.in-Some-straight_top.ensures.value)

pub returns-in-None-straight_top : goal.returns-in-None-straight_top
returns-in-None-straight_top c = λ cards seven profile few.
    let P : Option Worth → Type 0 = λ o. MatchOption o (IsNoneAbove cards 5) (λ value. IsBestOf cards value) in
    let above : IsNoneAbove cards 5 = subst P c.in-None.is (c.four_or_full_house.ensures cards seven profile (none_above_seven cards seven few)) in
    c.below_straight.ensures cards seven profile (none_above_three cards c.args.profile.once.bits seven (none_above_four cards seven above few) profile.once c.in-None-straight_top.ensures.value)
