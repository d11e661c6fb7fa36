use Rattle.std.proofs.lemmas.Bool.{false≢true}
use Rattle.std.proofs.Common.{◌≡◌, ℕ, ◌<◌, ◌≤◌, List, Option, MatchOption, length, sym, subst, arith, rules}
use Rattle.hand_rank.specs.Best.{IsBestOf}
use Rattle.hand_rank.specs.Worth.{Worth}
use Rattle.hand_rank.proofs.Values.{best_high_cards, none_above_two}
use Rattle.hand_rank.proofs.profile.Profile.below_straight.Goals as goal

pub returns-then-is_empty : goal.returns-then-is_empty
returns-then-is_empty c = λ cards seven profile above.
    let P : Worth → Type 0 = λ w. IsBestOf cards w in
    let count : length c.five_highest.result ≡ 5 = search rules in
    subst P (sym c.new.ensures)
    (best_high_cards cards c.five_highest.result c.args.self.twice.bits c.args.self.once.bits count seven (none_above_two cards c.args.self.thrice.bits seven above profile.thrice (omega (arith, c.if-not-is_empty.ensures))) profile.twice (omega (arith, c.if-is_empty.ensures)) profile.once c.five_highest.ensures.highest)

pub returns-else-is_empty : goal.returns-else-is_empty
returns-else-is_empty c = λ cards seven profile above.
    let not_none : c.args.self.twice.bits ≡ 0 → ⊥ = λ e. false≢true (c.if-is_empty.ensures.1 e) in
    let some_there : 0 < c.args.self.twice.bits = omega arith in
    let none : c.args.self.thrice.bits ≡ 0 = omega (arith, c.if-not-is_empty.ensures) in
    c.pairs.ensures cards seven profile (none_above_two cards c.args.self.thrice.bits seven above profile.thrice none) none some_there
