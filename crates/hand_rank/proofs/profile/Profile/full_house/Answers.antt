use Rattle.std.proofs.lemmas.Bool.{false≢true}
use Rattle.std.proofs.Common.{◌≡◌, ℕ, ◌<◌, ◌≤◌, List, Option, MatchOption, length, sym, subst, arith}
use Rattle.hand_rank.specs.Best.{IsBestOf}
use Rattle.hand_rank.specs.Worth.{Worth}
use Rattle.hand_rank.proofs.Values.{best_house, none_above_five}
use Rattle.hand_rank.proofs.profile.Profile.full_house.Goals as goal

pub returns-then-is_empty : goal.returns-then-is_empty
returns-then-is_empty c = λ cards seven profile above some.
    none_above_five cards c.args.self.twice.bits c.without-others.result.bits c.highest-three.result seven above profile.twice c.without-others.ensures (omega (arith, c.if-is_empty.ensures))

pub returns-else-is_empty : goal.returns-else-is_empty
returns-else-is_empty c = λ cards seven profile above some.
    let not_none : c.without-others.result.bits ≡ 0 → ⊥ = λ e. false≢true (c.if-is_empty.ensures.1 e) in
    let some_there : 0 < c.without-others.result.bits = omega arith in
    let P : Worth → Type 0 = λ w. IsBestOf cards w in
    subst P (sym c.new.ensures)
    (best_house cards c.args.self.thrice.bits c.args.self.twice.bits c.without-others.result.bits c.highest-three.result c.highest-pair.result seven above profile.thrice profile.twice (c.highest-three.ensures.highest some) c.without-others.ensures (c.highest-pair.ensures.highest some_there))
