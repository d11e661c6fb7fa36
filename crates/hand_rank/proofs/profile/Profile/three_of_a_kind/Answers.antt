use Rattle.std.proofs.Common.{◌≡◌, ℕ, ◌<◌, ◌≤◌, List, Option, MatchOption, length, sym, subst, arith}
use Rattle.hand_rank.specs.Best.{IsBestOf}
use Rattle.hand_rank.specs.Worth.{Worth}
use Rattle.hand_rank.proofs.Sets.{last_highest}
use Rattle.hand_rank.proofs.Values.{best_three}
use Rattle.hand_rank.proofs.profile.Profile.three_of_a_kind.Goals as goal

pub returns : goal.returns
returns c = λ cards seven profile above some.
    let P : Worth → Type 0 = λ w. IsBestOf cards w in
    subst P (sym c.new.ensures)
    (best_three cards c.args.self.thrice.bits c.args.self.once.bits c.without-others.result.bits c.highest-three.result c.highest-first.result c.highest-second.result seven above profile.thrice profile.once (c.highest-three.ensures.highest some) c.without-others.ensures
    (c.highest-first.ensures.highest, (c.without.result.bits, c.without.ensures, last_highest c.without.result.bits c.highest-second.result c.highest-second.ensures.range c.without.result.in_range c.highest-second.ensures.highest)))
