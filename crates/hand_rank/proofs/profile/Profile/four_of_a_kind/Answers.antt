use Rattle.std.proofs.Common.{◌≡◌, ℕ, ◌<◌, ◌≤◌, List, Option, MatchOption, length, sym, subst, arith}
use Rattle.hand_rank.specs.Best.{IsBestOf}
use Rattle.hand_rank.specs.Worth.{Worth}
use Rattle.hand_rank.proofs.Values.{best_four}
use Rattle.hand_rank.proofs.profile.Profile.four_of_a_kind.Goals as goal

pub returns : goal.returns
returns c = λ cards seven profile above some.
    let P : Worth → Type 0 = λ w. IsBestOf cards w in
    subst P (sym c.new.ensures)
    (best_four cards c.args.self.four.bits c.args.self.once.bits c.without.result.bits c.highest-four.result c.highest-kicker.result seven above profile.four profile.once (c.highest-four.ensures.highest some) c.without.ensures c.highest-kicker.ensures.highest)
