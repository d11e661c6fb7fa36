use Rattle.std.proofs.lemmas.Bool.{false≢true}
use Rattle.std.proofs.Common.{◌≡◌, ℕ, ◌<◌, ◌≤◌, List, Option, MatchOption, length, sym, subst, arith}
use Rattle.hand_rank.specs.Best.{IsBestOf}
use Rattle.hand_rank.specs.Worth.{Worth}
use Rattle.hand_rank.proofs.Sets.{last_highest}
use Rattle.hand_rank.proofs.Values.{best_pair, best_two_pairs}
use Rattle.hand_rank.proofs.profile.Profile.pairs.Goals as goal

pub returns-then-is_empty : goal.returns-then-is_empty
returns-then-is_empty c = λ cards seven profile above no_three some.
    let P : Worth → Type 0 = λ w. IsBestOf cards w in
    subst P (sym c.new.ensures)
    (best_pair cards c.args.self.thrice.bits c.args.self.twice.bits c.args.self.once.bits c.without-pairs.result.bits c.without-others.result.bits c.highest-high.result c.highest-first.result c.highest-second.result c.highest-third.result seven above profile.thrice no_three profile.twice profile.once (c.highest-high.ensures.highest some) c.without-pairs.ensures (omega (arith, c.if-is_empty.ensures)) c.without-others.ensures (
      c.highest-first.ensures.highest,
      (
        c.without-below_first.result.bits,
        c.without-below_first.ensures,
        (c.highest-second.ensures.highest, (c.without.result.bits, c.without.ensures, last_highest c.without.result.bits c.highest-third.result c.highest-third.ensures.range c.without.result.in_range c.highest-third.ensures.highest)),
      ),
    ))

pub returns-else-is_empty : goal.returns-else-is_empty
returns-else-is_empty c = λ cards seven profile above no_three some.
    let not_none : c.without-pairs.result.bits ≡ 0 → ⊥ = λ e. false≢true (c.if-is_empty.ensures.1 e) in
    let some_there : 0 < c.without-pairs.result.bits = omega arith in
    let P : Worth → Type 0 = λ w. IsBestOf cards w in
    subst P (sym c.new-else-is_empty.ensures)
    (best_two_pairs cards c.args.self.thrice.bits c.args.self.twice.bits c.args.self.once.bits c.without-pairs.result.bits c.without-others.result.bits c.without-else-is_empty.result.bits c.highest-high.result c.highest-low.result c.highest-kicker.result seven above profile.thrice no_three profile.twice profile.once (c.highest-high.ensures.highest some) c.without-pairs.ensures (c.highest-low.ensures.highest some_there) c.without-others.ensures c.without-else-is_empty.ensures c.highest-kicker.ensures.highest)
