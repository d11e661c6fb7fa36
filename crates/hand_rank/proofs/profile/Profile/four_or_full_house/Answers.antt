use Rattle.std.proofs.lemmas.Bool.{false≢true}
use Rattle.std.proofs.Common.{◌≡◌, ℕ, ◌<◌, ◌≤◌, List, Option, MatchOption, length, sym, subst, arith}
use Rattle.hand_rank.specs.Best.{IsBestOf}
use Rattle.hand_rank.specs.Worth.{Worth}
use Rattle.hand_rank.proofs.Values.{none_above_six, none_above_five_without}
use Rattle.hand_rank.proofs.profile.Profile.four_or_full_house.Goals as goal

pub returns-then-is_empty : goal.returns-then-is_empty
returns-then-is_empty c = λ cards seven profile above.
    none_above_five_without cards c.args.self.thrice.bits seven (none_above_six cards c.args.self.four.bits seven above profile.four (omega (arith, c.if-not-is_empty.ensures))) profile.thrice (omega (arith, c.if-is_empty.ensures))

pub returns-else-is_empty : goal.returns-else-is_empty
returns-else-is_empty c = λ cards seven profile above.
    let not_none : c.args.self.thrice.bits ≡ 0 → ⊥ = λ e. false≢true (c.if-is_empty.ensures.1 e) in
    let some_there : 0 < c.args.self.thrice.bits = omega arith in
    c.full_house.ensures cards seven profile (none_above_six cards c.args.self.four.bits seven above profile.four (omega (arith, c.if-not-is_empty.ensures))) some_there
