use Rattle.std.proofs.Common.{◌≡◌, ℕ, ◌<◌, ◌-◌, ◌^◌, sym, subst, refl, arith, w16}
use Rattle.std.specs.Int.{leading_zeros}
use Rattle.hand_rank.specs.Ranks.{IsHighest}
use Rattle.hand_rank.proofs.Sets.{highest_of, highest_below}
use Rattle.hand_rank.proofs.rank_set.highest_bit.Goals as goal

pub returns-clause-highest : goal.returns-clause-highest
returns-clause-highest c =
    λ some.
    let P : ℕ → Type 0 = λ n. IsHighest c.args.bits n in
    let low : c.args.bits < 2 ^ 16 = omega arith in
    subst P (sym c.saturating_sub.ensures) (highest_of c.args.bits (leading_zeros w16 c.args.bits) low refl some)

pub returns-clause-range : goal.returns-clause-range
returns-clause-range c =
    λ width some short below.
    let P : ℕ → Type 0 = λ n. n < width in
    subst P (sym c.saturating_sub.ensures) (highest_below c.args.bits (leading_zeros w16 c.args.bits) width below short some refl)
