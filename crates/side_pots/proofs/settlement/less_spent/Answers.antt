use Rattle.std.proofs.Common.{◌∙◌, ◌<◌, ℕ, length, pos, ◌-ℤ◌, get_or, arith, Fits, w32}
use Rattle.std.proofs.lemmas.Int.{ints}
use Rattle.std.proofs.lemmas.List.Sums.{get_or-le-sum_by}
use Rattle.side_pots.proofs.OddChips.{push_range}
use Rattle.side_pots.proofs.settlement.less_spent.Goals as goal

pub loop-position-preserved : goal.loop-position-preserved
loop-position-preserved c =
    let within : c.loop-position.position < length c.args.won.now = omega (arith, c.requires.one_length, c.loop-position-test.true) in
    let low : get_or c.args.won.now c.loop-position.position 0 < 9223372036854775808 =
    omega (arith, c.requires.fits, get_or-le-sum_by (λ (x : ℕ). x) c.args.won.now c.loop-position.position 0 within) in
    let small : Fits w32 (get_or c.args.spent.now c.loop-position.position 0) = c.type_inv.spent c.loop-position.position in
    c.push.ensures.items ∙ push_range (λ position. pos (get_or c.args.won.now position 0) -ℤ pos (get_or c.args.spent.now position 0)) c.loop-position.payoffs.items c.loop-position.position _ c.loop-position.invariant (omega (arith, ints, c.from.ensures))
