use Rattle.std.proofs.Common.{◌<◌, ◌-◌, ◌*◌, ◌+◌, ◌%◌, ℕ, get_or, arith}
use Rattle.std.proofs.Math.Nat.{mod-lt}
use Rattle.match_log.proofs.Decimals.{remainder_more}
use Rattle.match_log.proofs.numeral.remainder.Goals as goal

pub loop-digit-preserved : goal.loop-digit-preserved
loop-digit-preserved c =
    let sum : ℕ = c.loop-digit.left * 10 + (get_or c.args.digits.now c.loop-digit.digit-index 0 - 48) in
    let below : sum % c.args.divisor < c.args.divisor = mod-lt sum (omega (arith, c.requires.some)) in
    record {
      value = remainder_more c.args.digits.now c.loop-digit.digit-index c.loop-digit.left c.args.divisor c.loop-digit-test.true c.requires.digits c.loop-digit.invariant.value;
      small = omega (arith, below, c.requires.small);
    }
