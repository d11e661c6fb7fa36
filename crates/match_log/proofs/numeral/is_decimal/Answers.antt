use Rattle.std.proofs.Common.{arith, ◌≤◌, length}
use Rattle.std.proofs.lemmas.Bool.Decides.{nat_tests}
use Rattle.match_log.proofs.Decimals.{decimal_by_tests}
use Rattle.match_log.proofs.numeral.is_decimal.Goals as goal
use Rattle.match_log.proofs.numeral.is_decimal.Goals.{else-bytes-gt1-via-then-bytes-gt1+else-bytes-eq48, else-bytes-gt1-via-else-bytes-gt1}

pub returns : goal.returns
returns c =
    let filled = c.if-is_empty.ensures in
    let some : 1 ≤ length c.args.bytes.now = grind (arith, nat_tests) in
    decimal_by_tests c.args.bytes.now c.are_digits.result some
    (λ zero. elim c.else-bytes-gt1.branch [
      | else-bytes-gt1-via-then-bytes-gt1+else-bytes-eq48 w ↦ absurd (w.if-bytes-eq48.false zero)
      | else-bytes-gt1-via-else-bytes-gt1 w ↦ let short = w.if-bytes-gt1.false in omega (arith, some, short)
    ]) c.are_digits.ensures
