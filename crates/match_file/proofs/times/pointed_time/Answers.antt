use Rattle.std.proofs.Common.{arith}
use Rattle.match_file.proofs.Timing.{no_seconds, no_fraction, one_time}
use Rattle.match_file.proofs.times.pointed_time.Goals as goal
use Rattle.match_file.proofs.times.pointed_time.Goals.{else-milliseconds-ge-LEAST-via-then-milliseconds-ge-LEAST+else-milliseconds, else-milliseconds-ge-LEAST-via-else-milliseconds-ge-LEAST}

pub returns-in_err-seconds : goal.returns-in_err-seconds
returns-in_err-seconds c =
    let cut = c.in_ok-front.ensures.found in
    rw c.from_residual-in_err-seconds.ensures (
    no_seconds c.args.text.now c.in_ok-front.front.now c.in_ok-front.digits.now cut.0 cut.1 c.read_number.result c.read_number.ensures.only c.in_err-seconds.was
    )

pub returns-in_err-thousandths : goal.returns-in_err-thousandths
returns-in_err-thousandths c =
    let cut = c.in_ok-front.ensures.found in
    rw c.from_residual-in_err-thousandths.ensures (no_fraction c.args.text.now c.in_ok-front.front.now c.in_ok-front.digits.now cut.0 cut.1 c.in_err-thousandths.ensures)

pub returns-then-seconds-gt-DAY : goal.returns-then-seconds-gt-DAY
returns-then-seconds-gt-DAY c =
    λ milliseconds is.
    let cut = c.in_ok-front.ensures.found in
    let same =
    one_time c.args.text.now c.in_ok-front.front.now c.in_ok-front.digits.now cut.0 cut.1 c.read_number.result c.read_number.ensures.only c.in_ok-seconds.seconds
    c.in_ok-thousandths.thousandths c.in_ok-seconds.was c.in_ok-thousandths.ensures.0 milliseconds is in
    let many = c.if-seconds-gt-DAY.true in
    let most = is.most in
    omega (arith, same, many, most)

pub returns-else-milliseconds-ge-LEAST : goal.returns-else-milliseconds-ge-LEAST
returns-else-milliseconds-ge-LEAST c =
    λ milliseconds is.
    let cut = c.in_ok-front.ensures.found in
    let same =
    one_time c.args.text.now c.in_ok-front.front.now c.in_ok-front.digits.now cut.0 cut.1 c.read_number.result c.read_number.ensures.only c.in_ok-seconds.seconds
    c.in_ok-thousandths.thousandths c.in_ok-seconds.was c.in_ok-thousandths.ensures.0 milliseconds is in
    let least = is.least in
    let most = is.most in
    elim c.else-milliseconds-ge-LEAST.branch [
      | else-milliseconds-ge-LEAST-via-then-milliseconds-ge-LEAST+else-milliseconds w ↦ let more = w.if-milliseconds.false in omega (arith, same, more, most)
      | else-milliseconds-ge-LEAST-via-else-milliseconds-ge-LEAST w ↦ let less = w.if-milliseconds-ge-LEAST.false in omega (arith, same, less, least)
    ]
