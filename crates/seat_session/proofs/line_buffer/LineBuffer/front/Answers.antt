use Rattle.std.proofs.lemmas.Grind.{common_steps}
use Rattle.std.proofs.Common.{length, ap, arith}
use Rattle.seat_session.specs.Lines.{HasNoFeed, Breaks}
use Rattle.seat_session.proofs.LineLemmas.{overlong_line, overlong_rest}
use Rattle.seat_session.proofs.line_buffer.LineBuffer.front.Goals as goal
use Rattle.seat_session.proofs.line_buffer.LineBuffer.front.Goals.{in_default-via-in-Some+else-place-le-LONGEST_LINE, in_default-via-in-None+else-waiting-le-LONGEST_LINE}

pub returns-in_default : goal.returns-in_default
returns-in_default c =
    let waiting = c.args.self.now.waiting in
    let shown = c.waiting-waiting.ensures in
    elim c.in_default.branch [
      | in_default-via-in-Some+else-place-le-LONGEST_LINE w ↦
          let found = w.in-Some.ensures in
          let breaks : Breaks waiting found.0 found.1 = rw (← shown) found.2 in
          overlong_line waiting found.0 found.1 breaks (omega (arith, w.if-place-le-LONGEST_LINE.false, found.3))
      | in_default-via-in-None+else-waiting-le-LONGEST_LINE w ↦
          let clear : HasNoFeed waiting = rw shown at w.in-None.ensures in
          overlong_rest waiting clear (omega (arith, w.if-waiting-le-LONGEST_LINE.false, ap length shown))
    ]

pub returns-in-Some : goal.returns-in-Some
returns-in-Some c = grind (arith, common_steps)
