use Rattle.std.proofs.Common.{refl}
use Rattle.seat_session.proofs.line_buffer.first_feed.Goals as goal

pub returns-in-Some : goal.returns-in-Some
returns-in-Some c =
    let found = c.in-Some.ensures.found in
    (c.in-Some.parts.0.now, c.in-Some.parts.1.now, record { joined = found.0; one_line = found.1 }, refl)
