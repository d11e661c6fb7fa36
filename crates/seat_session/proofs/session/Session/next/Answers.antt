use Rattle.std.proofs.Common.{◌∙◌, Some, ap, arith}
use Rattle.seat_session.specs.Session.{Conversation}
use Rattle.seat_session.proofs.AtTable.{said_in_range}
use Rattle.seat_session.proofs.Heard.{answers_front}
use Rattle.seat_session.proofs.session.Session.next.Goals as goal

pub returns : goal.returns
returns c =
    let self = c.args.self.now in
    let table = c.args.table.now in
    let inside = c.self.inside in
    let stands = ap (λ (v : Conversation). v.standing) c.self.view_is in
    let seated = ap (λ (v : Conversation). v.seat) c.self.view_is in
    let roomy = ap (λ (v : Conversation). v.room) c.self.view_is in
    record {
      answer = answers_front table.game table.hands self.seat self.standing inside.phase inside.lines.waiting c.skip_lines.new.self.waiting c.in-Some.said c.go_on.new.self.standing stands c.in_default.not-Closed c.skip_lines.ensures.skips c.skip_lines.ensures.counts (rw seated at c.in-Some.ensures.front) c.go_on.ensures.line c.go_on.ensures.too_long;
      fits = c.in-Some.ensures.fits;
      range = said_in_range table (Some c.in-Some.said) c.limits.ensures.range c.in-Some.ensures.fits;
      seat = c.go_on.ensures.seat ∙ seated;
      room = omega (arith, roomy, c.skip_lines.ensures.room, c.go_on.ensures.room);
    }
