use Rattle.std.proofs.Common.{◌∙◌, ap, sym, arith, None, Some}
use Rattle.seat_session.specs.Feeds.{line_feeds}
use Rattle.seat_session.specs.Session.{Standing, is_closed}
use Rattle.dealer_node.proofs.Draining.{heard_piece, closed_left, open_left}
use Rattle.dealer_node.proofs.seat_input.session_hears.Goals as goal

pub feed_reserved-requires : goal.feed_reserved-requires
feed_reserved-requires c = (c.requires.session c.in_ok-session.session c.in_ok-session.was).room

pub drain-requires-clause-sits : goal.drain-requires-clause-sits
drain-requires-clause-sits c =
    let can = c.requires.session c.in_ok-session.session c.in_ok-session.was in
    record { game = c.requires.sits.game; within = omega (arith, c.feed_reserved.ensures.seat, can.own, c.requires.sits.within) }

pub drain-requires-clause-stays : goal.drain-requires-clause-stays
drain-requires-clause-stays c =
    let can = c.requires.session c.in_ok-session.session c.in_ok-session.was in
    ap (λ (s : Standing). is_closed s.phase) c.feed_reserved.ensures.standing ∙ (ap is_closed (c.pieces_add_lines.ensures.same_phase c.in_ok-session.session.standing c.args.piece.now) ∙ can.stays)

pub drain-requires-clause-limit : goal.drain-requires-clause-limit
drain-requires-clause-limit c =
    let can = c.requires.session c.in_ok-session.session c.in_ok-session.was in
    let feeds = ap (λ (s : Standing). line_feeds s.waiting) c.feed_reserved.ensures.standing in
    let more = c.pieces_add_lines.ensures.feeds c.in_ok-session.session.standing c.args.piece.now can.stays in
    omega (arith, feeds, more, can.few)

pub returns-then-is_closed-clause-hears : goal.returns-then-is_closed-clause-hears
returns-then-is_closed-clause-hears c =
    let can = c.requires.session c.in_ok-session.session c.in_ok-session.was in
    heard_piece _ _ _ _ _ _ None c.in_ok-session.session _ _ c.drain.new.session.standing _ _ _ _ c.in_ok-session.was (c.feed_reserved.ensures.seat ∙ can.own) c.feed_reserved.ensures.standing c.drain.ensures.hears
    (sym (closed_left c.drain.new.session.standing (sym c.is_closed.ensures ∙ c.if-is_closed.true)))

pub returns-else-is_closed-clause-hears : goal.returns-else-is_closed-clause-hears
returns-else-is_closed-clause-hears c =
    let can = c.requires.session c.in_ok-session.session c.in_ok-session.was in
    heard_piece _ _ _ _ _ _ (Some c.drain.new.session) c.in_ok-session.session _ _ c.drain.new.session.standing _ _ _ _ c.in_ok-session.was (c.feed_reserved.ensures.seat ∙ can.own) c.feed_reserved.ensures.standing c.drain.ensures.hears
    (sym (open_left c.drain.new.session.standing (sym c.is_closed.ensures ∙ c.if-is_closed.false)))
