use Rattle.std.proofs.Common.{◌≡◌, ◌+◌, ◌*◌, ◌<◌, false}
use Rattle.std.specs.Prelude.{IfSome}
use Rattle.paxos_wire.specs.Fits.{IsInRange}
use Rattle.seat_session.specs.Session.{is_closed, is_ready}
use Rattle.seat_session.specs.Feeds.{line_feeds}
use Rattle.paxos_wire.specs.declared.limits.TheConstants.{MOST_SINGLE_FRAME}
use Rattle.dealer_node.specs.Outs.{told_by}
use Rattle.dealer_node.specs.Members.{place_at}
use Rattle.dealer_node.specs.Rooms.{Grows, Tells}
use Rattle.dealer_node.proofs.Draining.{SoFar}
use Rattle.dealer_node.proofs.seat_input.drain.Given as goal

abbrev pub invariant-loop-step : goal.invariant-loop-step
invariant-loop-step l = record {
  stays : is_closed l.session.standing.phase ≡ false;
  seat : l.session.seat ≡ l.fn.session.seat;
  feeds : line_feeds l.session.standing.waiting + l.step < l.limit;
  heard : SoFar (place_at l.member) l.table l.promised l.fn.session.seat l.fn.session.standing l.session.standing l.fn.pending l.pending (told_by l.fn.made) (told_by l.made);
  still : is_ready l.session.standing.phase ≡ false → l.made.shown ≡ l.fn.made.shown;
  act : IfSome l.fn.pending (λ command. IsInRange command) → IfSome l.pending (λ command. IsInRange command);
  frames : Grows l.fn.made.frames l.made.frames l.step (MOST_SINGLE_FRAME * l.step);
  shown : Grows l.fn.made.shown l.made.shown 1 4096;
  faults : Tells l.fn.made l.made l.step;
}
