use Rattle.std.proofs.Common.{◌≡◌, ℕ, ◌++◌, Bool, List, inl, refl, sym, ◌∙◌, ap, subst, map}
use Rattle.node_wires.specs.declared.passages.Passages.{Passages}
use Rattle.node_wires.specs.Passages.{Passage, logged_in, calls_in}
use Rattle.dealer_world.specs.Recordings.{text_by}
use Rattle.dealer_node.specs.Outs.{Told}
use Rattle.node_peers.specs.Peering.{passed_of, frames_of}
use Rattle.node_service.specs.Apartness.{PutsOff}
use Rattle.node_service.proofs.Apartness.{waits_by}
use Rattle.node_service.specs.Crossing.{IsCarried}
use Rattle.node_service.specs.Handed.{mark_handed}
use Rattle.node_service.specs.Showing.{added, LogGains}
use Rattle.node_service.proofs.Calls.{and_none}
use Rattle.node_service.proofs.Crossing.{carried_shown, lines_on, lines_saw, rests_saw, said_along}
use Rattle.node_service.proofs.desk.Desk.hand_on.Goals as goal

pub returns-clause-hands : goal.returns-clause-hands
returns-clause-hands g c =
    let old = c.args.self.now in
    let shows = c.show_all.new in
    let bots = c.tell_all.new.seats.seats.items in
    let before = g.W.Wire.passed old.wire in
    let looked = lines_saw before (g.W.Wire.passed c.now-now.new.self) c.now-now.result c.now-now.ensures.saw in
    let rests = rests_saw before (g.W.Wire.passed c.now-now.new.self) c.now-now.result c.now-now.ensures.saw in
    let lines : passed_of c.send_all.new.company.peers ≡ passed_of old.company.peers = ap (λ (p : Passages). p.items) c.send_all.ensures.keeps.1 in
    let kept = lines_on before (g.W.Wire.passed c.now-now.new.self) (g.W.Wire.passed shows.wire) looked c.show_all.ensures.lines in
    let sent : frames_of c.send_all.new.company.peers ≡ frames_of old.company.peers ++ map mark_handed old.member.made.frames =
    subst (λ (t : Told). frames_of c.send_all.new.company.peers ≡ frames_of old.company.peers ++ map mark_handed t.frames) c.made.ensures c.send_all.ensures.frames in
    record {
      calls = and_none (calls_in before) (calls_in (g.W.Wire.passed shows.wire)) kept.calls;
      log = subst (λ (m : List ℕ). LogGains old.log_failed shows.log_failed (added (map text_by old.member.made.shown)) m (logged_in (g.W.Wire.passed shows.wire))) rests.log
          (subst (λ (t : Told). LogGains old.log_failed shows.log_failed (added (map text_by t.shown)) (logged_in (g.W.Wire.passed c.now-now.new.self)) (logged_in (g.W.Wire.passed shows.wire))) c.made-2.ensures c.show_all.ensures.log);
      sent = sent;
      bots = c.tell_all.ensures.bots;
      sat = c.tell_all.ensures.sat;
      seats = c.show_all.ensures.seats ∙ rests.seats;
      heard = c.send_all.ensures.heard;
      guests = c.tell_all.ensures.guests;
      hears = c.send_all.ensures.hears;
      asked = λ place within. inl refl;
      waits = waits_by old.apart old.seats.seats.items bots (subst (λ (b : Bool). PutsOff b old.seats.seats.items bots) c.is_apart.ensures c.tell_all.ensures.waits);
      carried = λ is.
          subst (λ (m : List Passage). IsCarried (g.W.Wire.passed shows.wire) m bots old.askers.askers.items) (sym lines)
          (carried_shown before (g.W.Wire.passed shows.wire) (passed_of old.company.peers) old.seats.seats.items bots old.askers.askers.items kept.wrote kept.came
          (λ are. c.tell_all.ensures.said (g.W.Wire.passed shows.wire) (said_along before (g.W.Wire.passed shows.wire) old.seats.seats.items kept are)) is);
    }
