use Rattle.std.proofs.Common.{List, ◌++◌, inl, refl, sym, ◌∙◌, ap, append-nil}
use Rattle.node_wires.specs.Passages.{Passage, seats_in}
use Rattle.node_peers.specs.Peering.{own_of, passed_of, heard_of}
use Rattle.stations.specs.Looking.{look_of}
use Rattle.node_service.proofs.Apartness.{waits_changed}
use Rattle.node_service.proofs.Bots.{bots_changed}
use Rattle.node_service.proofs.Hearing.{hears_none}
use Rattle.node_service.proofs.Calls.{by_bots}
use Rattle.node_service.proofs.Crossing.{carried_seated}
use Rattle.node_service.proofs.Seated.{coming_somebody}
use Rattle.node_service.proofs.Incoming.{passed_is_incoming, no_peer_told, none_of_peers}
use Rattle.node_service.proofs.Welcoming.{hosts_coming, let_in_coming}
use Rattle.node_service.proofs.desk.Desk.next_of_seats.Goals as goal

pub returns-clause-takes : goal.returns-clause-takes
returns-clause-takes g c =
    let old = c.args.self.now in
    record {
      look = refl;
      started = refl;
      terms = refl;
      log_failed = refl;
      sent = refl;
      bots = bots_changed (look_of old.member.station) c.next-notice.result old.seats.seats.items c.next-notice.new.self.seats.items c.next-notice.ensures.comes.sits;
      calls = by_bots (g.W.Wire.passed old.wire) (g.W.Wire.passed c.next-notice.new.wire) c.next-notice.ensures.others;
      log = c.next-notice.ensures.log;
      seats = c.next-notice.ensures.seats ∙ ap (λ (m : List Passage). seats_in (g.W.Wire.passed old.wire) ++ m) (passed_is_incoming c.next-notice.result);
      heard = sym (ap (λ (m : List Passage). heard_of old.company.peers ++ m) (no_peer_told c.next-notice.result) ∙ append-nil (heard_of old.company.peers));
      were = none_of_peers (own_of old.company.peers) (passed_of old.company.peers) c.next-notice.result;
      hosts = hosts_coming c.next-notice.result old.seats c.next-notice.new.self (g.W.Wire.passed old.wire) (g.W.Wire.passed c.next-notice.new.wire) c.next-notice.ensures.comes;
      let_in = let_in_coming c.next-notice.result old.seats c.next-notice.new.self (g.W.Wire.passed old.wire) (g.W.Wire.passed c.next-notice.new.wire) c.next-notice.ensures.comes;
      sittings = c.note_gone.ensures;
      somebody = λ are. coming_somebody c.next-notice.result old.seats.seats.items c.next-notice.new.self.seats.items old.sittings c.note_gone.new.sittings c.next-notice.ensures.comes.sits c.note_gone.ensures are;
      hears = hears_none _ _ _ _ refl refl;
      asked = λ place within. inl refl;
      waits = waits_changed old.apart c.next-notice.result old.seats.seats.items c.next-notice.new.self.seats.items c.next-notice.ensures.comes.sits;
      carried = λ is.
          carried_seated (g.W.Wire.passed old.wire) (g.W.Wire.passed c.next-notice.new.wire) (passed_of old.company.peers) old.seats.seats.items c.next-notice.new.self.seats.items old.askers.askers.items c.next-notice.ensures.others
          c.next-notice.ensures.unsaid c.next-notice.ensures.said is;
    }
