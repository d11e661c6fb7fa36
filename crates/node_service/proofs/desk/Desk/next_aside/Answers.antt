use Rattle.std.proofs.Common.{◌≡◌, List, ◌++◌, inl, refl, sym, ap, subst, ◌∙◌, append-nil}
use Rattle.node_wires.specs.declared.passages.Passages.{Passages}
use Rattle.node_wires.specs.Passages.{Passage, seats_in}
use Rattle.node_peers.specs.Peering.{own_of, passed_of, heard_of}
use Rattle.stations.specs.Looking.{look_of}
use Rattle.node_service.specs.Crossing.{IsCarried}
use Rattle.node_service.proofs.Apartness.{waits_same}
use Rattle.node_service.proofs.Bots.{bots_still}
use Rattle.node_service.proofs.Crossing.{heard_now}
use Rattle.node_service.proofs.Telling.{no_seat_told, told_is_heard}
use Rattle.node_service.proofs.Welcoming.{hosts_none, let_in_of_peers}
use Rattle.node_service.proofs.desk.Desk.next_aside.Goals as goal

pub returns-clause-takes : goal.returns-clause-takes
returns-clause-takes g c =
    let old = c.args.self.now in
    let lines : passed_of c.next_aside.new.self.peers ≡ passed_of old.company.peers = ap (λ (p : Passages). p.items) c.next_aside.ensures.keeps.1 in
    record {
      look = refl;
      started = refl;
      terms = refl;
      log_failed = refl;
      sent = c.next_aside.ensures.frames;
      bots = bots_still (look_of old.member.station) old.seats.seats.items;
      calls = refl;
      log = refl;
      seats = sym (ap (λ (m : List Passage). seats_in (g.W.Wire.passed old.wire) ++ m) (no_seat_told c.next_aside.result) ∙ append-nil (seats_in (g.W.Wire.passed old.wire)));
      heard = c.next_aside.ensures.heard ∙ ap (λ (m : List Passage). heard_of old.company.peers ++ m) (told_is_heard c.next_aside.result);
      were = heard_now (own_of c.next_aside.new.self.peers) (passed_of c.next_aside.new.self.peers) c.next_aside.result c.next_aside.ensures.told;
      hosts = hosts_none old.seats.guests old.seats.guests refl;
      let_in = let_in_of_peers old.seats.guests c.next_aside.result;
      sittings = λ seat. inl refl;
      somebody = λ are seat sits. inl (are seat sits);
      hears = c.next_aside.ensures.hears;
      asked = λ place within. inl refl;
      waits = waits_same old.apart old.seats.seats.items;
      carried = λ is. subst (λ (m : List Passage). IsCarried (g.W.Wire.passed old.wire) m old.seats.seats.items old.askers.askers.items) (sym lines) is;
    }
