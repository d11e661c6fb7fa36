use Rattle.node_wires.specs.declared.line.Line.TheVariants.{Guest}
use Rattle.node_seats.proofs.Guesting.{heard_behind}
use Rattle.node_seats.proofs.guests.Guests.dismiss.Goals as goal

pub invariant_of-self : goal.invariant_of-self
invariant_of-self g c = record {
  heard = c.clear.ensures.closed c.closed.new.self.items (heard_behind c.args.self.now.guests.items (Guest c.args.place) c.args.self.now.passed.items c.closed.new.self.items c.closed.ensures c.args.self.now.heard);
}
