use Rattle.node_service.proofs.Hearing.{shown_later}
use Rattle.node_service.proofs.company.Company.speak.Goals as goal

pub invariant_of-self : goal.invariant_of-self
invariant_of-self g c = record {
  shown =
      shown_later c.args.self.now.peers c.tell.new.self c.flush.new.self (g.W.Wire.passed c.args.wire.now) (g.W.Wire.passed c.flush.new.wire) c.args.self.now.told.items c.tell.ensures.stays c.flush.ensures.grew
      c.args.self.now.shown;
}
