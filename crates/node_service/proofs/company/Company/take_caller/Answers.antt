use Rattle.node_service.proofs.Hearing.{shown_more}
use Rattle.node_service.proofs.company.Company.take_caller.Goals as goal

pub invariant_of-self : goal.invariant_of-self
invariant_of-self g c = record { shown = shown_more c.args.self.now.peers c.take_caller.new.self (g.W.Wire.passed c.args.wire.now) (g.W.Wire.passed c.take_caller.new.wire) c.args.self.now.told.items c.take_caller.ensures.grew c.args.self.now.shown }
