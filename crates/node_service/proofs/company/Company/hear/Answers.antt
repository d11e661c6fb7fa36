use Rattle.node_service.proofs.Hearing.{shown_more}
use Rattle.node_service.proofs.company.Company.hear.Goals as goal

pub invariant_of-self : goal.invariant_of-self
invariant_of-self g c = record { shown = shown_more c.args.self.now.peers c.hear.new.self (g.W.Wire.passed c.args.wire.now) (g.W.Wire.passed c.hear.new.wire) c.args.self.now.told.items c.hear.ensures.grew c.args.self.now.shown }
