use Rattle.dealer_node.specs.Outs.{told_by}
use Rattle.dealer_node.proofs.Answered.{fault_taken}
use Rattle.dealer_node.proofs.seat_input.take_fault.Goals as goal

pub returns-clause-taken : goal.returns-clause-taken
returns-clause-taken c = λ place table promised pending. fault_taken place table promised c.args.seat c.args.fault pending (told_by c.args.made.now) c.push_reserved.new.self.items c.push_reserved.ensures.items
