use Rattle.dealer_node.specs.Outs.{told_by}
use Rattle.dealer_node.proofs.Answered.{ready_taken}
use Rattle.dealer_node.proofs.seat_input.take_ready.Goals as goal

pub returns-clause-taken : goal.returns-clause-taken
returns-clause-taken c = λ place promised pending same.
    ready_taken place c.args.table.now promised c.args.seat pending (told_by c.args.made.now) c.show_line.new.shown.texts (c.show_line.ensures.texts place.setting same)
