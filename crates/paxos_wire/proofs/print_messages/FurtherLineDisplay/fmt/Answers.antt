use Rattle.std.proofs.Common.{refl}
use Rattle.std.proofs.Output.{has_written_append, has_written_of_eq}
use Rattle.paxos_wire.specs.Lines.{further_line}
use Rattle.paxos_wire.proofs.Room.{and_next}
use Rattle.paxos_wire.proofs.print_messages.FurtherLineDisplay.fmt.Goals as goal

pub loop-command-preserved : goal.loop-command-preserved
loop-command-preserved g c = λ plain.
    let so_far = c.loop-command.invariant plain in
    let further = c.in_ok-write.ensures.writes so_far.plain refl in
    has_written_of_eq _ _ _ _ _ (and_next further_line c.args.self.now.0.now c.loop-command.command-index c.command-item.result c.loop-command-test.true c.command-item.is) (has_written_append _ _ _ _ _ _ so_far further)
