use Rattle.std.proofs.Common.{Some, None, refl}
use Rattle.dealer_world.specs.Viewing.{view_of}
use Rattle.match_runs.proofs.Waiting.{awaited_told, read_told}
use Rattle.match_runs.proofs.telling.tell_waiting.Goals as goal

pub returns-then-is_awaited : goal.returns-then-is_awaited
returns-then-is_awaited g c =
    awaited_told (view_of c.args.cluster.now) c.args.ports c.args.is_awaited c.args.seat c.args.node _ _ c.if-is_awaited.true
    (rw c.config-config.ensures at c.tell_wait.ensures)

pub returns-in-Some : goal.returns-in-Some
returns-in-Some g c =
    read_told (view_of c.args.cluster.now) c.args.ports c.args.is_awaited c.args.seat c.args.node _ _ (Some c.in-Some.line.now) c.if-is_awaited.false c.in-Some.ensures.found
    (rw c.config-config.ensures at c.tell_wait_with.ensures)

pub returns-in-None : goal.returns-in-None
returns-in-None g c =
    read_told (view_of c.args.cluster.now) c.args.ports c.args.is_awaited c.args.seat c.args.node _ _ None c.if-is_awaited.false (c.in-None.ensures.missing refl)
    (rw c.config-config.ensures at c.tell_wait-in-None.ensures)
