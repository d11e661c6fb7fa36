use Rattle.std.proofs.Common.{Bool, sym, subst}
use Rattle.node_service.specs.Apartness.{PutsOff}
use Rattle.node_service.proofs.seat_lines.tell_bot.Goals as goal

pub returns-then-is_apart-clause-waits : goal.returns-then-is_apart-clause-waits
returns-then-is_apart-clause-waits g c =
    subst (λ (b : Bool). PutsOff b c.args.seats.now.seats.items c.put_off.new.seats.seats.items) (sym c.if-is_apart.true) c.put_off.ensures.waits
