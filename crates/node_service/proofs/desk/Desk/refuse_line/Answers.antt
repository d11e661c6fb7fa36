use Rattle.std.proofs.Common.{refl}
use Rattle.node_service.proofs.Apartness.{none_in_any, waits_by}
use Rattle.node_service.proofs.Keeping.{kept_told}
use Rattle.node_service.proofs.desk.Desk.refuse_line.Goals as goal

pub returns : goal.returns
returns g c =
    let old = c.args.self.now in
    let before = old.seats.seats.items in
    let after = c.refuse.new.seats.seats.items in
    kept_told g.W.Wire (waits_by old.apart before after (none_in_any old.apart.is_apart before after c.refuse.ensures.waits)) refl refl refl refl refl refl c.refuse.ensures.bots c.refuse.ensures.guests c.refuse.ensures.said c.refuse.ensures.sat
