use Rattle.std.proofs.Common.{Bool, refl, subst}
use Rattle.node_service.specs.Apartness.{PutsOff}
use Rattle.node_service.proofs.Apartness.{waits_by}
use Rattle.node_service.proofs.Keeping.{kept_told}
use Rattle.node_service.proofs.desk.Desk.tell_bot.Goals as goal

pub returns-clause-kept : goal.returns-clause-kept
returns-clause-kept g c =
    let old = c.args.self.now in
    let before = old.seats.seats.items in
    let after = c.tell_bot.new.seats.seats.items in
    kept_told g.W.Wire (waits_by old.apart before after (subst (λ (b : Bool). PutsOff b before after) c.is_apart.ensures c.tell_bot.ensures.waits)) refl refl refl refl refl refl c.tell_bot.ensures.bots c.tell_bot.ensures.guests
    c.tell_bot.ensures.said c.tell_bot.ensures.sat
