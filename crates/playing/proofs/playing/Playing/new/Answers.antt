use Rattle.std.proofs.Common.{ℕ, length, rules, refl, ap, arith}
use Rattle.protocol_model.specs.Stores.{empty_store}
use Rattle.dealer_world.specs.Viewing.{view_of}
use Rattle.playing.proofs.OneList.{shows_one, started_unforged}
use Rattle.playing.proofs.playing.Playing.new.Goals as goal

pub invariant_of-result : goal.invariant_of-result
invariant_of-result c =
    let view = view_of c.in-Ok.cluster in
    let unforged = started_unforged (λ (i : ℕ). empty_store) view (c.in-Ok.ensures.started refl) in
    record {
      within = omega (arith, ap length c.new-2.ensures);
      fresh = c.in-Ok.ensures.opened;
      unforged = unforged;
      shows = shows_one view c.in-Ok.ensures.opened c.in-Ok.ensures.promised unforged;
    }

pub returns-clause-begun : goal.returns-clause-begun
returns-clause-begun c = search rules
