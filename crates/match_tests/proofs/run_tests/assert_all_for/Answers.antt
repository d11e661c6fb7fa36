use Rattle.std.proofs.Common.{◌<◌, ◌≡◌, length, subst, arith}
use Rattle.std.proofs.lemmas.List.{get_or_read}
use Rattle.std.proofs.lemmas.List.Elements.{All-more}
use Rattle.dealer_world.specs.Promise.{IsForMatch}
use Rattle.dealer_world.specs.Viewing.{view_of}
use Rattle.match_tests.proofs.run_tests.assert_all_for.Goals as goal

pub loop-event-preserved : goal.loop-event-preserved
loop-event-preserved g c =
    let events = c.args.events.now in
    let within : c.loop-event.event-index < length events = omega arith in
    All-more (IsForMatch (view_of c.args.cluster.now).config) events c.loop-event.event-index c.event-item.result within c.loop-event.invariant
    (subst (IsForMatch (view_of c.args.cluster.now).config) c.event-item.is c.assert_for.ensures)
