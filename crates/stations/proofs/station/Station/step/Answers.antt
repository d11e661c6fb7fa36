use Rattle.std.proofs.Common.{◌≡◌, ◌∷◌, ℕ, List, refl, sym, subst}
use Rattle.std.proofs.Math.Logic.{∥∥₁_map, ∥∥₁_elim}
use Rattle.node_rules.specs.Standings.{Place, place_of}
use Rattle.dealer_node.specs.Nodes.{Node}
use Rattle.dealer_node.specs.Seeing.{runs, front_in}
use Rattle.dealer_world.specs.Stepping.{IsFor, for_prop}
use Rattle.stations.specs.Moments.{moment_now}
use Rattle.stations.specs.Stations.{Look, Acts, Works, acted}
use Rattle.stations.specs.Looking.{look_of}
use Rattle.stations.proofs.OwnTables.{put_first, put_now, tables_then}
use Rattle.stations.proofs.Acting.{gains_seen, stays_true, still_at_place}
use Rattle.stations.proofs.station.Station.step.Goals as goal

pub give-answer-requires-clause-within : goal.give-answer-requires-clause-within
give-answer-requires-clause-within g c =
    let e = c.args.event.now in
    ∥∥₁_elim c.args.self.now.at_place (for_prop _ _ e) (λ placed.
    subst (λ (p : Place). IsFor p.nodes p.setting.game.players e) (sym placed) c.requires.within)

pub invariant_of-self : goal.invariant_of-self
invariant_of-self g c =
    let old = c.args.self.now in
    let e = c.args.event.now in
    let place = place_of old.config old.number in
    let new = c.give-answer.new.node in
    let gains = gains_seen c.running-was_up.result (runs old.node) c.front-front.result (front_in old.node) e c.give-answer.new.made c.give-answer.result old.deeds.items c.add_call.new.self.items
    c.running-was_up.ensures.value c.front-front.ensures.value c.add_call.ensures in
    let moments = c.add.new.self.items in
    let first : moments ≡ moment_now new c.add_call.new.self.items ∷ old.moments.items =
    put_first new c.table.result.now c.add_call.new.self.items old.moments.items moments c.table.ensures.now c.add.ensures in
    let look : Look (Node g.row.D.Denot) = record { config = old.config; number = old.number; node = new; deeds = c.add_call.new.self.items; moments = moments } in
    let acts : Acts g.D.Disk e c.give-answer.new.made c.give-answer.result (look_of old) look =
    record { config = refl; number = refl; given = c.give-answer.ensures.given; gains = gains; moments = first } in
    let at_place = still_at_place g.D.Disk place old.node new c.give-answer.ensures.given.stays.member old.at_place in
    let true_to = stays_true g.D.Disk c.events_are_calls.ensures.calls c.events_are_calls.ensures.none place e old.node new c.give-answer.new.made c.give-answer.result old.deeds.items c.add_call.new.self.items
    old.at_place c.requires.here c.requires.within c.give-answer.ensures.given gains old.true_to in
    record {
      here = old.here;
      at_place = at_place;
      newest = put_now new c.add_call.new.self.items old.moments.items moments first;
      true_to = true_to;
      tables = tables_then g.D.Disk place e c.give-answer.new.made c.give-answer.result (look_of old) look acts at_place true_to old.tables;
      works = ∥∥₁_map old.works (λ before.
          acted _ _ e c.give-answer.new.made c.give-answer.result (subst (λ (file : List ℕ). Works g.D.Disk place file (look_of old)) (sym c.give-answer.ensures.given.stays.begun) before)
          c.requires.here c.requires.within acts);
    }

pub returns : goal.returns
returns g c =
    let old = c.args.self.now in
    record {
      config = refl;
      number = refl;
      given = c.give-answer.ensures.given;
      gains = gains_seen c.running-was_up.result (runs old.node) c.front-front.result (front_in old.node) c.args.event.now c.give-answer.new.made c.give-answer.result old.deeds.items
          c.add_call.new.self.items c.running-was_up.ensures.value c.front-front.ensures.value c.add_call.ensures;
      moments = put_first c.give-answer.new.node c.table.result.now c.add_call.new.self.items old.moments.items c.add.new.self.items c.table.ensures.now c.add.ensures;
    }
