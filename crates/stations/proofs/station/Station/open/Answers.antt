use Rattle.std.proofs.Common.{◌≡◌, ◌∙◌, ◌∷◌, List, [], ap, refl, sym, subst}
use Rattle.std.proofs.Math.Logic.{∥∥₁_map}
use Rattle.node_rules.specs.Standings.{place_of}
use Rattle.dealer_node.specs.Seeing.{IsSeen}
use Rattle.stations.specs.Deeds.{Deed}
use Rattle.stations.specs.Moments.{Moment, moment_now}
use Rattle.stations.specs.Stations.{IsTrueTo, AreTrueTo, opened}
use Rattle.stations.proofs.OwnTables.{put_first, put_now, tables_now, no_tables}
use Rattle.stations.proofs.station.Station.open.Goals as goal

pub invariant_of-result : goal.invariant_of-result
invariant_of-result g c =
    let node = c.in_ok-node.node in
    let made = c.in_ok-node.ensures.node in
    let place = place_of c.args.config c.args.number in
    let deeds = c.new-deeds.result.items in
    let moments = c.add.new.self.items in
    let earlier = c.new-moments.result.items in
    let first : moments ≡ moment_now node deeds ∷ earlier = put_first node c.table.result.now deeds earlier moments c.table.ensures.now c.add.ensures in
    let true_to : IsTrueTo g.D.Disk place node deeds = rw c.new-deeds.ensures (λ before left honest. ∥∥₁_map left (λ was.
    record { s = was.s; seen = subst (λ s. IsSeen g.D.Disk node s) (sym was.down) (made.seen was.s.store was.s.begun was.held); did = was.did })) in
    record {
      here = c.requires;
      at_place = ∣ made.placed ∣₁;
      newest = put_now node deeds earlier moments first;
      true_to = true_to;
      tables = subst (AreTrueTo g.D.Disk place node) (sym first)
          (tables_now g.D.Disk place node deeds earlier ∣ made.placed ∣₁ true_to (subst (AreTrueTo g.D.Disk place node) (sym c.new-moments.ensures) (no_tables g.D.Disk place node)));
      works = ∣ opened _ refl refl c.new-deeds.ensures
          (first ∙ (ap (λ (ds : List Deed). moment_now node ds ∷ earlier) c.new-deeds.ensures ∙ ap (λ (ms : List Moment). moment_now node [] ∷ ms) c.new-moments.ensures)) ∣₁;
    }
