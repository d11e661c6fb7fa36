use Rattle.std.proofs.Common.{◌≡◌, ◌++◌, ◌∷◌, [], List, length, ap, sym, subst, arith, rules, length-append}
use Rattle.std.specs.Vec.Iter.{into_iter_items}
use Rattle.dealer_node.specs.Nodes.{Node}
use Rattle.dealer_world.specs.Beginning.{IsCreatedAt, AreEach}
use Rattle.dealer_world.proofs.Each.{each_more}
use Rattle.dealer_world.proofs.beginning.created_all.Goals as goal

pub loop-disk-preserved : goal.loop-disk-preserved
loop-disk-preserved g c =
    let nodes = c.loop-disk.nodes.items in
    let first : into_iter_items c.loop-disk.disk-iterator ≡ c.in-Some.disk ∷ into_iter_items c.next.new.self = search rules in
    let taken : length (into_iter_items c.loop-disk.disk-iterator) ≡ length (c.in-Some.disk ∷ into_iter_items c.next.new.self) = ap length first in
    let grown : length c.push.new.self.items ≡ length (nodes ++ c.in_ok-node.node ∷ []) = ap length c.in-Ok.ensures.items in
    let size : c.len-in-loop-disk.result ≡ length nodes = search rules in (
      tt,
      tt,
      omega (arith, grown, taken, length-append nodes (c.in_ok-node.node ∷ []), c.loop-disk.invariant.2),
      subst (λ (ns : List (Node g.row.D.Denot)). AreEach (IsCreatedAt g.D.Disk c.args.config.now) ns) (sym c.in-Ok.ensures.items)
          (each_more (IsCreatedAt g.D.Disk c.args.config.now) nodes c.in_ok-node.node c.loop-disk.invariant.3 (subst (λ i. IsCreatedAt g.D.Disk c.args.config.now i c.in_ok-node.node) size c.in_ok-node.ensures.node)),
    )
