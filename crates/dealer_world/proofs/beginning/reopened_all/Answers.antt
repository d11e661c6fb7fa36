use Rattle.std.proofs.Common.{◌≡◌, ◌++◌, ◌∷◌, [], ◌+◌, ◌∙◌, List, ℕ, length, take, drop, ap, sym, subst, arith, rules, length-append}
use Rattle.std.specs.List.{AllZip}
use Rattle.std.proofs.lemmas.List.{take_all}
use Rattle.std.specs.Vec.Iter.{into_iter_items}
use Rattle.dealer_node.specs.Nodes.{Node}
use Rattle.dealer_world.specs.Beginning.{IsReopenedAt, IsOver, AreEach}
use Rattle.dealer_world.proofs.Each.{each_more}
use Rattle.dealer_world.proofs.Opened.{is_next, zip_more}
use Rattle.dealer_world.proofs.beginning.reopened_all.Goals as goal

pub loop-disk-preserved : goal.loop-disk-preserved
loop-disk-preserved g c =
    let nodes = c.loop-disk.nodes.items in
    let given = c.args.disks.items in
    let k = length nodes in
    let disk = c.in-Some.disk in
    let left = into_iter_items c.next.new.self in
    let first : into_iter_items c.loop-disk.disk-iterator ≡ disk ∷ left = search rules in
    let taken : length (into_iter_items c.loop-disk.disk-iterator) ≡ length (disk ∷ left) = ap length first in
    let grown : length c.push.new.self.items ≡ length (nodes ++ c.in_ok-node.node ∷ []) = ap length c.in-Ok.ensures.items in
    let one_more : length c.push.new.self.items ≡ k + 1 = omega (arith, grown, length-append nodes (c.in_ok-node.node ∷ [])) in
    let next = is_next given k disk left (sym first ∙ c.loop-disk.invariant.5) in
    let size : c.len-in-loop-disk.result ≡ length nodes = search rules in (
      tt,
      tt,
      omega (arith, grown, taken, length-append nodes (c.in_ok-node.node ∷ []), c.loop-disk.invariant.2),
      subst (λ (ns : List (Node g.row.D.Denot)). AreEach (IsReopenedAt g.D.Disk c.args.config.now) ns) (sym c.in-Ok.ensures.items)
          (each_more (IsReopenedAt g.D.Disk c.args.config.now) nodes c.in_ok-node.node c.loop-disk.invariant.3 (subst (λ i. IsReopenedAt g.D.Disk c.args.config.now i c.in_ok-node.node) size c.in_ok-node.ensures.node)),
      subst (λ (n : ℕ). AllZip (IsOver g.D.Disk) (take n given) c.push.new.self.items) (sym one_more)
          (subst (λ (ns : List (Node g.row.D.Denot)). AllZip (IsOver g.D.Disk) (take (k + 1) given) ns) (sym c.in-Ok.ensures.items)
          (zip_more (IsOver g.D.Disk) given nodes k disk c.in_ok-node.node next.0 next.1 c.loop-disk.invariant.4 c.in_ok-node.ensures.over)),
      next.2 ∙ ap (λ (n : ℕ). drop n given) (sym one_more),
    )

pub returns-clause-over : goal.returns-clause-over
returns-clause-over g c =
    let nodes = c.loop-disk.nodes.items in
    let size : length nodes ≡ length c.args.config.now.sources = search rules in
    let count : length c.args.disks.items ≡ length c.args.config.now.sources = search rules in
    subst (λ ds. AllZip (IsOver g.D.Disk) ds nodes) (take_all (length nodes) c.args.disks.items (omega (arith, size, count))) c.loop-disk.invariant.4
