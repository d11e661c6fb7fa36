use Rattle.std.proofs.Common.{◌≡◌, ◌+◌, length}
use Rattle.std.specs.Vec.Iter.{into_iter_items}
use Rattle.dealer_world.specs.Beginning.{IsCreatedAt, AreEach}
use Rattle.dealer_world.proofs.beginning.created_all.Given as goal

abbrev pub invariant-loop-disk : goal.invariant-loop-disk
invariant-loop-disk g l = ((goal.iterator-loop-disk g).can_next l.disk-iterator) × ((goal.iterator-loop-disk g).is_finite l.disk-iterator)
    × (length l.nodes.items + length (into_iter_items l.disk-iterator) ≡ length l.config.sources)
    × AreEach (IsCreatedAt g.D.Disk l.config) l.nodes.items
