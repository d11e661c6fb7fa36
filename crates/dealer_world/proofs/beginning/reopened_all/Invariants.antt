use Rattle.std.proofs.Common.{◌≡◌, ◌+◌, length, take, drop}
use Rattle.std.specs.List.{AllZip}
use Rattle.std.specs.Vec.Iter.{into_iter_items}
use Rattle.dealer_world.specs.Beginning.{IsReopenedAt, IsOver, AreEach}
use Rattle.dealer_world.proofs.beginning.reopened_all.Given as goal

abbrev pub invariant-loop-disk : goal.invariant-loop-disk
invariant-loop-disk g l = ((goal.iterator-loop-disk g).can_next l.disk-iterator) × ((goal.iterator-loop-disk g).is_finite l.disk-iterator)
    × (length l.nodes.items + length (into_iter_items l.disk-iterator) ≡ length l.config.sources)
    × AreEach (IsReopenedAt g.D.Disk l.config) l.nodes.items
    × AllZip (IsOver g.D.Disk) (take (length l.nodes.items) l.fn.disks.items) l.nodes.items
    × (into_iter_items l.disk-iterator ≡ drop (length l.nodes.items) l.fn.disks.items)
