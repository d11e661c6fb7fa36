use Rattle.std.proofs.Common.{arith, ap, length, take, length-append}
use Rattle.std.specs.List.{flat_map}
use Rattle.paxos_wire.specs.Spelling.{entry_text}
use Rattle.paxos_wire.proofs.Room.{room_for}
use Rattle.paxos_wire.proofs.write_entries.put_entries.Goals as goal

pub put_entry-requires : goal.put_entry-requires
put_entry-requires c =
    let room = room_for entry_text c.args.entries.now c.loop-entry.entry-index c.entry-item.result c.loop-entry-test.true c.entry-item.is in
    let so_far = ap length c.loop-entry.invariant.items in
    omega (arith, room, so_far, length-append c.args.out.now.items (flat_map entry_text (take c.loop-entry.entry-index c.args.entries.now)), c.loop-entry.out.ok, c.args.out.now.ok)
