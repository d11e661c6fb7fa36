use Rattle.std.proofs.Common.{arith, ap, length, take, length-append}
use Rattle.std.specs.List.{flat_map}
use Rattle.paxos_wire.specs.Spelling.{command_text}
use Rattle.paxos_wire.proofs.Room.{room_for}
use Rattle.paxos_wire.proofs.write_command_bytes.put_commands.Goals as goal

pub put_command-requires : goal.put_command-requires
put_command-requires c =
    let room = room_for command_text c.args.commands.now c.loop-command.command-index c.command-item.result c.loop-command-test.true c.command-item.is in
    let so_far = ap length c.loop-command.invariant.items in
    omega (arith, room, so_far, length-append c.args.out.now.items (flat_map command_text (take c.loop-command.command-index c.args.commands.now)), c.loop-command.out.ok, c.args.out.now.ok)
