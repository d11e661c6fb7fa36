use Rattle.std.proofs.Common.{◌+◌, List, drop, ◌∙◌, arith}
use Rattle.std.proofs.lemmas.List.{at_drop_all}
use Rattle.slot_log.specs.declared.command.Command.{Command}
use Rattle.node_rules.specs.Applying.{taking_all}
use Rattle.dealer_node.specs.Turned.{talks}
use Rattle.dealer_node.proofs.Applied.{goes_over, goes_to, first_left}
use Rattle.dealer_node.proofs.applying.apply_commands.Goals as goal

pub loop-command-preserved : goal.loop-command-preserved
loop-command-preserved c = record {
  scene = λ scene before is.
      goes_over c.args.member.now.setting (talks c.args.sessions.now) c.command-item.result (drop c.loop-command.command-index c.args.commands.now) (drop (c.loop-command.command-index + 1) c.args.commands.now)
      (taking_all c.args.member.now.setting (talks c.args.sessions.now) c.args.commands.now scene) c.loop-command.table c.apply_command.new.table c.loop-command.pending c.apply_command.new.pending before c.loop-command.shown.texts c.apply_command.new.shown.texts
      (first_left c.args.commands.now c.loop-command.command-index c.command-item.result (omega arith) c.command-item.is) c.apply_command.ensures.scene (c.loop-command.invariant.scene scene before is);
  game = c.apply_command.ensures.game ∙ c.loop-command.invariant.game;
  count = c.apply_command.ensures.count ∙ c.loop-command.invariant.count;
  room = omega arith;
  text_room = omega (arith, c.apply_command.ensures.grows.text_room);
  byte_room = omega (arith, c.apply_command.ensures.grows.byte_room);
  len = omega (arith, c.apply_command.ensures.grows.len);
  size = omega (arith, c.apply_command.ensures.grows.size);
  act = λ within. c.apply_command.ensures.act (c.loop-command.invariant.act within);
}

pub returns-clause-scene : goal.returns-clause-scene
returns-clause-scene c = λ scene before is.
    goes_to c.args.member.now.setting (talks c.args.sessions.now) (drop c.loop-command.command-index c.args.commands.now)
    (taking_all c.args.member.now.setting (talks c.args.sessions.now) c.args.commands.now scene) c.loop-command.table c.loop-command.pending before c.loop-command.shown.texts
    (at_drop_all (λ (xs : List Command). xs) c.args.commands.now c.loop-command.command-index (omega arith)) (c.loop-command.invariant.scene scene before is)

pub apply_command-requires-clause-played : goal.apply_command-requires-clause-played
apply_command-requires-clause-played c = record {
  game = c.loop-command.invariant.game ∙ c.requires.played.game;
  count = c.loop-command.invariant.count ∙ c.requires.played.count;
  seats = c.requires.played.seats;
}
