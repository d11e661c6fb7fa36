use Rattle.std.proofs.Common.{◌≡◌, ◌+◌, ◌*◌, ◌≤◌, length, ap, subst, sym, ◌∙◌, arith}
use Rattle.paxos_wire.specs.declared.limits.TheConstants.{RUN_FRONT, MOST_COMMAND}
use Rattle.paxos_wire.specs.declared.message.Message.{Message}
use Rattle.paxos_wire.specs.Fits.{Fits, most_bytes}
use Rattle.node_rules.specs.Sending.{to_others}
use Rattle.dealer_node.specs.Members.{place_at}
use Rattle.dealer_node.specs.Fitting.{AreMessages}
use Rattle.dealer_node.proofs.Left.{run_bytes}
use Rattle.dealer_node.proofs.Voted.{messages_to, bytes_with, fits_with}
use Rattle.dealer_node.proofs.voting.send_commands.Goals as goal

pub send_to_others-requires-clause-fits : goal.send_to_others-requires-clause-fits
send_to_others-requires-clause-fits c =
    subst Fits (sym c.message_with-message.ensures) (fits_with c.args.kind c.args.ballot c.args.slot c.args.commands.now c.requires.ballot c.requires.run)

pub send_to_others-requires-clause-space : goal.send_to_others-requires-clause-space
send_to_others-requires-clause-space c =
    let bytes : most_bytes c.message_with-message.result ≡ RUN_FRONT + MOST_COMMAND * length c.args.commands.now =
    ap most_bytes c.message_with-message.ensures ∙ bytes_with c.args.kind c.args.ballot c.args.slot c.args.commands.now in
    let most = run_bytes c.args.commands.now c.nodes-nodes.result c.requires.run.least c.nodes-nodes.ensures.most in
    let room : most_bytes c.message_with-message.result * c.nodes-nodes.result ≤ c.args.frames.now.byte_room = rw bytes (omega (arith, most, c.requires.space.byte_room)) in
    record { text_room = omega (arith, c.nodes-nodes.ensures.most, c.requires.space.text_room); byte_room = room }

pub returns-clause-fits : goal.returns-clause-fits
returns-clause-fits c =
    subst (λ (m : Message). AreMessages (to_others (place_at c.args.member.now) m)) c.message_with-message.ensures
    (messages_to c.args.member.now.nodes c.args.member.now.node c.nodes-nodes.result c.node.result c.message_with-message.result c.nodes-nodes.ensures.value c.node.ensures.value c.send_to_others.ensures.fits)

pub returns-clause-grows : goal.returns-clause-grows
returns-clause-grows c =
    let bytes : most_bytes c.message_with-message.result ≡ RUN_FRONT + MOST_COMMAND * length c.args.commands.now =
    ap most_bytes c.message_with-message.ensures ∙ bytes_with c.args.kind c.args.ballot c.args.slot c.args.commands.now in
    let most = run_bytes c.args.commands.now c.nodes-nodes.result c.requires.run.least c.nodes-nodes.ensures.most in
    let room = rw bytes at c.send_to_others.ensures.grows.byte_room in
    let size = rw bytes at c.send_to_others.ensures.grows.size in
    record {
      text_room = omega (arith, c.send_to_others.ensures.grows.text_room, c.nodes-nodes.ensures.most);
      byte_room = omega (arith, room, most);
      len = omega (arith, c.send_to_others.ensures.grows.len, c.nodes-nodes.ensures.most);
      size = omega (arith, size, most);
    }
