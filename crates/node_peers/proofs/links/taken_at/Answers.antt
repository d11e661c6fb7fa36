use Rattle.std.proofs.Common.{◌<◌, None, length, ◌∙◌, arith}
use Rattle.std.proofs.lemmas.Grind.{common_steps}
use Rattle.std.proofs.lemmas.List.{get_or_default}
use Rattle.node_peers.proofs.Fitting.{opens_there}
use Rattle.node_peers.proofs.links.taken_at.Goals as goal

pub returns-in-Some : goal.returns-in-Some
returns-in-Some c =
    let within : c.args.place < length c.args.links.now = grind (arith, common_steps) in
    opens_there c.args.links.now c.args.place c.in-Some.slot.now c.taken_in.result (c.in-Some.ensures.lookup.1 ∙ get_or_default c.args.links.now c.args.place _ None within) c.taken_in.ensures
