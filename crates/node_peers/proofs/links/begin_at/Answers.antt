use Rattle.std.proofs.Common.{◌<◌, None, length, ◌∙◌, arith}
use Rattle.std.proofs.lemmas.Grind.{common_steps}
use Rattle.std.proofs.lemmas.List.{get_or_default}
use Rattle.node_peers.proofs.Fitting.{fits_saying}
use Rattle.node_peers.proofs.links.begin_at.Goals as goal

pub returns-in-Some-clause-fits : goal.returns-in-Some-clause-fits
returns-in-Some-clause-fits c =
    let within : c.args.place < length c.args.links.now.items = grind (arith, common_steps) in
    fits_saying c.args.links.now.items c.args.place c.in-Some.slot.now c.begin_in.new.slot c.args.waiting.now.frames within (c.in-Some.ensures.value ∙ get_or_default c.args.links.now.items c.args.place c.in-Some.slot.now None within) c.begin_in.ensures.keeps
