use Rattle.std.proofs.Common.{◌<◌, None, length, ◌∙◌, arith}
use Rattle.std.proofs.lemmas.Grind.{common_steps}
use Rattle.std.proofs.lemmas.List.{get_or_default}
use Rattle.node_peers.proofs.Fitting.{fits_kept}
use Rattle.node_peers.proofs.links.turn_away_at.Goals as goal

pub returns-in-Some : goal.returns-in-Some
returns-in-Some c =
    let within : c.args.place < length c.args.links.now.items = grind (arith, common_steps) in
    fits_kept c.args.links.now.items c.args.place c.in-Some.slot.now c.turn_away_in.new.slot within (c.in-Some.ensures.value ∙ get_or_default c.args.links.now.items c.args.place c.in-Some.slot.now None within) c.turn_away_in.ensures
