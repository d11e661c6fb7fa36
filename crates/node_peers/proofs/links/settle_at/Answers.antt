use Rattle.std.proofs.Common.{◌<◌, None, length, sym, ◌∙◌, arith}
use Rattle.std.proofs.lemmas.Grind.{common_steps}
use Rattle.std.proofs.lemmas.List.{get_or_default}
use Rattle.node_peers.specs.Lines.{line_at, dialled_over}
use Rattle.node_peers.proofs.Fitting.{fits_settled}
use Rattle.node_peers.proofs.links.settle_at.Goals as goal

pub returns-in-Some-clause-fits : goal.returns-in-Some-clause-fits
returns-in-Some-clause-fits c =
    let within : c.args.place < length c.args.links.now.items = grind (arith, common_steps) in
    fits_settled c.args.own.now (dialled_over (line_at c.args.place)) c.args.links.now.items c.args.place c.in-Some.slot.now c.settle_in.new.slot within
    (c.in-Some.ensures.value ∙ get_or_default c.args.links.now.items c.args.place c.in-Some.slot.now None within) (λ sent talk dialled is. c.settle_in.ensures.fits sent talk (dialled ∙ sym c.dialled_at.ensures) is)
