use Rattle.std.proofs.Common.{◌<◌, None, length, ◌∙◌, arith}
use Rattle.std.proofs.lemmas.Grind.{common_steps}
use Rattle.std.proofs.lemmas.List.{get_or_default}
use Rattle.node_seats.proofs.Guesting.{heard_moved, found_set}
use Rattle.node_seats.proofs.guests.hear_in.Goals as goal

pub returns-in-Some-clause-heard : goal.returns-in-Some-clause-heard
returns-in-Some-clause-heard g c =
    let within : c.args.place < length c.args.guests.now.items = grind (arith, common_steps) in
    heard_moved c.args.guests.now.items c.args.place c.in-Some.guest.now c.hear_at.new.guest c.args.passed.now.items c.hear_at.new.passed.items within
    (c.in-Some.ensures.value ∙ get_or_default c.args.guests.now.items c.args.place c.in-Some.guest.now None within) c.hear_at.ensures.hears

pub returns-in-Some-clause-found : goal.returns-in-Some-clause-found
returns-in-Some-clause-found g c =
    let within : c.args.place < length c.args.guests.now.items = grind (arith, common_steps) in
    found_set c.args.tokens.now c.hear_at.new.passed.items c.args.guests.now.items c.args.place c.hear_at.new.guest c.hear_at.result within c.hear_at.ensures.found
