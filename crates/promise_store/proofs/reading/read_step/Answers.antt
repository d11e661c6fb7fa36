use Rattle.std.proofs.Common.{◌≡◌, ◌<◌, get_or, rules}
use Rattle.promise_store.proofs.Journals.{step_at}
use Rattle.promise_store.proofs.reading.read_step.Goals as goal

pub returns-in-Some : goal.returns-in-Some
returns-in-Some c =
    let bytes = c.args.bytes.now in
    let gate : get_or bytes 0 0 ≡ 1 = search rules in
    let small : get_or bytes 2 0 < 256 = search (rules, c.type_inv.bytes 2) in
    step_at bytes c.in-Some.record c.in-1.len_at_least gate small c.if-size-rest.false c.in-Some.ensures.found.0 c.in-Some.ensures.found.1
