use Rattle.std.proofs.Common.{◌≡◌, ◌∙◌, ap, sym, suc, arith}
use Rattle.dealer_world.specs.Rows.{start_of}
use Rattle.dealer_world.proofs.Cutting.{start_zero, start_next}
use Rattle.dealer_world.proofs.rows.start.Goals as goal

pub returns-in-Some : goal.returns-in-Some
returns-in-Some g c =
    let next : suc c.in-Some.before ≡ c.args.number = omega (arith, c.in-Some.ensures) in
    start_next 0 c.args.entries.now c.in-Some.before c.index-entries-before.result (omega (arith, c.requires)) ∙ ap (start_of 0 c.args.entries.now) next

pub returns-in-None : goal.returns-in-None
returns-in-None g c =
    let first : c.args.number ≡ 0 = omega (arith, c.in-None.ensures) in
    sym (ap (start_of 0 c.args.entries.now) first ∙ start_zero 0 c.args.entries.now)
