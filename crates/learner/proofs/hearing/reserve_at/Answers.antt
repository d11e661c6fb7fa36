use Rattle.std.proofs.Common.{◌%◌, arith}
use Rattle.learner.proofs.Cells.{tallies_same, spares_get, spare_there, spare_kept}
use Rattle.std.proofs.lemmas.Result.{on_ok_weaker, on_err_weaker}
use Rattle.learner.proofs.hearing.reserve_at.Goals as goal

pub returns-clause-tallies : goal.returns-clause-tallies
returns-clause-tallies c =
    tallies_same c.args.cells.now.items (c.args.slot % 64) c.index_mut-cell.result.now c.reserve.new.self (omega arith) c.index_mut-cell.ensures.value c.reserve.ensures.items

pub returns-clause-room : goal.returns-clause-room
returns-clause-room c = on_ok_weaker c.reserve.result
    (λ enough. let there = spare_there c.args.cells.now.items (c.args.slot % 64) c.reserve.new.self (omega arith) in omega (arith, there, enough))
    c.reserve.ensures.ok

pub returns-clause-kept : goal.returns-clause-kept
returns-clause-kept c place =
    spare_kept c.args.cells.now.items (c.args.slot % 64) place c.index_mut-cell.result.now c.reserve.new.self (omega arith) c.index_mut-cell.ensures.value (omega arith)

pub returns-clause-full : goal.returns-clause-full
returns-clause-full c = on_err_weaker c.reserve.result
    (λ full.
    let there = spares_get c.args.cells.now.items (c.args.slot % 64) 0 c.index_mut-cell.result.now (omega arith) c.index_mut-cell.ensures.value in
    omega (arith, there, full))
    c.reserve.ensures.full
