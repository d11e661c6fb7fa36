use Rattle.std.proofs.Common.{◌≤◌, ◌∙◌, arith, length-set}
use Rattle.learner.proofs.Cells.{tallies_same, spares_get, spare_kept, room_more}
use Rattle.slot_log.proofs.Results.{on_err}
use Rattle.learner.proofs.hearing.reserve.Goals as goal

pub returns-in_err-reserve-clause-tallies : goal.returns-in_err-reserve-clause-tallies
returns-in_err-reserve-clause-tallies c =
    tallies_same c.loop-place.cells.items c.loop-place.place c.index_mut.result.now c.reserve.new.self (omega arith) c.index_mut.ensures.value c.reserve.ensures.items ∙ c.loop-place.invariant.tallies

pub returns-in_err-reserve-clause-kept : goal.returns-in_err-reserve-clause-kept
returns-in_err-reserve-clause-kept c place =
    let was = c.loop-place.invariant.kept place in
    let now = spare_kept c.loop-place.cells.items c.loop-place.place place c.index_mut.result.now c.reserve.new.self (omega arith) c.index_mut.ensures.value (omega arith) in
    omega (arith, was, now)

pub returns-in_err-reserve-clause-full : goal.returns-in_err-reserve-clause-full
returns-in_err-reserve-clause-full c =
    let was = c.loop-place.invariant.kept c.loop-place.place in
    let there = spares_get c.loop-place.cells.items c.loop-place.place 0 c.index_mut.result.now (omega arith) c.index_mut.ensures.value in
    let full = c.in_err-reserve.ensures.full in
    let fits = c.index_mut.result.now.ok.1 in
    on_err c.from_residual.result (c.loop-place.place, omega arith, omega (arith, was, there, full, fits))

pub loop-place-preserved : goal.loop-place-preserved
loop-place-preserved c = record {
  tallies = tallies_same c.loop-place.cells.items c.loop-place.place c.index_mut.result.now c.reserve.new.self (omega arith) c.index_mut.ensures.value c.reserve.ensures.items ∙ c.loop-place.invariant.tallies;
  len = length-set c.loop-place.cells.items c.loop-place.place c.reserve.new.self ∙ c.loop-place.invariant.len;
  kept = λ place.
      let was = c.loop-place.invariant.kept place in
      let now = spare_kept c.loop-place.cells.items c.loop-place.place place c.index_mut.result.now c.reserve.new.self (omega arith) c.index_mut.ensures.value (omega arith) in
      omega (arith, was, now);
  room = room_more c.args.votes c.loop-place.cells.items c.loop-place.place c.reserve.new.self (omega arith)
      (let enough = c.in_ok-reserve.ensures.ok in omega (arith, enough)) c.loop-place.invariant.room;
}

pub returns-clause-room : goal.returns-clause-room
returns-clause-room c = λ place within. c.loop-place.invariant.room place (omega (arith, within))
