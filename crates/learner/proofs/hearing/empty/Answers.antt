use Rattle.std.proofs.Common.{◌≡◌, ◌≤◌, ◌%◌, ◌-◌, List, [], ap, ◌∙◌, arith, set, length-set}
use Rattle.learner.specs.declared.tally.Tally.{Tally}
use Rattle.learner.specs.Learning.{emptied}
use Rattle.learner.specs.Cells.{tallies_in}
use Rattle.learner.proofs.Cells.{tallies_set, one_passed, spare_kept}
use Rattle.learner.proofs.hearing.empty.Goals as goal

pub loop-slot-preserved : goal.loop-slot-preserved
loop-slot-preserved c = record {
  tallies =
      tallies_set c.loop-slot.cells.items (c.loop-slot.slot % 64) c.clear.new.self
      ∙ ap (λ (ts : List Tally). set (tallies_in c.loop-slot.cells.items) (c.loop-slot.slot % 64) ts) c.clear.ensures.items
      ∙ ap (λ (tss : List (List Tally)). set tss (c.loop-slot.slot % 64) []) c.loop-slot.invariant.tallies
      ∙ one_passed c.args.from c.loop-slot.slot (tallies_in c.args.cells.now.items) c.loop-slot.auto.slot;
  kept = λ place.
      let was = c.loop-slot.invariant.kept place in
      let now = spare_kept c.loop-slot.cells.items (c.loop-slot.slot % 64) place c.index_mut-cell.result.now c.clear.new.self (omega arith) c.index_mut-cell.ensures.value (omega arith) in
      omega (arith, was, now);
  end = omega arith;
  len = length-set c.loop-slot.cells.items (c.loop-slot.slot % 64) c.clear.new.self ∙ c.loop-slot.invariant.len;
}

pub returns-clause-tallies : goal.returns-clause-tallies
returns-clause-tallies c =
    let end : c.loop-slot.slot - c.args.from ≡ c.args.to - c.args.from = omega arith in
    c.loop-slot.invariant.tallies ∙ ap (λ n. emptied c.args.from n (tallies_in c.args.cells.now.items)) end
