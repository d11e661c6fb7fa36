use Rattle.std.proofs.Common.{◌+◌, length, arith}
use Rattle.std.specs.Prelude.{◌-◌, ◌/◌}
use Rattle.promise_store.proofs.Ordered.{below_up, above_here, position_end}
use Rattle.promise_store.proofs.index.position.Goals as goal

pub returns-then-entries-high : goal.returns-then-entries-high
returns-then-entries-high c =
    position_end c.args.slot c.args.entries.now (length c.args.entries.now - 1) _ c.requires (omega (arith, c.if-high-gt0.true)) (omega (arith, c.if-high-gt0.true)) c.if-entries-high.true

pub loop-low-preserved-then-entries-middle : goal.loop-low-preserved-then-entries-middle
loop-low-preserved-then-entries-middle c =
    let i = c.loop-low.invariant in
    record {
      order = omega (arith, c.loop-low-test.true);
      within = i.within;
      below = below_up c.args.slot c.args.entries.now (c.loop-low.low + (c.loop-low.high - c.loop-low.low) / 2) _ c.requires (omega (arith, c.loop-low-test.true, i.within)) c.if-entries-middle.true;
      above = i.above;
    }

pub loop-low-preserved : goal.loop-low-preserved
loop-low-preserved c =
    let i = c.loop-low.invariant in
    record {
      order = omega (arith, c.loop-low-test.true);
      within = omega (arith, c.loop-low-test.true, i.within);
      below = i.below;
      above = above_here c.args.slot c.args.entries.now (c.loop-low.low + (c.loop-low.high - c.loop-low.low) / 2) _ c.requires (omega (arith, c.loop-low-test.true, i.within)) c.if-entries-middle.false;
    }
