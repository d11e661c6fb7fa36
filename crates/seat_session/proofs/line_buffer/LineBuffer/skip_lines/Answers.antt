use Rattle.std.proofs.Common.{arith}
use Rattle.seat_session.proofs.Skipping.{skips_none, skips_on, skips_line, shorter}
use Rattle.seat_session.proofs.line_buffer.LineBuffer.skip_lines.Goals as goal

pub loop-self-init : goal.loop-self-init
loop-self-init c = record { skips = skips_none c.args.self.now.waiting; room = omega arith }

pub loop-self-preserved : goal.loop-self-preserved
loop-self-preserved c =
    let found = c.skipped_in_front.ensures.skipped c.loop-self-test.true in
    let taken = c.take_line.ensures.taken found.0 found.1 found.2.breaks in
    let before = c.args.self.now.waiting in
    record {
      skips = skips_on before c.loop-self.self.waiting c.take_line.new.self.waiting c.loop-self.invariant.skips (rw taken (skips_line c.loop-self.self.waiting found.0 found.1 found.2 found.3));
      room = omega arith;
    }

pub loop-self-smaller : goal.loop-self-smaller
loop-self-smaller c =
    let found = c.skipped_in_front.ensures.skipped c.loop-self-test.true in
    let taken = c.take_line.ensures.taken found.0 found.1 found.2.breaks in
    rw taken (shorter c.loop-self.self.waiting found.0 found.1 found.2.breaks)
