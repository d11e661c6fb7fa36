use Rattle.std.proofs.Common.{◌∙◌, sym, ap, arith}
use Rattle.game_def.specs.Text.{lines}
use Rattle.game_def.specs.Reading.{entries_from}
use Rattle.game_def.proofs.Following.{entries_ended, entries_faulty, entries_more, entries_none}
use Rattle.game_def.proofs.body.read_entries.Goals as goal

pub returns-then-is_end : goal.returns-then-is_end
returns-then-is_end c =
    sym (sym c.loop-line.invariant.whole ∙ ap (entries_from c.loop-line.read c.loop-line.entries) c.in-Some.ensures.value
    ∙ entries_ended c.loop-line.read c.loop-line.entries c.in-Some.line.now (lines c.in-Some.after.now) (sym c.is_end.ensures ∙ c.if-is_end.true))

pub returns-in-Err : goal.returns-in-Err
returns-in-Err c = rw c.at.ensures (sym (sym c.loop-line.invariant.whole ∙ ap (entries_from c.loop-line.read c.loop-line.entries) c.in-Some.ensures.value
    ∙ entries_faulty c.loop-line.read c.loop-line.entries c.in-Some.line.now (lines c.in-Some.after.now) c.in-Err.kind (sym c.is_end.ensures ∙ c.if-is_end.false) c.in-Err.ensures))

pub loop-line-preserved : goal.loop-line-preserved
loop-line-preserved c =
    record {
      whole = sym (entries_more c.loop-line.read c.loop-line.entries c.in-Some.line.now (lines c.in-Some.after.now) c.read_line.new.entries (sym c.is_end.ensures ∙ c.if-is_end.false) c.in_default-read_line.ensures)
          ∙ ap (entries_from c.loop-line.read c.loop-line.entries) (sym c.in-Some.ensures.value) ∙ c.loop-line.invariant.whole;
      within = omega (arith, c.loop-line.invariant.within, c.in-Some.ensures.shorter);
    }

pub returns : goal.returns
returns c = rw c.at-2.ensures (sym (sym c.loop-line.invariant.whole ∙ ap (entries_from c.loop-line.read c.loop-line.entries) c.in_default.ensures.value ∙ entries_none c.loop-line.read c.loop-line.entries))
