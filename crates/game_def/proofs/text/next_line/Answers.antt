use Rattle.std.proofs.Common.{◌∙◌, ◌+◌, ap, sym}
use Rattle.game_def.specs.Text.{lines}
use Rattle.game_def.proofs.Splitting.{lines_nil, lines_first, lines_last, from_place, no_text, some_text}
use Rattle.game_def.proofs.text.next_line.Goals as goal

pub returns-then-is_empty-clause-value : goal.returns-then-is_empty-clause-value
returns-then-is_empty-clause-value c =
    ap lines (no_text c.args.text.now (sym c.is_empty.ensures ∙ c.if-is_empty.true)) ∙ lines_nil

pub returns-in-Some-clause-value : goal.returns-in-Some-clause-value
returns-in-Some-clause-value c =
    rw (from_place (c.in-Some.end + 1) c.args.text.now, c.strip_cr.ensures) (lines_first c.args.text.now c.in-Some.end (sym c.line_end.ensures ∙ c.in-Some.is))

pub returns-in-None-clause-value : goal.returns-in-None-clause-value
returns-in-None-clause-value c =
    lines_last c.args.text.now (sym c.line_end.ensures ∙ c.in-None.is) (some_text c.args.text.now (sym c.is_empty.ensures ∙ c.if-is_empty.false))
