use Rattle.std.proofs.Common.{ap, ◌∙◌, sym, List, ℕ}
use Rattle.seat_session.specs.Lines.{text_of}
use Rattle.seat_session.specs.Skipped.{is_skipped}
use Rattle.seat_session.proofs.LineLemmas.{one_break, not_clear, not_whole_and_overlong}
use Rattle.seat_session.proofs.line_buffer.skipped_in_front.Goals as goal

pub returns-in-Line-clause-counts : goal.returns-in-Line-clause-counts
returns-in-Line-clause-counts c plain line rest begins =
    let found = c.in-Line.ensures in
    let same = one_break c.args.lines.now.waiting found.0 found.1 line rest found.2.breaks begins.breaks in
    ap (λ (l : List ℕ). is_skipped (text_of l)) (sym same.0) ∙ ap is_skipped (sym found.3) ∙ sym c.is_skipped.ensures ∙ plain

pub returns-in-Partial-clause-counts : goal.returns-in-Partial-clause-counts
returns-in-Partial-clause-counts c plain line rest begins =
    absurd (not_clear c.args.lines.now.waiting line rest begins.breaks c.in-Partial.ensures.one_line)

pub returns-in-TooLong-clause-counts : goal.returns-in-TooLong-clause-counts
returns-in-TooLong-clause-counts c plain line rest begins =
    absurd (not_whole_and_overlong c.args.lines.now.waiting line rest c.in-TooLong.ensures.0 c.in-TooLong.ensures.1 begins c.in-TooLong.ensures.2)
