use Rattle.std.proofs.Common.{sym, arith}
use Rattle.line_cursor.proofs.Names.{other_by_text, other_by_place}
use Rattle.line_cursor.proofs.naming.find_line_at.Goals as goal
use Rattle.line_cursor.proofs.naming.find_line_at.Goals.{else-finished-cursor-via-then-finished-cursor+else-cursor-hands, else-finished-cursor-via-else-finished-cursor}

pub returns-else-is_line_at-clause-is : goal.returns-else-is_line_at-clause-is
returns-else-is_line_at-clause-is c =
    let table = c.args.table.now in
    other_by_text table.game table.count table.hands c.args.seat c.args.line.now c.args.cursor c.requires.only
    (c.has_lines.ensures.come c.if-not-has_lines.false c.args.seat) (c.is_line_at.ensures.other c.if-is_line_at.false)

pub returns-else-finished-cursor-clause-is : goal.returns-else-finished-cursor-clause-is
returns-else-finished-cursor-clause-is c =
    let table = c.args.table.now in
    other_by_place table.game table.count table.hands c.args.seat c.args.line.now c.args.cursor c.requires.only (sym (c.has_lines.ensures.none c.if-not-has_lines.true c.args.seat))
    (λ least within. elim c.else-finished-cursor.branch [
      | else-finished-cursor-via-then-finished-cursor+else-cursor-hands w ↦ let more = w.if-cursor-hands.false in let hands = w.hands.ensures.value in omega (arith, more, hands, within)
      | else-finished-cursor-via-else-finished-cursor w ↦ let less = w.if-finished-cursor.false in let finished = c.finished.ensures.value in omega (arith, less, finished, least)
    ])
