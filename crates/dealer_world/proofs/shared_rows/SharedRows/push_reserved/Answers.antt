use Rattle.std.proofs.Common.{◌++◌, ◌∷◌, [], ◌∙◌, ap, length, arith}
use Rattle.dealer_world.specs.declared.shared_rows.Numbered.{Numbered}
use Rattle.dealer_world.specs.Rows.{Kept, Row}
use Rattle.dealer_world.proofs.Sharing.{numbered_more, rows_more}
use Rattle.dealer_world.proofs.shared_rows.SharedRows.push_reserved.Goals as goal

pub invariant_of-self : goal.invariant_of-self
invariant_of-self g c =
    let entry : Numbered g.row.T.Denot = record { mark = c.args.mark; text = c.put_text-number.result } in
    let room = ap (λ (k : Kept g.row.T.Denot). k.row_room) c.self.view_is in (
      omega (arith, room, c.requires.row, c.put_text-number.ensures.most),
      rw c.push_reserved.ensures.items
          (numbered_more (length c.self.inside.texts.rows) (length c.put_text-number.new.texts.rows) c.self.inside.entries.items entry c.self.invariant.1 c.put_text-number.ensures.least c.put_text-number.ensures.within),
    )

pub returns-clause-rows : goal.returns-clause-rows
returns-clause-rows g c =
    let entry : Numbered g.row.T.Denot = record { mark = c.args.mark; text = c.put_text-number.result } in
    let row : Row g.row.T.Denot = record { mark = c.args.mark; text = c.args.text.now } in
    rw c.push_reserved.ensures.items
    (rows_more c.self.inside.texts.rows c.put_text-number.new.texts.rows c.self.inside.entries.items entry c.args.text.now c.self.invariant.1 c.put_text-number.ensures.kept c.put_text-number.ensures.found
    ∙ ap (λ (k : Kept g.row.T.Denot). k.rows ++ row ∷ []) c.self.view_is)
