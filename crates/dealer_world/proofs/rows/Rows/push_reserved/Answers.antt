use Rattle.std.proofs.Common.{◌≡◌, ◌≤◌, ◌+◌, ◌∙◌, ◌++◌, ◌∷◌, [], ap, subst, length, vec_len, arith}
use Rattle.dealer_world.specs.declared.rows.Entry.{Entry}
use Rattle.dealer_world.specs.Rows.{Kept, Row, AreEnds}
use Rattle.dealer_world.proofs.Cutting.{ends_more, cut_more}
use Rattle.dealer_world.proofs.rows.Rows.push_reserved.Goals as goal

pub invariant_of-self : goal.invariant_of-self
invariant_of-self g c =
    let entry : Entry g.row.T.Denot = record { mark = c.args.mark; end = c.len.result } in
    let end : c.len.result ≡ vec_len c.put.new.out = omega (arith, c.len.ensures) in
    let more : vec_len c.self.inside.bytes ≤ c.len.result = omega (arith, end, c.put.ensures.len) in
    rw c.push_reserved.ensures.items (subst (AreEnds 0 (c.self.inside.entries.items ++ entry ∷ [])) end (ends_more 0 c.self.inside.entries.items (vec_len c.self.inside.bytes) entry c.self.invariant more))

pub returns-clause-rows : goal.returns-clause-rows
returns-clause-rows g c =
    let entry : Entry g.row.T.Denot = record { mark = c.args.mark; end = c.len.result } in
    let size : vec_len c.self.inside.bytes ≡ length c.self.inside.bytes.items = omega (arith, c.self.inside.bytes.ok.0) in
    let end : c.len.result ≡ length c.self.inside.bytes.items + length c.args.text.now = omega (arith, size, c.len.ensures, c.put.ensures.len) in
    let ends : AreEnds 0 c.self.inside.entries.items (length c.self.inside.bytes.items) = subst (AreEnds 0 c.self.inside.entries.items) size c.self.invariant in
    let row : Row g.row.T.Denot = record { mark = c.args.mark; text = c.args.text.now } in
    rw (c.push_reserved.ensures.items, c.put.ensures.items)
    (cut_more 0 c.self.inside.entries.items entry c.self.inside.bytes.items c.args.text.now ends end ∙ ap (λ (k : Kept g.row.T.Denot). k.rows ++ row ∷ []) c.self.view_is)
