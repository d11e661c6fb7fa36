use Rattle.std.proofs.Common.{◌≡◌, ◌≤◌, ◌∙◌, List, ap, sym, subst, refl, length, vec_len, slice_get, arith}
use Rattle.dealer_world.specs.declared.rows.Entry.{Entry}
use Rattle.dealer_world.specs.Rows.{Kept, start_of}
use Rattle.dealer_world.proofs.Cutting.{length_cut, row_found, from_below, end_within}
use Rattle.dealer_world.proofs.rows.Rows.get.Goals as goal

pub returns-then-number-len-clause-none : goal.returns-then-number-len-clause-none
returns-then-number-len-clause-none g c =
    let rows = ap (λ (k : Kept g.row.T.Denot). length k.rows) c.self.view_is in
    let size = length_cut 0 c.self.inside.entries.items c.self.inside.bytes.items in
    ((λ none. omega (arith, rows, size, c.self.inside.entries.ok.0, c.len.ensures, c.if-number-len.true)), (λ past. refl))

pub slice_bounds-result-count : goal.slice_bounds-result-count
slice_bounds-result-count g c =
    let at : c.start-from.result ≡ start_of 0 c.self.inside.entries.items c.args.number = c.start-from.ensures ∙ ap (λ (entries : List (Entry g.row.T.Denot)). start_of 0 entries c.args.number) c.deref.ensures.value in
    from_below c.self.inside.entries.items (vec_len c.self.inside.bytes) c.args.number c.start-from.result c.index-entry.result.now c.self.invariant c.index-entry.ensures at
    (omega (arith, c.self.inside.entries.ok.0, c.len.ensures, c.if-number-len.false))

pub slice_bounds-result-start : goal.slice_bounds-result-start
slice_bounds-result-start g c =
    let at : c.start-from.result ≡ start_of 0 c.self.inside.entries.items c.args.number = c.start-from.ensures ∙ ap (λ (entries : List (Entry g.row.T.Denot)). start_of 0 entries c.args.number) c.deref.ensures.value in
    from_below c.self.inside.entries.items (vec_len c.self.inside.bytes) c.args.number c.start-from.result c.index-entry.result.now c.self.invariant c.index-entry.ensures at
    (omega (arith, c.self.inside.entries.ok.0, c.len.ensures, c.if-number-len.false))

pub slice_bounds-result-end : goal.slice_bounds-result-end
slice_bounds-result-end g c =
    subst (λ n. c.index-entry.result.now.end ≤ n) (sym c.deref-2.ensures.len)
    (end_within c.self.inside.entries.items (vec_len c.self.inside.bytes) c.args.number c.index-entry.result.now c.self.invariant c.index-entry.ensures
    (omega (arith, c.self.inside.entries.ok.0, c.len.ensures, c.if-number-len.false)))

pub returns-clause-found : goal.returns-clause-found
returns-clause-found g c =
    let at : c.start-from.result ≡ start_of 0 c.self.inside.entries.items c.args.number = c.start-from.ensures ∙ ap (λ (entries : List (Entry g.row.T.Denot)). start_of 0 entries c.args.number) c.deref.ensures.value in
    sym (ap (λ (k : Kept g.row.T.Denot). slice_get k.rows c.args.number) c.self.view_is)
    ∙ row_found c.self.inside.entries.items c.self.inside.bytes.items c.deref-2.result.now c.args.number c.start-from.result c.index-entry.result.now c.index-entry.ensures at c.deref-2.ensures.value
    (omega (arith, c.self.inside.entries.ok.0, c.len.ensures, c.if-number-len.false))

pub returns-clause-none : goal.returns-clause-none
returns-clause-none g c =
    let rows = ap (λ (k : Kept g.row.T.Denot). length k.rows) c.self.view_is in
    let size = length_cut 0 c.self.inside.entries.items c.self.inside.bytes.items in
    ((λ none. absurd cc), (λ past. absurd (omega (arith, rows, size, past, c.self.inside.entries.ok.0, c.len.ensures, c.if-number-len.false))))
