use Rattle.std.proofs.Common.{◌≡◌, ◌≤◌, ap, sym, ◌∙◌, length, slice_get, rules, arith}
use Rattle.dealer_world.specs.Rows.{Kept}
use Rattle.dealer_world.proofs.Sharing.{number_within, shared_found}
use Rattle.dealer_world.proofs.shared_rows.SharedRows.get.Goals as goal

pub overflow_cast-entry : goal.overflow_cast-entry
overflow_cast-entry g c =
    let below = number_within (length c.self.inside.texts.rows) c.self.inside.entries.items c.args.number c.index-entry.result.now c.self.invariant.1 c.index-entry.ensures
    (omega (arith, c.self.inside.entries.ok.0, c.len.ensures, c.if-number-len.false)) in
    omega (arith, below, c.self.invariant.0)

pub returns-in_err-text-clause-none : goal.returns-in_err-text-clause-none
returns-in_err-text-clause-none g c =
    let below = number_within (length c.self.inside.texts.rows) c.self.inside.entries.items c.args.number c.index-entry.result.now c.self.invariant.1 c.index-entry.ensures
    (omega (arith, c.self.inside.entries.ok.0, c.len.ensures, c.if-number-len.false)) in
    let past : length c.self.inside.texts.rows ≤ c.index-entry.result.now.text = search rules in
    absurd (omega (arith, below, past))

pub returns-clause-found : goal.returns-clause-found
returns-clause-found g c =
    let there : slice_get c.self.inside.texts.rows c.index-entry.result.now.text ≡ _ = c.in_ok-text.ensures.found in
    sym (ap (λ (k : Kept g.row.T.Denot). slice_get k.rows c.args.number) c.self.view_is)
    ∙ shared_found c.self.inside.texts.rows c.self.inside.entries.items c.args.number c.index-entry.result.now _ c.index-entry.ensures
    (omega (arith, c.self.inside.entries.ok.0, c.len.ensures, c.if-number-len.false)) there
