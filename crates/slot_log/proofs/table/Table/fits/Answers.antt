use Rattle.std.proofs.Common.{◌≡◌, Bool, true, false, not, Option, Some, None, refl, sym, ◌∙◌}
use Rattle.std.specs.Option.{is_some}
use Rattle.std.specs.Bool.{IsTrue}
use Rattle.slot_log.specs.declared.reason.Reason.{Reason}
use Rattle.slot_log.proofs.Fitting.{fits_from_none, none_from_fits}
use Rattle.slot_log.proofs.table.Table.fits.Goals as goal

none_from_test : (o : Option Reason) (b : Bool) → is_some o ≡ not b → IsTrue b → o ≡ None
none_from_test None b e passed = refl
none_from_test (Some reason) true e passed = cc
none_from_test (Some reason) false e passed = cc

test_from_none : (o : Option Reason) (b : Bool) → is_some o ≡ not b → o ≡ None → IsTrue b
test_from_none None true e none = refl
test_from_none None false e none = absurd (cc)
test_from_none (Some reason) b e none = cc

pub returns-clause-fitting : goal.returns-clause-fitting
returns-clause-fitting c =
    let table = c.args.self.now in (
      λ passed. fits_from_none c.allowed_without_fault.ensures table.game table.count table.hands c.args.command.now (sym c.reason.ensures ∙ none_from_test c.reason.result c.is_none.result c.is_none.ensures passed),
      λ fits. test_from_none c.reason.result c.is_none.result c.is_none.ensures (c.reason.ensures ∙ none_from_fits c.allowed_without_fault.ensures table.game table.count table.hands c.args.command.now fits),
    )

pub returns-clause-range : goal.returns-clause-range
returns-clause-range c passed =
    let table = c.args.self.now in
    c.limits.ensures.range c.args.command.now
    (fits_from_none c.allowed_without_fault.ensures table.game table.count table.hands c.args.command.now (sym c.reason.ensures ∙ none_from_test c.reason.result c.is_none.result c.is_none.ensures passed))
