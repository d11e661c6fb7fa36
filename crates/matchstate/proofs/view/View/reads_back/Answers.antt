use Rattle.std.proofs.Common.{◌≡◌, Result, Ok, subst}
use Rattle.matchstate.specs.View.{View}
use Rattle.matchstate.specs.ViewInside.{view_in}
use Rattle.matchstate.specs.Line.{ReadsAs, line_text}
use Rattle.matchstate.specs.declared.line_fault.LineFault.{LineFault}
use Rattle.matchstate.proofs.view.View.reads_back.Goals as goal

pub returns-clause-back : goal.returns-clause-back
returns-clause-back c =
    subst (λ (v : View). (result : Result View LineFault) → ReadsAs v.game (line_text v) result → result ≡ Ok v) c.self.view_is
    (λ result reads. c.a_view_has_one_line.ensures.back (view_in c.self.inside) result c.limits.ensures c.self.invariant.is_view reads)
