-- An event of what is due that isn't of the match, as the fault of links that may come of it.
use Rattle.std.proofs.Common.{◌≡◌, Result, Ok, Err, sym, subst}
use Rattle.std.specs.Prelude.{IfErr}
use Rattle.dealer_kind.specs.Plans.{Plan}
use Rattle.serving.specs.declared.due.Due.{Due}
use Rattle.serving.specs.declared.due.Due.TheVariants as due
use Rattle.serving.specs.declared.serve_fault.ServeFault.{ServeFault}
use Rattle.serving.specs.declared.serve_fault.ServeFault.TheVariants.{LinkFailed}
use Rattle.serving.specs.Turning.{IsOutside, MayFail}

link_may_fail : (plan : Plan) (what : Due) → IsOutside plan what → MayFail plan what LinkFailed
link_may_fail plan (due.Deliver number) outside = tt
link_may_fail plan (due.Start node) outside = tt
link_may_fail plan other outside = outside

pub may_fail : (plan : Plan) (what : Due) (why : ServeFault) → (why ≡ LinkFailed) × IsOutside plan what → MayFail plan what why
may_fail plan what why (is, outside) = subst (MayFail plan what) (sym is) (link_may_fail plan what outside)

pub fails_outside : {T : Type 0} (plan : Plan) (what : Due) (r : Result T ServeFault) → IfErr r (λ why. (why ≡ LinkFailed) × IsOutside plan what) → IfErr r (MayFail plan what)
fails_outside plan what (Ok found) outside = tt
fails_outside plan what (Err why) outside = may_fail plan what why outside
