use Rattle.std.proofs.Common.{refl, sym, subst}
use Rattle.std.proofs.lemmas.Result.{err_from_is_err_and}
use Rattle.match_file.specs.declared.key.Key.TheVariants.{Outage as OutageKey}
use Rattle.match_file.specs.Said.{IsAbsent}
use Rattle.match_file.specs.Outages.{LeaveMost}
use Rattle.match_file.specs.Matches.{entry_at, ListsOutages, SaysOutages}
use Rattle.match_file.specs.MatchFile.{members}
use Rattle.match_file.proofs.Told.{told_wider, too_many_out}
use Rattle.match_file.proofs.match_file.MatchFile.outages.Goals as goal

pub returns-in_err-outages : goal.returns-in_err-outages
returns-in_err-outages c =
    let p = err_from_is_err_and c.from_residual.result c.from_residual.ensures.1 in
    rw (p.1, p.2) (
    told_wider OutageKey (IsAbsent (ListsOutages c.args.nodes (entry_at OutageKey (members c.args.self.now)))) (IsAbsent (SaysOutages c.args.nodes (members c.args.self.now))) c.in_err-outages.field-0.0
    (λ none outages says. none outages says.listed) c.in_err-outages.ensures
    )

pub returns-else-leave_most : goal.returns-else-leave_most
returns-else-leave_most c = (
  refl,
  too_many_out c.args.nodes (members c.args.self.now) c.in_ok-outages.outages.items c.in_ok-outages.ensures
      (λ most. let held = c.leave_most.ensures.1 (subst (LeaveMost c.args.nodes) (sym c.deref.ensures.value) most) in let not = c.if-leave_most.false in cc),
)
