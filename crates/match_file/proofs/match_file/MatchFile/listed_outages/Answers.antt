use Rattle.std.proofs.Common.{map, ap, subst, Option, Some, Vec, Global}
use Rattle.std.specs.Prelude.{MatchResult}
use Rattle.std.proofs.lemmas.Result.{MatchResult-weaker}
use Rattle.toml.specs.Data.{Data}
use Rattle.toml.specs.View.{view}
use Rattle.match_file.specs.declared.outage.Outage.{Outage}
use Rattle.match_file.specs.declared.key.Key.TheVariants.{Outage as OutageKey}
use Rattle.match_file.specs.Said.{IsAbsent, EachSays, SaysOutage}
use Rattle.match_file.specs.Matches.{ListsOutages}
use Rattle.match_file.specs.Refusals.{IsToldOf}
use Rattle.match_file.proofs.Told.{told_wider, no_outages}
use Rattle.match_file.proofs.match_file.MatchFile.listed_outages.Goals as goal

pub returns-in-Some-array_of : goal.returns-in-Some-array_of
returns-in-Some-array_of c =
    let nodes = c.args.nodes in
    let values = c.deref.result.now in
    let same = c.deref.ensures.value in
    subst
    (λ (entry : Option Data).
    MatchResult c.outages_of.result (λ (outages : Vec Outage Global). ListsOutages nodes entry outages.items) (IsToldOf OutageKey (IsAbsent (ListsOutages nodes entry))))
    c.in-Some.ensures
    (MatchResult-weaker c.outages_of.result
    {P = λ (outages : Vec Outage Global). EachSays (SaysOutage nodes) (map view values) outages.items} {P' = λ (outages : Vec Outage Global). ListsOutages nodes (Some (view c.in-Some.value.now)) outages.items}
    {Q = IsToldOf OutageKey (IsAbsent (EachSays (SaysOutage nodes) (map view values)))} {Q' = IsToldOf OutageKey (IsAbsent (ListsOutages nodes (Some (view c.in-Some.value.now))))} c.outages_of.ensures
    (λ outages each. (map view values, rw same (ap Some c.in-Some-array_of.ensures), each))
    (λ fault. told_wider OutageKey (IsAbsent (EachSays (SaysOutage nodes) (map view values))) (IsAbsent (ListsOutages nodes (Some (view c.in-Some.value.now)))) fault
    (no_outages nodes (view c.in-Some.value.now) (map view values) (rw same c.in-Some-array_of.ensures))))

pub returns-in-None : goal.returns-in-None
returns-in-None c = subst (λ (entry : Option Data). ListsOutages c.args.nodes entry c.new.result.items) c.in-None.ensures c.new.ensures.items
