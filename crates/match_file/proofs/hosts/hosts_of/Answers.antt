use Rattle.std.proofs.Common.{◌≡◌, map, refl, sym, subst, Some, Vec, Global}
use Rattle.std.specs.Prelude.{MatchResult}
use Rattle.std.specs.declared.net.ip_addr.IpAddr.{IpAddr}
use Rattle.std.proofs.lemmas.Result.{MatchResult-weaker}
use Rattle.toml.specs.Data.{Data, array}
use Rattle.toml.specs.View.{view, items_of}
use Rattle.match_file.specs.declared.key.Key.TheVariants.{From}
use Rattle.match_file.specs.Said.{IsAbsent, EachSays}
use Rattle.match_file.specs.Refusals.{IsToldOf}
use Rattle.match_file.specs.Hosts.{SaysHost, SaysHosts}
use Rattle.match_file.proofs.Hosting.{no_hosts}
use Rattle.match_file.proofs.Told.{told_wider, each_of}
use Rattle.match_file.proofs.hosts.hosts_of.Goals as goal

pub returns-in-Some : goal.returns-in-Some
returns-in-Some c =
    let values = c.deref.result.now in
    let ds = map view values in
    let same = c.deref.ensures.value in
    let is : view c.args.value.now ≡ array (items_of ds) = rw same c.in-Some.ensures in
    subst (λ (d : Data). MatchResult c.hosts_in.result (λ hosts. SaysHosts d hosts.items) (IsToldOf From (IsAbsent (SaysHosts d)))) (sym is) (
    MatchResult-weaker c.hosts_in.result
    {P = λ (hosts : Vec IpAddr Global). EachSays SaysHost ds hosts.items} {P' = λ (hosts : Vec IpAddr Global). SaysHosts (array (items_of ds)) hosts.items}
    {Q = IsToldOf From (IsAbsent (EachSays SaysHost ds))} {Q' = IsToldOf From (IsAbsent (SaysHosts (array (items_of ds))))} c.hosts_in.ensures
    (λ hosts each. (ds, refl, each))
    (λ fault. told_wider From (IsAbsent (EachSays SaysHost ds)) (IsAbsent (SaysHosts (array (items_of ds)))) fault
    (λ none hosts says. none hosts (each_of SaysHost (Some (array (items_of ds))) ds hosts refl says)))
    )

pub returns-in-None-host_of : goal.returns-in-None-host_of
returns-in-None-host_of c = (refl, no_hosts (view c.args.value.now) c.in-None.ensures c.in-None-host_of.ensures)
