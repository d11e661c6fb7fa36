use Rattle.std.proofs.Common.{map, Vec, Global}
use Rattle.std.specs.declared.net.ip_addr.IpAddr.{IpAddr}
use Rattle.std.proofs.lemmas.Result.{MatchResult-weaker}
use Rattle.toml.specs.View.{view}
use Rattle.match_file.specs.declared.key.Key.TheVariants.{Node, From}
use Rattle.match_file.specs.Said.{IsAbsent, EachSays}
use Rattle.match_file.specs.Matches.{entry_at}
use Rattle.match_file.specs.MatchFile.{members}
use Rattle.match_file.specs.Refusals.{IsToldOf}
use Rattle.match_file.specs.Hosts.{SaysFrom, SaysFroms}
use Rattle.match_file.proofs.Told.{told_wider, each_of}
use Rattle.match_file.proofs.match_file.MatchFile.froms.Goals as goal

pub returns-in-Some : goal.returns-in-Some
returns-in-Some c =
    let table = members c.args.self.now in
    let values = c.deref.result.now in
    let same = c.deref.ensures.value in
    MatchResult-weaker c.froms_of.result
    {P = λ (all : Vec (Vec IpAddr Global) Global). EachSays SaysFrom (map view values) all.items} {P' = λ (all : Vec (Vec IpAddr Global) Global). SaysFroms table all.items}
    {Q = IsToldOf From (IsAbsent (EachSays SaysFrom (map view values)))} {Q' = IsToldOf From (IsAbsent (SaysFroms table))} c.froms_of.ensures
    (λ all each. (map view values, rw same c.in-Some.ensures, each))
    (λ fault. told_wider From (IsAbsent (EachSays SaysFrom (map view values))) (IsAbsent (SaysFroms table)) fault
    (λ none all says. none all (each_of SaysFrom (entry_at Node table) (map view values) all (rw same c.in-Some.ensures) says)))
