use Rattle.std.proofs.Common.{map, Option, Vec, Global}
use Rattle.std.specs.declared.net.socket_addr.SocketAddr.{SocketAddr}
use Rattle.std.proofs.lemmas.Result.{MatchResult-weaker}
use Rattle.toml.specs.View.{view}
use Rattle.match_file.specs.declared.key.Key.TheVariants.{Node, Status}
use Rattle.match_file.specs.Said.{IsAbsent, EachSays}
use Rattle.match_file.specs.Matches.{entry_at}
use Rattle.match_file.specs.MatchFile.{members}
use Rattle.match_file.specs.Refusals.{IsToldOf}
use Rattle.match_file.specs.Addresses.{SaysStatus, SaysStatuses}
use Rattle.match_file.proofs.Told.{told_wider, each_of}
use Rattle.match_file.proofs.match_file.MatchFile.statuses.Goals as goal

pub returns-in-Some : goal.returns-in-Some
returns-in-Some c =
    let table = members c.args.self.now in
    let values = c.deref.result.now in
    let same = c.deref.ensures.value in
    MatchResult-weaker c.statuses_of.result
    {P = λ (all : Vec (Option SocketAddr) Global). EachSays SaysStatus (map view values) all.items} {P' = λ (all : Vec (Option SocketAddr) Global). SaysStatuses table all.items}
    {Q = IsToldOf Status (IsAbsent (EachSays SaysStatus (map view values)))} {Q' = IsToldOf Status (IsAbsent (SaysStatuses table))} c.statuses_of.ensures
    (λ all each. (map view values, rw same c.in-Some.ensures, each))
    (λ fault. told_wider Status (IsAbsent (EachSays SaysStatus (map view values))) (IsAbsent (SaysStatuses table)) fault
    (λ none all says. none all (each_of SaysStatus (entry_at Node table) (map view values) all (rw same c.in-Some.ensures) says)))
