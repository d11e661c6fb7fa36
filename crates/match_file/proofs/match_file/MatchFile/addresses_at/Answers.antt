use Rattle.std.proofs.Common.{map, Bool, subst, Vec, Global}
use Rattle.std.specs.declared.net.socket_addr.SocketAddr.{SocketAddr}
use Rattle.std.specs.Prelude.{MatchResult}
use Rattle.std.proofs.lemmas.Result.{MatchResult-weaker}
use Rattle.toml.specs.View.{view}
use Rattle.match_file.specs.declared.key.Key.TheVariants.{Node}
use Rattle.match_file.specs.Said.{IsAbsent, EachSays}
use Rattle.match_file.specs.Matches.{entry_at}
use Rattle.match_file.specs.MatchFile.{members}
use Rattle.match_file.specs.Refusals.{IsToldOf}
use Rattle.match_file.specs.Addresses.{has_key, SaysAddress, SaysAddresses}
use Rattle.match_file.proofs.Told.{told_wider, each_of}
use Rattle.match_file.proofs.match_file.MatchFile.addresses_at.Goals as goal

pub returns-in-Some : goal.returns-in-Some
returns-in-Some c =
    let key = c.args.key in
    let ports = c.args.ports in
    let table = members c.args.self.now in
    let keyed = has_key table in
    let values = c.deref.result.now in
    let read = subst (λ (k : Bool). MatchResult c.addresses_of.result (λ all. EachSays (SaysAddress k key ports) (map view values) all.items) (IsToldOf key (IsAbsent (EachSays (SaysAddress k key ports) (map view values))))) c.has_key.ensures c.addresses_of.ensures in
    let same = c.deref.ensures.value in
    MatchResult-weaker c.addresses_of.result
    {P = λ (all : Vec SocketAddr Global). EachSays (SaysAddress keyed key ports) (map view values) all.items} {P' = λ (all : Vec SocketAddr Global). SaysAddresses key ports table all.items}
    {Q = IsToldOf key (IsAbsent (EachSays (SaysAddress keyed key ports) (map view values)))} {Q' = IsToldOf key (IsAbsent (SaysAddresses key ports table))} read
    (λ all each. (map view values, rw same c.in-Some.ensures, each))
    (λ fault. told_wider key (IsAbsent (EachSays (SaysAddress keyed key ports) (map view values))) (IsAbsent (SaysAddresses key ports table)) fault
    (λ none all says. none all (each_of (SaysAddress keyed key ports) (entry_at Node table) (map view values) all (rw same c.in-Some.ensures) says)))
