use Rattle.std.proofs.Common.{◌≡◌, map, length, refl, ap, sym, subst, arith, Vec, Global}
use Rattle.std.proofs.lemmas.Result.{MatchResult-weaker}
use Rattle.std.proofs.lemmas.List.{length-map}
use Rattle.toml.specs.View.{view}
use Rattle.dealer_kind.specs.Plans.{HasNodes}
use Rattle.dealer_kind.specs.declared.source.Source.{Source}
use Rattle.match_file.specs.declared.key.Key.TheVariants.{Node}
use Rattle.match_file.specs.Said.{IsAbsent, EachSays, SaysSource}
use Rattle.match_file.specs.Matches.{entry_at, SaysSources}
use Rattle.match_file.specs.MatchFile.{members}
use Rattle.match_file.specs.Refusals.{IsToldOf}
use Rattle.match_file.proofs.Each.{each-length}
use Rattle.match_file.proofs.Told.{told_wider, no_sources, no_nodes, no_array}
use Rattle.match_file.proofs.match_file.MatchFile.sources.Goals as goal
use Rattle.match_file.proofs.match_file.MatchFile.sources.Goals.{in_default-via-in-Some+else-are_nodes, in_default-via-in_default}

pub returns-in-Some : goal.returns-in-Some
returns-in-Some c =
    let players = c.args.players in
    let hands = c.args.hands in
    let table = members c.args.self.now in
    let values = c.deref.result.now in
    let same = c.deref.ensures.value in
    let views : length (map view values) ≡ c.len.result = omega (arith, length-map values view, ap length same, c.len.ensures) in
    let nodes : HasNodes (length (map view values)) = subst HasNodes (sym views) (c.are_nodes.ensures.0 c.if-are_nodes.true) in
    MatchResult-weaker c.sources_of.result
    {P = λ (sources : Vec Source Global). EachSays (SaysSource players hands) (map view values) sources.items} {P' = λ (sources : Vec Source Global). SaysSources players hands table sources.items}
    {Q = IsToldOf Node (IsAbsent (EachSays (SaysSource players hands) (map view values)))} {Q' = IsToldOf Node (IsAbsent (SaysSources players hands table))} c.sources_of.ensures
    (λ sources each. record {
      tables = (map view values, rw same c.in-Some.ensures, each);
      nodes = subst HasNodes (each-length (SaysSource players hands) (map view values) sources.items each) nodes;
    })
    (λ fault. told_wider Node (IsAbsent (EachSays (SaysSource players hands) (map view values))) (IsAbsent (SaysSources players hands table)) fault
    (no_sources players hands table (map view values) (rw same c.in-Some.ensures)))

pub returns-in_default : goal.returns-in_default
returns-in_default c =
    elim c.in_default.branch [
      | in_default-via-in-Some+else-are_nodes w ↦ (
        refl,
        no_nodes c.args.players c.args.hands (members c.args.self.now) (map view w.in-Some.values.now.items) w.in-Some.ensures
            (λ nodes.
            let views : length (map view w.in-Some.values.now.items) ≡ w.len.result = omega (arith, length-map w.in-Some.values.now.items view, w.len.ensures) in
            let held = w.are_nodes.ensures.1 (subst HasNodes views nodes) in let not = w.if-are_nodes.false in cc),
      )
      | in_default-via-in_default w ↦ (
        refl,
        λ sources says. no_array (SaysSource c.args.players c.args.hands) (entry_at Node (members c.args.self.now)) w.in_default.ensures sources says.tables,
      )
    ]
