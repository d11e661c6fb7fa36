use Rattle.std.proofs.Common.{◌≤◌, map, length, refl, ap, subst, arith, Some, Vec, Global, List, ℕ}
use Rattle.std.proofs.lemmas.Option.{same_Some}
use Rattle.std.proofs.lemmas.Result.{MatchResult-weaker}
use Rattle.std.proofs.lemmas.List.{length-map}
use Rattle.toml.specs.View.{view}
use Rattle.match_file.specs.declared.key.Key.TheVariants.{Node}
use Rattle.match_file.specs.Said.{IsAbsent, EachSays, SaysDeal, SaysDeals}
use Rattle.match_file.specs.Refusals.{IsToldOf}
use Rattle.match_file.proofs.Each.{each-length}
use Rattle.match_file.proofs.Told.{told_wider, no_deals, few_deals, no_array}
use Rattle.match_file.proofs.node_tables.listed.Goals as goal
use Rattle.match_file.proofs.node_tables.listed.Goals.{in_default-via-in-Some+else-len-hands, in_default-via-in_default}

pub returns-in-Some : goal.returns-in-Some
returns-in-Some c =
    let players = c.args.players in
    let hands = c.args.hands in
    let texts = c.deref.result.now in
    let same = c.deref.ensures.value in
    let counted = c.len.ensures in
    let many : hands ≤ length (map view texts) = rw (length-map texts view, same) (omega arith) in
    MatchResult-weaker c.deals_of.result
    {P = λ (deals : Vec (List ℕ) Global). EachSays (SaysDeal players) (map view texts) deals.items} {P' = λ (deals : Vec (List ℕ) Global). SaysDeals players hands (Some (view c.args.value.now)) deals.items}
    {Q = IsToldOf Node (IsAbsent (EachSays (SaysDeal players) (map view texts)))} {Q' = IsToldOf Node (IsAbsent (SaysDeals players hands (Some (view c.args.value.now))))} c.deals_of.ensures
    (λ deals each. ((map view texts, rw same (ap Some c.in-Some.ensures), each), subst (λ (n : ℕ). hands ≤ n) (each-length (SaysDeal players) (map view texts) deals.items each) many))
    (λ fault. told_wider Node (IsAbsent (EachSays (SaysDeal players) (map view texts))) (IsAbsent (SaysDeals players hands (Some (view c.args.value.now)))) fault
    (no_deals players hands (view c.args.value.now) (map view texts) (rw same c.in-Some.ensures)))

pub returns-in_default : goal.returns-in_default
returns-in_default c =
    elim c.in_default.branch [
      | in_default-via-in-Some+else-len-hands w ↦ (
        refl,
        few_deals c.args.players c.args.hands (view c.args.value.now) (map view w.in-Some.texts.now.items) w.in-Some.ensures
            (λ many. let counted = w.len.ensures in let few = w.if-len-hands.false in let views = length-map w.in-Some.texts.now.items view in omega arith),
      )
      | in_default-via-in_default w ↦ (refl, λ deals says. no_array (SaysDeal c.args.players) (Some (view c.args.value.now)) (λ items is. w.in_default.ensures items (same_Some _ _ is)) deals says.0)
    ]
