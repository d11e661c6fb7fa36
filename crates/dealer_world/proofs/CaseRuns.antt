-- The three cases of a member, in the runs of the rules.
use Rattle.std.proofs.Common.{◌≡◌, ℕ, zero, suc, ◌+◌, ◌*◌, ◌<◌, ◌≤◌, Option, Some, IfSome, List, [], ◌∷◌, length, slice_get, refl, sym, subst, arith}
use Rattle.card_core.specs.Deal.{IsDeal}
use Rattle.deck_draw.specs.Deck.{drawn}
use Rattle.dealer_kind.specs.Plans.{Plan, IsPlan}
use Rattle.dealer_kind.specs.Sources.{HasDeals}
use Rattle.dealer_kind.specs.declared.source.Source.{Source}
use Rattle.dealer_kind.specs.declared.source.Source.TheVariants.{Seed, Listed}
use Rattle.node_rules.specs.Standings.{place_of, deals_from}
use Rattle.node_rules.specs.Cases.{HasEachDeal, EachHasACase, OrdersHelp}
use Rattle.dealer_world.specs.Given.{Given}
use Rattle.dealer_world.specs.RuleRuns.{plan_of}
use Rattle.dealer_world.specs.CalmRun.{standing_at}
use Rattle.dealer_world.specs.CaseRuns.{NodesHaveCases, OrdersHelpRuns}
use Rattle.dealer_world.proofs.Dealt.{DrawsAreDeals, each_at}
use Rattle.dealer_world.proofs.Keeping.{own_of, run_keeps}
use Rattle.dealer_world.proofs.CalmRun.{members_of}

-- ---- each node has its deals

there_is : {X : Type 0} (xs : List X) (k : ℕ) → k < length xs → (x : X) × (slice_get xs k ≡ Some x)
there_is [] k low = absurd (omega (arith, low))
there_is (x ∷ xs) zero low = (x, refl)
there_is (x ∷ xs) (suc k) low = there_is xs k (omega (arith, low))

-- of a list each hand's deal is one, of a seed what is drawn
source_deal : DrawsAreDeals → (players hands : ℕ) (source : Source) (hand : ℕ) → players ≤ 10 → HasDeals players hands source → hand < hands
    → (deal : List ℕ) × (deals_from players (Some source) hand ≡ Some deal) × (length deal ≡ 2 * players + 5)
source_deal draws players hands (Seed seed) hand few has low = (drawn seed hand players, refl, (draws seed hand players few).count)
source_deal draws players hands (Listed listed) hand few has low =
    let there = there_is listed.items hand (let many = has.0 in omega (arith, many, low)) in
    (there.0, there.1, (subst (λ (found : Option (List ℕ)). IfSome found (IsDeal players)) there.1 (each_at (IsDeal players) listed.items hand has.1)).count)

pub plan_has_deals : DrawsAreDeals → (plan : Plan) (i : ℕ) → IsPlan plan → i < length plan.sources → HasEachDeal (place_of plan i)
plan_has_deals draws plan i is low hand less =
    let there = there_is plan.sources i low in
    let has = subst (λ (found : Option Source). IfSome found (HasDeals plan.setting.game.players plan.setting.title.hands)) there.1
    (each_at (HasDeals plan.setting.game.players plan.setting.title.hands) plan.sources i is.deals) in
    subst (λ (found : Option Source). (deal : List ℕ) × (deals_from plan.setting.game.players found hand ≡ Some deal) × (length deal ≡ 2 * plan.setting.game.players + 5)) (sym there.1)
    (source_deal draws plan.setting.game.players plan.setting.title.hands there.0 hand is.within.is_game.most_players has less)

-- ---- the laws

pub nodes_have_cases : DrawsAreDeals → EachHasACase → NodesHaveCases
nodes_have_cases draws each plan standings i members is low room = each (place_of plan i) standings i members (plan_has_deals draws plan i is low) room

pub orders_help_runs : Given → OrdersHelp → OrdersHelpRuns
orders_help_runs laws helps setting n before sources state i members outcome run unforged low among up room waits is_turn =
    let was = run_keeps laws setting n before sources state run in
    let are = members_of laws setting n before sources state members was unforged low in
    helps (own_of setting sources before) setting (length sources) (λ k. deals_from setting.game.players (slice_get sources k)) are.0 (standing_at (plan_of setting sources) state) i members outcome are.1 among up room
    waits is_turn
