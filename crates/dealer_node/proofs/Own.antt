-- Where a hand runs, or the match is over, a node has no deal of its own to propose.
use Rattle.std.proofs.Common.{◌≡◌, ℕ, Bool, true, false, not, ◌&&◌, if◌then◌else◌, Option, Some, None, List, is_none, refl, sym, ◌∙◌, ap, true≢false}
use Rattle.std.specs.Option.{option_map}
use Rattle.game_def.specs.Game.{Game}
use Rattle.slot_log.specs.Hand.{Hand, Match}
use Rattle.slot_log.specs.declared.command.Command.{Command}
use Rattle.slot_log.specs.declared.command.Command.TheVariants.{Deal}
use Rattle.slot_log.specs.declared.reason.Reason.{Reason}
use Rattle.slot_log.specs.declared.reason.Reason.TheVariants.{MatchDone, HandRunning}
use Rattle.slot_log.specs.Dealer.{is_match_over, is_running, finished_count}
use Rattle.dealer_kind.specs.Kind.{fits}
use Rattle.node_rules.specs.Standings.{Place, Standing, applied, hands_at}
use Rattle.node_rules.specs.Proposing.{own_value, fitting}
use Rattle.dealer_node.specs.Scenes.{IsTableOf}

has_reason : (over runs : Bool) (later : Option Reason) → (not over && not runs) ≡ false → is_none (if over then Some MatchDone else if runs then Some HandRunning else later) ≡ false
has_reason true runs later e = refl
has_reason false true later e = refl
has_reason false false later e = absurd (true≢false e)

module _ (place : Place) (s : Standing) (none_free : (not (is_match_over place.setting.game place.setting.title.hands (hands_at place s)) && not (is_running place.setting.game (hands_at place s))) ≡ false) where
  no_deal_fits : (hand : ℕ) (deal : List ℕ) → fits place.setting (applied s) (Deal hand deal) ≡ false
  no_deal_fits hand deal =
      has_reason (is_match_over place.setting.game place.setting.title.hands (hands_at place s)) (is_running place.setting.game (hands_at place s)) _ none_free

  waits_alone : (deal : Option (List ℕ)) → fitting place s (option_map (Deal (finished_count place.setting.game (hands_at place s))) deal) s.pending ≡ s.pending
  waits_alone None = refl
  waits_alone (Some deal) =
      let hand : ℕ = finished_count place.setting.game (hands_at place s) in
      ap (λ (b : Bool). if b then Some (Deal hand deal) else s.pending) (no_deal_fits hand deal)

  only_waits : s.pending ≡ own_value place s
  only_waits = sym (waits_alone (place.deals (finished_count place.setting.game (hands_at place s))))

abbrev free : Game → ℕ → List Hand → Bool
free game count hands = not (is_match_over game count hands) && not (is_running game hands)

pub own_waits : (place : Place) (s : Standing) (table : Match) (pending : Option Command)
    → IsTableOf place.setting (applied s) table → pending ≡ s.pending
    → (not (is_match_over table.game table.count table.hands) && not (is_running table.game table.hands)) ≡ false
    → pending ≡ own_value place s
own_waits place s table pending is waits none_free =
    waits ∙ only_waits place s
    (ap (λ (g : Game). free g place.setting.title.hands (hands_at place s)) (sym is.game)
    ∙ ap (λ (n : ℕ). free table.game n (hands_at place s)) (sym is.count)
    ∙ ap (free table.game table.count) (sym is.hands)
    ∙ none_free)
