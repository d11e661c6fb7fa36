-- What a node has of its own to propose.
use Rattle.std.proofs.Common.{◌≡◌, ℕ, Bool, true, false, not, if◌then◌else◌, List, Option, Some, None, refl, sym, ap, subst, ◌∙◌}
use Rattle.std.specs.Prelude.{is_none}
use Rattle.std.specs.Option.{option_map}
use Rattle.std.proofs.lemmas.Bool.{eqb-true}
use Rattle.slot_log.specs.Dealer.{finished_count}
use Rattle.slot_log.specs.declared.command.Command.{Command}
use Rattle.slot_log.specs.declared.command.Command.TheVariants.{Deal}
use Rattle.slot_log.specs.declared.reason.Reason.{Reason}
use Rattle.slot_log.specs.declared.reason.Reason.TheVariants.{MatchDone, HandRunning, WrongHand, WrongCards}
use Rattle.dealer_kind.specs.Kind.{fits, dealer_of}
use Rattle.node_rules.specs.Standings.{Place, Standing, applied, hands_at}
use Rattle.node_rules.specs.Proposing.{own_deal, own_value, fitting}
use Rattle.node_rules.specs.LawsValue.{IsOwnValue, DealsComeFirst}
use Rattle.node_rules.proofs.Shown.{applied_is}

-- ---- a deal that fits is of the next hand

next_by : (over running next cards : Bool)
    → is_none {T = Reason} (if over then Some MatchDone else if running then Some HandRunning else if not next then Some WrongHand else if not cards then Some WrongCards else None) ≡ true
    → next ≡ true
next_by true running next cards h = absurd (cc)
next_by false true next cards h = absurd (cc)
next_by false false false cards h = absurd (cc)
next_by false false true cards h = refl

next_hand : (place : Place) (s : Standing) (hand : ℕ) (deal : List ℕ) → fits place.setting (applied s) (Deal hand deal) ≡ true
    → hand ≡ finished_count place.setting.game (hands_at place s)
next_hand place s hand deal h = eqb-true hand (finished_count place.setting.game (hands_at place s)) (next_by _ _ _ _ h)

-- ---- the value

own_deal_is : (place : Place) (s : Standing) (hand : ℕ) (deal : List ℕ) → place.deals hand ≡ Some deal → hand ≡ finished_count place.setting.game (hands_at place s)
    → own_deal place s ≡ Some (Deal hand deal)
own_deal_is place s hand deal has next =
    ap (λ (k : ℕ). option_map (Deal k) (place.deals k)) (sym next) ∙ ap (option_map (Deal hand)) has

deals_by : (place : Place) (s : Standing) (command : Command) (b : Bool) → fits place.setting (applied s) command ≡ b → b ≡ true
    → ◌≡◌ {A = Option Command} (if b then Some command else s.pending) (Some command)
deals_by place s command true e h = refl
deals_by place s command false e h = absurd (cc)

pub own_deals : (place : Place) (s : Standing) (hand : ℕ) (deal : List ℕ) → place.deals hand ≡ Some deal → fits place.setting (applied s) (Deal hand deal) ≡ true
    → own_value place s ≡ Some (Deal hand deal)
own_deals place s hand deal has fit =
    ap (λ (o : Option Command). fitting place s o s.pending) (own_deal_is place s hand deal has (next_hand place s hand deal fit))
    ∙ deals_by place s (Deal hand deal) (fits place.setting (applied s) (Deal hand deal)) refl fit

waits_by : (place : Place) (s : Standing) (hand : ℕ) (deal : List ℕ) (b : Bool) → fits place.setting (applied s) (Deal hand deal) ≡ b
    → (fits place.setting (applied s) (Deal hand deal) ≡ true → ⊥) → ◌≡◌ {A = Option Command} (if b then Some (Deal hand deal) else s.pending) s.pending
waits_by place s hand deal true e none = absurd (none e)
waits_by place s hand deal false e none = refl

pub waits_from : (place : Place) (s : Standing) (hand : ℕ) (deals : Option (List ℕ)) → place.deals hand ≡ deals
    → ((deal : List ℕ) → place.deals hand ≡ Some deal → fits place.setting (applied s) (Deal hand deal) ≡ true → ⊥)
    → fitting place s (option_map (Deal hand) deals) s.pending ≡ s.pending
waits_from place s hand None e none = refl
waits_from place s hand (Some deal) e none = waits_by place s hand deal (fits place.setting (applied s) (Deal hand deal)) refl (none deal e)

pub deals_come_first : DealsComeFirst
deals_come_first own place world s before st up knows front =
    subst (λ (l : List Command). IsOwnValue (dealer_of place.setting own) place l s.pending (own_value place s)) (applied_is own place world s before st up knows front)
    (record {
      deals = λ hand deal is. own_deals place s hand deal is.0 is.1;
      waits = λ none.
          let hand : ℕ = finished_count place.setting.game (hands_at place s) in
          waits_from place s hand (place.deals hand) refl (λ deal has fit. none hand deal (has, fit));
    })
