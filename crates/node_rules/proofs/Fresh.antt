-- Nodes that have just been started are at rest.
use Rattle.std.proofs.Common.{◌≡◌, ℕ, ◌≤◌, ◌+◌, ◌*◌, inl, inr, Bool, true, false, not, if◌then◌else◌, List, [], Option, Some, None, refl, ap, ◌∙◌, arith, length, eq-eqb}
use Rattle.std.specs.Prelude.{is_none}
use Rattle.std.specs.Option.{option_map}
use Rattle.std.proofs.lemmas.Bool.{lt-leb}
use Rattle.slot_log.specs.Dealer.{hands_of}
use Rattle.slot_log.specs.declared.command.Command.{Command}
use Rattle.slot_log.specs.declared.command.Command.TheVariants.{Deal}
use Rattle.slot_log.specs.declared.reason.Reason.TheVariants.{MatchDone, WrongCards}
use Rattle.protocol_model.specs.Messages.{Vote}
use Rattle.protocol_model.specs.Stores.{empty_store}
use Rattle.dealer_kind.specs.Kind.{Setting, fits}
use Rattle.node_rules.specs.Standings.{Place, started}
use Rattle.node_rules.specs.Proposing.{is_over, fitting, own_value}
use Rattle.node_rules.specs.Calm.{IsHeld}
use Rattle.node_rules.specs.CalmRound.{place_in, FreshIsCalm}

first_goes_on : (place : Place) → 1 ≤ place.setting.title.hands → is_over place (started place empty_store) ≡ false
unfolding hands_of
first_goes_on place least = lt-leb place.setting.title.hands 0 (omega arith)

first_fits : (setting : Setting) (deal : List ℕ) → 1 ≤ setting.title.hands → length deal ≡ 2 * setting.game.players + 5 → fits setting [] (Deal 0 deal) ≡ true
unfolding hands_of
first_fits setting deal least count = let begun = lt-leb setting.title.hands 0 (omega arith) in λ j. is_none (if begun j then Some MatchDone
    else if not (eq-eqb (length deal) (2 * setting.game.players + 5) count j) then Some WrongCards
    else None)

first_value : (place : Place) (deal : List ℕ) → 1 ≤ place.setting.title.hands → length deal ≡ 2 * place.setting.game.players + 5 → place.deals 0 ≡ Some deal
    → own_value place (started place empty_store) ≡ Some (Deal 0 deal)
unfolding hands_of
first_value place deal least count e =
    ap (λ (d : Option (List ℕ)). fitting place (started place empty_store) (option_map (Deal 0) d) None) e
    ∙ ap (λ (b : Bool). let c : Option Command = if b then Some (Deal 0 deal) else None in c) (first_fits place.setting deal least count)

none_held : (setting : Setting) (n : ℕ) (deals : ℕ → ℕ → Option (List ℕ)) (members : List ℕ) (slot : ℕ) (vote : Vote) → IsHeld (λ node. started (place_in setting n deals node) empty_store) members slot vote → ⊥
none_held setting n deals members slot vote (node, member, held) = let e : ◌≡◌ {A = Option Vote} None (Some vote) = held in cc

pub fresh_is_calm : FreshIsCalm
fresh_is_calm setting n deals i members deal is quorum member own count = record {
  of_node = refl;
  quorum = quorum;
  member = member;
  up = λ node h. refl;
  round_left = omega arith;
  slot_left = omega arith;
  unpromised = λ node h. inl (omega arith);
  goes_on = first_goes_on (place_in setting n deals i) is.least;
  value = inr (Deal 0 deal, refl, (λ vote h. none_held setting n deals members 0 vote h, first_value (place_in setting n deals i) deal is.least count own));
}
