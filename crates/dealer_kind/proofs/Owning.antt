-- Whose commands are whose.
use Rattle.std.proofs.Common.{◌≡◌, ℕ, inl, inr, Bool, true, false, ◌||◌, List, Option, Some, None, refl, ap, sym, ◌∙◌}
use Rattle.std.proofs.lemmas.Bool.{or_left, or_right}
use Rattle.betting.specs.declared.action.Action.{Action}
use Rattle.slot_log.specs.declared.command.Command.{Command}
use Rattle.slot_log.specs.declared.command.Command.TheVariants.{Deal, Act, Away}
use Rattle.protocol_model.specs.Messages.{Message}
use Rattle.protocol_model.specs.Arrivals.{Arrival}
use Rattle.protocol_model.specs.Laws.{HasOrigin, WasSaid, OwnsMore}
use Rattle.dealer_kind.specs.Kind.{Setting, says, orders, dealer_of}
use Rattle.dealer_kind.specs.Owning.{OwnsDeals, either, IsDealtSaidOrOrdered}
use Rattle.std.specs.Prelude.{slice_get}
use Rattle.slot_log.specs.Dealer.{IsDealing}
use Rattle.dealer_kind.specs.Sources.{deals as deals_from, owns}
use Rattle.dealer_kind.specs.declared.source.Source.{Source}
use Rattle.dealer_kind.specs.Laws.{OriginsAreOfTheirKind, LinesSayActs, LinesSayNoAway}

pub lines_say_acts : LinesSayActs
lines_say_acts setting before seat line (Deal hand deal) said dealing = cc
lines_say_acts setting before seat line (Act hand index action) said dealing = dealing
lines_say_acts setting before seat line (Away hand index) said dealing = dealing

pub lines_say_no_away : LinesSayNoAway
lines_say_no_away setting before seat line hand index said = cc

-- what is ordered plays for a player who is away
no_deal_ordered : (setting : Setting) (before : List Command) (hand : ℕ) (deal : List ℕ) → orders setting before (Deal hand deal) ≡ true → ⊥
no_deal_ordered setting before hand deal ordered = cc

no_act_ordered : (setting : Setting) (before : List Command) (hand index : ℕ) (action : Action) → orders setting before (Act hand index action) ≡ true → ⊥
no_act_ordered setting before hand index action ordered = cc

pub origins : OriginsAreOfTheirKind
origins setting own n ever came (Deal hand deal) deals (inl owned) = owned
origins setting own n ever came (Deal hand deal) deals (inr (inl said)) = absurd (lines_say_acts setting said.before said.seat said.line (Deal hand deal) said.says tt)
origins setting own n ever came (Deal hand deal) deals (inr (inr order)) = absurd (no_deal_ordered setting order.before hand deal order.orders)
origins setting own n ever came (Act hand index action) deals (inl owned) = absurd (deals owned.0 (Act hand index action) owned.2)
origins setting own n ever came (Act hand index action) deals (inr (inl said)) = said
origins setting own n ever came (Act hand index action) deals (inr (inr order)) = absurd (no_act_ordered setting order.before hand index action order.orders)
origins setting own n ever came (Away hand index) deals (inl owned) = absurd (deals owned.0 (Away hand index) owned.2)
origins setting own n ever came (Away hand index) deals (inr (inl said)) = absurd (lines_say_no_away setting said.before said.seat said.line hand index said.says)
origins setting own n ever came (Away hand index) deals (inr (inr order)) = order

pub first_owns : (setting : Setting) (own other : ℕ → Command → Bool) → OwnsMore (dealer_of setting own) (either own other)
first_owns setting own other node command is = or_left (own node command) (other node command) is

pub second_owns : (setting : Setting) (own other : ℕ → Command → Bool) → OwnsMore (dealer_of setting other) (either own other)
second_owns setting own other node command is = or_right (own node command) (other node command) is

either_deals : (own other : ℕ → Command → Bool) (node : ℕ) (command : Command) (P : Type 0) (a : Bool) → own node command ≡ a
    → (own node command ≡ true → P) → (other node command ≡ true → P) → (a || other node command) ≡ true → P
either_deals own other node command P true is first second owned = first is
either_deals own other node command P false is first second owned = second owned

pub deals : (own other : ℕ → Command → Bool) → OwnsDeals own → OwnsDeals other → OwnsDeals (either own other)
deals own other first second node command owned =
    either_deals own other node command _ (own node command) refl (first node command) (second node command) owned

deals_alone : (players : ℕ) (source : Option Source) (command : Command) → deals_from players source command ≡ true → IsDealing command
deals_alone players None command owned = absurd cc
deals_alone players (Some source) (Deal hand deal) owned = tt
deals_alone players (Some source) (Act hand index action) owned = absurd cc
deals_alone players (Some source) (Away hand index) owned = absurd cc

pub sources_own_deals : (players : ℕ) (sources : List Source) → OwnsDeals (owns players sources)
sources_own_deals players sources node command owned = deals_alone players (slice_get sources node) command owned
