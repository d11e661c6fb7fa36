-- The round by which a cluster at rest moves on over two commands at once: its events, byte for byte, and what comes of it.
use Rattle.std.proofs.Common.{◌≡◌, ◌≢◌, ℕ, zero, suc, ◌+◌, List, [], ◌∷◌, length, Vec, Global, Some, refl, ap, sym, ◌∙◌, arith}
use Rattle.betting.specs.declared.action.Action.TheVariants.{Call}
use Rattle.paxos_wire.specs.Spelling.{frame_of}
use Rattle.slot_log.specs.Slots.{known_at}
use Rattle.slot_log.specs.declared.command.Command.{Command}
use Rattle.slot_log.specs.declared.command.Command.TheVariants.{Act}
use Rattle.protocol_model.specs.Stores.{Store, empty_store, promised, voted}
use Rattle.node_rules.specs.Standings.{Standing, front_of}
use Rattle.node_rules.specs.Calm.{round}
use Rattle.node_rules.specs.CalmRound.{HasMovedOn}
use Rattle.node_rules.proofs.Examples.{opened, ballot, dealt, first}
use Rattle.dealer_world.specs.declared.event.Event.{Event}
use Rattle.dealer_world.specs.declared.event.Event.TheVariants as event
use Rattle.dealer_world.specs.CalmCluster.{AreEvents}

-- ---- node 1 accepted node 0's deal and a call behind it, both in ballot (1, 0); nobody knows them, and node 2 has accepted nothing

abbrev call : Command
call = Act 0 0 Call

abbrev both : List Command
both = dealt 0 ∷ call ∷ []

abbrev accepted_by_1 : Store
accepted_by_1 = voted (voted (promised empty_store (ballot 1 0)) 0 (record { ballot = ballot 1 0; command = dealt 0 })) 1 (record { ballot = ballot 1 0; command = call })

abbrev left_over : ℕ → Standing
left_over zero = first 0
left_over (suc zero) = record (first 1) { store = accepted_by_1; begun = accepted_by_1; seen = ballot 1 0 }
left_over (suc (suc node)) = first 2

-- ---- node 2's ballot is (1, 2): a tick and four deliveries, of which the Accept and the Accepted have both commands

abbrev prepare : List ℕ
prepare = 0 ∷ 0 ∷ 0 ∷ 11 ∷ 2 ∷ 1 ∷ 0 ∷ 0 ∷ 0 ∷ 1 ∷ 2 ∷ 0 ∷ 0 ∷ 0 ∷ 0 ∷ []

abbrev promise : List ℕ
promise =
    0 ∷ 0 ∷ 0 ∷ 57 ∷ 2 ∷ 2 ∷ 0 ∷ 0 ∷ 0 ∷ 1 ∷ 2 ∷ 0 ∷ 0 ∷ 0 ∷ 0 ∷ 2
    ∷ 0 ∷ 0 ∷ 0 ∷ 0 ∷ 0 ∷ 0 ∷ 0 ∷ 1 ∷ 0 ∷ 1 ∷ 0 ∷ 0 ∷ 0 ∷ 0 ∷ 9 ∷ 33 ∷ 51 ∷ 26 ∷ 32 ∷ 0 ∷ 24 ∷ 6 ∷ 28 ∷ 46
    ∷ 0 ∷ 0 ∷ 0 ∷ 1 ∷ 0 ∷ 0 ∷ 0 ∷ 1 ∷ 0 ∷ 2 ∷ 0 ∷ 0 ∷ 0 ∷ 0 ∷ 0 ∷ 0 ∷ 1 ∷ 0 ∷ 0 ∷ 0 ∷ 0 ∷ []

abbrev accept : List ℕ
accept =
    0 ∷ 0 ∷ 0 ∷ 39 ∷ 2 ∷ 4 ∷ 0 ∷ 0 ∷ 0 ∷ 1 ∷ 2 ∷ 0 ∷ 0 ∷ 0 ∷ 0 ∷ 2 ∷ 1 ∷ 0 ∷ 0 ∷ 0 ∷ 0 ∷ 9 ∷ 33 ∷ 51 ∷ 26 ∷ 32 ∷ 0 ∷ 24 ∷ 6 ∷ 28 ∷ 46
    ∷ 2 ∷ 0 ∷ 0 ∷ 0 ∷ 0 ∷ 0 ∷ 0 ∷ 1 ∷ 0 ∷ 0 ∷ 0 ∷ 0 ∷ []

abbrev accepted : List ℕ
accepted =
    0 ∷ 0 ∷ 0 ∷ 39 ∷ 2 ∷ 5 ∷ 0 ∷ 0 ∷ 0 ∷ 1 ∷ 2 ∷ 0 ∷ 0 ∷ 0 ∷ 0 ∷ 2 ∷ 1 ∷ 0 ∷ 0 ∷ 0 ∷ 0 ∷ 9 ∷ 33 ∷ 51 ∷ 26 ∷ 32 ∷ 0 ∷ 24 ∷ 6 ∷ 28 ∷ 46
    ∷ 2 ∷ 0 ∷ 0 ∷ 0 ∷ 0 ∷ 0 ∷ 0 ∷ 1 ∷ 0 ∷ 0 ∷ 0 ∷ 0 ∷ []

-- the Accept of the deal alone
abbrev accept_deal : List ℕ
accept_deal = 0 ∷ 0 ∷ 0 ∷ 27 ∷ 2 ∷ 4 ∷ 0 ∷ 0 ∷ 0 ∷ 1 ∷ 2 ∷ 0 ∷ 0 ∷ 0 ∷ 0 ∷ 1 ∷ 1 ∷ 0 ∷ 0 ∷ 0 ∷ 0 ∷ 9 ∷ 33 ∷ 51 ∷ 26 ∷ 32 ∷ 0 ∷ 24 ∷ 6 ∷ 28 ∷ 46 ∷ []

module _ (asked told proposed taken : Vec ℕ Global) where
  abbrev events : List Event
  events = event.Tick 2 ∷ event.Frame 2 1 asked ∷ event.Frame 1 2 told ∷ event.Frame 2 1 proposed ∷ event.Frame 1 2 taken ∷ []

  -- where the frames have these bytes
  are_of_the_round : asked.items ≡ prepare → told.items ≡ promise → proposed.items ≡ accept → taken.items ≡ accepted → AreEvents events (round left_over 2 (1 ∷ 2 ∷ []) both)
  unfolding opened frame_of
  are_of_the_round a t p k = (refl, ((refl, refl, a), ((refl, refl, t), ((refl, refl, p), ((refl, refl, k), tt)))))

  -- and not where the deal is proposed alone
  deal_alone_is_another_round : proposed.items ≡ accept_deal → AreEvents events (round left_over 2 (1 ∷ 2 ∷ []) both) → ⊥
  unfolding opened frame_of
  deal_alone_is_another_round p (tick, (ask, (tell, ((from, to, bytes), rest)))) =
      let same : length accept_deal ≡ length accept = ap (λ (l : List ℕ). length l) (sym p ∙ bytes) in absurd (omega (arith, same))

-- ---- where it comes to

-- a front that has passed the deal alone
deal_alone_is_not_all : (standings : ℕ → Standing) → front_of (standings 2) ≡ 1 → HasMovedOn 2 0 both standings → ⊥
deal_alone_is_not_all standings one (passed, known) = omega (arith, one, passed)

-- another command known behind the deal
another_behind : (standings : ℕ → Standing) (other : Command) → known_at (standings 2).learned.log 1 ≡ Some other → other ≢ call → HasMovedOn 2 0 both standings → ⊥
another_behind standings other is differs (passed, (deal_known, (call_known, rest))) = let same : Some other ≡ Some call = sym is ∙ call_known in differs (cc)
