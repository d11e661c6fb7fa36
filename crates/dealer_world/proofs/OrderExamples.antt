-- An order in a record, as the origin of the command that it means. Near misses: one that came before the deal was chosen, one whose node knew of no deal, one
-- of a node that there isn't, and the command of another turn.
use Rattle.std.proofs.Common.{◌≡◌, ℕ, zero, suc, ◌<◌, inl, inr, true, false, true≢false, List, [], ◌∷◌, length, take, refl, ap, sym, ◌∙◌, subst, arith}
use Rattle.slot_log.specs.declared.command.Command.{Command}
use Rattle.slot_log.specs.declared.command.Command.TheVariants.{Away}
use Rattle.match_log.proofs.Examples.{opened}
use Rattle.protocol_model.specs.Sets.{In}
use Rattle.protocol_model.specs.Messages.{Accepted}
use Rattle.protocol_model.specs.Quorums.{IsChosen, AreChosen}
use Rattle.protocol_model.specs.Dealers.{Dealer}
use Rattle.protocol_model.specs.Arrivals as model
use Rattle.dealer_kind.specs.declared.source.Source.{Source}
use Rattle.dealer_world.specs.declared.event.Event.TheVariants as event
use Rattle.dealer_world.specs.declared.arrivals.What.TheVariants as what
use Rattle.dealer_world.specs.Events.{node_of, brought_by}
use Rattle.dealer_world.specs.KeptArrivals.{arrived_of}
use Rattle.dealer_world.specs.Records.{Record, Ordered, Arrival, said}
use Rattle.dealer_world.specs.Calls.{Brings}
use Rattle.dealer_world.specs.Stepping.{arrived_by_event}
use Rattle.dealer_world.specs.Headline.{Era, dealer_in, WasOrderedIn, HasOrigin}
use Rattle.dealer_world.proofs.ListExamples.{setting, deal, ballot, sent_before_the_fold, messages_before_the_fold, said_before_the_fold, started, both, some_member, only_the_deal}

-- ---- in the record

order_arrives : (node_of (event.Away 1) ≡ 1) × (brought_by 7 (event.Away 1) ≡ Ordered 1 7 ∷ [])
order_arrives = (refl, refl)

order_is_kept : arrived_of (what.Away 1 7) [] ≡ Ordered 1 7
order_is_kept = refl

-- at a node that is down none arrives
down_gets_no_order : arrived_by_event false 7 (event.Away 1) ≡ []
down_gets_no_order = refl

-- one is in the record, and may bring nothing into the world, as where it was refused
refused_order : Brings 1 (Ordered 1 7) []
refused_order = inr refl

-- none has another front than the record says
other_front : Brings 1 (Ordered 1 7) (model.Ordered 1 8 ∷ []) → ⊥
other_front (inl same) = absurd (omega (arith, ap front_in same))
  where
    front_in : List model.Event → ℕ
    front_in (model.Ordered node front ∷ events) = front
    front_in other = 0
other_front (inr none) = cc

-- ---- as an origin

-- behind the frames by which the deal was chosen: an order came to this node, which had this front, when so many of them had been sent
abbrev with_order : ℕ → ℕ → ℕ → Record
with_order node front sent_before = record {
  sent = sent_before_the_fold;
  delivered = (record { what = Ordered node front; sent_before = sent_before }) ∷ [];
  starts = started;
  shown = [];
}

deal_votes : (node : ℕ) → node < 3 → both node ≡ true → In (Accepted node ballot 0 deal) messages_before_the_fold
deal_votes zero less is = inr (inr (inr (inr (inr (inl refl)))))
deal_votes (suc zero) less is = inr (inr (inr (inr (inr (inr (inr (inl refl)))))))
deal_votes (suc (suc node)) less is = absurd (true≢false (sym is))

deal_chosen : AreChosen 3 messages_before_the_fold (deal ∷ [])
deal_chosen = ((ballot, (both, omega arith, deal_votes)), tt)

-- of no messages nothing is chosen
nothing_chosen : (slot : ℕ) (command : Command) → IsChosen 3 [] slot command → ⊥
nothing_chosen slot command (voted, (quorum, most, members)) = let member = some_member quorum most in elim (members member.0 member.1 member.2) [ ]

none_chosen : (known : List Command) → length known ≡ 1 → AreChosen 3 [] known → ⊥
none_chosen [] one chosen = absurd (omega (arith, one))
none_chosen (command ∷ before) one (here, rest) = nothing_chosen (length before) command here

nothing_known : (known : List Command) → length known ≡ 0 → known ≡ []
nothing_known [] none = refl
nothing_known (command ∷ before) none = absurd (omega (arith, none))

-- the same order
order_is : (node front other below : ℕ) → Ordered node front ≡ Ordered other below → (node ≡ other) × (front ≡ below)
order_is node front other below is = (cc, cc)

one_arrival : (arrival only : Arrival) → In arrival (only ∷ []) → arrival ≡ only
one_arrival arrival only (inl is) = is
one_arrival arrival only (inr none) = elim none [ ]

module _ (first : Source) (others : List Source) where
  abbrev era_of : Record → Era
  era_of all = record { sources = first ∷ others; record_of = all }

  abbrev dealer_of : Record → Dealer
  dealer_of all = dealer_in setting (era_of all ∷ [])

  first_turn : (all : Record) → (dealer_of all).orders (deal ∷ []) (Away 0 0) ≡ true
  unfolding opened
  first_turn all = refl

  -- it came when the deal was chosen, to a node that knew the deal
  origin : HasOrigin (dealer_of (with_order 1 1 9)) 3 (era_of (with_order 1 1 9) ∷ []) (Away 0 0)
  origin = inl (record {
    node = 1;
    is_node = omega arith;
    arrival = record { what = Ordered 1 1; sent_before = 9 };
    came = inl refl;
    known = deal ∷ [];
    order = refl;
    chosen = subst (λ ms. AreChosen 3 ms (deal ∷ [])) (sym said_before_the_fold) deal_chosen;
    orders = first_turn (with_order 1 1 9);
  })

  -- what an order met
  met : (node front sent_before : ℕ) (command : Command)
      → (w : WasOrderedIn (dealer_of (with_order node front sent_before)) 3 (era_of (with_order node front sent_before)) [] command)
      → (w.node ≡ node) × (length w.known ≡ front) × AreChosen 3 (said (take sent_before sent_before_the_fold)) w.known
  met node front sent_before command w =
      let same = one_arrival w.arrival (record { what = Ordered node front; sent_before = sent_before }) w.came in
      let is : Ordered w.node (length w.known) ≡ Ordered node front = sym w.order ∙ ap (λ (a : Arrival). a.what) same in
      let are = order_is w.node (length w.known) node front is in
      (are.0, are.1, subst (λ (k : ℕ). AreChosen 3 (said (take k sent_before_the_fold)) w.known) (ap (λ (a : Arrival). a.sent_before) same) w.chosen)

  too_soon : HasOrigin (dealer_of (with_order 1 1 0)) 3 (era_of (with_order 1 1 0) ∷ []) (Away 0 0) → ⊥
  too_soon (inl w) = let m = met 1 1 0 (Away 0 0) w in none_chosen w.known m.1 m.2
  too_soon (inr none) = none

  nobody_yet : (all : Record) → (dealer_of all).orders [] (Away 0 0) ≡ false
  unfolding opened
  nobody_yet all = refl

  knew_no_deal : HasOrigin (dealer_of (with_order 1 0 9)) 3 (era_of (with_order 1 0 9) ∷ []) (Away 0 0) → ⊥
  knew_no_deal (inl w) =
      let m = met 1 0 9 (Away 0 0) w in
      let dealer = dealer_of (with_order 1 0 9) in
      true≢false (sym w.orders ∙ (ap (λ (l : List Command). dealer.orders l (Away 0 0)) (nothing_known w.known m.1) ∙ nobody_yet (with_order 1 0 9)))
  knew_no_deal (inr none) = none

  no_such_node : HasOrigin (dealer_of (with_order 3 1 9)) 3 (era_of (with_order 3 1 9) ∷ []) (Away 0 0) → ⊥
  no_such_node (inl w) = let m = met 3 1 9 (Away 0 0) w in let within = w.is_node in let is : w.node ≡ 3 = m.0 in absurd (omega (arith, within, is))
  no_such_node (inr none) = none

  not_the_second_turn : (all : Record) → (dealer_of all).orders (deal ∷ []) (Away 0 1) ≡ false
  unfolding opened
  not_the_second_turn all = refl

  another_turn : HasOrigin (dealer_of (with_order 1 1 9)) 3 (era_of (with_order 1 1 9) ∷ []) (Away 0 1) → ⊥
  another_turn (inl w) =
      let m = met 1 1 9 (Away 0 1) w in
      let dealer = dealer_of (with_order 1 1 9) in
      elim (only_the_deal w.known (subst (λ ms. AreChosen 3 ms w.known) said_before_the_fold m.2)) [
        | inl empty ↦ let none : length w.known ≡ 0 = ap length empty in absurd (omega (arith, m.1, none))
        | inr one ↦ true≢false (sym w.orders ∙ (ap (λ (l : List Command). dealer.orders l (Away 0 1)) one ∙ not_the_second_turn (with_order 1 1 9)))
      ]
  another_turn (inr none) = none
