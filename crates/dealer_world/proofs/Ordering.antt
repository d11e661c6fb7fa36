-- Each order of the world is in the records.
use Rattle.std.proofs.Common.{◌≡◌, ℕ, ◌⊎◌, inl, inr, Bool, true, false, List, [], ◌∷◌, ◌++◌, map, length, take, refl, ap, sym, subst}
use Rattle.std.proofs.Math.Seq.{take-append_seam}
use Rattle.paxos_wire.specs.declared.ballot.Ballot.{Ballot}
use Rattle.slot_log.specs.declared.command.Command.{Command}
use Rattle.protocol_model.specs.Sets.{In}
use Rattle.protocol_model.specs.Messages.{Message, Accepted}
use Rattle.protocol_model.specs.Quorums.{AreChosen}
use Rattle.protocol_model.specs.Arrivals as model
use Rattle.protocol_model.specs.Nodes.{Knows}
use Rattle.protocol_model.specs.Dealers.{Dealer}
use Rattle.protocol_model.specs.Worlds.{World, Reached}
use Rattle.protocol_model.proofs.Sets.{in_first, in_later, in_split}
use Rattle.dealer_world.specs.Records.{Record, Frame, Arrived, Delivered, Came, Connected, Dropped, Ordered, said}
use Rattle.dealer_world.specs.Headline.{Era, said_in}
use Rattle.dealer_world.specs.Calls.{Made, HasKnown, Brings, BringsAll}
use Rattle.dealer_world.specs.Views.{placed_at, grown}
use Rattle.dealer_world.specs.Behind.{IsOrderIn, AreOrdered}
use Rattle.dealer_world.specs.Given.{KnownIsChosen}
use Rattle.dealer_world.proofs.Saying.{said_more, in_map_placed}

abbrev events : List model.Arrival → List model.Event
events came = map (λ (arrival : model.Arrival). arrival.event) came

in_events : (came : List model.Arrival) (arrival : model.Arrival) → In arrival came → In arrival.event (events came)
in_events [] arrival there = elim there [ ]
in_events (first ∷ more) arrival (inl is) = inl (ap (λ (a : model.Arrival). a.event) is)
in_events (first ∷ more) arrival (inr there) = inr (in_events more arrival there)

-- ---- an order of the world arrived by the call

in_one : (event other : model.Event) → In event (other ∷ []) → event ≡ other
in_one event other (inl is) = is
in_one event other (inr none) = elim none [ ]

in_two : (event later first : model.Event) → In event (later ∷ first ∷ []) → (event ≡ later) ⊎ (event ≡ first)
in_two event later first (inl is) = inl is
in_two event later first (inr (inl is)) = inr is
in_two event later first (inr (inr none)) = elim none [ ]

brought_by_one : (i : ℕ) (what : Arrived) (came : List model.Event) (node front : ℕ) → Brings i what came → In (model.Ordered node front) came → what ≡ Ordered node front
brought_by_one i (Delivered frame) came node front none there = elim (subst (In (model.Ordered node front)) none there) [ ]
brought_by_one i (Came other seat bytes) came node front (inl one) there =
    absurd (let clash = in_one (model.Ordered node front) (model.Came other seat bytes) (subst (In (model.Ordered node front)) one there) in cc)
brought_by_one i (Came other seat bytes) came node front (inr two) there =
    elim (in_two (model.Ordered node front) (model.Closed other seat) (model.Came other seat bytes) (subst (In (model.Ordered node front)) two there)) [
      | inl clash ↦ absurd (cc)
      | inr clash ↦ absurd (cc)
    ]
brought_by_one i (Connected other seat) came node front one there =
    absurd (let clash = in_one (model.Ordered node front) (model.Connected other seat) (subst (In (model.Ordered node front)) one there) in cc)
brought_by_one i (Dropped other seat) came node front one there =
    absurd (let clash = in_one (model.Ordered node front) (model.Dropped other seat) (subst (In (model.Ordered node front)) one there) in cc)
brought_by_one i (Ordered other below) came node front (inl one) there =
    let same = in_one (model.Ordered node front) (model.Ordered other below) (subst (In (model.Ordered node front)) one there) in cc
brought_by_one i (Ordered other below) came node front (inr none) there = elim (subst (In (model.Ordered node front)) none there) [ ]

order_arrived : (i : ℕ) (began : Bool) (arrived : List Arrived) (came : List model.Event) (node front : ℕ) → BringsAll i began arrived came → In (model.Ordered node front) came → In (Ordered node front) arrived
order_arrived i true [] came node front one there =
    absurd (let clash = in_one (model.Ordered node front) (model.Started i) (subst (In (model.Ordered node front)) one there) in cc)
order_arrived i false [] came node front none there = elim (subst (In (model.Ordered node front)) none there) [ ]
order_arrived i began (what ∷ more) came node front (none_more, still, brings) there = inl (sym (brought_by_one i what came node front brings there))

-- ---- it met what was chosen

pub known_chosen : KnownIsChosen → (dealer : Dealer) (n i : ℕ) (world : World) (known : List Command) → Reached dealer n world → Knows (world.nodes i).known known → AreChosen n world.ever known
known_chosen law dealer n i world [] reached knows = tt
known_chosen law dealer n i world (command ∷ before) reached (here, knows) =
    (law dealer n i world (length before) command reached here, known_chosen law dealer n i world before reached knows)

pub chosen_in : (n : ℕ) (told there : List Message) (commands : List Command)
    → ((sender : ℕ) (ballot : Ballot) (slot : ℕ) (command : Command) → In (Accepted sender ballot slot command) told → In (Accepted sender ballot slot command) there)
    → AreChosen n told commands → AreChosen n there commands
chosen_in n told there [] moves h = tt
chosen_in n told there (command ∷ before) moves ((ballot, (quorum, is, all)), h) =
    ((ballot, (quorum, is, λ node less q. moves node ballot (length before) command (all node less q))), chosen_in n told there before moves h)

-- what arrives now
order_now : KnownIsChosen → (dealer : Dealer) (n i : ℕ) (world : World) (arrived : List Arrived) (made : Made) (now : Record) (before : List Era) (node front : ℕ) → Reached dealer n world
    → ((sender : ℕ) (ballot : Ballot) (slot : ℕ) (command : Command) → In (Accepted sender ballot slot command) world.ever → In (Accepted sender ballot slot command) (said_in before ++ said now.sent))
    → In (Ordered node front) arrived → HasKnown (world.nodes i) front → IsOrderIn n (grown now i arrived made) before node front
order_now law dealer n i world arrived made now before node front reached accepted there (known, below, knows) = record {
  arrival = placed_at (length now.sent) (Ordered node front);
  came = in_later now.delivered (map (placed_at (length now.sent)) arrived) (placed_at (length now.sent) (Ordered node front)) (in_map_placed (length now.sent) arrived (Ordered node front) there);
  order = refl;
  known = known;
  all_below = below;
  chosen = subst (λ (sent : List Frame). AreChosen n (said_in before ++ said sent) known) (sym (take-append_seam now.sent made.frames))
      (chosen_in n world.ever (said_in before ++ said now.sent) known accepted (known_chosen law dealer n i world known reached knows));
}

-- what had arrived stays
order_stays : (n i : ℕ) (arrived : List Arrived) (made : Made) (now : Record) (before : List Era) (node front : ℕ) → IsOrderIn n now before node front
    → IsOrderIn n (grown now i arrived made) before node front
order_stays n i arrived made now before node front o = record {
  arrival = o.arrival;
  came = in_first now.delivered (map (placed_at (length now.sent)) arrived) o.arrival o.came;
  order = o.order;
  known = o.known;
  all_below = o.all_below;
  chosen = chosen_in n (said_in before ++ said (take o.arrival.sent_before now.sent)) (said_in before ++ said (take o.arrival.sent_before (now.sent ++ made.frames))) o.known
      (λ sender ballot slot command h. elim (in_split (said_in before) (said (take o.arrival.sent_before now.sent)) (Accepted sender ballot slot command) h) [
        | inl first ↦ in_first (said_in before) (said (take o.arrival.sent_before (now.sent ++ made.frames))) (Accepted sender ballot slot command) first
        | inr later ↦ in_later (said_in before) (said (take o.arrival.sent_before (now.sent ++ made.frames))) (Accepted sender ballot slot command)
            (said_more o.arrival.sent_before now.sent made.frames (Accepted sender ballot slot command) later)
      ]) o.chosen;
}

-- by a call of node i, of which this came into the world
pub orders_later : KnownIsChosen → (dealer : Dealer) (n i : ℕ) (world : World) (later : List model.Arrival) (out : List model.Arrival) (began : Bool) (arrived : List Arrived) (made : Made)
    (now : Record) (before : List Era) → Reached dealer n world
    → ((sender : ℕ) (ballot : Ballot) (slot : ℕ) (command : Command) → In (Accepted sender ballot slot command) world.ever → In (Accepted sender ballot slot command) (said_in before ++ said now.sent))
    → (BringsAll i began arrived (events out) ⊎ (out ≡ [])) → later ≡ out ++ world.came
    → ((node front : ℕ) → In (Ordered node front) arrived → HasKnown (world.nodes i) front)
    → AreOrdered n world.came now before → AreOrdered n later (grown now i arrived made) before
orders_later law dealer n i world later out began arrived made now before reached accepted brings all knew ordered node front sent there =
    elim (in_split out world.came one (subst (In one) all there)) [
      | inr was ↦ elim (ordered node front sent was) [
        | inl here ↦ inl (order_stays n i arrived made now before node front here)
        | inr old ↦ inr old
      ]
      | inl new ↦ elim brings [
        | inl each ↦
            let came = order_arrived i began arrived (events out) node front each (in_events out one new) in
            inl (order_now law dealer n i world arrived made now before node front reached accepted came (knew node front came))
        | inr none ↦ elim (subst (In one) none new) [ ]
      ]
    ]
  where
    one : model.Arrival
    one = record { event = model.Ordered node front; sent = sent }
