-- A way is of the members alone: its events are of their nodes, and it hangs on no other standing.
use Rattle.std.proofs.Common.{◌≡◌, ℕ, ◌+◌, ◌<◌, ◌≤◌, ◌^◌, ◌⊎◌, inl, inr, List, [], ◌∷◌, map, length, refl, ap, sym, ◌∙◌, subst, arith}
use Rattle.paxos_wire.specs.declared.limits.TheConstants.{SLOTS}
use Rattle.paxos_wire.specs.declared.ballot.Ballot.{Ballot}
use Rattle.paxos_wire.specs.declared.message.Message.TheVariants.{Prepare, Promise, Refuse, Accept, Accepted}
use Rattle.slot_log.specs.declared.command.Command.{Command}
use Rattle.protocol_model.specs.Sets.{In}
use Rattle.protocol_model.specs.Ballots.{Below, AtMost}
use Rattle.protocol_model.specs.Votes.{told_by}
use Rattle.protocol_model.proofs.Sets.{in_split}
use Rattle.proposer.specs.Campaigns.{next_ballot}
use Rattle.node_rules.specs.Standings.{Place, Standing, front_of}
use Rattle.node_rules.specs.Proposing.{greatest_seen, is_over}
use Rattle.node_rules.specs.Calm.{without, WouldPropose, Event, Ticks, delivers, ballot_after, round_by}
use Rattle.node_rules.specs.CalmRound.{node_of}
use Rattle.node_rules.specs.Ways.{Movable, two_ballots, IsWay, at_once, outbid}
use Rattle.node_rules.proofs.Members.{without_in}
use Rattle.node_rules.proofs.KeptVotes.{proposes_same}
use Rattle.node_rules.proofs.Ways.{round_same}

-- ---- all are members

abbrev pub AllIn : List ℕ → List Event → Type 0
AllIn members ys = (y : Event) → In y ys → In (node_of y) members

from_map : (f : ℕ → Event) (to : ℕ → ℕ) (js : List ℕ) (members : List ℕ) → ((j : ℕ) → node_of (f j) ≡ to j) → ((j : ℕ) → In j js → In (to j) members)
    → (y : Event) → In y (map f js) → In (node_of y) members
from_map f to [] members at inside y h = absurd h
from_map f to (j ∷ js) members at inside y (inl e) = subst (λ (k : ℕ). In k members) (sym (ap node_of e ∙ at j)) (inside j (inl refl))
from_map f to (j ∷ js) members at inside y (inr h) = from_map f to js members at (λ k i. inside k (inr i)) y h

round_in : (ballot : Ballot) (standings : ℕ → Standing) (i : ℕ) (members : List ℕ) (commands : List Command) → In i members → (y : Event) → In y (round_by ballot standings i members commands)
    → In (node_of y) members
round_in ballot standings i members commands among y (inl e) = subst (λ (k : ℕ). In k members) (sym (ap node_of e)) among
round_in ballot standings i members commands among y (inr h) = elim (in_split (map asks (without i members)) _ y h) [
  | inl a ↦ from_map asks (λ j. j) (without i members) members (λ j. refl) (λ j k. (without_in i members j k).0) y a
  | inr h ↦ elim (in_split (map promises (without i members)) _ y h) [
    | inl a ↦ from_map promises (λ j. i) (without i members) members (λ j. refl) (λ j k. among) y a
    | inr h ↦ elim (in_split (map proposes (without i members)) _ y h) [
      | inl a ↦ from_map proposes (λ j. j) (without i members) members (λ j. refl) (λ j k. (without_in i members j k).0) y a
      | inr a ↦ from_map accepts (λ j. i) (without i members) members (λ j. refl) (λ j k. among) y a
    ]
  ]
]
  where
    asks : ℕ → Event
    asks j = delivers i j (Prepare ballot (front_of (standings i)))

    promises : ℕ → Event
    promises j = delivers j i (Promise ballot (front_of (standings i)) (told_by (standings j).store (front_of (standings i))))

    proposes : ℕ → Event
    proposes j = delivers i j (Accept ballot (front_of (standings i)) commands)

    accepts : ℕ → Event
    accepts j = delivers j i (Accepted ballot (front_of (standings i)) commands)

two_in : (standings : ℕ → Standing) (i : ℕ) (members : List ℕ) (commands : List Command) (j : ℕ) → In i members → In j members → AllIn members (two_ballots standings i members commands j)
two_in standings i members commands j among there y (inl e) = subst (λ (k : ℕ). In k members) (sym (ap node_of e)) among
two_in standings i members commands j among there y (inr (inl e)) = subst (λ (k : ℕ). In k members) (sym (ap node_of e)) there
two_in standings i members commands j among there y (inr (inr (inl e))) = subst (λ (k : ℕ). In k members) (sym (ap node_of e)) among
two_in standings i members commands j among there y (inr (inr (inr h))) = round_in (next_ballot i (standings j).store.promise) standings i members commands among y h

pub way_in : (standings : ℕ → Standing) (i : ℕ) (members : List ℕ) (commands : List Command) (events : List Event) → In i members → IsWay standings i members commands events → AllIn members events
way_in standings i members commands events among (at_once unpromised e) =
    subst (AllIn members) (sym e) (λ y h. round_in (ballot_after i (standings i)) standings i members commands among y h)
way_in standings i members commands events among (outbid j bid e) =
    subst (AllIn members) (sym e) (two_in standings i members commands j among (without_in i members j bid.member).0)

-- ---- standings that are the same at all members

pub movable_same : (place : Place) (a b : ℕ → Standing) (i : ℕ) (members : List ℕ) (commands : List Command) → ((k : ℕ) → In k members → a k ≡ b k) → Movable place a i members commands
    → Movable place b i members commands
movable_same place a b i members commands same movable = record {
  of_node = movable.of_node;
  quorum = movable.quorum;
  member = movable.member;
  up = λ k h. ap (λ (s : Standing). s.up) (sym (same k h)) ∙ movable.up k h;
  seen_left = subst (λ (s : Standing). (greatest_seen s).round + 1 < 2 ^ 32) (same i movable.member) movable.seen_left;
  promises_left = λ k h. subst (λ (s : Standing). Below s.store.promise (ballot_after i (b i)) ⊎ (s.store.promise.round + 1 < 2 ^ 32)) (same k h)
      (subst (λ (s : Standing). Below (a k).store.promise (ballot_after i s) ⊎ ((a k).store.promise.round + 1 < 2 ^ 32)) (same i movable.member) (movable.promises_left k h));
  slot_left = subst (λ (s : Standing). front_of s < SLOTS) (same i movable.member) movable.slot_left;
  goes_on = ap (is_over place) (sym (same i movable.member)) ∙ movable.goes_on;
  value = proposes_same place a b i members commands (λ k h. ap (λ (s : Standing). s.store.votes) (sym (same k h))) (ap (λ (s : Standing). s.learned) (sym (same i movable.member)))
      (ap (λ (s : Standing). s.pending) (sym (same i movable.member))) movable.value;
}

pub way_same : (a b : ℕ → Standing) (i : ℕ) (members : List ℕ) (commands : List Command) (events : List Event) → In i members → ((k : ℕ) → In k members → a k ≡ b k) → IsWay a i members commands events
    → IsWay b i members commands events
way_same a b i members commands events among same (at_once unpromised e) =
    at_once (λ k h. subst (λ (s : Standing). Below s.store.promise (ballot_after i (b i))) (same k h) (subst (λ (s : Standing). Below (a k).store.promise (ballot_after i s)) (same i among) (unpromised k h)))
    (e ∙ round_same (ballot_after i (a i)) (ballot_after i (b i)) a b i members commands (ap (ballot_after i) (same i among)) (ap (λ (s : Standing). front_of s) (same i among))
    (λ k h. ap (λ (s : Standing). s.store) (same k (without_in i members k h).0)))
way_same a b i members commands events among same (outbid j bid e) =
    outbid j (record {
      member = bid.member;
      most = λ k h. subst (λ (s : Standing). AtMost (b k).store.promise s.store.promise) there (subst (λ (s : Standing). AtMost s.store.promise (a j).store.promise) (same k h) (bid.most k h));
      above = λ low. bid.above (subst (λ (s : Standing). Below (a j).store.promise (ballot_after i s)) (sym (same i among))
          (subst (λ (s : Standing). Below s.store.promise (ballot_after i (b i))) (sym there) low));
    }) (e ∙ two_same)
  where
    there : a j ≡ b j
    there = same j (without_in i members j bid.member).0

    later : round_by (next_ballot i (a j).store.promise) a i members commands ≡ round_by (next_ballot i (b j).store.promise) b i members commands
    later = round_same (next_ballot i (a j).store.promise) (next_ballot i (b j).store.promise) a b i members commands (ap (λ (s : Standing). next_ballot i s.store.promise) there)
        (ap (λ (s : Standing). front_of s) (same i among)) (λ k h. ap (λ (s : Standing). s.store) (same k (without_in i members k h).0))

    two_same : two_ballots a i members commands j ≡ two_ballots b i members commands j
    two_same = λ k. Ticks i ∷ (delivers i j (Prepare (ballot_after i (same i among k)) (front_of (same i among k)))
        ∷ (delivers j i (Refuse (ballot_after i (same i among k)) (front_of (same i among k)) (there k).store.promise) ∷ later k))

-- a node that is movable has a command to propose
pub some_command : (place : Place) (standings : ℕ → Standing) (i : ℕ) (members : List ℕ) (commands : List Command) → WouldPropose place standings i members commands → 1 ≤ length commands
some_command place standings i members commands (inl told) = told.least
some_command place standings i members commands (inr own) = let one : length commands ≡ 1 = ap (λ (l : List Command). length l) own.1 in omega (arith, one)
