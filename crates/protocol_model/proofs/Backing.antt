-- What a store backs it goes on to back, and each store of a run backs what its node sent.
use Rattle.std.proofs.Common.{◌≡◌, ℕ, inl, inr, ◌⊎◌, Some, List, ap, sym, ◌∙◌, subst, refl, arith}
use Rattle.std.proofs.lemmas.Option.{same_Some}
use Rattle.paxos_wire.specs.declared.ballot.Ballot.{Ballot}
use Rattle.slot_log.specs.declared.command.Command.{Command}
use Rattle.protocol_model.specs.Sets.{In}
use Rattle.protocol_model.specs.Ballots.{Below, AtMost}
use Rattle.protocol_model.specs.Messages.{Vote, Message, sender_of, Prepare, Promise, Refuse, Accept, Accepted, Chosen, Ask, Forward, Said}
use Rattle.protocol_model.specs.Stores.{Store, promised, voted, StoreMove, own_promise, promise, vote}
use Rattle.protocol_model.specs.Backing.{HasVote, Backs, HasNoOther, IsWithinPromise, IsAcceptedToo}
use Rattle.protocol_model.specs.Dealers.{Dealer}
use Rattle.protocol_model.specs.Nodes.{Node}
use Rattle.protocol_model.specs.Worlds.{World, Reached}
use Rattle.protocol_model.specs.Laws.{IsLeft}
use Rattle.protocol_model.proofs.Sets.{put_same, put_cases}
use Rattle.protocol_model.proofs.Ballots.{at_most_trans, at_most_of_below, at_most_self, equal_or_below}
use Rattle.protocol_model.proofs.Facts.{Facts}
use Rattle.protocol_model.proofs.Stores.{Holds, append_holds}
use Rattle.protocol_model.proofs.Sending.{NodeFacts}
use Rattle.protocol_model.proofs.Runs.{world_facts}

-- the promise is no lower, and each vote is kept or gave way to one of a greater ballot
record Outlives (old new : Store) : Type 0 where
  promise : AtMost old.promise new.promise
  votes : (slot : ℕ) (vote : Vote) → old.votes slot ≡ Some vote → HasVote new slot vote

below_trans : (a b c : Ballot) → Below a b → AtMost b c → Below a c
below_trans a b c below at_most = grind arith

has_outlives : (old new : Store) (slot : ℕ) (taken : Vote) → Outlives old new → HasVote old slot taken → HasVote new slot taken
has_outlives old new slot taken outlives has =
    let next = outlives.votes slot has.0 has.1 in (
      next.0,
      next.1,
      elim has.2 [
        | inl same ↦ subst (λ v. (next.0 ≡ v) ⊎ Below v.ballot next.0.ballot) same next.2
        | inr below ↦ elim next.2 [
          | inl same ↦ inr (subst (λ (v : Vote). Below taken.ballot v.ballot) (sym same) below)
          | inr greater ↦ inr (below_trans taken.ballot has.0.ballot next.0.ballot below (at_most_of_below has.0.ballot next.0.ballot greater))
        ]
      ],
    )

outlives_backs : (old new : Store) (message : Message) → Outlives old new → Backs old message → Backs new message
outlives_backs old new (Prepare ballot slot) outlives b = at_most_trans ballot old.promise new.promise b outlives.promise
outlives_backs old new (Promise sender ballot slot told) outlives b = at_most_trans ballot old.promise new.promise b outlives.promise
outlives_backs old new (Refuse sender ballot slot greater) outlives b = tt
outlives_backs old new (Accept ballot slot command) outlives b =
    (at_most_trans ballot old.promise new.promise b.0 outlives.promise, has_outlives old new slot _ outlives b.1)
outlives_backs old new (Accepted sender ballot slot command) outlives b =
    (at_most_trans ballot old.promise new.promise b.0 outlives.promise, has_outlives old new slot _ outlives b.1)
outlives_backs old new (Chosen sender slot command) outlives b = tt
outlives_backs old new (Ask sender slot) outlives b = tt
outlives_backs old new (Forward sender command) outlives b = tt
outlives_backs old new (Said sender command) outlives b = tt

promise_outlives : (store : Store) (ballot : Ballot) → Below store.promise ballot → Outlives store (promised store ballot)
promise_outlives store ballot below = record { promise = at_most_of_below store.promise ballot below; votes = λ slot v is. (v, is, inl refl) }

vote_outlives : (store : Store) (slot : ℕ) (taken : Vote) → IsWithinPromise store → AtMost store.promise taken.ballot → HasNoOther store slot taken
    → Outlives store (voted store slot taken)
vote_outlives store slot taken within at_most none = record {
  promise = at_most;
  votes = λ s v is. elim (put_cases store.votes slot (Some taken) s) [
    | inl new ↦ (
      taken,
      new.1,
      elim (equal_or_below v.ballot taken.ballot (at_most_trans v.ballot store.promise taken.ballot (within s v is) at_most)) [
        | inl same ↦ inl (sym (none v (ap store.votes (sym new.0) ∙ is) same))
        | inr below ↦ inr below
      ],
    )
    | inr same ↦ (v, same ∙ is, inl refl)
  ];
}

pub promise_backs : (store : Store) (ballot : Ballot) (message : Message) → Below store.promise ballot → Backs store message → Backs (promised store ballot) message
promise_backs store ballot message below = outlives_backs store (promised store ballot) message (promise_outlives store ballot below)

pub vote_backs : (store : Store) (slot : ℕ) (taken : Vote) (message : Message) → IsWithinPromise store → AtMost store.promise taken.ballot
    → HasNoOther store slot taken → Backs store message → Backs (voted store slot taken) message
vote_backs store slot taken message within at_most none =
    outlives_backs store (voted store slot taken) message (vote_outlives store slot taken within at_most none)

pub promise_within : (store : Store) (ballot : Ballot) → IsWithinPromise store → Below store.promise ballot → IsWithinPromise (promised store ballot)
promise_within store ballot within below slot v is = at_most_trans v.ballot store.promise ballot (within slot v is) (at_most_of_below store.promise ballot below)

pub vote_within : (store : Store) (slot : ℕ) (taken : Vote) → IsWithinPromise store → AtMost store.promise taken.ballot → IsWithinPromise (voted store slot taken)
vote_within store slot taken within at_most s v is = elim (put_cases store.votes slot (Some taken) s) [
  | inl new ↦ subst (λ (w : Vote). AtMost w.ballot taken.ballot) (same_Some taken v (sym new.1 ∙ is)) (at_most_self taken.ballot)
  | inr same ↦ at_most_trans v.ballot store.promise taken.ballot (within s v (sym same ∙ is)) at_most
]

-- a store move, where it stores a vote in place of no other one of its ballot
pub move_backs : (node : ℕ) (has : List Message) (old new : Store) (message : Message) → IsWithinPromise old → StoreMove node has old new
    → ((slot : ℕ) (taken : Vote) → new.votes slot ≡ Some taken → HasNoOther old slot taken)
    → IsWithinPromise new × (Backs old message → Backs new message)
move_backs node has old new message within (own_promise ballot own below is) none =
    subst (λ s. IsWithinPromise s × (Backs old message → Backs s message)) (sym is) (promise_within old ballot within below, promise_backs old ballot message below)
move_backs node has old new message within (promise ballot slot here below is) none =
    subst (λ s. IsWithinPromise s × (Backs old message → Backs s message)) (sym is) (promise_within old ballot within below, promise_backs old ballot message below)
move_backs node has old new message within (vote ballot slot command here at_most is) none =
    let taken : Vote = record { ballot = ballot; command = command } in
    subst (λ s. IsWithinPromise s × (Backs old message → Backs s message)) (sym is) (
      vote_within old slot taken within at_most,
      vote_backs old slot taken message within at_most (none slot taken (ap (λ (s : Store). s.votes slot) is ∙ put_same old.votes slot (Some taken))),
    )

-- in a run
left_holds : (n i : ℕ) (ever : List Message) (node : Node) (store : Store) → NodeFacts n i ever node → IsLeft i node store → Holds i ever store
left_holds n i ever node store facts (inl up) = append_holds i ever node.has node.store store facts.has up.1 facts.store
left_holds n i ever node store facts (inr down) = elim down.1 [
  | inl e ↦ subst (Holds i ever) (sym e) facts.store
  | inr e ↦ subst (Holds i ever) (sym e) facts.begun
]

same_vote : (v : Vote) (ballot : Ballot) (command : Command) → v.ballot ≡ ballot → v.command ≡ command → v ≡ record { ballot = ballot; command = command }
same_vote v ballot command b c = λ k. record { ballot = b k; command = c k }

-- what a node said that it accepted, each store of it has
has_accepted : (dealer : Dealer) (n i : ℕ) (ever : List Message) (store : Store) (ballot : Ballot) (slot : ℕ) (command : Command) → Facts dealer n ever → Holds i ever store
    → In (Accepted i ballot slot command) ever → AtMost ballot store.promise × HasVote store slot (record { ballot = ballot; command = command })
has_accepted dealer n i ever store ballot slot command facts holds here =
    let backed = holds.backs (Accepted i ballot slot command) here refl in
    let found = backed.1.0 in (
      backed.0,
      (
        found,
        backed.1.1,
        elim (equal_or_below ballot found.ballot backed.1.2) [
          | inl same ↦
              let proposed = (holds.proposed slot found backed.1.1).0 in
              let one = facts.one ballot slot found.command command (subst (λ b. In (Accept b slot found.command) ever) (sym same) proposed)
              (facts.right (Accepted i ballot slot command) here) in
              inl (same_vote found ballot command (sym same) one)
          | inr below ↦ inr below
        ],
      ),
    )

sent_backed : (dealer : Dealer) (n i : ℕ) (ever : List Message) (store : Store) (message : Message) → Facts dealer n ever → Holds i ever store
    → In message ever → sender_of message ≡ i → IsAcceptedToo ever message → Backs store message
sent_backed dealer n i ever store (Prepare ballot slot) facts holds here own too = holds.backs (Prepare ballot slot) here own
sent_backed dealer n i ever store (Promise sender ballot slot told) facts holds here own too = holds.backs (Promise sender ballot slot told) here own
sent_backed dealer n i ever store (Refuse sender ballot slot greater) facts holds here own too = tt
sent_backed dealer n i ever store (Accept ballot slot command) facts holds here own too =
    has_accepted dealer n i ever store ballot slot command facts holds (subst (λ j. In (Accepted j ballot slot command) ever) own too)
sent_backed dealer n i ever store (Accepted sender ballot slot command) facts holds here own too =
    has_accepted dealer n i ever store ballot slot command facts holds (subst (λ j. In (Accepted j ballot slot command) ever) own here)
sent_backed dealer n i ever store (Chosen sender slot command) facts holds here own too = tt
sent_backed dealer n i ever store (Ask sender slot) facts holds here own too = tt
sent_backed dealer n i ever store (Forward sender command) facts holds here own too = tt
sent_backed dealer n i ever store (Said sender command) facts holds here own too = tt

pub world_backs : (dealer : Dealer) (n i : ℕ) (world : World) (store : Store) (message : Message) → Reached dealer n world → IsLeft i (world.nodes i) store
    → In message world.ever → sender_of message ≡ i → IsAcceptedToo world.ever message → Backs store message
world_backs dealer n i world store message run left here own too =
    let facts = world_facts dealer n world run in
    sent_backed dealer n i world.ever store message facts.facts (left_holds n i world.ever (world.nodes i) store (facts.nodes i) left) here own too

pub world_within : (dealer : Dealer) (n i : ℕ) (world : World) (store : Store) → Reached dealer n world → IsLeft i (world.nodes i) store → IsWithinPromise store
world_within dealer n i world store run left slot v is =
    let facts = world_facts dealer n world run in
    let holds = left_holds n i world.ever (world.nodes i) store (facts.nodes i) left in (holds.proposed slot v is).1
