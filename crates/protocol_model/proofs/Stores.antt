-- What a store keeps of what its node said.
use Rattle.std.proofs.Common.{◌≡◌, ◌≢◌, ℕ, inl, inr, Some, List, [], ◌∷◌, ap, sym, ◌∙◌, subst}
use Rattle.std.proofs.lemmas.Option.{same_Some}
use Rattle.paxos_wire.specs.declared.ballot.Ballot.{Ballot}
use Rattle.protocol_model.specs.Sets.{In}
use Rattle.protocol_model.specs.Ballots.{Below, AtMost}
use Rattle.protocol_model.specs.Messages.{Vote, Message, sender_of, Prepare, Promise, Refuse, Accept, Accepted, Chosen, Ask, Forward, Said}
use Rattle.protocol_model.specs.Stores.{Store, empty_store, promised, voted, StoreMove, own_promise, promise, vote, Append, unchanged, moved}
use Rattle.protocol_model.proofs.Sets.{Within, put_cases}
use Rattle.protocol_model.proofs.Ballots.{at_most_self, at_most_trans, at_most_of_below}

-- the store is enough for the message to be true in all that is to come
abbrev pub IsBacked : Store → Message → Type 0
IsBacked store (Prepare ballot slot) = AtMost ballot store.promise
IsBacked store (Promise sender ballot first told) = AtMost ballot store.promise
IsBacked store (Refuse sender ballot slot greater) = Unit {0}
IsBacked store (Accept ballot slot command) = AtMost ballot store.promise
IsBacked store (Accepted sender ballot slot command) =
    AtMost ballot store.promise × ((v : Vote) × (store.votes slot ≡ Some v) × AtMost ballot v.ballot)
IsBacked store (Chosen sender slot command) = Unit {0}
IsBacked store (Ask sender slot) = Unit {0}
IsBacked store (Forward sender act) = Unit {0}
IsBacked store (Said sender act) = Unit {0}

-- the store of node i backs all that i ever sent, and holds only what was proposed
pub record Holds (i : ℕ) (ever : List Message) (store : Store) : Type 0 where
  pub backs : (message : Message) → In message ever → sender_of message ≡ i → IsBacked store message
  pub proposed : (slot : ℕ) (v : Vote) → store.votes slot ≡ Some v → In (Accept v.ballot slot v.command) ever × AtMost v.ballot store.promise

-- a later store: the promise is no lower, and no vote is
pub record Grows (old new : Store) : Type 0 where
  pub promise : AtMost old.promise new.promise
  pub votes : (slot : ℕ) (v : Vote) → old.votes slot ≡ Some v → (w : Vote) × (new.votes slot ≡ Some w) × AtMost v.ballot w.ballot

backed_grows : (old new : Store) (message : Message) → Grows old new → IsBacked old message → IsBacked new message
backed_grows old new (Prepare ballot slot) grows b = at_most_trans ballot old.promise new.promise b grows.promise
backed_grows old new (Promise sender ballot first told) grows b = at_most_trans ballot old.promise new.promise b grows.promise
backed_grows old new (Refuse sender ballot slot greater) grows b = tt
backed_grows old new (Accept ballot slot command) grows b = at_most_trans ballot old.promise new.promise b grows.promise
backed_grows old new (Accepted sender ballot slot command) grows b =
    let next = grows.votes slot b.1.0 b.1.1 in
    (at_most_trans ballot old.promise new.promise b.0 grows.promise, (next.0, next.1, at_most_trans ballot b.1.0.ballot next.0.ballot b.1.2 next.2))
backed_grows old new (Chosen sender slot command) grows b = tt
backed_grows old new (Ask sender slot) grows b = tt
backed_grows old new (Forward sender act) grows b = tt
backed_grows old new (Said sender act) grows b = tt

pub promised_holds : (i : ℕ) (ever : List Message) (store : Store) (ballot : Ballot) → Below store.promise ballot
    → Holds i ever store → Holds i ever (promised store ballot)
promised_holds i ever store ballot below holds =
    let higher = at_most_of_below store.promise ballot below in
    let grows : Grows store (promised store ballot) = record { promise = higher; votes = λ slot v is. (v, is, at_most_self v.ballot) } in
    record {
      backs = λ message here sender. backed_grows store (promised store ballot) message grows (holds.backs message here sender);
      proposed = λ slot v is. ((holds.proposed slot v is).0, at_most_trans v.ballot store.promise ballot (holds.proposed slot v is).1 higher);
    }

pub voted_holds : (i : ℕ) (ever : List Message) (store : Store) (slot : ℕ) (v : Vote) → AtMost store.promise v.ballot
    → In (Accept v.ballot slot v.command) ever → Holds i ever store → Holds i ever (voted store slot v)
voted_holds i ever store slot v at_most here holds =
    let grows : Grows store (voted store slot v) = record {
      promise = at_most;
      votes = λ s old is. elim (put_cases store.votes slot (Some v) s) [
        | inl new ↦ (v, new.1, at_most_trans old.ballot store.promise v.ballot (holds.proposed s old is).1 at_most)
        | inr same ↦ (old, same ∙ is, at_most_self old.ballot)
      ];
    } in
    record {
      backs = λ message there sender. backed_grows store (voted store slot v) message grows (holds.backs message there sender);
      proposed = λ s w is. elim (put_cases store.votes slot (Some v) s) [
        | inl new ↦
            let same : v ≡ w = same_Some v w (sym new.1 ∙ is) in
            subst (λ x. In (Accept x.ballot s x.command) ever × AtMost x.ballot v.ballot) same
            (subst (λ x. In (Accept v.ballot x v.command) ever) (sym new.0) here, at_most_self v.ballot)
        | inr same ↦
            let before = holds.proposed s w (sym same ∙ is) in
            (before.0, at_most_trans w.ballot store.promise v.ballot before.1 at_most)
      ];
    }

store_move_holds : (i : ℕ) (ever has : List Message) (old new : Store) → Within has ever → StoreMove i has old new → Holds i ever old → Holds i ever new
store_move_holds i ever has old new within (own_promise ballot own below same) holds =
    subst (Holds i ever) (sym same) (promised_holds i ever old ballot below holds)
store_move_holds i ever has old new within (promise ballot slot here below same) holds =
    subst (Holds i ever) (sym same) (promised_holds i ever old ballot below holds)
store_move_holds i ever has old new within (vote ballot slot command here at_most same) holds =
    subst (Holds i ever) (sym same) (voted_holds i ever old slot (record { ballot = ballot; command = command }) at_most (within _ here) holds)

pub append_holds : (i : ℕ) (ever has : List Message) (old new : Store) → Within has ever → Append i has old new → Holds i ever old → Holds i ever new
append_holds i ever has old new within (unchanged _ same) holds = subst (Holds i ever) (sym same) holds
append_holds i ever has old new within (moved between _ append move) holds =
    store_move_holds i ever has between new within move (append_holds i ever has old between within append holds)

pub empty_holds : (i : ℕ) → Holds i [] empty_store
empty_holds i = record { backs = λ message here sender. absurd here; proposed = λ slot v is. absurd cc }

-- a store goes on to hold where another node sends
pub holds_for_others : (i : ℕ) (ever : List Message) (store : Store) (message : Message) → sender_of message ≢ i
    → Holds i ever store → Holds i (message ∷ ever) store
holds_for_others i ever store message other holds = record {
  backs = λ m here sender. elim here [ inl e ↦ absurd (other (ap sender_of (sym e) ∙ sender)) | inr old ↦ holds.backs m old sender ];
  proposed = λ slot v is. (inr (holds.proposed slot v is).0, (holds.proposed slot v is).1);
}

-- and where its own sends what the store backs
pub holds_for_own : (i : ℕ) (ever : List Message) (store : Store) (message : Message) → IsBacked store message
    → Holds i ever store → Holds i (message ∷ ever) store
holds_for_own i ever store message backed holds = record {
  backs = λ m here sender. elim here [ inl e ↦ subst (IsBacked store) (sym e) backed | inr old ↦ holds.backs m old sender ];
  proposed = λ slot v is. (inr (holds.proposed slot v is).0, (holds.proposed slot v is).1);
}
