-- What a store backs.
use Rattle.std.proofs.Common.{◌≡◌, ℕ, inl, inr, Some, [], refl, ap, sym, ◌∙◌, subst, arith}
use Rattle.std.proofs.lemmas.Option.{same_Some}
use Rattle.paxos_wire.specs.declared.ballot.Ballot.{Ballot}
use Rattle.slot_log.specs.declared.command.Command.TheVariants.{Deal}
use Rattle.protocol_model.specs.Ballots.{Below}
use Rattle.protocol_model.specs.Messages.{Vote, Prepare, Promise, Refuse, Accept, Accepted}
use Rattle.protocol_model.specs.Stores.{Store, empty_store, promised, voted}
use Rattle.protocol_model.specs.Backing.{Backs, HasNoOther, IsWithinPromise}
use Rattle.protocol_model.proofs.Examples.{no_vote}

abbrev first : Ballot
first = record { round = 1; node = 0 }

abbrev second : Ballot
second = record { round = 1; node = 2 }

abbrev vote : Ballot → ℕ → Vote
vote ballot hand = record { ballot = ballot; command = Deal hand [] }

abbrev taken : Store
taken = voted empty_store 4 (vote first 0)

-- a store that promised (1, 0) backs its Prepare and its Promise, and not those of (1, 2)
promise_kept : Backs (promised empty_store first) (Promise 1 first 4 [])
promise_kept = inr (refl, omega arith)

prepare_kept : Backs (promised empty_store first) (Prepare first 4)
prepare_kept = inr (refl, omega arith)

promise_lost : Backs (promised empty_store first) (Promise 1 second 4 []) → ⊥
promise_lost backs = grind arith

-- a store may have forgotten that it refused
refusal : Backs empty_store (Refuse 1 second 4 second)
refusal = tt

-- a store that holds the vote backs that it was accepted, and proposed; with a greater vote it does so still
accepted : Backs taken (Accepted 1 first 4 (Deal 0 []))
accepted = (inr (refl, omega arith), (vote first 0, refl, inl refl))

proposed : Backs taken (Accept first 4 (Deal 0 []))
proposed = (inr (refl, omega arith), (vote first 0, refl, inl refl))

outvoted : Backs (voted taken 4 (vote second 1)) (Accepted 1 first 4 (Deal 0 []))
outvoted = (inr (refl, omega arith), (vote second 1, refl, inr (inr (refl, omega arith))))

-- a promise alone doesn't, nor another slot's vote, nor a vote of a lower ballot, nor another vote of the same ballot
promise_alone : Backs (promised empty_store first) (Accepted 1 first 4 (Deal 0 [])) → ⊥
promise_alone backs = no_vote backs.1.0 backs.1.1

another_slot : Backs taken (Accepted 1 first 5 (Deal 0 [])) → ⊥
another_slot backs = no_vote backs.1.0 backs.1.1

same_deal : (found : Vote) (ballot : Ballot) (hand other : ℕ) → Some (vote ballot hand) ≡ Some found → found ≡ vote ballot other → Deal hand [] ≡ Deal other []
same_deal found ballot hand other held is = ap (λ (v : Vote). v.command) (same_Some (vote ballot hand) found held ∙ is)

its_ballot : (found wanted : Vote) → Some wanted ≡ Some found → found.ballot ≡ wanted.ballot
its_ballot found wanted held = ap (λ (v : Vote). v.ballot) (sym (same_Some wanted found held))

not_below_itself : (a b : Ballot) → b ≡ a → Below a b → ⊥
not_below_itself a b e below = let is : Below a a = subst (Below a) e below in grind arith

another_vote : Backs taken (Accepted 1 first 4 (Deal 1 [])) → ⊥
another_vote backs = elim backs.1.2 [
  | inl is ↦ let deals = same_deal backs.1.0 first 0 1 backs.1.1 is in cc
  | inr below ↦ not_below_itself first backs.1.0.ballot (its_ballot backs.1.0 (vote first 0) backs.1.1) below
]

-- So a vote that takes the place of another of its ballot loses what the store backed, which no acceptor does.
overwritten : Backs (voted taken 4 (vote first 1)) (Accepted 1 first 4 (Deal 0 [])) → ⊥
overwritten backs = elim backs.1.2 [
  | inl is ↦ let deals = same_deal backs.1.0 first 1 0 backs.1.1 is in cc
  | inr below ↦ not_below_itself first backs.1.0.ballot (its_ballot backs.1.0 (vote first 1) backs.1.1) below
]

other_vote : HasNoOther taken 4 (vote first 1) → ⊥
other_vote none = let deals = ap (λ (v : Vote). v.command) (none (vote first 0) refl refl) in cc

same_vote_again : HasNoOther taken 4 (vote first 0)
same_vote_again found held same = sym cc

greater_vote : HasNoOther taken 4 (vote second 1)
greater_vote found held same = let node : found.ballot.node ≡ 0 = ap (λ (b : Ballot). b.node) (its_ballot found (vote first 0) held) in
    absurd (omega (arith, node, ap (λ (b : Ballot). b.node) same))

-- a vote above the promise is in no store of a run
not_within : IsWithinPromise (record taken { promise = record { round = 0; node = 0 } }) → ⊥
not_within within = let most = within 4 (vote first 0) refl in grind arith
