-- A run that is stored is the model's votes one after another.
use Rattle.std.proofs.Common.{◌≡◌, inl, inr, ℕ, suc, ◌+◌, ◌<◌, ◌≤◌, refl, sym, ◌∙◌, ap, List, [], ◌∷◌, length, true, false, arith}
use Rattle.std.specs.Prelude.{◌==◌, if◌then◌else◌, Option, Some, None}
use Rattle.std.proofs.lemmas.Bool.Decides.{nat_tests}
use Rattle.std.proofs.lemmas.Bool.{cases_eq}
use Rattle.paxos_wire.specs.declared.ballot.Ballot.{Ballot}
use Rattle.slot_log.specs.declared.command.Command.{Command}
use Rattle.protocol_model.specs.Ballots.{Below, AtMost}
use Rattle.protocol_model.specs.Sets.{put}
use Rattle.protocol_model.specs.Messages.{Vote}
use Rattle.protocol_model.specs.Stores.{Store, voted}
use Rattle.protocol_model.specs.Votes.{is_of_ballot, storing, is_voted, storing_command_run}
use Rattle.protocol_model.specs.Backing.{IsWithinPromise}
use Rattle.promise_store.specs.declared.records.Record.TheVariants.{Voted}
use Rattle.promise_store.specs.Index.{later}
use Rattle.paxos_wire.specs.Order.{is_below, is_same_ballot}
use Rattle.protocol_model.proofs.Ballots.{below_cases, at_most_trans, equal_or_below, is_same_if}
use Rattle.promise_store.specs.Holding.{greater, voting, stored}

-- at these slots the store has votes of lower ballots alone
abbrev IsFresh : Store → Ballot → ℕ → ℕ → Type 0
IsFresh store ballot slot count = (k : ℕ) (vote : Vote) → slot ≤ k → k < slot + count → store.votes k ≡ Some vote → Below vote.ballot ballot

below_not : (a b : Ballot) → Below a b → is_below b a ≡ false
below_not a b low = elim (below_cases b a) [
  | inl under ↦ absurd (let under_too = under.1 in grind (arith, low, under_too))
  | inr above ↦ above.0
]

not_same : (a b : Ballot) → Below a b → is_same_ballot a b ≡ false
not_same a b low = elim (cases_eq a.round b.round) [
  | inl round ↦ elim (cases_eq a.node b.node) [
    | inl node ↦ absurd (grind (arith, low, round, node))
    | inr other ↦ (let one : (a.round == b.round) ≡ true = grind (arith, nat_tests, round) in let two : (a.node == b.node) ≡ false = grind (arith, nat_tests, other) in rw one two)
  ]
  | inr other ↦ (let one : (a.round == b.round) ≡ false = grind (arith, nat_tests, other) in rw one refl)
]

raised : (a b : Ballot) → AtMost a b → greater a b ≡ b
raised a b most = elim (below_cases a b) [
  | inl under ↦ rw under.0 refl
  | inr above ↦ rw above.0 (let up = above.1 in (λ i. record { round = (let e : a.round ≡ b.round = grind (arith, most, up) in e) i; node = (let e : a.node ≡ b.node = grind (arith, most, up) in e) i }))
]

vote_of : Ballot → Command → Vote
vote_of ballot command = record { ballot = ballot; command = command }

-- a vote at a slot that has one of a lower ballot, or none
one_vote : (store : Store) (ballot : Ballot) (slot : ℕ) (c : Command) → ((vote : Vote) → store.votes slot ≡ Some vote → Below vote.ballot ballot)
    → (storing store ballot slot c ≡ voted store slot (record { ballot = ballot; command = c }))
    × (later (λ (v : Vote). v.ballot) (store.votes slot) (record { ballot = ballot; command = c }) ≡ record { ballot = ballot; command = c })
one_vote store ballot slot c low = by (store.votes slot) refl
  where
    by : (was : Option Vote) → store.votes slot ≡ was
        → ((if is_of_ballot was ballot then store else voted store slot (record { ballot = ballot; command = c })) ≡ voted store slot (record { ballot = ballot; command = c }))
        × (later (λ (v : Vote). v.ballot) was (record { ballot = ballot; command = c }) ≡ record { ballot = ballot; command = c })
    by None is = (refl, refl)
    by (Some vote) is = (rw (not_same vote.ballot ballot (low vote is)) refl, rw (below_not vote.ballot ballot (low vote is)) refl)

-- behind that vote the slots after it are as they were
fresh_on : (store : Store) (ballot : Ballot) (slot count : ℕ) (v : Vote) → IsFresh store ballot slot (suc count) → IsFresh (voted store slot v) ballot (slot + 1) count
fresh_on store ballot slot count v fresh k vote low high is =
    let test : (k == slot) ≡ false = (let other : (k ≡ slot → ⊥) = (λ e. omega (arith, e, low)) in grind (arith, nat_tests, other)) in
    let same : put store.votes slot (Some v) k ≡ store.votes k = rw test refl in
    fresh k vote (omega (arith, low)) (omega (arith, high)) (sym same ∙ is)

-- of a store that has promised the ballot
on_from : (store : Store) (ballot : Ballot) (slot : ℕ) (cs : List Command) → store.promise ≡ ballot → IsFresh store ballot slot (length cs)
    → storing_command_run store ballot slot cs ≡ record { promise = ballot; votes = voting ballot slot cs store.votes }
on_from store ballot slot [] promise fresh = λ i. record { promise = promise i; votes = store.votes }
on_from store ballot slot (c ∷ cs) promise fresh =
    let v : Vote = record { ballot = ballot; command = c } in
    let one = one_vote store ballot slot c (λ vote is. fresh slot vote (omega arith) (omega arith) is) in
    ap (λ (s : Store). storing_command_run s ballot (slot + 1) cs) one.0
    ∙ on_from (voted store slot v) ballot (slot + 1) cs refl (fresh_on store ballot slot (length cs) v fresh)
    ∙ ap (λ (w : Vote). let s : Store = record { promise = ballot; votes = voting ballot (slot + 1) cs (put store.votes slot (Some w)) } in s) (sym one.1)

pub run_is_moves : (store : Store) (ballot : Ballot) (slot : ℕ) (cs : List Command) → 1 ≤ length cs → AtMost store.promise ballot → IsFresh store ballot slot (length cs)
    → stored store (Voted ballot slot cs) ≡ storing_command_run store ballot slot cs
run_is_moves store ballot slot [] some most fresh = absurd (omega (arith, some))
run_is_moves store ballot slot (c ∷ cs) some most fresh =
    let v : Vote = record { ballot = ballot; command = c } in
    let one = one_vote store ballot slot c (λ vote is. fresh slot vote (omega arith) (omega arith) is) in
    ap (λ (b : Ballot). let s : Store = record { promise = b; votes = voting ballot slot (c ∷ cs) store.votes } in s) (raised store.promise ballot most)
    ∙ ap (λ (w : Vote). let s : Store = record { promise = ballot; votes = voting ballot (slot + 1) cs (put store.votes slot (Some w)) } in s) one.1
    ∙ sym (on_from (voted store slot v) ballot (slot + 1) cs refl (fresh_on store ballot slot (length cs) v fresh))
    ∙ sym (ap (λ (s : Store). storing_command_run s ballot (slot + 1) cs) one.0)

-- of a store within its promise, where the ballot has no vote at these slots, their votes are of lower ballots
pub is_fresh : (store : Store) (ballot : Ballot) (slot count : ℕ) → IsWithinPromise store → AtMost store.promise ballot
    → ((k : ℕ) → slot ≤ k → k < slot + count → is_voted store ballot k ≡ false) → IsFresh store ballot slot count
is_fresh store ballot slot count within most none k vote low high is =
    elim (equal_or_below vote.ballot ballot (at_most_trans vote.ballot store.promise ballot (within k vote is) most)) [
      | inl same ↦ absurd (let e : true ≡ false = sym (is_same_if vote.ballot ballot same) ∙ sym (ap (λ (was : Option Vote). is_of_ballot was ballot) is) ∙ none k low high in cc)
      | inr below ↦ below
    ]
