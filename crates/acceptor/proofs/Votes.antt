-- What an acceptor answers and stores.
use Rattle.std.proofs.Common.{ℕ, ◌≡◌, ◌⊎◌, inl, inr, Bool, true, false, Option, Some, None, List, refl, sym, ◌∙◌, ap, if◌then◌else◌}
use Rattle.std.proofs.lemmas.Bool.{eq-eqb}
use Rattle.std.proofs.lemmas.Bool.Decides.{eqb_tells}
use Rattle.paxos_wire.specs.declared.ballot.Ballot.{Ballot}
use Rattle.slot_log.specs.declared.command.Command.{Command}
use Rattle.protocol_model.specs.Sets.{In}
use Rattle.protocol_model.specs.Ballots.{Below, AtMost}
use Rattle.protocol_model.specs.Messages.{Vote, Message, Prepare, Accept}
use Rattle.protocol_model.specs.Stores.{Store, promised, voted, StoreMove, own_promise, promise, vote as vote_move}
use Rattle.protocol_model.specs.Backing.{HasVote, IsWithinPromise}
use Rattle.protocol_model.specs.Votes.{is_of_ballot, stored_in}
use Rattle.acceptor.specs.Answers.{prepared, accepted}
use Rattle.paxos_wire.specs.Order.{is_below, is_same_ballot}
use Rattle.acceptor.specs.Laws.{IsPromised, IsNotPromised, IsAccepted, IsNotAccepted}
use Rattle.protocol_model.proofs.Ballots.{at_most_trans, not_below, below_if, is_below_if, at_most_if_not, same_if, is_same_if}
use Rattle.protocol_model.proofs.Backing.{promise_within, vote_within}
use Rattle.acceptor.proofs.Ballots.{is_below_not, differ}

abbrev new_vote : Ballot → Command → Vote
new_vote b c = record { ballot = b; command = c }

pub promises_above : (b : Ballot) (slot : ℕ) (store : Store) → Below store.promise b → IsPromised b slot store
promises_above b slot store below = record { answer = rw (is_below_if store.promise b below) refl; kept = rw (is_below_if store.promise b below) refl }

pub refuses_others : (b : Ballot) (slot : ℕ) (store : Store) → ¬ Below store.promise b → IsNotPromised b slot store
refuses_others b slot store isnt = record { answer = rw (is_below_not store.promise b isnt) refl; kept = rw (is_below_not store.promise b isnt) refl }

pub refuses_below : (b : Ballot) (slot : ℕ) (c : Command) (store : Store) → ¬ AtMost store.promise b → IsNotAccepted b slot c store
refuses_below b slot c store isnt = by_case (is_below b store.promise) refl
  where
    by_case : (x : Bool) → is_below b store.promise ≡ x → IsNotAccepted b slot c store
    by_case true e = record { answer = rw e refl; kept = rw e refl }
    by_case false e = absurd (isnt (at_most_if_not b store.promise e))

module _ (b : Ballot) (slot : ℕ) (c : Command) (store : Store) where
  -- what is stored, where the slot has this vote
  abbrev stored_with : Option Vote → Store
  stored_with o = if is_of_ballot o b then store else voted store slot (new_vote b c)

  there : (voted store slot (new_vote b c)).votes slot ≡ Some (new_vote b c)
  there = rw (eq-eqb slot slot refl) refl

  stored_some : (v : Vote) (x : Bool) → store.votes slot ≡ Some v → is_same_ballot v.ballot b ≡ x
      → (let s : Store = if x then store else voted store slot (new_vote b c) in s.votes slot) ≡ Some (new_vote b (if x then v.command else c))
  stored_some v true e same = e ∙ ap (λ (k : Ballot). Some (new_vote k v.command)) (same_if v.ballot b same)
  stored_some v false e same = there

  stored_by : (o : Option Vote) → store.votes slot ≡ o → (stored_with o).votes slot ≡ Some (new_vote b (stored_in o b c))
  stored_by None e = there
  stored_by (Some v) e = stored_some v (is_same_ballot v.ballot b) e refl

  abbrev IsOnce : Option Vote → Type 0
  IsOnce o =
      (stored_with o ≡ store)
      ⊎ ((stored_with o ≡ voted store slot (new_vote b c)) × (stored_in o b c ≡ c) × ((v : Vote) → store.votes slot ≡ Some v → v.ballot ≡ b → ⊥))

  once_some : (v : Vote) (x : Bool) → store.votes slot ≡ Some v → is_same_ballot v.ballot b ≡ x
      → ((if x then store else voted store slot (new_vote b c)) ≡ store)
      ⊎ (((if x then store else voted store slot (new_vote b c)) ≡ voted store slot (new_vote b c)) × ((if x then v.command else c) ≡ c)
      × ((w : Vote) → store.votes slot ≡ Some w → w.ballot ≡ b → ⊥))
  once_some v true e same = inl refl
  once_some v false e same = inr (refl, refl, λ w f one. let one_vote : v ≡ w = cc in let yes = is_same_if v.ballot b (ap (λ (u : Vote). u.ballot) one_vote ∙ one) in absurd (cc))

  once_by : (o : Option Vote) → store.votes slot ≡ o → IsOnce o
  once_by None e = inr (refl, refl, λ v f one. absurd (cc))
  once_by (Some v) e = once_some v (is_same_ballot v.ballot b) e refl

  pub accepts_at_most : AtMost store.promise b → IsAccepted b slot c store
  accepts_at_most most =
      let low = is_below_not b store.promise (not_below store.promise b most) in
      record { answer = rw low refl; stored = rw low (stored_by (store.votes slot) refl); kept = rw low (once_by (store.votes slot) refl) }

-- ---- moves of the model

prepares_by : (node : ℕ) (has : List Message) (b : Ballot) (slot : ℕ) (store : Store) (x : Bool) → is_below store.promise b ≡ x → (In (Prepare b slot) has) ⊎ (b.node ≡ node)
    → ((if x then promised store b else store) ≡ store) ⊎ StoreMove node has store (if x then promised store b else store)
prepares_by node has b slot store true e (inl had) = inr (promise b slot had (below_if store.promise b e) refl)
prepares_by node has b slot store true e (inr own) = inr (own_promise b own (below_if store.promise b e) refl)
prepares_by node has b slot store false e h = inl refl

pub prepares_are_moves : (node : ℕ) (has : List Message) (b : Ballot) (slot : ℕ) (store : Store) → (In (Prepare b slot) has) ⊎ (b.node ≡ node)
    → (prepared b store ≡ store) ⊎ StoreMove node has store (prepared b store)
prepares_are_moves node has b slot store h = prepares_by node has b slot store _ refl h

accepts_by : (node : ℕ) (has : List Message) (b : Ballot) (slot : ℕ) (c : Command) (store : Store) (x y : Bool) → is_below b store.promise ≡ x → In (Accept b slot c) has
    → ((if x then store else if y then store else voted store slot (new_vote b c)) ≡ store)
    ⊎ StoreMove node has store (if x then store else if y then store else voted store slot (new_vote b c))
accepts_by node has b slot c store true y e had = inl refl
accepts_by node has b slot c store false true e had = inl refl
accepts_by node has b slot c store false false e had = inr (vote_move b slot c had (at_most_if_not b store.promise e) refl)

pub accepts_are_moves : (node : ℕ) (has : List Message) (b : Ballot) (slot : ℕ) (c : Command) (store : Store) → In (Accept b slot c) has
    → (accepted b slot c store ≡ store) ⊎ StoreMove node has store (accepted b slot c store)
accepts_are_moves node has b slot c store had = accepts_by node has b slot c store _ _ refl had

-- ---- one vote a ballot and slot

unvoted : (o : Option Vote) (v : Vote) (b : Ballot) → o ≡ Some v → is_of_ballot o b ≡ false → is_same_ballot v.ballot b ≡ false
unvoted None v b e h = absurd (cc)
unvoted (Some w) v b e h = let one : w ≡ v = cc in sym (ap (λ (u : Vote). is_same_ballot u.ballot b) one) ∙ h

stands_by : (b : Ballot) (slot : ℕ) (c : Command) (store : Store) (other : ℕ) (v : Vote) (x y : Bool) → is_below b store.promise ≡ x → is_of_ballot (store.votes slot) b ≡ y
    → IsWithinPromise store → store.votes other ≡ Some v
    → HasVote (if x then store else if y then store else voted store slot (new_vote b c)) other v
stands_by b slot c store other v true y ex ey within e = (v, e, inl refl)
stands_by b slot c store other v false true ex ey within e = (v, e, inl refl)
stands_by b slot c store other v false false ex ey within e = elim (eqb_tells other slot) [
  | inl same ↦
      let at : store.votes slot ≡ Some v = sym (ap store.votes same.1) ∙ e in
      let most = at_most_trans v.ballot store.promise b (within slot v at) (at_most_if_not b store.promise ex) in
      (new_vote b c, rw same.0 refl, inr (differ v.ballot b most (unvoted (store.votes slot) v b at ey)))
  | inr ne ↦ (v, rw ne.0 e, inl refl)
]

pub votes_stand : (b : Ballot) (slot : ℕ) (c : Command) (store : Store) (other : ℕ) (v : Vote) → IsWithinPromise store → store.votes other ≡ Some v
    → HasVote (accepted b slot c store) other v
votes_stand b slot c store other v within e = stands_by b slot c store other v _ _ refl refl within e

within_prepared : (b : Ballot) (store : Store) (x : Bool) → is_below store.promise b ≡ x → IsWithinPromise store → IsWithinPromise (if x then promised store b else store)
within_prepared b store true e within = promise_within store b within (below_if store.promise b e)
within_prepared b store false e within = within

within_accepted : (b : Ballot) (slot : ℕ) (c : Command) (store : Store) (x y : Bool) → is_below b store.promise ≡ x → IsWithinPromise store
    → IsWithinPromise (if x then store else if y then store else voted store slot (new_vote b c))
within_accepted b slot c store true y e within = within
within_accepted b slot c store false true e within = within
within_accepted b slot c store false false e within = vote_within store slot (new_vote b c) within (at_most_if_not b store.promise e)

pub stays_within : (b : Ballot) (slot : ℕ) (c : Command) (store : Store) → IsWithinPromise store → IsWithinPromise (prepared b store) × IsWithinPromise (accepted b slot c store)
stays_within b slot c store within = (within_prepared b store _ refl within, within_accepted b slot c store _ _ refl within)
