-- What is read and stored, in the words of the model's stores.
use Rattle.std.proofs.Common.{ℕ, suc, ◌≡◌, ◌+◌, ◌<◌, ◌≤◌, [], ◌∷◌, length, ◌⊎◌, inl, inr, Bool, true, false, Option, Some, None, List, ◌++◌, Result, Ok, Err, refl, sym, ◌∙◌, ap, arith, if◌then◌else◌}
use Rattle.std.specs.Prelude.{IfOk, OnOk, IfErr, IsErrOf}
use Rattle.paxos_wire.specs.declared.ballot.Ballot.{Ballot}
use Rattle.paxos_wire.specs.declared.entry.Entry.{Entry}
use Rattle.slot_log.specs.declared.command.Command.{Command}
use Rattle.protocol_model.specs.Ballots.{Below, AtMost}
use Rattle.protocol_model.specs.Messages.{Vote}
use Rattle.protocol_model.specs.Stores.{Store, promised, voted}
use Rattle.protocol_model.specs.Backing.{IsWithinPromise}
use Rattle.promise_store.specs.declared.records.Record.TheVariants.{Promised, Voted}
use Rattle.promise_store.specs.declared.placed.Placed.{Placed}
use Rattle.promise_store.specs.declared.fault.StoreFault.{StoreFault}
use Rattle.promise_store.specs.declared.fault.StoreFault.TheVariants.{Disk, Closed, OutOfMemory, BadRecord}
use Rattle.promise_store.specs.Holding.{stored}
use Rattle.promise_store.specs.Shown.{vote_pair, vote_ballot, placed_ballot}
use Rattle.acceptor.specs.declared.answers.PrepareAnswer.TheVariants.{Promise}
use Rattle.acceptor.specs.declared.answers.AcceptAnswer.TheVariants.{Accepted}
use Rattle.protocol_model.specs.Votes.{told_at, told_from, told_by, is_of_ballot, stored_in, is_voted, storing_command_run}
use Rattle.acceptor.specs.Answers.{told_pair, command_found, stored_command, answer_to_prepare, prepared, answer_to_accept, accepted}
use Rattle.paxos_wire.specs.Order.{is_below, is_same_ballot}
use Rattle.protocol_model.proofs.Ballots.{below_if, at_most_if_not}

-- ---- answers of calls

pub both_ok : {T E : Type 0} (P : T → Type 0) (Q : Type 0) (r : Result T E) → IfOk r P → OnOk r Q → IfOk r (λ x. P x × Q)
both_ok P Q (Ok x) p q = (p, q)
both_ok P Q (Err e) p q = tt

pub not_memory : {T : Type 0} (r : Result T StoreFault) → IfErr r (λ fault. (fault ≡ Disk) ⊎ ((fault ≡ Closed) ⊎ (fault ≡ BadRecord))) → IsErrOf r OutOfMemory → ⊥
not_memory (Ok x) only e = cc
not_memory (Err f) (inl disk) e = cc
not_memory (Err f) (inr (inl closed)) e = cc
not_memory (Err f) (inr (inr bad)) e = cc

pub open_still : {T : Type 0} (r : Result T StoreFault) (P : Type 0) → ((IsErrOf r Disk → ⊥) → P) → OnOk r P
open_still (Ok x) P h = h (λ e. cc)
open_still (Err e) P h = tt

-- ---- reading

pub pair_told : (slot : ℕ) (o : Option Vote) → told_pair slot (vote_pair o) ≡ told_at slot o
pair_told slot None = refl
pair_told slot (Some vote) = refl

-- one slot further
pub told_more : (held : Store) (first place : ℕ) (entries : List Entry) (found : Option (Ballot × Command)) (all : List Entry)
    → all ≡ entries ++ told_pair (first + place) found → entries ≡ told_from held first place → found ≡ vote_pair (held.votes (first + place))
    → all ≡ told_from held first (place + 1)
unfolding told_from
told_more held first place entries found all put before is =
    put
    ∙ ap (λ (es : List Entry). es ++ told_pair (first + place) found) before
    ∙ ap (λ (f : Option (Ballot × Command)). told_from held first place ++ told_pair (first + place) f) is
    ∙ ap (λ (es : List Entry). told_from held first place ++ es) (pair_told (first + place) (held.votes (first + place)))
    ∙ ap (told_from held first) (let e : suc place ≡ place + 1 = omega arith in e)

-- no vote, or one of another ballot
pub none_stored : (b : Ballot) (p : Option Placed) (o : Option Vote) → placed_ballot p ≡ vote_ballot o → p ≡ None → None ≡ stored_command b o
none_stored b p None e none = refl
none_stored b p (Some v) e none = absurd (let wrong : None ≡ Some v.ballot = sym (ap placed_ballot none) ∙ e in cc)

other_by : (b : Ballot) (v : Vote) (x : Bool) → is_same_ballot v.ballot b ≡ x → x ≡ false → None ≡ (if x then Some v.command else None)
other_by b v true e h = absurd (cc)
other_by b v false e h = refl

-- where no command of the ballot is stored there is no vote of it
vote_by : (b : Ballot) (v : Vote) (x : Bool) → is_same_ballot v.ballot b ≡ x → ◌≡◌ {A = Option Command} None (if x then Some v.command else None) → x ≡ true → ⊥
vote_by b v true e none h = absurd (cc)
vote_by b v false e none h = absurd (cc)

pub vote_in : (b : Ballot) (o : Option Vote) → None ≡ stored_command b o → is_of_ballot o b ≡ true → ⊥
vote_in b None e h = absurd (cc)
vote_in b (Some v) e h = vote_by b v (is_same_ballot v.ballot b) refl e h

pub other_stored : (b : Ballot) (p : Placed) (o : Option Vote) → Some p.ballot ≡ vote_ballot o → is_same_ballot p.ballot b ≡ false → None ≡ stored_command b o
other_stored b p None e h = refl
other_stored b p (Some v) e h = let one : p.ballot ≡ v.ballot = cc in other_by b v (is_same_ballot v.ballot b) refl (sym (ap (λ (x : Ballot). is_same_ballot x b) one) ∙ h)

this_by : (b : Ballot) (v : Vote) (x : Bool) → is_same_ballot v.ballot b ≡ x → x ≡ true → Some v.command ≡ (if x then Some v.command else None)
this_by b v true e h = refl
this_by b v false e h = absurd (cc)

pub this_stored : (b : Ballot) (p : Placed) (o : Option Vote) (found : Option (Ballot × Command)) → Some p.ballot ≡ vote_ballot o → is_same_ballot p.ballot b ≡ true → found ≡ vote_pair o
    → command_found found ≡ stored_command b o
this_stored b p None found e h is = absurd (cc)
this_stored b p (Some v) found e h is =
    let one : p.ballot ≡ v.ballot = cc in ap command_found is ∙ this_by b v (is_same_ballot v.ballot b) refl (sym (ap (λ (x : Ballot). is_same_ballot x b) one) ∙ h)

-- ---- a Prepare

abbrev pub PromisesMove : Type 0
PromisesMove = (store : Store) (ballot : Ballot) → Below store.promise ballot → stored store (Promised ballot) ≡ promised store ballot

pub prepared_is : PromisesMove → (held : Store) (b p : Ballot) → p ≡ held.promise → is_below p b ≡ true → prepared b held ≡ stored held (Promised b)
prepared_is moves held b p same below =
    let e : is_below held.promise b ≡ true = ap (λ (x : Ballot). is_below x b) (sym same) ∙ below in
    let raised : prepared b held ≡ promised held b = rw e refl in
    raised ∙ sym (moves held b (below_if held.promise b e))

pub promise_is : (held : Store) (b p : Ballot) (slot : ℕ) (told : List Entry) → p ≡ held.promise → is_below p b ≡ true → told ≡ told_by held slot
    → Promise b slot told ≡ answer_to_prepare b slot held
promise_is held b p slot told same below is =
    let e : is_below held.promise b ≡ true = ap (λ (x : Ballot). is_below x b) (sym same) ∙ below in rw e (ap (Promise b slot) is)

-- ---- a proposal

abbrev pub VotesMove : Type 0
VotesMove = (store : Store) (ballot : Ballot) (slot : ℕ) (commands : List Command) → 1 ≤ length commands → IsWithinPromise store → AtMost store.promise ballot
    → ((k : ℕ) → slot ≤ k → k < slot + length commands → is_voted store ballot k ≡ false)
    → stored store (Voted ballot slot commands) ≡ storing_command_run store ballot slot commands

module _ (b : Ballot) (slot : ℕ) (c : Command) (held : Store) where
  was_by : (v : Vote) (s : Command) (x : Bool) → Some s ≡ (if x then Some v.command else None)
      → (Accepted b slot s ≡ Accepted b slot (if x then v.command else c)) × ((if x then held else voted held slot (record { ballot = b; command = c })) ≡ held)
  was_by v s true e = let one : s ≡ v.command = cc in (ap (Accepted b slot) one, refl)
  was_by v s false e = absurd (cc)

  was_in : (o : Option Vote) (s : Command) → Some s ≡ stored_command b o
      → (Accepted b slot s ≡ Accepted b slot (stored_in o b c)) × ((if is_of_ballot o b then held else voted held slot (record { ballot = b; command = c })) ≡ held)
  was_in None s e = absurd (cc)
  was_in (Some v) s e = was_by v s (is_same_ballot v.ballot b) e

  -- a vote of the ballot is there
  pub was_stored : (p : Ballot) (s : Command) → p ≡ held.promise → is_below b p ≡ false → Some s ≡ stored_command b (held.votes slot)
      → (Accepted b slot s ≡ answer_to_accept b slot c held) × (accepted b slot c held ≡ held)
  was_stored p s same high e =
      let low : is_below b held.promise ≡ false = ap (is_below b) (sym same) ∙ high in
      let is = was_in (held.votes slot) s e in (rw low is.0, rw low is.1)

  new_by : (v : Vote) (x : Bool) → ◌≡◌ {A = Option Command} None (if x then Some v.command else None)
      → (Accepted b slot c ≡ Accepted b slot (if x then v.command else c))
      × ((if x then held else voted held slot (record { ballot = b; command = c })) ≡ voted held slot (record { ballot = b; command = c }))
  new_by v true e = absurd (cc)
  new_by v false e = (refl, refl)

  new_in : (o : Option Vote) → None ≡ stored_command b o
      → (Accepted b slot c ≡ Accepted b slot (stored_in o b c))
      × ((if is_of_ballot o b then held else voted held slot (record { ballot = b; command = c })) ≡ voted held slot (record { ballot = b; command = c }))
  new_in None e = (refl, refl)
  new_in (Some v) e = new_by v (is_same_ballot v.ballot b) e

  not_by : (v : Vote) (x : Bool) → ◌≡◌ {A = Option Command} None (if x then Some v.command else None) → x ≡ false
  not_by v true e = absurd (cc)
  not_by v false e = refl

  not_voted : (o : Option Vote) → None ≡ stored_command b o → is_of_ballot o b ≡ false
  not_voted None e = refl
  not_voted (Some v) e = not_by v (is_same_ballot v.ballot b) e

  -- none is
  pub is_stored : VotesMove → (p : Ballot) → p ≡ held.promise → is_below b p ≡ false → None ≡ stored_command b (held.votes slot) → IsWithinPromise held
      → accepted b slot c held ≡ stored held (Voted b slot (c ∷ []))
  is_stored moves p same high e within =
      let low : is_below b held.promise ≡ false = ap (is_below b) (sym same) ∙ high in
      let one = moves held b slot (c ∷ []) (omega arith) within (at_most_if_not b held.promise low)
      (λ k first last. let here : k ≡ slot = omega (arith, first, last) in ap (is_voted held b) here ∙ not_voted (held.votes slot) e) in
      rw low (sym one)

  pub is_told : (p : Ballot) → p ≡ held.promise → is_below b p ≡ false → None ≡ stored_command b (held.votes slot) → Accepted b slot c ≡ answer_to_accept b slot c held
  is_told p same high e = let low : is_below b held.promise ≡ false = ap (is_below b) (sym same) ∙ high in rw low (new_in (held.votes slot) e).0
