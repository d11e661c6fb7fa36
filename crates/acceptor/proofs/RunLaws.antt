-- What holds of what is answered to a run of proposals, and of what is stored of it.
use Rattle.std.proofs.Common.{ℕ, zero, suc, ◌≡◌, ◌+◌, ◌<◌, ◌≤◌, ◌⊎◌, inl, inr, Bool, true, false, Option, Some, None, List, [], ◌∷◌, slice_get, refl, sym, ◌∙◌, ap, subst, arith, if◌then◌else◌}
use Rattle.std.proofs.lemmas.Option.{same_Some}
use Rattle.paxos_wire.specs.declared.ballot.Ballot.{Ballot}
use Rattle.paxos_wire.specs.Order.{is_below, is_same_ballot}
use Rattle.slot_log.specs.declared.command.Command.{Command}
use Rattle.protocol_model.specs.Sets.{In}
use Rattle.protocol_model.specs.Ballots.{Below}
use Rattle.protocol_model.specs.Messages.{Vote, Message}
use Rattle.protocol_model.specs.Stores.{Store, voted, Append, unchanged}
use Rattle.protocol_model.specs.Frames.{proposals}
use Rattle.protocol_model.specs.Backing.{HasVote, IsWithinPromise}
use Rattle.protocol_model.specs.Votes.{is_of_ballot, stored_in, storing, is_voted, is_alike, command_run_from, command_run_at, storing_command_run, taking_command_run}
use Rattle.protocol_model.proofs.Ballots.{at_most_self, at_most_if_not, not_below, same_if}
use Rattle.protocol_model.proofs.Sets.{put_same, put_other}
use Rattle.protocol_model.proofs.CommandRuns.{command_run_appends, command_run_within}
use Rattle.acceptor.specs.declared.answers.RunAnswer.TheVariants.{Accepted, Refuse}
use Rattle.acceptor.specs.Answers.{accepted, answer_to_run, accepted_run}
use Rattle.acceptor.proofs.Ballots.{is_below_not}
use Rattle.acceptor.proofs.Votes.{votes_stand, stays_within}

abbrev new_vote : Ballot → Command → Vote
new_vote b c = record { ballot = b; command = c }

runs_append_by : (node : ℕ) (has : List Message) (b : Ballot) (slot : ℕ) (cs : List Command) (store : Store) (x : Bool) → is_below b store.promise ≡ x
    → ((m : Message) → In m (proposals b slot cs) → In m has) → Append node has store (if x then store else taking_command_run store b slot cs)
runs_append_by node has b slot cs store true e had = unchanged store refl
runs_append_by node has b slot cs store false e had = command_run_appends node has store b slot cs (at_most_if_not b store.promise e) had

pub runs_append : (node : ℕ) (has : List Message) (b : Ballot) (slot : ℕ) (cs : List Command) (store : Store) → ((m : Message) → In m (proposals b slot cs) → In m has)
    → Append node has store (accepted_run b slot cs store)
runs_append node has b slot cs store had = runs_append_by node has b slot cs store _ refl had

runs_within_by : (b : Ballot) (slot : ℕ) (cs : List Command) (store : Store) (x : Bool) → is_below b store.promise ≡ x → IsWithinPromise store
    → IsWithinPromise (if x then store else taking_command_run store b slot cs)
runs_within_by b slot cs store true e within = within
runs_within_by b slot cs store false e within = command_run_within store b slot cs within (at_most_if_not b store.promise e)

pub runs_within : (b : Ballot) (slot : ℕ) (cs : List Command) (store : Store) → IsWithinPromise store → IsWithinPromise (accepted_run b slot cs store)
runs_within b slot cs store within = runs_within_by b slot cs store _ refl within

-- ---- one slot after the other

module _ (b : Ballot) where
  -- the promise stays at most the ballot
  still_low : (store : Store) (slot : ℕ) (c : Command) → is_below b store.promise ≡ false → is_below b (storing store b slot c).promise ≡ false
  still_low store slot c low = by (is_of_ballot (store.votes slot) b)
    where
      self : is_below b b ≡ false
      self = is_below_not b b (λ under. not_below b b (at_most_self b) under)

      by : (x : Bool) → is_below b (if x then store else voted store slot (new_vote b c)).promise ≡ false
      by true = low
      by false = self

  as_accepted : (store : Store) (slot : ℕ) (c : Command) → is_below b store.promise ≡ false → accepted b slot c store ≡ storing store b slot c
  as_accepted store slot c low = ap (λ (x : Bool). if x then store else storing store b slot c) low

  has_on : (store : Store) (other : ℕ) (v found : Vote) → (found ≡ v) ⊎ Below v.ballot found.ballot → HasVote store other found → HasVote store other v
  has_on store other v found (inl same) has = subst (HasVote store other) same has
  has_on store other v found (inr up) (last, is, inl same) = (last, is, inr (subst (λ (w : Vote). Below v.ballot w.ballot) (sym same) up))
  has_on store other v found (inr up) (last, is, inr more) = (last, is, inr (below_below v.ballot found.ballot last.ballot up more))
    where
      below_below : (x y z : Ballot) → Below x y → Below y z → Below x z
      below_below x y z p q = grind arith

  stand_each : (slot : ℕ) (ds : List Command) (store : Store) → is_below b store.promise ≡ false → IsWithinPromise store → (other : ℕ) (v : Vote) → store.votes other ≡ Some v
      → ((at : ℕ) (c : Command) (s : Store) → IsWithinPromise s → is_below b s.promise ≡ false → IsWithinPromise (storing s b at c)) → HasVote (storing_command_run store b slot ds) other v
  stand_each slot [] store low within other v is stays = (v, is, inl refl)
  stand_each slot (d ∷ ds) store low within other v is stays =
      let one = subst (λ (s : Store). HasVote s other v) (as_accepted store slot d low) (votes_stand b slot d store other v within is) in
      has_on (storing_command_run store b slot (d ∷ ds)) other v one.0 one.2
      (stand_each (slot + 1) ds (storing store b slot d) (still_low store slot d low) (stays slot d store within low) other one.0 one.1 stays)

  -- ---- what is told is stored

  -- slots in front of a run stay as they are
  in_front : (slot : ℕ) (ds : List Command) (store : Store) (k : ℕ) → k < slot → (storing_command_run store b slot ds).votes k ≡ store.votes k
  in_front slot [] store k low = refl
  in_front slot (d ∷ ds) store k low = in_front (slot + 1) ds (storing store b slot d) k (omega (arith, low)) ∙ by (is_of_ballot (store.votes slot) b)
    where
      by : (x : Bool) → (if x then store else voted store slot (new_vote b d)).votes k ≡ store.votes k
      by true = refl
      by false = put_other store.votes slot (Some (new_vote b d)) k (λ e. omega (arith, e, low))

  other_slots : (store : Store) (slot : ℕ) (d : Command) (k : ℕ) → slot < k → (storing store b slot d).votes k ≡ store.votes k
  other_slots store slot d k high = by (is_of_ballot (store.votes slot) b)
    where
      by : (x : Bool) → (if x then store else voted store slot (new_vote b d)).votes k ≡ store.votes k
      by true = refl
      by false = put_other store.votes slot (Some (new_vote b d)) k (λ e. omega (arith, e, high))

  -- what is stored at a slot is what is told of it
  here_stored : (store : Store) (slot : ℕ) (c : Command) (o : Option Vote) → store.votes slot ≡ o
      → (if is_of_ballot o b then store else voted store slot (new_vote b (stored_in o b c))).votes slot ≡ Some (new_vote b (stored_in o b c))
  here_stored store slot c None e = put_same store.votes slot (Some (new_vote b c))
  here_stored store slot c (Some v) e = by (is_same_ballot v.ballot b) refl
    where
      by : (x : Bool) → is_same_ballot v.ballot b ≡ x → (if x then store else voted store slot (new_vote b (if x then v.command else c))).votes slot ≡ Some (new_vote b (if x then v.command else c))
      by true same = e ∙ ap (λ (k : Ballot). Some (new_vote k v.command)) (same_if v.ballot b same)
      by false other = put_same store.votes slot (Some (new_vote b c))

  -- of a run whose first slot is this one, where it holds of the slots behind
  told_step : (base store : Store) (slot : ℕ) (first : Command) (rest : List Command) (c : Command) → store.votes slot ≡ base.votes slot
      → ((n : ℕ) → slice_get rest n ≡ Some c → (storing_command_run (storing store b slot (stored_in (base.votes slot) b first)) b (slot + 1) rest).votes (slot + 1 + n) ≡ Some (new_vote b c))
      → (place : ℕ) → slice_get (stored_in (base.votes slot) b first ∷ rest) place ≡ Some c
      → (storing_command_run store b slot (stored_in (base.votes slot) b first ∷ rest)).votes (slot + place) ≡ Some (new_vote b c)
  told_step base store slot first rest c now later zero is =
      let here : slot + 0 ≡ slot = omega arith in
      let one : stored_in (base.votes slot) b first ≡ c = same_Some (stored_in (base.votes slot) b first) c is in
      ap (storing_command_run store b slot (stored_in (base.votes slot) b first ∷ rest)).votes here
      ∙ in_front (slot + 1) rest (storing store b slot (stored_in (base.votes slot) b first)) slot (omega arith)
      ∙ ap (λ (o : Option Vote). (if is_of_ballot o b then store else voted store slot (new_vote b (stored_in (base.votes slot) b first))).votes slot) now
      ∙ here_stored store slot first (base.votes slot) now ∙ ap (λ (x : Command). Some (new_vote b x)) one
  told_step base store slot first rest c now later (suc n) is =
      let here : slot + suc n ≡ slot + 1 + n = omega arith in
      ap (storing_command_run store b slot (stored_in (base.votes slot) b first ∷ rest)).votes here ∙ later n is

  told_by_test : (base store : Store) (slot : ℕ) (first : Command) (rest : List Command) (c : Command)
      → ((place : ℕ) → slice_get (stored_in (base.votes slot) b first ∷ rest) place ≡ Some c
      → (storing_command_run store b slot (stored_in (base.votes slot) b first ∷ rest)).votes (slot + place) ≡ Some (new_vote b c))
      → (x : Bool) (place : ℕ) → slice_get (if x then stored_in (base.votes slot) b first ∷ rest else []) place ≡ Some c
      → (storing_command_run store b slot (if x then stored_in (base.votes slot) b first ∷ rest else [])).votes (slot + place) ≡ Some (new_vote b c)
  told_by_test base store slot first rest c each true place is = each place is
  told_by_test base store slot first rest c each false place is = absurd cc

  told_each : (stood : Bool) (base store : Store) (slot : ℕ) (cs : List Command) → ((k : ℕ) → slot ≤ k → store.votes k ≡ base.votes k)
      → (place : ℕ) (c : Command) → slice_get (command_run_from stood base b slot cs) place ≡ Some c
      → (storing_command_run store b slot (command_run_from stood base b slot cs)).votes (slot + place) ≡ Some (new_vote b c)
  told_each stood base store slot [] same place c is = absurd cc
  told_each stood base store slot (first ∷ cs) same place c is =
      told_by_test base store slot first (command_run_from stood base b (slot + 1) cs) c
      (told_step base store slot first (command_run_from stood base b (slot + 1) cs) c (same slot (omega arith))
      (λ n behind. told_each stood base (storing store b slot (stored_in (base.votes slot) b first)) (slot + 1) cs
      (λ k from. other_slots store slot (stored_in (base.votes slot) b first) k (omega (arith, from)) ∙ same k (omega (arith, from))) n c behind))
      (is_alike stood (is_voted base b slot)) place is

runs_told_by : (b : Ballot) (slot : ℕ) (cs : List Command) (store : Store) (given : List Command) (x : Bool) → (if x then Refuse b slot store.promise else Accepted b slot (command_run_at store b slot cs)) ≡ Accepted b slot given
    → (place : ℕ) (c : Command) → slice_get given place ≡ Some c → (if x then store else taking_command_run store b slot cs).votes (slot + place) ≡ Some (new_vote b c)
runs_told_by b slot cs store given true e place c is = absurd cc
runs_told_by b slot cs store given false e place c is =
    let one : command_run_at store b slot cs ≡ given = cc in
    told_each b (is_voted store b slot) store store slot cs (λ k from. refl) place c (ap (λ (l : List Command). slice_get l place) one ∙ is)

pub runs_told : (b : Ballot) (slot : ℕ) (cs : List Command) (store : Store) (given : List Command) → answer_to_run b slot cs store ≡ Accepted b slot given
    → (place : ℕ) (c : Command) → slice_get given place ≡ Some c → (accepted_run b slot cs store).votes (slot + place) ≡ Some (new_vote b c)
runs_told b slot cs store given e place c is = runs_told_by b slot cs store given (is_below b store.promise) e place c is

runs_stand_by : (b : Ballot) (slot : ℕ) (cs : List Command) (store : Store) (other : ℕ) (v : Vote) (x : Bool) → is_below b store.promise ≡ x → IsWithinPromise store → store.votes other ≡ Some v
    → HasVote (if x then store else taking_command_run store b slot cs) other v
runs_stand_by b slot cs store other v true e within is = (v, is, inl refl)
runs_stand_by b slot cs store other v false e within is =
    stand_each b slot (command_run_at store b slot cs) store e within other v is
    (λ at c s fits low. subst (λ (x : Store). IsWithinPromise x) (as_accepted b s at c low) (stays_within b at c s fits).1)

pub runs_stand : (b : Ballot) (slot : ℕ) (cs : List Command) (store : Store) (other : ℕ) (v : Vote) → IsWithinPromise store → store.votes other ≡ Some v → HasVote (accepted_run b slot cs store) other v
runs_stand b slot cs store other v within is = runs_stand_by b slot cs store other v _ refl within is
