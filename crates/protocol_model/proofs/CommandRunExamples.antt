-- Command runs of ballot (1, 0), from slot 0 on: what is said of them, what is taken and what is stored.
use Rattle.std.proofs.Common.{◌≡◌, ℕ, zero, suc, ◌<◌, ◌≤◌, inl, inr, true, false, true≢false, nat_lt, Some, None, List, [], ◌∷◌, refl, sym, ap, subst, arith}
use Rattle.std.proofs.lemmas.Option.{same_Some}
use Rattle.paxos_wire.specs.declared.ballot.Ballot.{Ballot}
use Rattle.paxos_wire.specs.declared.entry.Entry.{Entry}
use Rattle.paxos_wire.specs.declared.message.Message.TheVariants as frame
use Rattle.slot_log.specs.declared.command.Command.{Command}
use Rattle.slot_log.specs.declared.command.Command.TheVariants.{Deal}
use Rattle.protocol_model.specs.Sets.{In}
use Rattle.protocol_model.specs.Ballots.{AtMost}
use Rattle.protocol_model.specs.Messages.{Vote, entry_of, Message, Promise, Accept, Accepted}
use Rattle.protocol_model.specs.Quorums.{HasPromise, HasPromises}
use Rattle.protocol_model.specs.Stores.{Store, empty_store, voted}
use Rattle.protocol_model.specs.Frames.{proposals, answers, carried}
use Rattle.protocol_model.specs.Votes.{is_voted, command_run_at, taking_command_run, GoesTo}
use Rattle.protocol_model.specs.CommandRuns.{proposed, answered, MayProposeEach}
use Rattle.protocol_model.proofs.Ballots.{at_most_self}

abbrev ballot : Ballot
ballot = record { round = 1; node = 0 }

abbrev lower : Ballot
lower = record { round = 0; node = 2 }

abbrev deal : Command
deal = Deal 0 []

abbrev next : Command
next = Deal 1 []

abbrev other : Command
other = Deal 2 []

abbrev vote : Ballot → Command → Vote
vote b command = record { ballot = b; command = command }

-- ---- what is said

proposals_of_two : proposals ballot 7 (deal ∷ next ∷ []) ≡ Accept ballot 7 deal ∷ Accept ballot 8 next ∷ []
proposals_of_two = refl

answers_of_two : answers 2 ballot 7 (deal ∷ next ∷ []) ≡ Accepted 2 ballot 7 deal ∷ Accepted 2 ballot 8 next ∷ []
answers_of_two = refl

-- moves send the lowest slot first, and what is sent last stands first
proposed_in_order : proposed ballot 7 (deal ∷ next ∷ []) ≡ Accept ballot 8 next ∷ Accept ballot 7 deal ∷ []
proposed_in_order = refl

answered_in_order : answered 2 ballot 7 (deal ∷ next ∷ []) ≡ Accepted 2 ballot 8 next ∷ Accepted 2 ballot 7 deal ∷ []
answered_in_order = refl

frame_of_one : carried 2 (frame.Accepted ballot 7 (deal ∷ [])) ≡ Accepted 2 ballot 7 deal ∷ []
frame_of_one = refl

frame_of_two : carried 2 (frame.Accept ballot 7 (deal ∷ next ∷ [])) ≡ Accept ballot 7 deal ∷ Accept ballot 8 next ∷ []
frame_of_two = refl

-- the command of the last slot is carried too
last_left_out-none : carried 2 (frame.Accepted ballot 7 (deal ∷ next ∷ [])) ≡ Accepted 2 ballot 7 deal ∷ [] → ⊥
last_left_out-none e = absurd cc

-- ---- what is taken

-- of a store without votes: all
all_of_an_empty_store : command_run_at empty_store ballot 0 (deal ∷ next ∷ []) ≡ deal ∷ next ∷ []
all_of_an_empty_store = refl

-- where the ballot has a vote at slot 1 alone: what stands before it
abbrev second_voted : Store
second_voted = voted empty_store 1 (vote ballot next)

up_to_the_first_vote : command_run_at second_voted ballot 0 (deal ∷ next ∷ []) ≡ deal ∷ []
up_to_the_first_vote = refl

-- where it has one at slot 0 alone: that one, and nothing is stored
abbrev first_voted : Store
first_voted = voted empty_store 0 (vote ballot deal)

up_to_the_first_without : command_run_at first_voted ballot 0 (deal ∷ next ∷ []) ≡ deal ∷ []
up_to_the_first_without = refl

nothing_new : taking_command_run first_voted ballot 0 (deal ∷ next ∷ []) ≡ first_voted
nothing_new = refl

-- where it has votes at both: what it has, whatever comes, and nothing is stored
abbrev both_voted : Store
both_voted = voted first_voted 1 (vote ballot next)

what_is_stored : command_run_at both_voted ballot 0 (other ∷ other ∷ []) ≡ deal ∷ next ∷ []
what_is_stored = refl

stored_before : taking_command_run both_voted ballot 0 (other ∷ other ∷ []) ≡ both_voted
stored_before = refl

-- a vote of a lower ballot is no vote of this one
whole_over_a_lower_ballot : command_run_at (voted empty_store 1 (vote lower other)) ballot 0 (deal ∷ next ∷ []) ≡ deal ∷ next ∷ []
whole_over_a_lower_ballot = refl

-- each slot has its own command's vote afterwards, the slot behind them has none
second_stored : (taking_command_run empty_store ballot 0 (deal ∷ next ∷ [])).votes 1 ≡ Some (vote ballot next)
second_stored = refl

third_untouched : (taking_command_run empty_store ballot 0 (deal ∷ next ∷ [])).votes 2 ≡ None
third_untouched = refl

promised_with_it : (taking_command_run empty_store ballot 0 (deal ∷ next ∷ [])).promise ≡ ballot
promised_with_it = refl

-- ---- near misses

-- a command run isn't taken past the first slot that differs
not_past_the_first_vote : command_run_at second_voted ballot 0 (deal ∷ other ∷ other ∷ []) ≡ deal ∷ next ∷ other ∷ [] → ⊥
not_past_the_first_vote e = absurd (cc)

-- nor does its vote take the place of one of the ballot
not_overwritten : (taking_command_run both_voted ballot 0 (other ∷ other ∷ [])).votes 1 ≡ Some (vote ballot other) → ⊥
not_overwritten e = let same : next ≡ other = ap (λ (v : Vote). v.command) (same_Some (vote ballot next) (vote ballot other) e) in absurd (cc (same))

-- where slot 1 has a vote of the ballot, not all of the command run is stored: slot 2 has no vote
not_all_stored : (taking_command_run second_voted ballot 0 (deal ∷ next ∷ other ∷ [])).votes 2 ≡ Some (vote ballot other) → ⊥
not_all_stored e = absurd (cc)

-- ---- what is taken by the laws: how far it goes

-- over an empty store both of two slots, which the ballot has no vote at
goes_to_the_end : GoesTo false empty_store ballot 0 2 2
goes_to_the_end = record { alike = λ k low high. refl; differs = λ more. absurd (omega (arith, more)) }

-- one slot, before the vote at slot 1
goes_to_the_vote : GoesTo false second_voted ballot 0 3 1
goes_to_the_vote = record { alike = λ k low high. alone k high; differs = λ more. refl }
  where
    alone : (k : ℕ) → k < 1 → is_voted second_voted ballot k ≡ false
    alone zero high = refl
    alone (suc k) high = absurd (omega (arith, high))

-- ---- near misses

-- not past the vote, and not over the first slot alone where the second has none either
not_past_it : GoesTo false second_voted ballot 0 3 3 → ⊥
not_past_it goes = true≢false (goes.alike 1 (omega arith) (omega arith))

not_the_first_alone : GoesTo false empty_store ballot 0 2 1 → ⊥
not_the_first_alone goes = true≢false (sym (goes.differs (omega arith)))

-- ---- told values for slots 0 and 1, proposed together in ballot (2, 0): nodes 0 and 1 promised it, and node 1 told of what it had accepted in ballot (1, 0)
abbrev greater : Ballot
greater = record { round = 2; node = 0 }

abbrev told : List Entry
told = entry_of 0 (vote ballot deal) ∷ entry_of 1 (vote ballot next) ∷ []

abbrev had : List Message
had = Promise 0 greater 0 [] ∷ Promise 1 greater 0 told ∷ []

told_at_most : (e : Entry) → In e told → AtMost e.ballot ballot
told_at_most e (inl is) = subst (λ (x : Entry). AtMost x.ballot ballot) (sym is) (at_most_self ballot)
told_at_most e (inr (inl is)) = subst (λ (x : Entry). AtMost x.ballot ballot) (sym is) (at_most_self ballot)
told_at_most e (inr (inr none)) = absurd none

both_promised : (slot : ℕ) → slot ≤ 1 → HasPromises 3 had greater slot (λ e. AtMost e.ballot ballot)
both_promised slot low = ((λ node. nat_lt node 2), omega arith, promises)
  where
    promises : (node : ℕ) → node < 3 → nat_lt node 2 ≡ true → HasPromise had node greater slot (λ e. AtMost e.ballot ballot)
    promises zero within is = (0, [], inl refl, (omega arith, omega (arith, low)), λ e here at. absurd here)
    promises (suc zero) within is = (0, told, inr (inl refl), (omega arith, omega (arith, low)), λ e here at. told_at_most e here)
    promises (suc (suc node)) within is = absurd (grind arith)

may_propose_both : MayProposeEach 3 had [] greater 0 (deal ∷ next ∷ [])
may_propose_both = (
  (ballot, (1, 0, told, inr (inl refl), inl refl), both_promised 0 (omega arith)),
  (λ command sent. sent),
  ((ballot, (1, 0, told, inr (inl refl), inr (inl refl)), both_promised 1 (omega arith)), (λ command sent. sent), tt),
)

-- ---- near misses

-- nothing may be proposed again in the ballot, at the second slot neither
not_again : MayProposeEach 3 had (Accept greater 1 next ∷ []) greater 0 (deal ∷ next ∷ []) → ⊥
not_again may = may.2.1 next (inl refl)

-- nor what none told, behind what was told
none_told : (node first : ℕ) (entries : List Entry) (b : Ballot) → In (Promise node greater first entries) had → In (entry_of 1 (vote b other)) entries → ⊥
none_told node first entries b (inl said) here = let is : entries ≡ [] = cc (said) in subst (In (entry_of 1 (vote b other))) is here
none_told node first entries b (inr (inl said)) here =
    let is : entries ≡ told = cc (said) in not_among (subst (In (entry_of 1 (vote b other))) is here)
  where
    not_among : In (entry_of 1 (vote b other)) told → ⊥
    not_among (inl e) = let same : other ≡ deal = ap (λ (x : Entry). x.command) e in absurd (cc (same))
    not_among (inr (inl e)) = let same : other ≡ next = ap (λ (x : Entry). x.command) e in absurd (cc (same))
    not_among (inr (inr none)) = none
none_told node first entries b (inr (inr none)) here = none

not_untold : MayProposeEach 3 had [] greater 0 (deal ∷ other ∷ []) → ⊥
not_untold may =
    let g = may.2.0 in
    let t = g.1 in
    none_told t.0 t.1 t.2 g.0 t.3 t.4
