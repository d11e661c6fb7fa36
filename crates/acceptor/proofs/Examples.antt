-- Answers of an acceptor, worked out.
use Rattle.std.proofs.Common.{◌≡◌, ℕ, ◌==◌, if◌then◌else◌, true, false, inl, inr, [], ◌∷◌, ◌++◌, List, length, length-append, ap, Option, Some, None, Ok, Err, refl, arith}
use Rattle.betting.specs.declared.action.Action.TheVariants.{Fold, Call}
use Rattle.paxos_wire.specs.declared.ballot.Ballot.{Ballot}
use Rattle.paxos_wire.specs.declared.entry.Entry.{Entry}
use Rattle.slot_log.specs.declared.command.Command.{Command}
use Rattle.slot_log.specs.declared.command.Command.TheVariants.{Act}
use Rattle.protocol_model.specs.Messages.{Vote}
use Rattle.protocol_model.specs.Stores.{Store, voted}
use Rattle.promise_store.specs.declared.disk.Disk.{Ghosts}
use Rattle.promise_store.specs.declared.records.Record.{Record}
use Rattle.promise_store.specs.declared.stage.Stage.TheVariants.{New}
use Rattle.promise_store.specs.Journals.{IsJournalOf}
use Rattle.promise_store.proofs.Journals.{one_journal}
use Rattle.promise_store.specs.declared.store.Store.{Store as StoreOn}
use Rattle.promise_store.specs.declared.fault.StoreFault.TheVariants.{Closed}
use Rattle.promise_store.specs.Keeping.{is_closed}
use Rattle.acceptor.specs.declared.answers.PrepareAnswer.{PrepareAnswer}
use Rattle.acceptor.specs.declared.answers.PrepareAnswer.TheVariants.{Promise, Refuse as RefusePrepare}
use Rattle.acceptor.specs.declared.answers.AcceptAnswer.TheVariants.{Accepted, Refuse as RefuseAccept}
use Rattle.acceptor.specs.declared.answers.RunAnswer.TheVariants.{Accepted as AcceptedRun, Refuse as RefuseRun}
use Rattle.protocol_model.specs.Votes.{told_from, told_by}
use Rattle.acceptor.specs.Answers.{answer_to_prepare, refusal_of_prepare, prepared, AnswersPrepare, answer_to_accept, refusal_of_accept, accepted, AnswersAccept, commands_told, answer_to_run, accepted_run}
use Rattle.acceptor.specs.Taken.{NeedsStore, AppendsOne}

abbrev ballot : ℕ → ℕ → Ballot
ballot round node = record { round = round; node = node }

abbrev fold : Command
fold = Act 0 0 Fold

abbrev call : Command
call = Act 0 0 Call

abbrev vote : Ballot → Command → Vote
vote b c = record { ballot = b; command = c }

abbrev entry : ℕ → Ballot → Command → Entry
entry slot b c = record { slot = slot; ballot = b; command = c }

-- ---- a store that promised (3, 1), and accepted at slots 9, 10, 73 and 74

abbrev votes : ℕ → Option Vote
votes slot =
    if slot == 9 then Some (vote (ballot 1 0) fold)
    else if slot == 10 then Some (vote (ballot 3 1) call)
    else if slot == 73 then Some (vote (ballot 2 2) fold)
    else if slot == 74 then Some (vote (ballot 1 0) call)
    else None

abbrev store : Store
store = record { promise = ballot 3 1; votes = votes }

-- slot 9 stands before the window, and 74 behind it
pub told_from_10 : told_by store 10 ≡ entry 10 (ballot 3 1) call ∷ entry 73 (ballot 2 2) fold ∷ []
unfolding told_from
told_from_10 = refl

pub told_from_75 : told_by store 75 ≡ []
unfolding told_from
told_from_75 = refl

pub promised_above : answer_to_prepare (ballot 3 2) 10 store ≡ Promise (ballot 3 2) 10 (entry 10 (ballot 3 1) call ∷ entry 73 (ballot 2 2) fold ∷ [])
unfolding told_from
promised_above = refl

pub promise_stored : prepared (ballot 3 2) store ≡ record { promise = ballot 3 2; votes = votes }
promise_stored = refl

pub not_promised_again : answer_to_prepare (ballot 3 1) 10 store ≡ RefusePrepare (ballot 3 1) 10 (ballot 3 1)
not_promised_again = refl

pub not_promised_below : answer_to_prepare (ballot 2 4) 10 store ≡ RefusePrepare (ballot 2 4) 10 (ballot 3 1)
not_promised_below = refl

pub refusal_stores_nothing : prepared (ballot 2 4) store ≡ store
refusal_stores_nothing = refl

-- what the promise (3, 1) refuses by itself: its own ballot, and what is below
pub refused_by_the_promise : refusal_of_prepare (ballot 3 1) 10 (ballot 3 1) ≡ Some (RefusePrepare (ballot 3 1) 10 (ballot 3 1))
refused_by_the_promise = refl

pub not_refused_above : refusal_of_prepare (ballot 3 2) 10 (ballot 3 1) ≡ None
not_refused_above = refl

-- ---- answers that frames carry

pub nothing_told : AnswersPrepare (ballot 3 2) 10 (Promise (ballot 3 2) 10 [])
nothing_told = (refl, refl, record { most = omega arith; each = tt; rise = tt })

-- slot 74 isn't one of the 64 from slot 10 on
pub no_answer_past_the_window : AnswersPrepare (ballot 3 2) 10 (Promise (ballot 3 2) 10 (entry 74 (ballot 1 0) call ∷ [])) → ⊥
no_answer_past_the_window answers = let past = answers.2.rise.1 in omega (arith, past)

-- an acceptor that has promised nothing has no ballot to tell
pub no_refusal_without_a_promise : AnswersAccept (ballot 3 0) 11 (RefuseAccept (ballot 3 0) 11 (ballot 0 0)) → ⊥
no_refusal_without_a_promise answers = let first = answers.2.first in omega (arith, first)

pub no_answer_to_another_slot : AnswersAccept (ballot 3 1) 11 (Accepted (ballot 3 1) 12 call) → ⊥
no_answer_to_another_slot answers = let same = answers.1 in omega (arith, same)

-- ---- closed stores

-- what needs the store has no answer of a closed one
pub closed_stores_are_silent : {D : Type 0} (g : Ghosts D) (before after : StoreOn D) (answer : PrepareAnswer) → is_closed before ≡ true → NeedsStore g None before after (Ok answer) → ⊥
closed_stores_are_silent g before after answer closed needs = elim (needs.closed refl closed) [ inl e ↦ cc | inr e ↦ cc ]

-- and an open one doesn't say that it is closed
pub open_stores_answer : {D : Type 0} (g : Ghosts D) (before after : StoreOn D) → is_closed before ≡ false → NeedsStore g {T = PrepareAnswer} None before after (Err Closed) → ⊥
open_stores_answer g before after opened needs = let closed = (needs.opened refl).1 in cc

-- ---- proposals

pub proposal_refused_by_the_promise : refusal_of_accept (ballot 3 0) 11 (ballot 3 1) ≡ Some (RefuseAccept (ballot 3 0) 11 (ballot 3 1))
proposal_refused_by_the_promise = refl

pub promised_ballot_not_refused : refusal_of_accept (ballot 3 1) 11 (ballot 3 1) ≡ None
promised_ballot_not_refused = refl

pub accepted_in_the_promised : answer_to_accept (ballot 3 1) 11 fold store ≡ Accepted (ballot 3 1) 11 fold
accepted_in_the_promised = refl

pub stored_at_its_slot : (accepted (ballot 3 1) 11 fold store).votes 11 ≡ Some (vote (ballot 3 1) fold)
stored_at_its_slot = refl

pub accepted_above : accepted (ballot 4 0) 73 call store ≡ voted store 73 (vote (ballot 4 0) call)
accepted_above = refl

pub promise_goes_up : (accepted (ballot 4 0) 73 call store).promise ≡ ballot 4 0
promise_goes_up = refl

-- the ballot has its vote there: that command is told, and nothing is written
pub told_what_is_stored : answer_to_accept (ballot 3 1) 10 fold store ≡ Accepted (ballot 3 1) 10 call
told_what_is_stored = refl

pub stored_once : accepted (ballot 3 1) 10 fold store ≡ store
stored_once = refl

pub refused_below : answer_to_accept (ballot 3 0) 11 fold store ≡ RefuseAccept (ballot 3 0) 11 (ballot 3 1)
refused_below = refl

pub refused_stores_nothing : accepted (ballot 3 0) 11 fold store ≡ store
refused_stores_nothing = refl

-- ---- runs, at a store that promised (2, 0) and accepted calls in it at slots 4 and 5

abbrev in_part : Store
in_part = record {
  promise = ballot 2 0;
  votes = λ slot. if slot == 4 then Some (vote (ballot 2 0) call) else if slot == 5 then Some (vote (ballot 2 0) call) else None;
}

-- where the first slot has a vote of the ballot, those that stand there are told, up to the first slot without one, and nothing is stored
pub stored_are_told : answer_to_run (ballot 2 0) 4 (fold ∷ fold ∷ fold ∷ []) in_part ≡ AcceptedRun (ballot 2 0) 4 (call ∷ call ∷ [])
stored_are_told = refl

pub nothing_more_is_stored : (accepted_run (ballot 2 0) 4 (fold ∷ fold ∷ fold ∷ []) in_part).votes 6 ≡ None
nothing_more_is_stored = refl

-- where it has none, the beginning is stored up to the first slot that has one, and told
pub beginning_is_told : answer_to_run (ballot 2 0) 2 (fold ∷ fold ∷ fold ∷ fold ∷ []) in_part ≡ AcceptedRun (ballot 2 0) 2 (fold ∷ fold ∷ [])
beginning_is_told = refl

pub beginning_is_stored : (accepted_run (ballot 2 0) 2 (fold ∷ fold ∷ fold ∷ fold ∷ []) in_part).votes 3 ≡ Some (vote (ballot 2 0) fold)
beginning_is_stored = refl

pub votes_there_stay : (accepted_run (ballot 2 0) 2 (fold ∷ fold ∷ fold ∷ fold ∷ []) in_part).votes 4 ≡ Some (vote (ballot 2 0) call)
votes_there_stay = refl

pub whole_run-none : answer_to_run (ballot 2 0) 2 (fold ∷ fold ∷ fold ∷ fold ∷ []) in_part ≡ AcceptedRun (ballot 2 0) 2 (fold ∷ fold ∷ fold ∷ fold ∷ []) → ⊥
whole_run-none e = absurd (cc)

-- in a greater ballot all of it is stored
pub greater_run : answer_to_run (ballot 3 1) 4 (fold ∷ fold ∷ []) in_part ≡ AcceptedRun (ballot 3 1) 4 (fold ∷ fold ∷ [])
greater_run = refl

pub lower_run : answer_to_run (ballot 1 1) 4 (fold ∷ fold ∷ []) in_part ≡ RefuseRun (ballot 1 1) 4 (ballot 2 0)
lower_run = refl

pub two_commands : commands_told in_part 4 2 ≡ call ∷ call ∷ []
unfolding commands_told
two_commands = refl

-- ---- one record more in the journal of a disk

-- two records more aren't one, and none more isn't
pub two_appended : {D : Type 0} (g : Ghosts D) (head : List ℕ) (records : List Record) (one two : Record) (before after : D) (answer : PrepareAnswer) → IsJournalOf New New head (g.seen after) (records ++ one ∷ two ∷ [])
    → AppendsOne g New head records before after (Ok answer) → ⊥
two_appended g head records one two before after answer journal appends =
    let same = one_journal head (g.seen after) (records ++ one ∷ two ∷ []) (records ++ appends.addition ∷ []) (New, New, journal) (New, New, appends.journal) in
    omega (arith, ap length same, length-append records (one ∷ two ∷ []), length-append records (appends.addition ∷ []))

pub none_appended : {D : Type 0} (g : Ghosts D) (head : List ℕ) (records : List Record) (before after : D) (answer : PrepareAnswer) → IsJournalOf New New head (g.seen after) records
    → AppendsOne g New head records before after (Ok answer) → ⊥
none_appended g head records before after answer journal appends =
    let same = one_journal head (g.seen after) records (records ++ appends.addition ∷ []) (New, New, journal) (New, New, appends.journal) in
    omega (arith, ap length same, length-append records (appends.addition ∷ []))
