-- The greatest ballots of records are held.
use Rattle.std.proofs.Common.{◌≡◌, ◌⊎◌, inl, inr, ℕ, ◌+◌, refl, sym, ◌∙◌, ap, subst, List, [], ◌∷◌, ◌++◌, length, true, false, Bool, arith}
use Rattle.std.specs.Prelude.{if◌then◌else◌, Option, Some, None}
use Rattle.std.proofs.lemmas.Bool.{cases_eq}
use Rattle.std.proofs.lemmas.Option.{none-some, same_Some}
use Rattle.paxos_wire.specs.declared.ballot.Ballot.{Ballot}
use Rattle.slot_log.specs.declared.command.Command.{Command}
use Rattle.paxos_wire.specs.declared.entry.Entry.{Entry}
use Rattle.protocol_model.specs.Ballots.{Below, AtMost, no_ballot}
use Rattle.protocol_model.specs.Sets.{put, In}
use Rattle.protocol_model.specs.Messages.{Vote}
use Rattle.protocol_model.specs.Stores.{Store, empty_store}
use Rattle.protocol_model.specs.Backing.{IsWithinPromise}
use Rattle.promise_store.specs.declared.records.Record.{Record}
use Rattle.promise_store.specs.declared.records.Record.TheVariants.{Promised, VotedOne, Opened, Voted}
use Rattle.promise_store.specs.Index.{later}
use Rattle.paxos_wire.specs.Order.{is_below}
use Rattle.promise_store.specs.Journals.{gated}
use Rattle.promise_store.specs.Holding.{Holding, nothing_held, greater, with_record, held_from, holding, store_of, voting, stored}
use Rattle.promise_store.specs.Laws.{ballot_of_record, IsGreatest, entries_of, accepted_by, accepted_in, Says, IsLastOfGreatest}
use Rattle.promise_store.proofs.Holding.{store_with}
use Rattle.protocol_model.proofs.Sets.{put_same, put_other}
use Rattle.protocol_model.proofs.Ballots.{below_cases, at_most_trans}
use Rattle.promise_store.proofs.Backing.{vote_of, promise_raised, promise_kept, stored_more}

-- the model's store with these records more
abbrev stored_all : Store → List Record → Store
stored_all store [] = store
stored_all store (r ∷ records) = stored_all (stored store r) records

stored_from : (gate : ℕ) (held : Holding) (records : List Record) → store_of (held_from gate held records) ≡ stored_all (store_of held) records
stored_from gate held [] = refl
stored_from gate held (r ∷ records) =
    stored_from (gate + length (gated (r ∷ []))) (with_record gate held r) records ∙ ap (λ s. stored_all s records) (store_with gate held r)

pub stored_holding : (head : List ℕ) (records : List Record) → store_of (holding head records) ≡ stored_all empty_store records
stored_holding head records = stored_from (length head) nothing_held records

-- no ballot is below none
none_is_least : (b : Ballot) → greater b no_ballot ≡ b
none_is_least b = elim (below_cases b no_ballot) [
  | inl below ↦ absurd (let under = below.1 in grind (arith, under))
  | inr above ↦ ap (λ (test : Bool). if test then no_ballot else b) above.0
]

promise_is : (store : Store) (r : Record) → (stored store r).promise ≡ greater store.promise (ballot_of_record r)
promise_is store (Promised ballot) = refl
promise_is store (VotedOne ballot slot command) = refl
promise_is store Opened = sym (none_is_least store.promise)
promise_is store (Voted ballot slot commands) = refl

promise_grows : (store : Store) (records : List Record) → AtMost store.promise (stored_all store records).promise
promise_grows store [] = inr (refl, omega arith)
promise_grows store (r ∷ records) =
    at_most_trans store.promise (stored store r).promise (stored_all (stored store r) records).promise
    (subst (λ (b : Ballot). AtMost store.promise b) (sym (promise_is store r)) (promise_kept store (ballot_of_record r))) (promise_grows (stored store r) records)

most : (store : Store) (records : List Record) (r : Record) → In r records → AtMost (ballot_of_record r) (stored_all store records).promise
most store [] r none = absurd none
most store (x ∷ records) r (inl here) =
    at_most_trans (ballot_of_record r) (stored store x).promise (stored_all (stored store x) records).promise
    (subst (λ (b : Ballot). AtMost (ballot_of_record r) b) (sym (promise_is store x)) (subst (λ (y : Record). AtMost (ballot_of_record y) (greater store.promise (ballot_of_record x))) (sym here) (promise_raised store (ballot_of_record x))))
    (promise_grows (stored store x) records)
most store (x ∷ records) r (inr later_on) = most (stored store x) records r later_on

greater_is : (a b : Ballot) → (greater a b ≡ a) ⊎ (greater a b ≡ b)
greater_is a b = by (is_below a b)
  where
    by : (test : Bool) → ((if test then b else a) ≡ a) ⊎ ((if test then b else a) ≡ b)
    by true = inr refl
    by false = inl refl

some : (store : Store) (records : List Record) → ((stored_all store records).promise ≡ store.promise) ⊎ ((r : Record) × In r records × (ballot_of_record r ≡ (stored_all store records).promise))
some store [] = inl refl
some store (x ∷ records) = found (some (stored store x) records) (greater_is store.promise (ballot_of_record x))
  where
    last : Ballot
    last = (stored_all (stored store x) records).promise

    found : (last ≡ (stored store x).promise) ⊎ ((r : Record) × In r records × (ballot_of_record r ≡ last))
        → (greater store.promise (ballot_of_record x) ≡ store.promise) ⊎ (greater store.promise (ballot_of_record x) ≡ ballot_of_record x)
        → (last ≡ store.promise) ⊎ ((r : Record) × In r (x ∷ records) × (ballot_of_record r ≡ last))
    found (inl is) (inl old) = inl (is ∙ promise_is store x ∙ old)
    found (inl is) (inr new) = inr (x, inl refl, sym (is ∙ promise_is store x ∙ new))
    found (inr (r, there, is)) either = inr (r, inr there, is)

pub greatest : (head : List ℕ) (records : List Record) → IsGreatest records (holding head records).promise
greatest head records =
    subst (λ (b : Ballot). IsGreatest records b) (sym (ap (λ s. s.promise) (stored_holding head records)))
    (record { most = most empty_store records; some = some empty_store records })

-- ---- votes

-- the votes with one more that was accepted
abbrev voted_in : (ℕ → Option Vote) → Entry → ℕ → Option Vote
voted_in votes e = put votes e.slot (Some (later (λ (v : Vote). v.ballot) (votes e.slot) (vote_of e.ballot e.command)))

-- with all of these more, the oldest first
abbrev voted_all : (ℕ → Option Vote) → List Entry → ℕ → Option Vote
voted_all votes [] = votes
voted_all votes (e ∷ entries) = voted_all (voted_in votes e) entries

voted_run : (ballot : Ballot) (slot : ℕ) (commands : List Command) (votes : ℕ → Option Vote) → voting ballot slot commands votes ≡ voted_all votes (entries_of ballot slot commands)
voted_run ballot slot [] votes = refl
voted_run ballot slot (command ∷ commands) votes =
    voted_run ballot (slot + 1) commands (voted_in votes (record { slot = slot; ballot = ballot; command = command }))

voted_joins : (votes : ℕ → Option Vote) (front more : List Entry) → voted_all votes (front ++ more) ≡ voted_all (voted_all votes front) more
voted_joins votes [] more = refl
voted_joins votes (e ∷ front) more = voted_joins (voted_in votes e) front more

votes_with : (store : Store) (r : Record) → (stored store r).votes ≡ voted_all store.votes (accepted_by r)
votes_with store (Promised ballot) = refl
votes_with store (VotedOne ballot slot command) = voted_run ballot slot (command ∷ []) store.votes
votes_with store Opened = refl
votes_with store (Voted ballot slot commands) = voted_run ballot slot commands store.votes

-- what the records say was accepted makes the votes
votes_are : (store : Store) (records : List Record) → (stored_all store records).votes ≡ voted_all store.votes (accepted_in records)
votes_are store [] = refl
votes_are store (r ∷ records) =
    votes_are (stored store r) records ∙ ap (λ (votes : ℕ → Option Vote). voted_all votes (accepted_in records)) (votes_with store r)
    ∙ sym (voted_joins store.votes (accepted_by r) (accepted_in records))

held_votes : (head : List ℕ) (records : List Record) → (store_of (holding head records)).votes ≡ voted_all (λ k. None) (accepted_in records)
held_votes head records = ap (λ (s : Store). s.votes) (stored_holding head records) ∙ votes_are empty_store records

abbrev entry_at : ℕ → Ballot → Command → Entry
entry_at slot ballot command = record { slot = slot; ballot = ballot; command = command }

-- the vote at an accept's own slot is the later of what was there and of what is accepted
vote_at : (votes : ℕ → Option Vote) (e : Entry) {slot : ℕ} (vote : Vote) {old : Option Vote} → slot ≡ e.slot → voted_in votes e slot ≡ Some vote → votes e.slot ≡ old → later (λ (v : Vote). v.ballot) old (vote_of e.ballot e.command) ≡ vote
vote_at votes e {slot} vote here is was =
    same_Some _ vote (
    sym (ap (λ (o : Option Vote). Some (later (λ (v : Vote). v.ballot) o (vote_of e.ballot e.command))) was) ∙ sym (put_same votes e.slot _)
    ∙ ap (voted_in votes e) (sym here) ∙ is
    )

-- what is there at a slot after an accept: at least what was there before
grows_at : (votes : ℕ → Option Vote) (e : Entry) (slot : ℕ) (old : Vote) → votes slot ≡ Some old → (new : Vote) × (voted_in votes e slot ≡ Some new) × AtMost old.ballot new.ballot
grows_at votes e slot old is = elim (cases_eq slot e.slot) [
  | inl here ↦ there here
  | inr other ↦ (old, put_other votes e.slot _ slot other ∙ is, inr (refl, omega arith))
]
  where
    grown : AtMost old.ballot (if is_below e.ballot old.ballot then old else vote_of e.ballot e.command).ballot
    grown = elim (below_cases e.ballot old.ballot) [
      | inl below ↦ rw below.0 (inr (refl, omega arith))
      | inr above ↦ rw above.0 above.1
    ]

    there : slot ≡ e.slot → (new : Vote) × (voted_in votes e slot ≡ Some new) × AtMost old.ballot new.ballot
    there here = (
      (if is_below e.ballot old.ballot then old else vote_of e.ballot e.command),
      ap (voted_in votes e) here ∙ put_same votes e.slot _
          ∙ ap (λ (o : Option Vote). Some (later (λ (v : Vote). v.ballot) o (vote_of e.ballot e.command))) (ap votes (sym here) ∙ is),
      grown,
    )

-- an accept's own slot has at least its ballot
raised_at : (votes : ℕ → Option Vote) (e : Entry) → (new : Vote) × (voted_in votes e e.slot ≡ Some new) × AtMost e.ballot new.ballot
raised_at votes e = by (votes e.slot) refl
  where
    over : (old : Vote) → AtMost e.ballot (if is_below e.ballot old.ballot then old else vote_of e.ballot e.command).ballot
    over old = elim (below_cases e.ballot old.ballot) [
      | inl below ↦ rw below.0 (grind (arith, below.1))
      | inr above ↦ rw above.0 (inr (refl, omega arith))
    ]

    by : (old : Option Vote) → votes e.slot ≡ old → (new : Vote) × (voted_in votes e e.slot ≡ Some new) × AtMost e.ballot new.ballot
    by None is = (vote_of e.ballot e.command, put_same votes e.slot _ ∙ ap (λ (o : Option Vote). Some (later (λ (v : Vote). v.ballot) o (vote_of e.ballot e.command))) is, inr (refl, omega arith))
    by (Some old) is = ((if is_below e.ballot old.ballot then old else vote_of e.ballot e.command), put_same votes e.slot _ ∙ ap (λ (o : Option Vote). Some (later (λ (v : Vote). v.ballot) o (vote_of e.ballot e.command))) is, over old)

-- a slot's vote was there before, and what is accepted there is of lower ballots; or it is the last of the greatest ballot among that
abbrev Stays : (ℕ → Option Vote) → List Entry → ℕ → Vote → Type 0
Stays votes entries slot vote = (votes slot ≡ Some vote) × ((ballot : Ballot) (command : Command) → In (entry_at slot ballot command) entries → Below ballot vote.ballot)

abbrev Comes : (ℕ → Option Vote) → List Entry → ℕ → Vote → Type 0
Comes votes entries slot vote = IsLastOfGreatest entries slot vote × ((old : Vote) → votes slot ≡ Some old → AtMost old.ballot vote.ballot)

entry_step : (votes : ℕ → Option Vote) (e : Entry) (entries : List Entry) (slot : ℕ) (vote : Vote) → Stays (voted_in votes e) entries slot vote → Stays votes (e ∷ entries) slot vote ⊎ Comes votes (e ∷ entries) slot vote
entry_step votes e entries slot vote (is, below) = elim (cases_eq slot e.slot) [
  | inl here ↦ at_place here (votes e.slot) refl
  | inr other ↦ inl (sym (put_other votes e.slot _ slot other) ∙ is, all other)
]
  where
    all : (slot ≡ e.slot → ⊥) → (b : Ballot) (c : Command) → In (entry_at slot b c) (e ∷ entries) → Below b vote.ballot
    all other b c (inl here) = absurd (other (ap (λ (x : Entry). x.slot) here))
    all other b c (inr there) = below b c there

    comes : slot ≡ e.slot → vote_of e.ballot e.command ≡ vote → ((old : Vote) → votes slot ≡ Some old → AtMost old.ballot e.ballot) → Comes votes (e ∷ entries) slot vote
    comes here same least = (
      record {
        before = [];
        after = entries;
        is = λ i. record { slot = sym here i; ballot = (same i).ballot; command = (same i).command } ∷ entries;
        most = λ b c none. absurd none;
        last = below;
      },
      λ old was. subst (λ (v : Vote). AtMost old.ballot v.ballot) same (least old was),
    )

    at_place : slot ≡ e.slot → (old : Option Vote) → votes e.slot ≡ old → Stays votes (e ∷ entries) slot vote ⊎ Comes votes (e ∷ entries) slot vote
    at_place here None was =
        let same = vote_at votes e vote here is was in
        inr (comes here same (λ old is_old. absurd (none-some old (sym was ∙ ap votes (sym here) ∙ is_old))))
    at_place here (Some old) was = elim (below_cases e.ballot old.ballot) [
      | inl lower ↦ inl (ap votes here ∙ was ∙ ap (λ (v : Vote). Some v) (kept lower.0), under lower)
      | inr above ↦ inr (comes here (taken above.0) (λ other is_other. subst (λ (v : Vote). AtMost v.ballot e.ballot) (same_Some old other (sym was ∙ ap votes (sym here) ∙ is_other)) above.1))
    ]
      where
        whole : (if is_below e.ballot old.ballot then old else vote_of e.ballot e.command) ≡ vote
        whole = vote_at votes e vote here is was

        kept : is_below e.ballot old.ballot ≡ true → old ≡ vote
        kept test = sym (ap (λ (b : Bool). if b then old else vote_of e.ballot e.command) test) ∙ whole

        taken : is_below e.ballot old.ballot ≡ false → vote_of e.ballot e.command ≡ vote
        taken test = sym (ap (λ (b : Bool). if b then old else vote_of e.ballot e.command) test) ∙ whole

        under : (is_below e.ballot old.ballot ≡ true) × Below e.ballot old.ballot → (b : Ballot) (c : Command) → In (entry_at slot b c) (e ∷ entries) → Below b vote.ballot
        under lower b c (inl same) = subst (λ (x : Ballot). Below x vote.ballot) (sym (ap (λ (x : Entry). x.ballot) same)) (subst (λ (v : Vote). Below e.ballot v.ballot) (kept lower.0) lower.1)
        under lower b c (inr there) = below b c there

slot_votes : (votes : ℕ → Option Vote) (entries : List Entry) (slot : ℕ) (vote : Vote) → voted_all votes entries slot ≡ Some vote → Stays votes entries slot vote ⊎ Comes votes entries slot vote
slot_votes votes [] slot vote is = inl (is, λ b c none. absurd none)
slot_votes votes (e ∷ entries) slot vote is = from_there (slot_votes (voted_in votes e) entries slot vote is)
  where
    wider : Comes (voted_in votes e) entries slot vote → Comes votes (e ∷ entries) slot vote
    wider (last, least) = (
      record {
        before = e ∷ last.before;
        after = last.after;
        is = ap (λ (l : List Entry). e ∷ l) last.is;
        most = λ b c. elim_in b c;
        last = last.last;
      },
      λ old was. let up = grows_at votes e slot old was in at_most_trans old.ballot up.0.ballot vote.ballot up.2 (least up.0 up.1),
    )
      where
        elim_in : (b : Ballot) (c : Command) → In (entry_at slot b c) (e ∷ last.before) → AtMost b vote.ballot
        elim_in b c (inl here) =
            let up = raised_at votes (entry_at slot b c) in
            at_most_trans b up.0.ballot vote.ballot up.2 (least up.0 (ap (λ (x : Entry). voted_in votes x slot) (sym here) ∙ up.1))
        elim_in b c (inr there) = last.most b c there

    from_there : Stays (voted_in votes e) entries slot vote ⊎ Comes (voted_in votes e) entries slot vote → Stays votes (e ∷ entries) slot vote ⊎ Comes votes (e ∷ entries) slot vote
    from_there (inl stays) = entry_step votes e entries slot vote stays
    from_there (inr comes) = inr (wider comes)

pub last_of_greatest : (head : List ℕ) (records : List Record) (slot : ℕ) (vote : Vote) → (store_of (holding head records)).votes slot ≡ Some vote → IsLastOfGreatest (accepted_in records) slot vote
last_of_greatest head records slot vote is = found (slot_votes (λ k. None) (accepted_in records) slot vote (sym (ap (λ (votes : ℕ → Option Vote). votes slot) (held_votes head records)) ∙ is))
  where
    found : Stays (λ k. None) (accepted_in records) slot vote ⊎ Comes (λ k. None) (accepted_in records) slot vote → IsLastOfGreatest (accepted_in records) slot vote
    found (inl (none, below)) = absurd (none-some vote none)
    found (inr (last, least)) = last

has_some : (votes : ℕ → Option Vote) (entries : List Entry) (slot : ℕ) (old : Vote) → votes slot ≡ Some old → (new : Vote) × (voted_all votes entries slot ≡ Some new)
has_some votes [] slot old is = (old, is)
has_some votes (e ∷ entries) slot old is = let up = grows_at votes e slot old is in has_some (voted_in votes e) entries slot up.0 up.1

is_there : (votes : ℕ → Option Vote) (entries : List Entry) (e : Entry) → In e entries → (new : Vote) × (voted_all votes entries e.slot ≡ Some new)
is_there votes [] e none = absurd none
is_there votes (x ∷ entries) e (inl here) =
    let up = raised_at votes e in
    has_some (voted_in votes x) entries e.slot up.0 (ap (λ (y : Entry). voted_in votes y e.slot) (sym here) ∙ up.1)
is_there votes (x ∷ entries) e (inr there) = is_there (voted_in votes x) entries e there

pub none_there : (head : List ℕ) (records : List Record) (slot : ℕ) (ballot : Ballot) (command : Command) → (store_of (holding head records)).votes slot ≡ None → Says records ballot slot command → ⊥
none_there head records slot ballot command none there =
    let new = is_there (λ k. None) (accepted_in records) (entry_at slot ballot command) there in
    none-some new.0 (sym none ∙ ap (λ (votes : ℕ → Option Vote). votes slot) (held_votes head records) ∙ new.1)

-- ---- no vote is above the promise

within_one : (store : Store) (ballot : Ballot) (s : ℕ) (command : Command) → IsWithinPromise store → IsWithinPromise (stored store (VotedOne ballot s command))
within_one store ballot s command within slot vote is = elim (cases_eq slot s) [
  | inl here ↦ at_place here (store.votes s) refl
  | inr other ↦ at_most_trans vote.ballot store.promise _ (within slot vote (sym (put_other store.votes s _ slot other) ∙ is)) (promise_kept store ballot)
]
  where
    at_place : slot ≡ s → (old : Option Vote) → store.votes s ≡ old → AtMost vote.ballot (greater store.promise ballot)
    at_place here None was =
        subst (λ (v : Vote). AtMost v.ballot (greater store.promise ballot))
        (vote_at store.votes (entry_at s ballot command) vote here is was) (promise_raised store ballot)
    at_place here (Some old) was = elim (below_cases ballot old.ballot) [
      | inl lower ↦ subst (λ (v : Vote). AtMost v.ballot (greater store.promise ballot)) (sym (ap (λ (b : Bool). if b then old else vote_of ballot command) lower.0) ∙ whole) (at_most_trans old.ballot store.promise _ (within s old was) (promise_kept store ballot))
      | inr above ↦ subst (λ (v : Vote). AtMost v.ballot (greater store.promise ballot)) (sym (ap (λ (b : Bool). if b then old else vote_of ballot command) above.0) ∙ whole) (promise_raised store ballot)
    ]
      where
        whole : (if is_below ballot old.ballot then old else vote_of ballot command) ≡ vote
        whole = vote_at store.votes (entry_at s ballot command) vote here is was

within_run : (store : Store) (ballot : Ballot) (slot : ℕ) (commands : List Command) → IsWithinPromise store → IsWithinPromise (stored store (Voted ballot slot commands))
within_run store ballot slot [] within = λ k vote is. at_most_trans vote.ballot store.promise _ (within k vote is) (promise_kept store ballot)
within_run store ballot slot (command ∷ commands) within =
    subst (λ (s : Store). IsWithinPromise s) (sym (stored_more store ballot slot command commands))
    (within_run (stored store (VotedOne ballot slot command)) ballot (slot + 1) commands (within_one store ballot slot command within))

within_next : (store : Store) (r : Record) → IsWithinPromise store → IsWithinPromise (stored store r)
within_next store (Promised ballot) within = λ slot vote is. at_most_trans vote.ballot store.promise _ (within slot vote is) (promise_kept store ballot)
within_next store (VotedOne ballot slot command) within = within_one store ballot slot command within
within_next store Opened within = within
within_next store (Voted ballot slot commands) within = within_run store ballot slot commands within

within_all : (store : Store) (records : List Record) → IsWithinPromise store → IsWithinPromise (stored_all store records)
within_all store [] within = within
within_all store (r ∷ records) within = within_all (stored store r) records (within_next store r within)

pub held_within : (head : List ℕ) (records : List Record) → IsWithinPromise (store_of (holding head records))
held_within head records =
    subst (λ (s : Store). IsWithinPromise s) (sym (stored_holding head records)) (within_all empty_store records (λ slot vote none. absurd (none-some vote none)))
