-- What is stored is backed, and what was backed stays so.
use Rattle.std.proofs.Common.{◌≡◌, ◌⊎◌, inl, inr, ℕ, ◌+◌, ◌<◌, ◌≤◌, List, [], ◌∷◌, Bool, refl, sym, ◌∙◌, ap, subst, true, false, arith}
use Rattle.std.specs.Prelude.{◌==◌, if◌then◌else◌, Option, Some, None}
use Rattle.std.proofs.lemmas.Bool.Decides.{nat_tests}
use Rattle.std.proofs.lemmas.Bool.{cases_eq}
use Rattle.paxos_wire.specs.declared.ballot.Ballot.{Ballot}
use Rattle.slot_log.specs.declared.command.Command.{Command}
use Rattle.protocol_model.specs.Ballots.{Below, AtMost}
use Rattle.protocol_model.specs.Sets.{In, put}
use Rattle.protocol_model.specs.Frames.{proposals, answers}
use Rattle.paxos_wire.specs.declared.entry.Entry.{Entry}
use Rattle.protocol_model.specs.Messages.{Vote, Message, Prepare, Promise, Refuse, Accept, Accepted, Chosen, Ask, Forward, Said}
use Rattle.protocol_model.specs.Stores.{Store}
use Rattle.protocol_model.proofs.Ballots.{below_cases, at_most_trans}
use Rattle.protocol_model.proofs.Sets.{put_same, put_other}
use Rattle.protocol_model.specs.Backing.{Backs, HasVote, HasNoOther}
use Rattle.promise_store.specs.declared.records.Record.TheVariants.{Promised, VotedOne, Voted}
use Rattle.promise_store.specs.Index.{later}
use Rattle.paxos_wire.specs.Order.{is_below}
use Rattle.promise_store.specs.Holding.{greater, voting, stored}
use Rattle.promise_store.specs.Laws.{entries_of}

abbrev pub vote_of : Ballot → Command → Vote
vote_of ballot command = record { ballot = ballot; command = command }

pub promise_raised : (store : Store) (ballot : Ballot) → AtMost ballot (greater store.promise ballot)
promise_raised store ballot = elim (below_cases store.promise ballot) [
  | inl below ↦ rw below.0 (inr (refl, omega arith))
  | inr above ↦ rw above.0 above.1
]

pub promise_kept : (store : Store) (ballot : Ballot) → AtMost store.promise (greater store.promise ballot)
promise_kept store ballot = elim (below_cases store.promise ballot) [
  | inl below ↦ rw below.0 (grind (arith, below.1))
  | inr above ↦ rw above.0 (inr (refl, omega arith))
]

below_below : (a b c : Ballot) → Below a b → Below b c → Below a c
below_below a b c p q = grind arith

-- the vote that is stored, or one of a greater ballot
pub own_backed : (store : Store) (ballot : Ballot) (slot : ℕ) (command : Command) → HasVote (stored store (VotedOne ballot slot command)) slot (vote_of ballot command)
own_backed store ballot slot command = chosen (store.votes slot)
  where
    over : (old : Vote) → (((if is_below ballot old.ballot then old else vote_of ballot command) ≡ vote_of ballot command) ⊎ Below ballot (if is_below ballot old.ballot then old else vote_of ballot command).ballot)
    over old = elim (below_cases ballot old.ballot) [
      | inl below ↦ rw below.0 (inr below.1)
      | inr above ↦ rw above.0 (inl refl)
    ]

    chosen : (old : Option Vote) → (found : Vote) × (put store.votes slot (Some (later (λ (v : Vote). v.ballot) old (vote_of ballot command))) slot ≡ Some found) × ((found ≡ vote_of ballot command) ⊎ Below ballot found.ballot)
    chosen None = (vote_of ballot command, put_same store.votes slot (Some (vote_of ballot command)), inl refl)
    chosen (Some old) = ((if is_below ballot old.ballot then old else vote_of ballot command), put_same store.votes slot (Some (if is_below ballot old.ballot then old else vote_of ballot command)), over old)

module _ (store : Store) (ballot : Ballot) (slot : ℕ) (command : Command) (no_other : HasNoOther store slot (vote_of ballot command)) where
  -- what stands at the slot after a vote is stored there: what stood there, or something of a greater ballot
  follows : (found : Vote) → store.votes slot ≡ Some found → ((if is_below ballot found.ballot then found else vote_of ballot command) ≡ found) ⊎ Below found.ballot (if is_below ballot found.ballot then found else vote_of ballot command).ballot
  follows found is = elim (below_cases ballot found.ballot) [
    | inl below ↦ rw below.0 (inl refl)
    | inr above ↦ rw above.0 (over above.1)
  ]
    where
      over : AtMost found.ballot ballot → (vote_of ballot command ≡ found) ⊎ Below found.ballot ballot
      over (inl round) = inr (inl round)
      over (inr (round, node)) = elim (cases_eq found.ballot.node ballot.node) [
        | inl same ↦ inl (sym (no_other found is (λ i. record { round = round i; node = same i })))
        | inr other ↦ inr (inr (round, omega (arith, node, other)))
      ]

  -- what a slot had it has, or a vote of a greater ballot
  vote_kept : (s : ℕ) (vote : Vote) → HasVote store s vote → HasVote (stored store (VotedOne ballot slot command)) s vote
  vote_kept s vote (found, is, same) = elim (cases_eq s slot) [
    | inl here ↦ at_slot here
    | inr other ↦ elsewhere other
  ]
    where
      higher : (next : Vote) → (found ≡ vote) ⊎ Below vote.ballot found.ballot → (next ≡ found) ⊎ Below found.ballot next.ballot → (next ≡ vote) ⊎ Below vote.ballot next.ballot
      higher next (inl here) (inl stays) = inl (stays ∙ here)
      higher next (inr above) (inl stays) = inr (subst (λ (v : Vote). Below vote.ballot v.ballot) (sym stays) above)
      higher next (inl here) (inr up) = inr (subst (λ (v : Vote). Below v.ballot next.ballot) here up)
      higher next (inr above) (inr up) = inr (below_below vote.ballot found.ballot next.ballot above up)

      at_slot : s ≡ slot → HasVote (stored store (VotedOne ballot slot command)) s vote
      at_slot here =
          let there : store.votes slot ≡ Some found = ap store.votes (sym here) ∙ is in
          let next = if is_below ballot found.ballot then found else vote_of ballot command in
          let test : (s == slot) ≡ true = grind (arith, nat_tests, here) in
          (next, rw test (ap (λ (old : Option Vote). Some (later (λ (v : Vote). v.ballot) old (vote_of ballot command))) there), higher next same (follows found there))

      elsewhere : (s ≡ slot → ⊥) → HasVote (stored store (VotedOne ballot slot command)) s vote
      elsewhere other =
          let test : (s == slot) ≡ false = grind (arith, nat_tests, other) in
          (found, rw test is, same)

  pub still_backed : (message : Message) → Backs store message → Backs (stored store (VotedOne ballot slot command)) message
  still_backed (Prepare b first) backs = at_most_trans b store.promise _ backs (promise_kept store ballot)
  still_backed (Promise sender b first told) backs = at_most_trans b store.promise _ backs (promise_kept store ballot)
  still_backed (Refuse sender b first higher) backs = tt
  still_backed (Accept b s proposed) backs = (at_most_trans b store.promise _ backs.0 (promise_kept store ballot), vote_kept s (vote_of b proposed) backs.1)
  still_backed (Accepted sender b s proposed) backs = (at_most_trans b store.promise _ backs.0 (promise_kept store ballot), vote_kept s (vote_of b proposed) backs.1)
  still_backed (Chosen sender s known) backs = tt
  still_backed (Ask sender first) backs = tt
  still_backed (Forward sender act) backs = tt
  still_backed (Said sender act) backs = tt

-- what was backed stays so when a promise is raised
promise_still_backed : (store : Store) (ballot : Ballot) (message : Message) → Backs store message → Backs (stored store (Promised ballot)) message
promise_still_backed store ballot (Prepare b first) backs = at_most_trans b store.promise _ backs (promise_kept store ballot)
promise_still_backed store ballot (Promise sender b first told) backs = at_most_trans b store.promise _ backs (promise_kept store ballot)
promise_still_backed store ballot (Refuse sender b first higher) backs = tt
promise_still_backed store ballot (Accept b s proposed) backs = (at_most_trans b store.promise _ backs.0 (promise_kept store ballot), backs.1)
promise_still_backed store ballot (Accepted sender b s proposed) backs = (at_most_trans b store.promise _ backs.0 (promise_kept store ballot), backs.1)
promise_still_backed store ballot (Chosen sender s known) backs = tt
promise_still_backed store ballot (Ask sender first) backs = tt
promise_still_backed store ballot (Forward sender act) backs = tt
promise_still_backed store ballot (Said sender act) backs = tt

-- ---- runs

greater_again : (a b : Ballot) → greater (greater a b) b ≡ greater a b
greater_again a b = by (is_below a b) refl
  where
    same : (test : Bool) → (if test then b else b) ≡ b
    same true = refl
    same false = refl

    by : (test : Bool) → is_below a b ≡ test → greater (if test then b else a) b ≡ (if test then b else a)
    by true is = same (is_below b b)
    by false is = ap (λ (t : Bool). if t then b else a) is

-- a run is its first vote, and then the others
pub stored_more : (store : Store) (ballot : Ballot) (slot : ℕ) (command : Command) (commands : List Command)
    → stored store (Voted ballot slot (command ∷ commands)) ≡ stored (stored store (VotedOne ballot slot command)) (Voted ballot (slot + 1) commands)
stored_more store ballot slot command commands = λ i. record {
  promise = sym (greater_again store.promise ballot) i;
  votes = voting ballot slot (command ∷ commands) store.votes;
}

-- a slot in front of a run stays as it was
pub voting_in_front : (ballot : Ballot) (slot : ℕ) (commands : List Command) (votes : ℕ → Option Vote) (k : ℕ) → k < slot → voting ballot slot commands votes k ≡ votes k
voting_in_front ballot slot [] votes k low = refl
voting_in_front ballot slot (command ∷ commands) votes k low =
    voting_in_front ballot (slot + 1) commands (put votes slot (Some (later (λ (v : Vote). v.ballot) (votes slot) (vote_of ballot command)))) k (omega (arith, low))
    ∙ put_other votes slot _ k (λ e. omega (arith, e, low))

module _ (ballot : Ballot) where
  -- the first vote of a run is there
  first_voted : (store : Store) (slot : ℕ) (command : Command) (commands : List Command) → HasVote (stored store (Voted ballot slot (command ∷ commands))) slot (vote_of ballot command)
  first_voted store slot command commands =
      let own = own_backed store ballot slot command in
      (own.0, voting_in_front ballot (slot + 1) commands (stored store (VotedOne ballot slot command)).votes slot (omega arith) ∙ own.1, own.2)

  -- what a run's answers say is backed
  pub answers_backed : (store : Store) (sender slot : ℕ) (commands : List Command) (message : Message) → In message (answers sender ballot slot commands) → Backs (stored store (Voted ballot slot commands)) message
  answers_backed store sender slot [] message none = absurd none
  answers_backed store sender slot (command ∷ commands) message (inl is) =
      subst (λ (m : Message). Backs (stored store (Voted ballot slot (command ∷ commands))) m) (sym is) (promise_raised store ballot, first_voted store slot command commands)
  answers_backed store sender slot (command ∷ commands) message (inr there) =
      subst (λ (s : Store). Backs s message) (sym (stored_more store ballot slot command commands)) (answers_backed (stored store (VotedOne ballot slot command)) sender (slot + 1) commands message there)

  pub proposals_backed : (store : Store) (slot : ℕ) (commands : List Command) (message : Message) → In message (proposals ballot slot commands) → Backs (stored store (Voted ballot slot commands)) message
  proposals_backed store slot [] message none = absurd none
  proposals_backed store slot (command ∷ commands) message (inl is) =
      subst (λ (m : Message). Backs (stored store (Voted ballot slot (command ∷ commands))) m) (sym is) (promise_raised store ballot, first_voted store slot command commands)
  proposals_backed store slot (command ∷ commands) message (inr there) =
      subst (λ (s : Store). Backs s message) (sym (stored_more store ballot slot command commands)) (proposals_backed (stored store (VotedOne ballot slot command)) (slot + 1) commands message there)

  entries_above : (slot : ℕ) (commands : List Command) (entry : Entry) → In entry (entries_of ballot slot commands) → slot ≤ entry.slot
  entries_above slot [] entry none = absurd none
  entries_above slot (command ∷ commands) entry (inl is) = omega (arith, ap (λ (e : Entry). e.slot) is)
  entries_above slot (command ∷ commands) entry (inr there) = omega (arith, entries_above (slot + 1) commands entry there)

  -- what was backed stays so, where no slot of the run has another vote of its ballot
  pub run_still_backed : (store : Store) (slot : ℕ) (commands : List Command)
      → ((entry : Entry) → In entry (entries_of ballot slot commands) → HasNoOther store entry.slot (vote_of ballot entry.command))
      → (message : Message) → Backs store message → Backs (stored store (Voted ballot slot commands)) message
  run_still_backed store slot [] no_other message backs = promise_still_backed store ballot message backs
  run_still_backed store slot (command ∷ commands) no_other message backs =
      subst (λ (s : Store). Backs s message) (sym (stored_more store ballot slot command commands))
      (run_still_backed (stored store (VotedOne ballot slot command)) (slot + 1) commands
      (λ entry there found is.
      let high = entries_above (slot + 1) commands entry there in
      no_other entry (inr there) found (sym (put_other store.votes slot _ entry.slot (λ e. omega (arith, e, high))) ∙ is))
      message
      (still_backed store ballot slot command (no_other (record { slot = slot; ballot = ballot; command = command }) (inl refl)) message backs))
