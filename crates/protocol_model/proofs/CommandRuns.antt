-- A command run is voted for, and proposed, by a chain of moves, one for each slot, and stored by one append.
use Rattle.std.proofs.Common.{◌≡◌, ℕ, ◌+◌, ◌<◌, ◌≤◌, inl, inr, ◌⊎◌, Bool, true, false, true≢false, if◌then◌else◌, Option, Some, None, List, [], ◌∷◌, refl, sym, ap, subst, ◌∙◌, arith, append_assoc, not, length}
use Rattle.paxos_wire.specs.declared.ballot.Ballot.{Ballot}
use Rattle.slot_log.specs.declared.command.Command.{Command}
use Rattle.protocol_model.specs.Sets.{In}
use Rattle.protocol_model.specs.Ballots.{AtMost}
use Rattle.protocol_model.specs.Messages.{Vote, Message, Prepare, Accept, Accepted}
use Rattle.protocol_model.specs.Stores.{Store, voted, vote, Append, unchanged, moved}
use Rattle.protocol_model.specs.Frames.{proposals, answers}
use Rattle.protocol_model.specs.Votes.{is_of_ballot, stored_in, storing, is_voted, is_alike, command_run_from, command_run_at, storing_command_run, taking_command_run}
use Rattle.protocol_model.specs.Backing.{Backs, HasNoOther, IsWithinPromise}
use Rattle.protocol_model.specs.Dealers.{Dealer}
use Rattle.protocol_model.specs.Nodes.{Node}
use Rattle.protocol_model.specs.Moves.{nothing, sending, with_store, with_sent, Move, proposes, accepts, repeats, gets, Chain, none, more}
use Rattle.protocol_model.specs.CommandRuns.{proposed, answered, sending_all, MayProposeEach}
use Rattle.paxos_wire.specs.Order.{is_same_ballot}
use Rattle.protocol_model.proofs.Sets.{Within, put_same, put_other}
use Rattle.protocol_model.proofs.Ballots.{at_most_self, equal_or_below, not_below, same_if, is_same_if}
use Rattle.protocol_model.proofs.Backing.{vote_backs, vote_within}
use Rattle.protocol_model.proofs.Runs.{chain_joins}

-- ---- what is taken may be voted for

-- each command stands there already in the ballot, or it was proposed and the ballot has no vote there
abbrev pub MayVote : List Message → Store → Ballot → ℕ → List Command → Type 0
MayVote has store ballot slot [] = Unit {0}
MayVote has store ballot slot (command ∷ later) =
    ((store.votes slot ≡ Some (record { ballot = ballot; command = command })) ⊎ ((is_voted store ballot slot ≡ false) × In (Accept ballot slot command) has))
    × MayVote has store ballot (slot + 1) later

here_may : (has : List Message) (store : Store) (ballot : Ballot) (slot : ℕ) (command : Command) (held : Option Vote) → store.votes slot ≡ held
    → In (Accept ballot slot command) has
    → (store.votes slot ≡ Some (record { ballot = ballot; command = stored_in held ballot command }))
    ⊎ ((is_of_ballot held ballot ≡ false) × In (Accept ballot slot (stored_in held ballot command)) has)
here_may has store ballot slot command None e had = inr (refl, had)
here_may has store ballot slot command (Some v) e had = by_test (is_same_ballot v.ballot ballot) refl
  where
    by_test : (b : Bool) → is_same_ballot v.ballot ballot ≡ b
        → (store.votes slot ≡ Some (record { ballot = ballot; command = if b then v.command else command }))
        ⊎ ((b ≡ false) × In (Accept ballot slot (if b then v.command else command)) has)
    by_test true same = inl (e ∙ ap (λ (y : Ballot). let w : Vote = record { ballot = y; command = v.command } in Some w) (same_if v.ballot ballot same))
    by_test false other = inr (refl, had)

may_by : (has : List Message) (store : Store) (ballot : Ballot) (slot : ℕ) (command : Command) (rest : List Command) (b : Bool)
    → ((store.votes slot ≡ Some (record { ballot = ballot; command = command })) ⊎ ((is_voted store ballot slot ≡ false) × In (Accept ballot slot command) has))
    → MayVote has store ballot (slot + 1) rest → MayVote has store ballot slot (if b then command ∷ rest else [])
may_by has store ballot slot command rest true here behind = (here, behind)
may_by has store ballot slot command rest false here behind = tt

taken_may : (stood : Bool) (has : List Message) (store : Store) (ballot : Ballot) (slot : ℕ) (commands : List Command)
    → Within (proposals ballot slot commands) has → MayVote has store ballot slot (command_run_from stood store ballot slot commands)
taken_may stood has store ballot slot [] had = tt
taken_may stood has store ballot slot (command ∷ later) had =
    may_by has store ballot slot (stored_in (store.votes slot) ballot command) (command_run_from stood store ballot (slot + 1) later) (is_alike stood (is_voted store ballot slot))
    (here_may has store ballot slot command (store.votes slot) refl (had (Accept ballot slot command) (inl refl)))
    (taken_may stood has store ballot (slot + 1) later (λ m h. had m (inr h)))

-- a vote at a slot below changes none of those behind it
other_vote : (store : Store) (at : ℕ) (v : Vote) (slot : ℕ) → at < slot → (voted store at v).votes slot ≡ store.votes slot
other_vote store at v slot below = put_other store.votes at (Some v) slot (λ e. absurd (omega (arith, e, below)))

pub may_stays : (has : List Message) (store : Store) (ballot : Ballot) (at : ℕ) (v : Vote) (slot : ℕ) (commands : List Command) → at < slot
    → MayVote has store ballot slot commands → MayVote has (voted store at v) ballot slot commands
may_stays has store ballot at v slot [] below may = tt
may_stays has store ballot at v slot (command ∷ later) below may = (
  elim may.0 [
    | inl stands ↦ inl (other_vote store at v slot below ∙ stands)
    | inr free ↦ inr (ap (λ held. is_of_ballot held ballot) (other_vote store at v slot below) ∙ free.0, free.1)
  ],
  may_stays has store ballot at v (slot + 1) later (omega (arith, below)) may.1,
)

-- what is stored where the ballot has the vote, and where it has none
pub stands_storing : (store : Store) (ballot : Ballot) (slot : ℕ) (command : Command) → store.votes slot ≡ Some (record { ballot = ballot; command = command })
    → storing store ballot slot command ≡ store
stands_storing store ballot slot command e = ap (λ b. if b then store else voted store slot (record { ballot = ballot; command = command })) here
  where
    here : is_voted store ballot slot ≡ true
    here = ap (λ held. is_of_ballot held ballot) e ∙ is_same_if ballot ballot refl

pub free_storing : (store : Store) (ballot : Ballot) (slot : ℕ) (command : Command) → is_voted store ballot slot ≡ false
    → storing store ballot slot command ≡ voted store slot (record { ballot = ballot; command = command })
free_storing store ballot slot command e = ap (λ b. if b then store else voted store slot (record { ballot = ballot; command = command })) e

-- ---- one append

append_joins : (i : ℕ) (has : List Message) (first between last : Store) → Append i has first between → Append i has between last → Append i has first last
append_joins i has first between last earlier (unchanged _ same) = subst (Append i has first) (sym same) earlier
append_joins i has first between last earlier (moved middle _ later move) = moved middle last (append_joins i has first between middle earlier later) move

append_each : (i : ℕ) (has : List Message) (store : Store) (ballot : Ballot) (slot : ℕ) (commands : List Command) → AtMost store.promise ballot
    → MayVote has store ballot slot commands → Append i has store (storing_command_run store ballot slot commands)
append_each i has store ballot slot [] above may = unchanged store refl
append_each i has store ballot slot (command ∷ later) above may = elim may.0 [
  | inl stands ↦ subst (λ s. Append i has store (storing_command_run s ballot (slot + 1) later)) (sym (stands_storing store ballot slot command stands))
      (append_each i has store ballot (slot + 1) later above may.1)
  | inr free ↦ (
      let v : Vote = record { ballot = ballot; command = command } in
      subst (λ s. Append i has store (storing_command_run s ballot (slot + 1) later)) (sym (free_storing store ballot slot command free.0))
      (append_joins i has store (voted store slot v) (storing_command_run (voted store slot v) ballot (slot + 1) later)
      (moved store (voted store slot v) (unchanged store refl) (vote ballot slot command free.1 above refl))
      (append_each i has (voted store slot v) ballot (slot + 1) later (at_most_self ballot) (may_stays has store ballot slot v (slot + 1) later (omega arith) may.1))))
]

-- what is stored of a command run is what one append may make of the store
pub command_run_appends : (i : ℕ) (has : List Message) (store : Store) (ballot : Ballot) (slot : ℕ) (commands : List Command) → AtMost store.promise ballot
    → Within (proposals ballot slot commands) has → Append i has store (taking_command_run store ballot slot commands)
command_run_appends i has store ballot slot commands above had =
    append_each i has store ballot slot (command_run_at store ballot slot commands) above (taken_may (is_voted store ballot slot) has store ballot slot commands had)

-- ---- a chain of votes

-- the node that has voted for each
abbrev having_voted : ℕ → Node → Ballot → ℕ → List Command → Node
having_voted i node ballot slot commands = with_sent (with_store node (storing_command_run node.store ballot slot commands)) (answered i ballot slot commands)

one_move : (dealer : Dealer) (n i : ℕ) (ever : List Message) (old : Node) (m : Message) (new : Node) → Move dealer n i ever old (sending m) new
    → Chain dealer n i ever old (sending_all (m ∷ [])) new
one_move dealer n i ever old m new move = more nothing old (sending m) (sending_all (m ∷ [])) new (none nothing old refl refl) move refl

votes_each : (dealer : Dealer) (n i : ℕ) (ever : List Message) (old : Node) (ballot : Ballot) (slot : ℕ) (commands : List Command)
    → old.up ≡ true → old.begun ≡ old.store → AtMost old.store.promise ballot → MayVote old.has old.store ballot slot commands
    → Chain dealer n i ever old (sending_all (answered i ballot slot commands)) (having_voted i old ballot slot commands)
votes_each dealer n i ever old ballot slot [] up begun above may =
    none (sending_all []) (having_voted i old ballot slot []) refl (let same = sym begun in λ k. record old { begun = same k })
votes_each dealer n i ever old ballot slot (command ∷ later) up begun above may = elim may.0 [
  | inl stands ↦ (
      let again : Node = with_sent old (Accepted i ballot slot command ∷ []) in
      let rest = votes_each dealer n i (Accepted i ballot slot command ∷ ever) again ballot (slot + 1) later up begun above may.1 in
      subst (Chain dealer n i ever old (sending_all (answered i ballot slot (command ∷ later))))
      (let kept = sym (stands_storing old.store ballot slot command stands) in
      let said = sym (append_assoc (answered i ballot (slot + 1) later) (Accepted i ballot slot command ∷ []) old.sent) in
      λ k. record old {
        store = storing_command_run (kept k) ballot (slot + 1) later;
        begun = storing_command_run (kept k) ballot (slot + 1) later;
        sent = said k;
      })
      (chain_joins dealer n i ever old (sending_all (Accepted i ballot slot command ∷ [])) again (sending_all (answered i ballot (slot + 1) later)) _
      (one_move dealer n i ever old (Accepted i ballot slot command) again (repeats ballot slot command up stands above refl refl)) rest))
  | inr free ↦ (
      let v : Vote = record { ballot = ballot; command = command } in
      let now : Node = with_sent (with_store old (voted old.store slot v)) (Accepted i ballot slot command ∷ []) in
      let rest = votes_each dealer n i (Accepted i ballot slot command ∷ ever) now ballot (slot + 1) later up refl (at_most_self ballot)
      (may_stays old.has old.store ballot slot v (slot + 1) later (omega arith) may.1) in
      subst (Chain dealer n i ever old (sending_all (answered i ballot slot (command ∷ later))))
      (let kept = sym (free_storing old.store ballot slot command free.0) in
      let said = sym (append_assoc (answered i ballot (slot + 1) later) (Accepted i ballot slot command ∷ []) old.sent) in
      λ k. record old {
        store = storing_command_run (kept k) ballot (slot + 1) later;
        begun = storing_command_run (kept k) ballot (slot + 1) later;
        sent = said k;
      })
      (chain_joins dealer n i ever old (sending_all (Accepted i ballot slot command ∷ [])) now (sending_all (answered i ballot (slot + 1) later)) _
      (one_move dealer n i ever old (Accepted i ballot slot command) now (accepts ballot slot command up free.1 above refl refl)) rest))
]

-- what is taken of a command run is voted for by a chain of moves
pub command_run_votes : (dealer : Dealer) (n i : ℕ) (ever : List Message) (old : Node) (ballot : Ballot) (slot : ℕ) (commands : List Command)
    → old.up ≡ true → old.begun ≡ old.store → AtMost old.store.promise ballot → Within (proposals ballot slot commands) old.has
    → Chain dealer n i ever old (sending_all (answered i ballot slot (command_run_at old.store ballot slot commands))) (having_voted i old ballot slot (command_run_at old.store ballot slot commands))
command_run_votes dealer n i ever old ballot slot commands up begun above had =
    votes_each dealer n i ever old ballot slot (command_run_at old.store ballot slot commands) up begun above (taken_may (is_voted old.store ballot slot) old.has old.store ballot slot commands had)

-- ---- what the votes back

no_other : (store : Store) (ballot : Ballot) (slot : ℕ) (command : Command) → is_voted store ballot slot ≡ false
    → HasNoOther store slot (record { ballot = ballot; command = command })
no_other store ballot slot command free found here same =
    let stands : is_voted store ballot slot ≡ true = ap (λ held. is_of_ballot held ballot) here ∙ is_same_if found.ballot ballot same in
    absurd (true≢false (sym stands ∙ free))

-- what was backed is backed once each is voted for, and no vote is above the promise
pub backs_each : (has : List Message) (store : Store) (ballot : Ballot) (slot : ℕ) (commands : List Command) (m : Message)
    → IsWithinPromise store → AtMost store.promise ballot → MayVote has store ballot slot commands → Backs store m → Backs (storing_command_run store ballot slot commands) m
backs_each has store ballot slot [] m within above may backs = backs
backs_each has store ballot slot (command ∷ later) m within above may backs = elim may.0 [
  | inl stands ↦ subst (λ s. Backs (storing_command_run s ballot (slot + 1) later) m) (sym (stands_storing store ballot slot command stands))
      (backs_each has store ballot (slot + 1) later m within above may.1 backs)
  | inr free ↦ (
      let v : Vote = record { ballot = ballot; command = command } in
      subst (λ s. Backs (storing_command_run s ballot (slot + 1) later) m) (sym (free_storing store ballot slot command free.0))
      (backs_each has (voted store slot v) ballot (slot + 1) later m (vote_within store slot v within above) (at_most_self ballot)
      (may_stays has store ballot slot v (slot + 1) later (omega arith) may.1)
      (vote_backs store slot v m within above (no_other store ballot slot command free.0) backs)))
]

first_or_later : (store : Store) (m first : Message) (others : List Message) → In m (first ∷ others) → Backs store first → (In m others → Backs store m) → Backs store m
first_or_later store m first others (inl e) here behind = subst (Backs store) (sym e) here
first_or_later store m first others (inr h) here behind = behind h

-- and so is each answer
pub answers_backed : (i : ℕ) (has : List Message) (store : Store) (ballot : Ballot) (slot : ℕ) (commands : List Command) (m : Message)
    → IsWithinPromise store → AtMost store.promise ballot → MayVote has store ballot slot commands → In m (answers i ballot slot commands)
    → Backs (storing_command_run store ballot slot commands) m
answers_backed i has store ballot slot [] m within above may said = absurd said
answers_backed i has store ballot slot (command ∷ later) m within above may said = elim may.0 [
  | inl stands ↦ (
      let v : Vote = record { ballot = ballot; command = command } in
      let here : Backs store (Accepted i ballot slot command) = (within slot v stands, (v, stands, inl refl)) in
      subst (λ s. Backs (storing_command_run s ballot (slot + 1) later) m) (sym (stands_storing store ballot slot command stands))
      (first_or_later (storing_command_run store ballot (slot + 1) later) m (Accepted i ballot slot command) (answers i ballot (slot + 1) later) said
      (backs_each has store ballot (slot + 1) later (Accepted i ballot slot command) within above may.1 here)
      (answers_backed i has store ballot (slot + 1) later m within above may.1)))
  | inr free ↦ (
      let v : Vote = record { ballot = ballot; command = command } in
      let now : Store = voted store slot v in
      let inside : IsWithinPromise now = vote_within store slot v within above in
      let rest : MayVote has now ballot (slot + 1) later = may_stays has store ballot slot v (slot + 1) later (omega arith) may.1 in
      let here : Backs now (Accepted i ballot slot command) = (at_most_self ballot, (v, put_same store.votes slot (Some v), inl refl)) in
      subst (λ s. Backs (storing_command_run s ballot (slot + 1) later) m) (sym (free_storing store ballot slot command free.0))
      (first_or_later (storing_command_run now ballot (slot + 1) later) m (Accepted i ballot slot command) (answers i ballot (slot + 1) later) said
      (backs_each has now ballot (slot + 1) later (Accepted i ballot slot command) inside (at_most_self ballot) rest here)
      (answers_backed i has now ballot (slot + 1) later m inside (at_most_self ballot) rest)))
]

-- ---- proposals

abbrev slot_of : Message → ℕ
slot_of (Accept ballot slot command) = slot
slot_of other = 0

proposals_stay : (n : ℕ) (has sent : List Message) (ballot : Ballot) (at : ℕ) (made : Command) (slot : ℕ) (commands : List Command) → at < slot
    → MayProposeEach n has sent ballot slot commands → MayProposeEach n has (Accept ballot at made ∷ sent) ballot slot commands
proposals_stay n has sent ballot at made slot [] below may = tt
proposals_stay n has sent ballot at made slot (command ∷ later) below may = (
  may.0,
  (λ other h. elim h [ inl e ↦ (let same : slot ≡ at = ap slot_of e in absurd (omega (arith, same, below))) | inr old ↦ may.1 other old ]),
  proposals_stay n has sent ballot at made (slot + 1) later (omega (arith, below)) may.2,
)

-- told values are proposed by a chain of moves
pub command_run_proposes : (dealer : Dealer) (n i : ℕ) (ever : List Message) (old : Node) (ballot : Ballot) (first slot : ℕ) (commands : List Command)
    → old.up ≡ true → In (Prepare ballot first) old.sent → ballot.node ≡ i → MayProposeEach n old.has old.sent ballot slot commands
    → Chain dealer n i ever old (sending_all (proposed ballot slot commands)) (with_sent old (proposed ballot slot commands))
command_run_proposes dealer n i ever old ballot first slot [] up began own may = none (sending_all []) (with_sent old []) refl refl
command_run_proposes dealer n i ever old ballot first slot (command ∷ later) up began own may =
    let m : Message = Accept ballot slot command in
    let now : Node = with_sent old (m ∷ []) in
    let rest = command_run_proposes dealer n i (m ∷ ever) now ballot first (slot + 1) later up (inr began) own
    (proposals_stay n old.has old.sent ballot slot command (slot + 1) later (omega arith) may.2) in
    subst (Chain dealer n i ever old (sending_all (proposed ballot slot (command ∷ later))))
    (let said = sym (append_assoc (proposed ballot (slot + 1) later) (m ∷ []) old.sent) in λ k. record old { sent = said k })
    (chain_joins dealer n i ever old (sending_all (m ∷ [])) now (sending_all (proposed ballot (slot + 1) later)) _
    (one_move dealer n i ever old m now (proposes ballot first slot command up began may.1 own (inl may.0) refl refl)) rest)

-- ---- messages got

-- the newest last
abbrev pub with_got_all : List Message → List Message → List Message
with_got_all [] has = has
with_got_all (m ∷ messages) has = with_got_all messages (m ∷ has)

pub gets_all : (dealer : Dealer) (n i : ℕ) (ever : List Message) (old : Node) (messages : List Message) → old.up ≡ true → Within messages ever
    → Chain dealer n i ever old nothing (record old { has = with_got_all messages old.has })
gets_all dealer n i ever old [] up sent = none nothing (record old { has = old.has }) refl refl
gets_all dealer n i ever old (m ∷ messages) up sent =
    let now : Node = record old { has = m ∷ old.has } in
    chain_joins dealer n i ever old nothing now nothing (record old { has = with_got_all messages (m ∷ old.has) })
    (more nothing old nothing nothing now (none nothing old refl refl) (gets m up (sent m (inl refl)) refl refl) refl)
    (gets_all dealer n i ever now messages up (λ x h. sent x (inr h)))

-- ---- what is taken

-- by one that has just the proposals
pub taken_may_by_itself : (store : Store) (ballot : Ballot) (slot : ℕ) (commands : List Command)
    → MayVote (proposals ballot slot commands) store ballot slot (command_run_at store ballot slot commands)
taken_may_by_itself store ballot slot commands = taken_may (is_voted store ballot slot) (proposals ballot slot commands) store ballot slot commands (λ m said. said)

pub command_run_backed : (i : ℕ) (store : Store) (ballot : Ballot) (slot : ℕ) (commands : List Command) (m : Message)
    → IsWithinPromise store → AtMost store.promise ballot
    → In m (answers i ballot slot (command_run_at store ballot slot commands)) → Backs (taking_command_run store ballot slot commands) m
command_run_backed i store ballot slot commands m within above =
    answers_backed i (proposals ballot slot commands) store ballot slot (command_run_at store ballot slot commands) m within above (taken_may_by_itself store ballot slot commands)

pub command_run_stays : (store : Store) (ballot : Ballot) (slot : ℕ) (commands : List Command) (m : Message)
    → IsWithinPromise store → AtMost store.promise ballot → Backs store m → Backs (taking_command_run store ballot slot commands) m
command_run_stays store ballot slot commands m within above =
    backs_each (proposals ballot slot commands) store ballot slot (command_run_at store ballot slot commands) m within above (taken_may_by_itself store ballot slot commands)

-- no vote of the store is above its promise afterwards either
within_step : (store : Store) (ballot : Ballot) (slot : ℕ) (command : Command) (later : List Command) → IsWithinPromise store → AtMost store.promise ballot
    → ((s : Store) → IsWithinPromise s → AtMost s.promise ballot → IsWithinPromise (storing_command_run s ballot (slot + 1) later)) → (b : Bool)
    → IsWithinPromise (storing_command_run (if b then store else voted store slot (record { ballot = ballot; command = command })) ballot (slot + 1) later)
within_step store ballot slot command later within above rest true = rest store within above
within_step store ballot slot command later within above rest false =
    let v : Vote = record { ballot = ballot; command = command } in rest (voted store slot v) (vote_within store slot v within above) (at_most_self ballot)

within_each : (store : Store) (ballot : Ballot) (slot : ℕ) (commands : List Command) → IsWithinPromise store → AtMost store.promise ballot
    → IsWithinPromise (storing_command_run store ballot slot commands)
within_each store ballot slot [] within above = within
within_each store ballot slot (command ∷ later) within above =
    within_step store ballot slot command later within above (λ s inside low. within_each s ballot (slot + 1) later inside low) (is_voted store ballot slot)

pub command_run_within : (store : Store) (ballot : Ballot) (slot : ℕ) (commands : List Command) → IsWithinPromise store → AtMost store.promise ballot
    → IsWithinPromise (taking_command_run store ballot slot commands)
command_run_within store ballot slot commands = within_each store ballot slot (command_run_at store ballot slot commands)

-- a command run that isn't empty leaves its ballot promised
promise_stays : (store : Store) (ballot : Ballot) (slot : ℕ) (commands : List Command) → store.promise ≡ ballot → (storing_command_run store ballot slot commands).promise ≡ ballot
promise_stays store ballot slot [] is = is
promise_stays store ballot slot (command ∷ later) is =
    promise_stays (storing store ballot slot command) ballot (slot + 1) later (by_test (is_voted store ballot slot))
  where
    by_test : (b : Bool) → (if b then store else voted store slot (record { ballot = ballot; command = command })).promise ≡ ballot
    by_test true = is
    by_test false = refl

promised_by : (store : Store) (ballot : Ballot) (slot : ℕ) (held : Option Vote) → store.votes slot ≡ held → is_of_ballot held ballot ≡ true → IsWithinPromise store
    → AtMost store.promise ballot → store.promise ≡ ballot
promised_by store ballot slot None e stands within above = absurd (true≢false (sym stands))
promised_by store ballot slot (Some v) e stands within above =
    let low : AtMost ballot store.promise = subst (λ (b : Ballot). AtMost b store.promise) (same_if v.ballot ballot stands) (within slot v e) in
    elim (equal_or_below store.promise ballot above) [ inl same ↦ same | inr below ↦ absurd (not_below ballot store.promise low below) ]

promised_first : (store : Store) (ballot : Ballot) (slot : ℕ) (command : Command) (stood : Bool) → is_voted store ballot slot ≡ stood → IsWithinPromise store
    → AtMost store.promise ballot → (storing store ballot slot command).promise ≡ ballot
promised_first store ballot slot command true e within above =
    ap (λ b. (if b then store else voted store slot (record { ballot = ballot; command = command })).promise) e
    ∙ promised_by store ballot slot (store.votes slot) refl e within above
promised_first store ballot slot command false e within above =
    ap (λ b. (if b then store else voted store slot (record { ballot = ballot; command = command })).promise) e

-- the first of a command run is taken
pub first_taken : (stood : Bool) (command : Command) (behind : List Command) → (if is_alike stood stood then command ∷ behind else []) ≡ command ∷ behind
first_taken true command behind = refl
first_taken false command behind = refl

pub command_run_promised : (store : Store) (ballot : Ballot) (slot : ℕ) (command : Command) (later : List Command) → IsWithinPromise store
    → AtMost store.promise ballot → (taking_command_run store ballot slot (command ∷ later)).promise ≡ ballot
command_run_promised store ballot slot command later within above =
    let has : Command = stored_in (store.votes slot) ballot command in
    let behind : List Command = command_run_from (is_voted store ballot slot) store ballot (slot + 1) later in
    ap (λ (taken : List Command). (storing_command_run store ballot slot taken).promise) (first_taken (is_voted store ballot slot) has behind)
    ∙ promise_stays (storing store ballot slot has) ballot (slot + 1) behind (promised_first store ballot slot has (is_voted store ballot slot) refl within above)

-- ---- where the ballot has no vote at any of the slots, all is taken

pub stored_free : (ballot : Ballot) (command : Command) (held : Option Vote) → is_of_ballot held ballot ≡ false → stored_in held ballot command ≡ command
stored_free ballot command None free = refl
stored_free ballot command (Some v) free = ap (λ b. if b then v.command else command) free

-- the ballot has no vote at this slot, nor at so many behind it
abbrev IsUnvoted : Store → Ballot → ℕ → ℕ → Type 0
IsUnvoted store ballot slot count = (k : ℕ) → slot ≤ k → k < slot + count → is_voted store ballot k ≡ false

whole_from : (store : Store) (ballot : Ballot) (slot : ℕ) (commands : List Command) → IsUnvoted store ballot slot (length commands)
    → command_run_from false store ballot slot commands ≡ commands
whole_from store ballot slot [] free = refl
whole_from store ballot slot (command ∷ later) free =
    let here : is_voted store ballot slot ≡ false = free slot (omega arith) (omega arith) in
    ap (λ b. if not b then stored_in (store.votes slot) ballot command ∷ command_run_from false store ballot (slot + 1) later else []) here
    ∙ ap (λ c. c ∷ command_run_from false store ballot (slot + 1) later) (stored_free ballot command (store.votes slot) here)
    ∙ ap (λ l. command ∷ l) (whole_from store ballot (slot + 1) later (λ k low high. free k (omega (arith, low)) (omega (arith, high))))

pub taken_whole : (store : Store) (ballot : Ballot) (slot : ℕ) (commands : List Command) → IsUnvoted store ballot slot (length commands)
    → command_run_at store ballot slot commands ≡ commands
taken_whole store ballot slot [] free = refl
taken_whole store ballot slot (command ∷ later) free =
    ap (λ b. command_run_from b store ballot slot (command ∷ later)) (free slot (omega arith) (omega arith)) ∙ whole_from store ballot slot (command ∷ later) free
