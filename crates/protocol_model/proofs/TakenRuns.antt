-- How far a command run is taken, and what its votes leave of a store.
use Rattle.std.proofs.Common.{◌≡◌, ℕ, zero, suc, ◌+◌, ◌<◌, ◌≤◌, inl, inr, ◌⊎◌, Bool, true, false, true≢false, not, if◌then◌else◌, Option, Some, None, List, [], ◌∷◌, length, take, slice_get, refl, sym, ap, subst, ◌∙◌, arith}
use Rattle.std.proofs.lemmas.Option.{same_Some}
use Rattle.paxos_wire.specs.declared.ballot.Ballot.{Ballot}
use Rattle.slot_log.specs.declared.command.Command.{Command}
use Rattle.protocol_model.specs.Messages.{Vote, Message}
use Rattle.protocol_model.specs.Stores.{Store, voted}
use Rattle.protocol_model.specs.Frames.{proposals}
use Rattle.protocol_model.specs.Votes.{is_of_ballot, stored_in, storing, is_voted, is_alike, command_run_from, command_run_at, storing_command_run, taking_command_run, GoesTo}
use Rattle.protocol_model.proofs.Sets.{put_same, put_other}
use Rattle.protocol_model.proofs.Ballots.{same_if}
use Rattle.protocol_model.proofs.CommandRuns.{MayVote, may_stays, stands_storing, free_storing, taken_may_by_itself, first_taken, stored_free}

abbrev vote_for : Ballot → Command → Vote
vote_for ballot command = record { ballot = ballot; command = command }

-- ---- how many are taken

pub least_taken : (store : Store) (ballot : Ballot) (slot : ℕ) (command : Command) (later : List Command)
    → 1 ≤ length (command_run_at store ballot slot (command ∷ later))
least_taken store ballot slot command later =
    let stood : Bool = is_voted store ballot slot in
    let first = ap length (first_taken stood (stored_in (store.votes slot) ballot command) (command_run_from stood store ballot (slot + 1) later)) in
    omega (arith, first)

most_by : (b : Bool) (command : Command) (taken : List Command) (all : ℕ) → length taken ≤ all → length (if b then command ∷ taken else []) ≤ suc all
most_by true command taken all behind = omega (arith, behind)
most_by false command taken all behind = omega arith

most_from : (stood : Bool) (store : Store) (ballot : Ballot) (slot : ℕ) (commands : List Command)
    → length (command_run_from stood store ballot slot commands) ≤ length commands
most_from stood store ballot slot [] = omega arith
most_from stood store ballot slot (command ∷ later) =
    most_by (is_alike stood (is_voted store ballot slot)) (stored_in (store.votes slot) ballot command) (command_run_from stood store ballot (slot + 1) later) (length later)
    (most_from stood store ballot (slot + 1) later)

pub most_taken : (store : Store) (ballot : Ballot) (slot : ℕ) (commands : List Command) → length (command_run_at store ballot slot commands) ≤ length commands
most_taken store ballot slot commands = most_from (is_voted store ballot slot) store ballot slot commands

-- ---- where it ends

at_or_behind : (slot k : ℕ) → slot ≤ k → (k ≡ slot) ⊎ (slot + 1 ≤ k)
at_or_behind slot k low = grind arith

goes_on : (stood : Bool) (store : Store) (ballot : Ballot) (slot all count : ℕ) → is_voted store ballot slot ≡ stood
    → GoesTo stood store ballot (slot + 1) all count → GoesTo stood store ballot slot (suc all) (suc count)
goes_on stood store ballot slot all count here behind = record {
  alike = λ k low high. elim (at_or_behind slot k low) [
    | inl same ↦ ap (is_voted store ballot) same ∙ here
    | inr later ↦ behind.alike k later (omega (arith, high))
  ];
  differs = λ more. let same : slot + suc count ≡ slot + 1 + count = omega arith in ap (is_voted store ballot) same ∙ behind.differs (omega (arith, more));
}

stops : (stood : Bool) (store : Store) (ballot : Ballot) (slot all : ℕ) → is_voted store ballot slot ≡ not stood → GoesTo stood store ballot slot all 0
stops stood store ballot slot all here = record {
  alike = λ k low high. absurd (omega (arith, low, high));
  differs = λ more. let same : slot + 0 ≡ slot = omega arith in ap (is_voted store ballot) same ∙ here;
}

goes_by : (stood b : Bool) (store : Store) (ballot : Ballot) (slot all : ℕ) (command : Command) (taken : List Command) → is_voted store ballot slot ≡ b
    → GoesTo stood store ballot (slot + 1) all (length taken) → GoesTo stood store ballot slot (suc all) (length (if is_alike stood b then command ∷ taken else []))
goes_by true true store ballot slot all command taken here behind = goes_on true store ballot slot all (length taken) here behind
goes_by true false store ballot slot all command taken here behind = stops true store ballot slot (suc all) here
goes_by false true store ballot slot all command taken here behind = stops false store ballot slot (suc all) here
goes_by false false store ballot slot all command taken here behind = goes_on false store ballot slot all (length taken) here behind

goes_from : (stood : Bool) (store : Store) (ballot : Ballot) (slot : ℕ) (commands : List Command)
    → GoesTo stood store ballot slot (length commands) (length (command_run_from stood store ballot slot commands))
goes_from stood store ballot slot [] = record { alike = λ k low high. absurd (omega (arith, low, high)); differs = λ more. absurd (omega (arith, more)) }
goes_from stood store ballot slot (command ∷ later) =
    goes_by stood (is_voted store ballot slot) store ballot slot (length later) (stored_in (store.votes slot) ballot command) (command_run_from stood store ballot (slot + 1) later) refl
    (goes_from stood store ballot (slot + 1) later)

-- ---- where the first slot has no vote of the ballot

fresh_by : (ballot : Ballot) (held : Option Vote) (command : Command) (taken later : List Command) (b : Bool) → is_of_ballot held ballot ≡ b → taken ≡ take (length taken) later
    → (if not b then stored_in held ballot command ∷ taken else []) ≡ take (length (if not b then stored_in held ballot command ∷ taken else [])) (command ∷ later)
fresh_by ballot held command taken later true here behind = refl
fresh_by ballot held command taken later false here behind = let one = stored_free ballot command held here in λ i. one i ∷ behind i

fresh_from : (store : Store) (ballot : Ballot) (slot : ℕ) (commands : List Command)
    → command_run_from false store ballot slot commands ≡ take (length (command_run_from false store ballot slot commands)) commands
fresh_from store ballot slot [] = refl
fresh_from store ballot slot (command ∷ later) =
    fresh_by ballot (store.votes slot) command (command_run_from false store ballot (slot + 1) later) later (is_voted store ballot slot) refl (fresh_from store ballot (slot + 1) later)

abbrev IsFreshTo : Store → Ballot → ℕ → List Command → List Command → Type 0
IsFreshTo store ballot slot commands taken = (taken ≡ take (length taken) commands) × GoesTo false store ballot slot (length commands) (length taken)

pub taken_fresh : (store : Store) (ballot : Ballot) (slot : ℕ) (commands : List Command) → is_voted store ballot slot ≡ false
    → IsFreshTo store ballot slot commands (command_run_at store ballot slot commands)
taken_fresh store ballot slot commands first =
    subst (λ (stood : Bool). IsFreshTo store ballot slot commands (command_run_from stood store ballot slot commands)) (sym first)
    (fresh_from store ballot slot commands, goes_from false store ballot slot commands)

-- ---- where it has one

held_here : (store : Store) (ballot : Ballot) (slot : ℕ) (command : Command) (held : Option Vote) → store.votes slot ≡ held → is_of_ballot held ballot ≡ true
    → store.votes slot ≡ Some (vote_for ballot (stored_in held ballot command))
held_here store ballot slot command None e same = absurd (true≢false (sym same))
held_here store ballot slot command (Some v) e same =
    e ∙ ap (λ (y : Ballot). Some (vote_for y v.command)) (same_if v.ballot ballot same)
    ∙ ap (λ (b : Bool). Some (vote_for ballot (if b then v.command else command))) (sym same)

-- each taken command stands there
abbrev AreHeld : Store → Ballot → ℕ → List Command → Type 0
AreHeld store ballot slot taken = (place : ℕ) (command : Command) → slice_get taken place ≡ Some command → store.votes (slot + place) ≡ Some (vote_for ballot command)

held_by : (store : Store) (ballot : Ballot) (slot : ℕ) (first : Command) (taken : List Command) → (b : Bool)
    → (b ≡ true → store.votes slot ≡ Some (vote_for ballot first)) → AreHeld store ballot (slot + 1) taken → AreHeld store ballot slot (if b then first ∷ taken else [])
held_by store ballot slot first taken true here behind zero command is =
    let same : slot + 0 ≡ slot = omega arith in
    ap store.votes same ∙ here refl ∙ ap (λ (c : Command). Some (vote_for ballot c)) (same_Some first command is)
held_by store ballot slot first taken true here behind (suc place) command is =
    let same : slot + suc place ≡ slot + 1 + place = omega arith in ap store.votes same ∙ behind place command is
held_by store ballot slot first taken false here behind place command is = absurd cc

held_from : (store : Store) (ballot : Ballot) (slot : ℕ) (commands : List Command) → AreHeld store ballot slot (command_run_from true store ballot slot commands)
held_from store ballot slot [] place command is = absurd cc
held_from store ballot slot (first ∷ later) place command is =
    held_by store ballot slot (stored_in (store.votes slot) ballot first) (command_run_from true store ballot (slot + 1) later) (is_voted store ballot slot)
    (held_here store ballot slot first (store.votes slot) refl) (held_from store ballot (slot + 1) later) place command is

abbrev IsHeldTo : Store → Ballot → ℕ → List Command → List Command → Type 0
IsHeldTo store ballot slot commands taken = AreHeld store ballot slot taken × GoesTo true store ballot slot (length commands) (length taken)

pub taken_held : (store : Store) (ballot : Ballot) (slot : ℕ) (commands : List Command) → is_voted store ballot slot ≡ true
    → IsHeldTo store ballot slot commands (command_run_at store ballot slot commands)
taken_held store ballot slot commands first =
    subst (λ (stood : Bool). IsHeldTo store ballot slot commands (command_run_from stood store ballot slot commands)) (sym first)
    (held_from store ballot slot commands, goes_from true store ballot slot commands)

stands_by : (store : Store) (ballot : Ballot) (slot : ℕ) (command : Command) (taken : List Command) (b : Bool) → is_voted store ballot slot ≡ b
    → storing_command_run store ballot (slot + 1) taken ≡ store → storing_command_run store ballot slot (if b then command ∷ taken else []) ≡ store
stands_by store ballot slot command taken true here behind =
    ap (λ (b : Bool). storing_command_run (if b then store else voted store slot (vote_for ballot command)) ballot (slot + 1) taken) here ∙ behind
stands_by store ballot slot command taken false here behind = refl

stands_from : (store : Store) (ballot : Ballot) (slot : ℕ) (commands : List Command)
    → storing_command_run store ballot slot (command_run_from true store ballot slot commands) ≡ store
stands_from store ballot slot [] = refl
stands_from store ballot slot (command ∷ later) =
    stands_by store ballot slot (stored_in (store.votes slot) ballot command) (command_run_from true store ballot (slot + 1) later) (is_voted store ballot slot) refl
    (stands_from store ballot (slot + 1) later)

pub taking_stands : (store : Store) (ballot : Ballot) (slot : ℕ) (commands : List Command) → is_voted store ballot slot ≡ true → taking_command_run store ballot slot commands ≡ store
taking_stands store ballot slot commands first =
    ap (λ (stood : Bool). storing_command_run store ballot slot (command_run_from stood store ballot slot commands)) first ∙ stands_from store ballot slot commands

-- ---- what the votes leave

outside_each : (store : Store) (ballot : Ballot) (slot : ℕ) (commands : List Command) (k : ℕ) → (k < slot) ⊎ (slot + length commands ≤ k)
    → (storing_command_run store ballot slot commands).votes k ≡ store.votes k
outside_each store ballot slot [] k out = refl
outside_each store ballot slot (command ∷ later) k out =
    outside_each (storing store ballot slot command) ballot (slot + 1) later k (elim out [ inl before ↦ inl (omega (arith, before)) | inr behind ↦ inr (omega (arith, behind)) ])
    ∙ by_test (is_voted store ballot slot)
  where
    by_test : (b : Bool) → (if b then store else voted store slot (vote_for ballot command)).votes k ≡ store.votes k
    by_test true = refl
    by_test false =
        put_other store.votes slot (Some (vote_for ballot command)) k
        (λ same. elim out [ inl before ↦ absurd (omega (arith, same, before)) | inr behind ↦ absurd (omega (arith, same, behind)) ])

pub votes_outside : (store : Store) (ballot : Ballot) (slot k : ℕ) (commands : List Command)
    → (k < slot) ⊎ (slot + length (command_run_at store ballot slot commands) ≤ k)
    → (taking_command_run store ballot slot commands).votes k ≡ store.votes k
votes_outside store ballot slot k commands = outside_each store ballot slot (command_run_at store ballot slot commands) k

inside_first : (has : List Message) (store : Store) (ballot : Ballot) (slot : ℕ) (command : Command) (later : List Command) → MayVote has store ballot slot (command ∷ later)
    → (storing store ballot slot command).votes slot ≡ Some (vote_for ballot command)
inside_first has store ballot slot command later may = elim may.0 [
  | inl stands ↦ ap (λ (s : Store). s.votes slot) (stands_storing store ballot slot command stands) ∙ stands
  | inr free ↦ ap (λ (s : Store). s.votes slot) (free_storing store ballot slot command free.0) ∙ put_same store.votes slot (Some (vote_for ballot command))
]

may_behind : (has : List Message) (store : Store) (ballot : Ballot) (slot : ℕ) (command : Command) (later : List Command) → MayVote has store ballot slot (command ∷ later)
    → MayVote has (storing store ballot slot command) ballot (slot + 1) later
may_behind has store ballot slot command later may = elim may.0 [
  | inl stands ↦ subst (λ (s : Store). MayVote has s ballot (slot + 1) later) (sym (stands_storing store ballot slot command stands)) may.1
  | inr free ↦ subst (λ (s : Store). MayVote has s ballot (slot + 1) later) (sym (free_storing store ballot slot command free.0))
      (may_stays has store ballot slot (vote_for ballot command) (slot + 1) later (omega arith) may.1)
]

inside_each : (has : List Message) (store : Store) (ballot : Ballot) (slot : ℕ) (commands : List Command) → MayVote has store ballot slot commands
    → AreHeld (storing_command_run store ballot slot commands) ballot slot commands
inside_each has store ballot slot [] may place command is = absurd cc
inside_each has store ballot slot (first ∷ later) may zero command is =
    let same : slot + 0 ≡ slot = omega arith in
    ap (storing_command_run store ballot slot (first ∷ later)).votes same
    ∙ outside_each (storing store ballot slot first) ballot (slot + 1) later slot (inl (omega arith))
    ∙ inside_first has store ballot slot first later may ∙ ap (λ (c : Command). Some (vote_for ballot c)) (same_Some first command is)
inside_each has store ballot slot (first ∷ later) may (suc place) command is =
    let same : slot + suc place ≡ slot + 1 + place = omega arith in
    ap (storing_command_run store ballot slot (first ∷ later)).votes same
    ∙ inside_each has (storing store ballot slot first) ballot (slot + 1) later (may_behind has store ballot slot first later may) place command is

pub votes_inside : (store : Store) (ballot : Ballot) (slot place : ℕ) (command : Command) (commands : List Command)
    → slice_get (command_run_at store ballot slot commands) place ≡ Some command
    → (taking_command_run store ballot slot commands).votes (slot + place) ≡ Some (vote_for ballot command)
votes_inside store ballot slot place command commands =
    inside_each (proposals ballot slot commands) store ballot slot (command_run_at store ballot slot commands) (taken_may_by_itself store ballot slot commands) place command

-- the promise is this one, or the ballot
abbrev IsPromise : Ballot → Ballot → Ballot → Type 0
IsPromise old ballot promise = (promise ≡ old) ⊎ (promise ≡ ballot)

promise_each : (store : Store) (ballot : Ballot) (slot : ℕ) (commands : List Command) → IsPromise store.promise ballot (storing_command_run store ballot slot commands).promise
promise_each store ballot slot [] = inl refl
promise_each store ballot slot (command ∷ later) = elim (promise_each (storing store ballot slot command) ballot (slot + 1) later) [
  | inl same ↦ subst (IsPromise store.promise ballot) (sym same) (by_test (is_voted store ballot slot))
  | inr its ↦ inr its
]
  where
    by_test : (b : Bool) → IsPromise store.promise ballot (if b then store else voted store slot (vote_for ballot command)).promise
    by_test true = inl refl
    by_test false = inr refl

pub promise_after : (store : Store) (ballot : Ballot) (slot : ℕ) (commands : List Command)
    → ((taking_command_run store ballot slot commands).promise ≡ store.promise) ⊎ ((taking_command_run store ballot slot commands).promise ≡ ballot)
promise_after store ballot slot commands = promise_each store ballot slot (command_run_at store ballot slot commands)
