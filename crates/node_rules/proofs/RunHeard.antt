-- The last votes of a quorum for commands at slots that follow one another: all of them are known, and the front has passed them, also where some were
-- known before.
use Rattle.std.proofs.Common.{◌≡◌, ℕ, ◌+◌, ◌<◌, ◌≤◌, ◌⊎◌, inl, inr, Bool, true, false, not, if◌then◌else◌, Option, Some, None, Result, Ok, Err, List, [], ◌∷◌, refl, sym, ap, subst, ◌∙◌, arith, length}
use Rattle.std.specs.Prelude.{IsOk, IsSome, is_err, is_none}
use Rattle.std.proofs.lemmas.List.{length-append}
use Rattle.paxos_wire.specs.declared.limits.TheConstants.{SLOTS}
use Rattle.paxos_wire.specs.declared.ballot.Ballot.{Ballot}
use Rattle.slot_log.specs.Slots.{Log, IsLog, front, known_at, with_command}
use Rattle.slot_log.specs.declared.command.Command.{Command}
use Rattle.slot_log.specs.declared.slot_fault.SlotFault.{SlotFault}
use Rattle.slot_log.specs.declared.slot_fault.SlotFault.TheVariants.{Conflict as KnownOther}
use Rattle.protocol_model.specs.Sets.{In}
use Rattle.protocol_model.specs.Messages.{Message, Accepted}
use Rattle.protocol_model.specs.Frames.{answers}
use Rattle.protocol_model.specs.Quorums.{IsChosenIn}
use Rattle.learner.specs.declared.chosen.Chosen.{Chosen as Learnt}
use Rattle.learner.specs.Learning.{Learned, is_open, is_other, completes, counting, knowing, answer_to, hearing}
use Rattle.learner.specs.CommandRuns.{hearing_each, is_refused}
use Rattle.learner.specs.Counted.{IsOpen}
use Rattle.learner.proofs.RunSteps.{is_log_heard, known_elsewhere, known_stays}
use Rattle.node_rules.specs.Given.{Given}
use Rattle.node_rules.specs.Calm.{IsLeastQuorum}
use Rattle.node_rules.specs.CalmRound.{AreKnown}
use Rattle.protocol_model.proofs.Sets.{Within}
use Rattle.learner.proofs.Kept.{open_is}
use Rattle.node_rules.proofs.Counting.{Counts, counts_vote}
use Rattle.node_rules.proofs.Learning.{not_other}
use Rattle.node_rules.proofs.Members.{is_in, is_in_in, count_list, rise_distinct}

-- ---- what is known is what is wanted

-- at these slots none but these commands is known
abbrev pub KnowsOnly : Log → ℕ → List Command → Type 0
KnowsOnly log slot [] = Unit {0}
KnowsOnly log slot (command ∷ more) = ((known : Command) → known_at log slot ≡ Some known → known ≡ command) × KnowsOnly log (slot + 1) more

knows_only_still : (old new : Log) (slot : ℕ) (commands : List Command) → ((k : ℕ) → slot ≤ k → known_at new k ≡ known_at old k) → KnowsOnly old slot commands → KnowsOnly new slot commands
knows_only_still old new slot [] same only = tt
knows_only_still old new slot (command ∷ more) same only = (
  (λ known e. only.0 known (sym (same slot (omega arith)) ∙ e)),
  knows_only_still old new (slot + 1) more (λ k low. same k (omega (arith, low))) only.1,
)

-- where no other command is known, a vote isn't refused
pub one_taken : (l : Learned) (from : ℕ) (ballot : Ballot) (slot : ℕ) (command : Command) → is_other (known_at l.log slot) command ≡ false
    → (a : Option Learnt) × (answer_to l from ballot slot command ≡ Ok a)
one_taken l from ballot slot command same = by_tests (is_open l.log slot) (completes l from ballot slot command) refl refl
  where
    open_as : (a b : Bool) → is_open l.log slot ≡ a → completes l from ballot slot command ≡ b → answer_to l from ballot slot command
        ≡ (if not a then Ok None else if not b then Ok None else Ok (Some (record { slot = slot; command = command })))
    open_as a b ea eb = λ j. if not (ea j) then Ok None else if not (eb j) then Ok None
        else if same j then Err KnownOther else Ok (Some (record { slot = slot; command = command }))

    by_tests : (a b : Bool) → is_open l.log slot ≡ a → completes l from ballot slot command ≡ b → (x : Option Learnt) × (answer_to l from ballot slot command ≡ Ok x)
    by_tests false b ea eb = (None, open_as false b ea eb)
    by_tests true false ea eb = (None, open_as true false ea eb)
    by_tests true true ea eb = (Some (record { slot = slot; command = command }), open_as true true ea eb)

pub all_taken : (g : Given) (l : Learned) (from : ℕ) (ballot : Ballot) (slot : ℕ) (commands : List Command) → KnowsOnly l.log slot commands → is_refused l from ballot slot commands ≡ false
unfolding is_refused
all_taken g l from ballot slot [] only = refl
all_taken g l from ballot slot (command ∷ more) only =
    ap (λ (r : Result (Option Learnt) SlotFault). if is_err r then true else is_refused l from ballot (slot + 1) more)
    (one_taken l from ballot slot command (not_other g (known_at l.log slot) command only.0)).1
    ∙ all_taken g l from ballot (slot + 1) more only.1

-- ---- a vote for a slot that is open and unknown

heard_log : (l : Learned) (from : ℕ) (ballot : Ballot) (slot : ℕ) (command : Command) → is_open l.log slot ≡ true → known_at l.log slot ≡ None
    → ((hearing l from ballot slot command).log ≡ l.log) ⊎ ((hearing l from ballot slot command).log ≡ with_command l.log slot command)
heard_log l from ballot slot command ahead none = by_test (completes l from ballot slot command) refl
  where
    by_test : (b : Bool) → completes l from ballot slot command ≡ b
        → ((hearing l from ballot slot command).log ≡ l.log) ⊎ ((hearing l from ballot slot command).log ≡ with_command l.log slot command)
    by_test false e = inl (λ j. (let k : Learned = if not (ahead j) then l else if not (e j) then counting l from ballot slot command
        else if is_other (known_at l.log slot) command then l else knowing (counting l from ballot slot command) slot command in k.log))
    by_test true e = inr (
        (λ j. (let k : Learned = if not (ahead j) then l else if not (e j) then counting l from ballot slot command
        else if is_other (none j) command then l else knowing (counting l from ballot slot command) slot command in k.log))
        ∙ (λ j. if is_none (none j) then with_command l.log slot command else l.log)
        )

-- ---- one slot after another

-- the learner on its way to the slot, with these votes in time
pub record IsOnWay (n slot : ℕ) (commands : List Command) (l : Learned) (came : List Message) : Type 0 where
  pub log : IsLog l.log
  pub nodes : l.nodes ≡ n
  pub counts : Counts came l
  pub only : KnowsOnly l.log slot commands
  pub passed : slot ≤ front l.log

-- each other member's votes came in time
abbrev pub HasVotes : Ballot → ℕ → List ℕ → ℕ → List Command → List Message → Type 0
HasVotes ballot from members slot commands came = (m : ℕ) → In m members → (m ≡ from) ⊎ Within (answers m ballot slot commands) came

some_of : (o : Option Command) → IsSome o → (d : Command) × (o ≡ Some d)
some_of (Some d) h = (d, refl)
some_of None h = absurd (cc)

record Heard (n slot : ℕ) (command : Command) (later : List Command) (came : List Message) (next : Learned) : Type 0 where
  pub known : known_at next.log slot ≡ Some command
  pub more : List Message
  pub inside : Within came more
  pub way : IsOnWay n (slot + 1) later next more

-- a slot that the front has passed: nothing changes
hear_passed : (g : Given) (n slot : ℕ) (command : Command) (later : List Command) (l : Learned) (came : List Message) (from : ℕ) (ballot : Ballot) → slot < front l.log
    → IsOnWay n slot (command ∷ later) l came → Heard n slot command later came (hearing l from ballot slot command)
hear_passed g n slot command later l came from ballot below way =
    subst (λ (x : Learned). Heard n slot command later came x) (sym (g.passed_over l from ballot slot command (λ o. absurd (let a = o.reached in omega (arith, a, below)))))
    (record {
      known = (let d = some_of (known_at l.log slot) ((g.hole l.log way.log).0 slot below) in d.1 ∙ ap (λ (c : Command). Some c) (let only = way.only in only.0 d.0 d.1));
      more = came;
      inside = λ m h. h;
      way = record { log = way.log; nodes = way.nodes; counts = way.counts; only = (let only = way.only in only.1); passed = omega (arith, below) };
    })

-- the slot at the front: its last vote makes its command known, and the front goes on
hear_front : (g : Given) (n : ℕ) (members : List ℕ) → IsLeastQuorum n members → (slot : ℕ) (command : Command) (later : List Command) (l : Learned) (came : List Message) (from : ℕ) (ballot : Ballot)
    → from < n → slot < SLOTS → slot ≡ front l.log → IsOnWay n slot (command ∷ later) l came → HasVotes ballot from members slot (command ∷ later) came
    → Heard n slot command later came (hearing l from ballot slot command)
hear_front g n members quorum slot command later l came from ballot low is at way votes = record {
  known = known;
  more = Accepted from ballot slot command ∷ came;
  inside = λ m h. inr h;
  way = record {
    log = is_log_heard g.goes_on g.one_more g.hole l from ballot slot command way.log;
    nodes = nodes;
    counts = counts;
    only = knows_only_still l.log new.log (slot + 1) later
        (λ k above. known_elsewhere g.goes_on g.one_more g.hole l from ballot slot k command way.log (λ same. omega (arith, same, above))) (let only = way.only in only.1);
    passed = by_log (heard_log l from ballot slot command opened unknown);
  };
}
  where
    new : Learned
    new = hearing l from ballot slot command

    unknown : known_at l.log slot ≡ None
    unknown = ap (known_at l.log) at ∙ (g.hole l.log way.log).1

    ahead : IsOpen l.log slot
    ahead = record { reached = omega (arith, at); within = omega (arith, at); is_slot = is }

    opened : is_open l.log slot ≡ true
    opened = open_is l.log slot ahead

    ok : IsOk (answer_to l from ballot slot command)
    ok = (let a = one_taken l from ballot slot command (not_other g (known_at l.log slot) command (let only = way.only in only.0)) in subst IsOk (sym a.1) refl)

    counts : Counts (Accepted from ballot slot command ∷ came) (hearing l from ballot slot command)
    counts = counts_vote g came l from ballot slot command way.log (subst (λ (k : ℕ). from < k) (sym way.nodes) low) ahead ok way.counts

    nodes : (hearing l from ballot slot command).nodes ≡ n
    nodes = (g.nodes_stay l from ballot slot command).0 ∙ way.nodes

    vote_of : (m : ℕ) → In m members → In (Accepted m ballot slot command) (Accepted from ballot slot command ∷ came)
    vote_of m h = elim (votes m h) [
      | inl e ↦ inl (ap (λ (k : ℕ). Accepted k ballot slot command) e)
      | inr all ↦ inr (all (Accepted m ballot slot command) (inl refl))
    ]

    known : known_at (hearing l from ballot slot command).log slot ≡ Some command
    known = counts.knows_chosen ballot slot command
        (subst (λ (k : ℕ). IsChosenIn k (Accepted from ballot slot command ∷ came) ballot slot command) (sym nodes) (
          is_in members,
          (let e = count_list n members (rise_distinct 0 n members quorum.rise) in let q = quorum.most in omega (arith, e, q)),
          λ m below h. vote_of m (is_in_in members m h),
        ))

    by_log : (new.log ≡ l.log) ⊎ (new.log ≡ with_command l.log slot command) → slot + 1 ≤ front new.log
    by_log (inl same) = let clash : ◌≡◌ {A = Option Command} None (Some command) = sym unknown ∙ (ap (λ (y : Log). known_at y slot) (sym same) ∙ known) in absurd (cc)
    by_log (inr more) = beyond (at_or_above slot (front new.log) at_least)
      where
        at_least : slot ≤ front new.log
        at_least =
            let on = g.goes_on l.log slot command in
            let x = ap (λ (y : Log). front y) more in
            let y = ap (λ (z : List Command). length z) on.1 ∙ length-append on.0 l.log.below in omega (arith, x, y, at)

        at_or_above : (a b : ℕ) → a ≤ b → (b ≡ a) ⊎ (a + 1 ≤ b)
        at_or_above a b le = grind arith

        beyond : (front new.log ≡ slot) ⊎ (slot + 1 ≤ front new.log) → slot + 1 ≤ front new.log
        beyond (inl e) =
            let clash : ◌≡◌ {A = Option Command} None (Some command) =
            sym (g.hole new.log (is_log_heard g.goes_on g.one_more g.hole l from ballot slot command way.log)).1 ∙ (ap (known_at new.log) e ∙ known) in absurd (cc)
        beyond (inr above) = above

hear_next : (g : Given) (n : ℕ) (members : List ℕ) → IsLeastQuorum n members → (slot : ℕ) (command : Command) (later : List Command) (l : Learned) (came : List Message) (from : ℕ) (ballot : Ballot)
    → from < n → slot < SLOTS → IsOnWay n slot (command ∷ later) l came → HasVotes ballot from members slot (command ∷ later) came
    → Heard n slot command later came (hearing l from ballot slot command)
hear_next g n members quorum slot command later l came from ballot low is way votes = elim (same_or_below (front l.log) slot way.passed) [
  | inl same ↦ hear_front g n members quorum slot command later l came from ballot low is same way votes
  | inr below ↦ hear_passed g n slot command later l came from ballot below way
]
  where
    same_or_below : (a b : ℕ) → b ≤ a → (b ≡ a) ⊎ (b < a)
    same_or_below a b le = grind arith

-- what is known stays so
known_each : (g : Given) (l : Learned) (from : ℕ) (ballot : Ballot) (slot : ℕ) (commands : List Command) (k : ℕ) (known : Command) → IsLog l.log → known_at l.log k ≡ Some known
    → known_at (hearing_each l from ballot slot commands).log k ≡ Some known
unfolding hearing_each
known_each g l from ballot slot [] k known log e = e
known_each g l from ballot slot (command ∷ later) k known log e =
    known_each g (hearing l from ballot slot command) from ballot (slot + 1) later k known (is_log_heard g.goes_on g.one_more g.hole l from ballot slot command log)
    (known_stays g.goes_on g.one_more g.hole l from ballot slot k command known log e)

-- all of them, from a slot on
pub all_heard : (g : Given) (n : ℕ) (members : List ℕ) → IsLeastQuorum n members → (from : ℕ) (ballot : Ballot) (slot : ℕ) (commands : List Command) (l : Learned) (came : List Message)
    → from < n → slot + length commands ≤ SLOTS → IsOnWay n slot commands l came → HasVotes ballot from members slot commands came
    → (slot + length commands ≤ front (hearing_each l from ballot slot commands).log) × AreKnown (hearing_each l from ballot slot commands).log slot commands
unfolding hearing_each
all_heard g n members quorum from ballot slot [] l came low end way votes = ((let passed = way.passed in omega (arith, passed)), tt)
all_heard g n members quorum from ballot slot (command ∷ later) l came low end way votes =
    let heard = hear_next g n members quorum slot command later l came from ballot low (omega (arith, end)) way votes in
    let next = heard.way in
    let rest = all_heard g n members quorum from ballot (slot + 1) later (hearing l from ballot slot command) heard.more low (omega (arith, end)) next
    (λ m h. elim (votes m h) [ inl e ↦ inl e | inr all ↦ inr (λ o k. heard.inside o (all o (inr k))) ]) in
    let front_is = rest.0 in
    (omega (arith, front_is), (known_each g (hearing l from ballot slot command) from ballot (slot + 1) later slot command next.log heard.known, rest.1))
