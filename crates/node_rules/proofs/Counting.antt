-- What is counted of the votes that came, from call to call.
use Rattle.std.proofs.Common.{◌≡◌, ℕ, ◌+◌, ◌<◌, ◌≤◌, ◌⊎◌, inl, inr, Bool, true, false, true≢false, if◌then◌else◌, List, [], ◌∷◌, ◌++◌, Option, Some, None, Result, Ok, Err, refl, sym, ap, subst, ◌∙◌, arith, length}
use Rattle.std.specs.Prelude.{IsOk, IsSome}
use Rattle.paxos_wire.specs.declared.limits.TheConstants.{SLOTS, WINDOW}
use Rattle.paxos_wire.specs.declared.ballot.Ballot.{Ballot}
use Rattle.slot_log.specs.declared.slot_fault.SlotFault.{SlotFault}
use Rattle.slot_log.specs.Slots.{Log, IsLog, front, known_at}
use Rattle.slot_log.specs.declared.command.Command.{Command}
use Rattle.protocol_model.specs.Sets.{In}
use Rattle.protocol_model.specs.Messages.{Message, Accepted}
use Rattle.protocol_model.specs.Frames.{answers}
use Rattle.protocol_model.specs.Quorums.{IsChosenIn}
use Rattle.learner.specs.Learning.{Learned, is_open, answer_to, hearing, believing as with_chosen}
use Rattle.learner.specs.CommandRuns.{hearing_each, hearing_run, answer_to_run}
use Rattle.learner.specs.CommandRunLaws.{open_answers}
use Rattle.learner.specs.Counted.{IsOpen, CountsFrom, CountsAll, KnowsChosen}
use Rattle.node_rules.specs.Standings.{Place, Standing}
use Rattle.node_rules.specs.Turns.{Turn}
use Rattle.node_rules.specs.Learning.{learning}
use Rattle.node_rules.specs.Given.{Given}
use Rattle.node_rules.specs.Being.{IsLearner}
use Rattle.learner.proofs.Counting.{counted_came}
use Rattle.learner.proofs.Kept.{open_is}
use Rattle.learner.proofs.RunSteps.{is_log_heard, front_heard, known_elsewhere}
use Rattle.learner.proofs.KeptRuns.{run_ok}
use Rattle.protocol_model.proofs.Sets.{Within, in_first, in_later, in_split}
use Rattle.node_rules.proofs.Together.{answer_is}
use Rattle.node_rules.proofs.Results.{ok_is}

-- ---- what is counted grows

pub record Counts (came : List Message) (l : Learned) : Type 0 where
  pub counts_from : CountsFrom came l
  pub counts_all : CountsAll came l
  pub knows_chosen : KnowsChosen came l

pub record Grows (came : List Message) (new : Learned) : Type 0 where
  pub more : List Message
  pub counts : Counts more new
  pub kept : (m : Message) → In m came → In m more

pub same_grows : (came : List Message) (l new : Learned) → new ≡ l → Counts came l → Grows came new
same_grows came l new e c = record { more = came; counts = subst (Counts came) (sym e) c; kept = λ m h. h }

-- a vote for an open slot is counted
pub counts_vote : (g : Given) (came : List Message) (l : Learned) (voter : ℕ) (ballot : Ballot) (slot : ℕ) (command : Command) → IsLog l.log → voter < l.nodes → IsOpen l.log slot
    → IsOk (answer_to l voter ballot slot command) → Counts came l → Counts (Accepted voter ballot slot command ∷ came) (hearing l voter ballot slot command)
counts_vote g came l voter ballot slot command log low ahead ok c = record {
  counts_from = g.answer_counts (Accepted voter ballot slot command ∷ came) l voter ballot slot command (inl refl) (g.more came l (Accepted voter ballot slot command) c.counts_from);
  counts_all = g.answer_counts_all came l voter ballot slot command low ahead ok c.counts_all;
  knows_chosen = g.answers_known came l voter ballot slot command log ahead low ok c.counts_from c.counts_all c.knows_chosen;
}

-- ---- votes for commands at slots that follow one another

-- what is known below them stays, and the front moves at most on
below_each : (g : Given) (l : Learned) (from : ℕ) (ballot : Ballot) (slot : ℕ) (commands : List Command) (other : ℕ) → IsLog l.log → other < slot
    → known_at (hearing_each l from ballot slot commands).log other ≡ known_at l.log other
unfolding hearing_each
below_each g l from ballot slot [] other log below = refl
below_each g l from ballot slot (command ∷ more) other log below =
    below_each g (hearing l from ballot slot command) from ballot (slot + 1) more other (is_log_heard g.goes_on g.one_more g.hole l from ballot slot command log) (omega (arith, below))
    ∙ known_elsewhere g.goes_on g.one_more g.hole l from ballot slot other command log (λ same. omega (arith, same, below))

pub log_each : (g : Given) (l : Learned) (from : ℕ) (ballot : Ballot) (slot : ℕ) (commands : List Command) → IsLog l.log
    → IsLog (hearing_each l from ballot slot commands).log × (front l.log ≤ front (hearing_each l from ballot slot commands).log)
unfolding hearing_each
log_each g l from ballot slot [] log = (log, omega arith)
log_each g l from ballot slot (command ∷ more) log =
    let rest = log_each g (hearing l from ballot slot command) from ballot (slot + 1) more (is_log_heard g.goes_on g.one_more g.hole l from ballot slot command log) in
    (rest.0, (let on = front_heard g.goes_on g.one_more g.hole l from ballot slot command in let later = rest.1 in omega (arith, on, later)))

none_is_some : (o : Option Command) → o ≡ None → IsSome o → ⊥
none_is_some None e some = absurd (cc)
none_is_some (Some c) e some = absurd (cc)

-- a slot of theirs that is open behind them was open before
was_open : (g : Given) (l : Learned) (from : ℕ) (ballot : Ballot) (slot : ℕ) (commands : List Command) (k : ℕ) → IsLog l.log → length commands ≤ WINDOW
    → slot ≤ k → k < slot + length commands → IsOpen (hearing_each l from ballot slot commands).log k → is_open l.log k ≡ true
was_open g l from ballot slot commands k log most first last opens =
    open_is l.log k (record {
      reached = (let on = after.1 in let reached = opens.reached in omega (arith, on, reached));
      within = by_front (apart (front l.log) slot);
      is_slot = opens.is_slot;
    })
  where
    after : IsLog (hearing_each l from ballot slot commands).log × (front l.log ≤ front (hearing_each l from ballot slot commands).log)
    after = log_each g l from ballot slot commands log

    apart : (a b : ℕ) → (b ≤ a) ⊎ (a < b)
    apart a b = grind arith

    -- the front is below them all, so that it stays
    stays : front l.log < slot → (front (hearing_each l from ballot slot commands).log ≤ front l.log) ⊎ (front l.log < front (hearing_each l from ballot slot commands).log)
        → front (hearing_each l from ballot slot commands).log ≤ front l.log
    stays below (inl low) = low
    stays below (inr moved) =
        let some : IsSome (known_at (hearing_each l from ballot slot commands).log (front l.log)) = (g.hole (hearing_each l from ballot slot commands).log after.0).0 (front l.log) moved in
        let none : known_at (hearing_each l from ballot slot commands).log (front l.log) ≡ None = below_each g l from ballot slot commands (front l.log) log below ∙ (g.hole l.log log).1 in
        absurd (none_is_some (known_at (hearing_each l from ballot slot commands).log (front l.log)) none some)

    by_front : (slot ≤ front l.log) ⊎ (front l.log < slot) → k < front l.log + WINDOW
    by_front (inl low) = omega (arith, low, last, most)
    by_front (inr high) =
        let same = stays high (apart (front l.log) (front (hearing_each l from ballot slot commands).log)) in
        let within = opens.within in omega (arith, same, within)

in_open_answers : (log : Log) (from : ℕ) (ballot : Ballot) (slot : ℕ) (commands : List Command) (v : ℕ) (b : Ballot) (k : ℕ) (c : Command) → is_open log k ≡ true
    → In (Accepted v b k c) (answers from ballot slot commands) → In (Accepted v b k c) (open_answers log from ballot slot commands)
in_open_answers log from ballot slot [] v b k c opens h = h
in_open_answers log from ballot slot (command ∷ more) v b k c opens (inl e) = by_test (is_open log slot) refl
  where
    same : k ≡ slot
    same = cc

    by_test : (x : Bool) → is_open log slot ≡ x → In (Accepted v b k c) (if x then Accepted from ballot slot command ∷ open_answers log from ballot (slot + 1) more else open_answers log from ballot (slot + 1) more)
    by_test true ex = inl e
    by_test false ex = absurd (true≢false (sym opens ∙ (ap (is_open log) same ∙ ex)))
in_open_answers log from ballot slot (command ∷ more) v b k c opens (inr h) = by_test (is_open log slot) (in_open_answers log from ballot (slot + 1) more v b k c opens h)
  where
    by_test : (x : Bool) → In (Accepted v b k c) (open_answers log from ballot (slot + 1) more)
        → In (Accepted v b k c) (if x then Accepted from ballot slot command ∷ open_answers log from ballot (slot + 1) more else open_answers log from ballot (slot + 1) more)
    by_test true inside = inr inside
    by_test false inside = inside

open_in_answers : (log : Log) (from : ℕ) (ballot : Ballot) (slot : ℕ) (commands : List Command) (m : Message) → In m (open_answers log from ballot slot commands)
    → In m (answers from ballot slot commands)
open_in_answers log from ballot slot [] m h = h
open_in_answers log from ballot slot (command ∷ more) m h = by_test (is_open log slot) h (λ inside. open_in_answers log from ballot (slot + 1) more m inside)
  where
    by_test : (x : Bool) → In m (if x then Accepted from ballot slot command ∷ open_answers log from ballot (slot + 1) more else open_answers log from ballot (slot + 1) more)
        → (In m (open_answers log from ballot (slot + 1) more) → In m (answers from ballot (slot + 1) more))
        → In m (Accepted from ballot slot command ∷ answers from ballot (slot + 1) more)
    by_test true (inl e) later = inl e
    by_test true (inr inside) later = inr (later inside)
    by_test false inside later = inr (later inside)

-- what isn't refused is heard
pub heard_run : (l : Learned) (from : ℕ) (ballot : Ballot) (slot : ℕ) (commands : List Command) → IsOk (answer_to_run l from ballot slot commands)
    → hearing_run l from ballot slot commands ≡ hearing_each l from ballot slot commands
heard_run l from ballot slot commands ok = ap (λ (b : Bool). if b then l else hearing_each l from ballot slot commands) (run_ok l from ballot slot commands ok)

-- each vote for a slot that is open is counted
pub record GrowsByEach (came : List Message) (l new : Learned) (voter : ℕ) (ballot : Ballot) (slot : ℕ) (commands : List Command) : Type 0 where
  pub grows : Grows came new
  pub has_votes : (v : ℕ) (b : Ballot) (k : ℕ) (c : Command) → In (Accepted v b k c) (answers voter ballot slot commands) → IsOpen l.log k → In (Accepted v b k c) grows.more
  pub only : (m : Message) → In m grows.more → In m (answers voter ballot slot commands) ⊎ In m came

pub votes_grow : (g : Given) (came : List Message) (l : Learned) (voter : ℕ) (ballot : Ballot) (slot : ℕ) (commands : List Command) → IsLog l.log → voter < l.nodes → length commands ≤ WINDOW
    → IsOk (answer_to_run l voter ballot slot commands) → Counts came l → GrowsByEach came l (hearing_run l voter ballot slot commands) voter ballot slot commands
votes_grow g came l voter ballot slot commands log low most ok c = record {
  grows = record {
    more = more;
    counts = record {
      counts_from = subst (CountsFrom more) (sym is_each) from;
      counts_all = g.run_counts_all came l voter ballot slot commands log low most ok c.counts_all;
      knows_chosen = g.runs_known came l voter ballot slot commands log low most ok c.counts_from c.counts_all c.knows_chosen;
    };
    kept = λ m h. in_later (open_answers l.log voter ballot slot commands) came m h;
  };
  has_votes = λ v b k d h opens. in_first (open_answers l.log voter ballot slot commands) came (Accepted v b k d) (in_open_answers l.log voter ballot slot commands v b k d (open_is l.log k opens) h);
  only = λ m h. elim (in_split (open_answers l.log voter ballot slot commands) came m h) [ inl new ↦ inl (open_in_answers l.log voter ballot slot commands m new) | inr old ↦ inr old ];
}
  where
    more : List Message
    more = open_answers l.log voter ballot slot commands ++ came

    is_each : hearing_run l voter ballot slot commands ≡ hearing_each l voter ballot slot commands
    is_each = heard_run l voter ballot slot commands ok

    all : CountsFrom (answers voter ballot slot commands ++ came) (hearing_each l voter ballot slot commands)
    all = subst (CountsFrom (answers voter ballot slot commands ++ came)) is_each
        (g.run_counts (answers voter ballot slot commands ++ came) l voter ballot slot commands (λ m h. in_first (answers voter ballot slot commands) came m h)
        (λ k tally opens inside node has. in_later (answers voter ballot slot commands) came (Accepted node tally.ballot k tally.command) (c.counts_from k tally opens inside node has)))

    from : CountsFrom more (hearing_each l voter ballot slot commands)
    from k tally opens inside node has = elim (in_split (answers voter ballot slot commands) came (Accepted node tally.ballot k tally.command) (all k tally opens inside node has)) [
      | inl own ↦ (
          let at = (g.in_answers voter node ballot tally.ballot slot k tally.command commands).0 own in
          in_first (open_answers l.log voter ballot slot commands) came (Accepted node tally.ballot k tally.command)
          (in_open_answers l.log voter ballot slot commands node tally.ballot k tally.command (was_open g l voter ballot slot commands k log most at.2 at.3 opens) own))
      | inr old ↦ in_later (open_answers l.log voter ballot slot commands) came (Accepted node tally.ballot k tally.command) old
    ]

-- where all of their slots are open, all of the votes are had
pub answers_had : (g : Given) (came : List Message) (l new : Learned) (voter : ℕ) (ballot : Ballot) (slot : ℕ) (commands : List Command) (grows : GrowsByEach came l new voter ballot slot commands)
    → ((k : ℕ) → slot ≤ k → k < slot + length commands → IsOpen l.log k) → Within (answers voter ballot slot commands) grows.grows.more
answers_had g came l new voter ballot slot commands grows opens m inside =
    let e = answer_is voter ballot slot commands m inside in
    let v : In (Accepted voter ballot e.0 e.1) (answers voter ballot slot commands) = subst (λ (y : Message). In y (answers voter ballot slot commands)) e.2 inside in
    let at = (g.in_answers voter voter ballot ballot slot e.0 e.1 commands).0 v in
    subst (λ (y : Message). In y grows.grows.more) (sym e.2) (grows.has_votes voter ballot e.0 e.1 v (opens e.0 at.2 at.3))

pub belief_grows : (g : Given) (came : List Message) (l : Learned) (slot : ℕ) (command : Command) → IsLog l.log → Counts came l → Grows came (with_chosen l slot command)
belief_grows g came l slot command log c = record {
  more = came;
  counts = record {
    counts_from = g.chosen_counts came l slot command c.counts_from;
    counts_all = g.chosen_counts_all came l slot command c.counts_all;
    knows_chosen = g.chosen_known came l slot command log c.knows_chosen;
  };
  kept = λ m h. h;
}

abbrev pub then_grows : (came : List Message) (mid new : Learned) → (first : Grows came mid) → Grows first.more new → Grows came new
then_grows came mid new first later = record { more = later.more; counts = later.counts; kept = λ m h. later.kept m (first.kept m h) }

-- where there is a turn, the vote wasn't refused
pub learning_is : {A : Type 0} (place : Place) (answer : Result A SlotFault) (new : Learned) (s : Standing) (u : Turn) → learning place answer new s ≡ Ok u → IsOk answer × (u.after.learned ≡ new)
learning_is place (Err e) new s u h = absurd (cc)
learning_is place (Ok a) new s u h = (refl, ap (λ (t : Turn). t.after.learned) (sym (ok_is _ u h)))

-- and nothing but what is known and shown changes
pub learning_keeps : {A : Type 0} (place : Place) (answer : Result A SlotFault) (new : Learned) (s : Standing) (u : Turn) → learning place answer new s ≡ Ok u
    → (u.after.campaign ≡ s.campaign) × (u.after.store ≡ s.store)
learning_keeps place (Err e) new s u h = absurd (cc)
learning_keeps place (Ok a) new s u h = (ap (λ (t : Turn). t.after.campaign) (sym (ok_is _ u h)), ap (λ (t : Turn). t.after.store) (sym (ok_is _ u h)))

-- ---- what is had in time, and known, of a learner that counts these

pub had_in_time : (g : Given) (n : ℕ) (messages : List Message) (known : List (ℕ × Command)) (l : Learned) (more : List Message) (voter : ℕ) (ballot : Ballot) (slot : ℕ) (command : Command)
    → (learner : IsLearner n messages known l) → CountsAll more l → voter < n → front l.log ≤ slot → slot < SLOTS → In (Accepted voter ballot slot command) more
    → In (Accepted voter ballot slot command) learner.in_time
had_in_time g n messages known l more voter ballot slot command learner all low reached is_slot h =
    let ahead : IsOpen l.log slot = record { reached = reached; within = all.within voter ballot slot command h; is_slot = is_slot } in
    counted_came learner.in_time l ballot slot command voter learner.counts ahead
    (all.counted voter ballot slot command (subst (λ (k : ℕ). voter < k) (sym learner.nodes) low) ahead h)

pub known_by_quorum : (n : ℕ) (messages : List Message) (known : List (ℕ × Command)) (l : Learned) (more : List Message) (ballot : Ballot) (slot : ℕ) (command : Command)
    → (learner : IsLearner n messages known l) → KnowsChosen more l → IsChosenIn n more ballot slot command → In (slot, command) known
known_by_quorum n messages known l more ballot slot command learner knows chosen =
    learner.knows slot command (knows ballot slot command (subst (λ (k : ℕ). IsChosenIn k more ballot slot command) (sym learner.nodes) chosen))
