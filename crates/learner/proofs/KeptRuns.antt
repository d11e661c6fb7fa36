-- What is counted of a command run came, what came while its slot was open is counted, and what is chosen with it is known.
use Rattle.std.proofs.Common.{ℕ, zero, suc, ◌≡◌, ◌≢◌, ◌<◌, ◌≤◌, ◌+◌, ◌%◌, ◌⊎◌, inl, inr, Bool, true, false, true≢false, not, List, [], ◌∷◌, ◌++◌, Option, Some, None, Result, Ok, Err, refl, sym, ◌∙◌, ap, subst, arith, ◌==◌, if◌then◌else◌, length, replicate}
use Rattle.std.specs.Prelude.{is_ok, is_err, IsOk, slice_get, nat_lt, ◌↔◌}
use Rattle.std.proofs.lemmas.Bool.Decides.{eqb_tells}
use Rattle.paxos_wire.specs.declared.limits.TheConstants.{WINDOW}
use Rattle.paxos_wire.specs.declared.ballot.Ballot.{Ballot}
use Rattle.slot_log.specs.declared.command.Command.{Command}
use Rattle.slot_log.specs.declared.slot_fault.SlotFault.{SlotFault}
use Rattle.slot_log.specs.declared.slot_fault.SlotFault.TheVariants.{Conflict}
use Rattle.slot_log.specs.Slots.{Log, IsLog, front, known_at}
use Rattle.slot_log.specs.SlotLaws.{FrontIsFirstHole, OneMoreIsKnown, FrontsGoOn}
use Rattle.protocol_model.specs.Sets.{In}
use Rattle.protocol_model.specs.Messages.{Message, Accepted}
use Rattle.protocol_model.specs.Frames.{answers}
use Rattle.protocol_model.specs.Quorums.{IsChosenIn}
use Rattle.protocol_model.proofs.Sets.{in_first, in_later, in_split}
use Rattle.learner.specs.declared.chosen.Chosen.{Chosen}
use Rattle.learner.specs.Learning.{Learned, is_open, is_other, completes, chosen_in, answer_to, hearing, counting, knowing}
use Rattle.learner.specs.Counted.{IsOpen, CountsFrom, CountsAll, KnowsChosen}
use Rattle.learner.specs.CommandRuns.{hearing_each, tells, chosen_each, is_refused, hearing_run, answer_to_run}
use Rattle.learner.specs.CommandRunLaws.{open_answers}
use Rattle.learner.proofs.Counting.{completed_is_chosen}
use Rattle.learner.proofs.Kept.{open_means, open_is, answer_counts, answer_counts_all, passed_over, nodes_stay}
use Rattle.learner.proofs.Known.{IsOne, IsOther, one_or, answers_are_known}
use Rattle.learner.proofs.HeardRuns.{hearing_shut, refused_same}
use Rattle.learner.proofs.RunSteps.{is_log_heard, front_heard, known_elsewhere, known_stays, ok_elsewhere, known_alike}

-- ---- when it is refused

ok_or : (r : Result (Option Chosen) SlotFault) (x : Bool) → is_err r ≡ x → x ≡ false → IsOk r
ok_or (Ok a) x e h = refl
ok_or (Err f) x e h = absurd (let clash : true ≡ false = e ∙ h in cc)

err_not : (r : Result (Option Chosen) SlotFault) → IsOk r → is_err r ≡ false
err_not (Ok a) h = refl
err_not (Err f) h = absurd (cc)

taken_by : (r : Result (Option Chosen) SlotFault) (rest : Bool) → (if is_err r then true else rest) ≡ false → IsOk r × (rest ≡ false)
taken_by (Ok a) rest h = (refl, h)
taken_by (Err f) rest h = absurd (let clash : true ≡ false = h in cc)

at_place : (l : Learned) (from : ℕ) (b : Ballot) (slot place : ℕ) (c : Command) → IsOk (answer_to l from b (slot + 1 + place) c) → IsOk (answer_to l from b (slot + suc place) c)
at_place l from b slot place c ok = let next : slot + 1 + place ≡ slot + suc place = omega arith in subst (λ (s : ℕ). IsOk (answer_to l from b s c)) next ok

same_command : (c d : Command) → ◌≡◌ {A = Option Command} (Some c) (Some d) → c ≡ d
same_command c d e = cc

in_row : (commands : List Command) (place : ℕ) (c : Command) → slice_get commands place ≡ Some c → place < length commands
in_row [] zero c e = absurd (cc)
in_row [] (suc place) c e = absurd (cc)
in_row (d ∷ more) zero c e = omega arith
in_row (d ∷ more) (suc place) c e = let rest = in_row more place c e in omega (arith, rest)

-- each slot's answer is taken
pub each_ok : (l : Learned) (from : ℕ) (b : Ballot) (slot : ℕ) (commands : List Command) → is_refused l from b slot commands ≡ false
    → (place : ℕ) (c : Command) → slice_get commands place ≡ Some c → IsOk (answer_to l from b (slot + place) c)
unfolding is_refused
each_ok l from b slot [] h place c e = let low = in_row [] place c e in absurd (omega (arith, low))
each_ok l from b slot (d ∷ more) h zero c e =
    let here : slot ≡ slot + 0 = omega arith in
    subst (λ (s : ℕ). IsOk (answer_to l from b s c)) here (subst (λ (x : Command). IsOk (answer_to l from b slot x)) (same_command d c e) (taken_by (answer_to l from b slot d) (is_refused l from b (slot + 1) more) h).0)
each_ok l from b slot (d ∷ more) h (suc place) c e =
    at_place l from b slot place c (each_ok l from b (slot + 1) more (taken_by (answer_to l from b slot d) (is_refused l from b (slot + 1) more) h).1 place c e)

pub none_refused : (l : Learned) (from : ℕ) (b : Ballot) (slot : ℕ) (commands : List Command)
    → ((place : ℕ) (c : Command) → slice_get commands place ≡ Some c → IsOk (answer_to l from b (slot + place) c)) → is_refused l from b slot commands ≡ false
unfolding is_refused
none_refused l from b slot [] all = refl
none_refused l from b slot (d ∷ more) all =
    let here : slot + 0 ≡ slot = omega arith in
    let ok = subst (λ (s : ℕ). IsOk (answer_to l from b s d)) here (all 0 d refl) in
    rw (err_not (answer_to l from b slot d) ok) (none_refused l from b (slot + 1) more (λ place c e.
    let next : slot + suc place ≡ slot + 1 + place = omega arith in subst (λ (s : ℕ). IsOk (answer_to l from b s c)) next (all (suc place) c e)))

refused_or : (x : Bool) (marks : List Bool) → IsOk (let r : Result (List Bool) SlotFault = if x then Err Conflict else Ok marks in r) → x ≡ false
refused_or true marks h = absurd (cc)
refused_or false marks h = refl

pub run_ok : (l : Learned) (from : ℕ) (b : Ballot) (slot : ℕ) (commands : List Command) → IsOk (answer_to_run l from b slot commands) → is_refused l from b slot commands ≡ false
run_ok l from b slot commands h = refused_or (is_refused l from b slot commands) (chosen_each l from b slot commands ++ replicate _ false) h

run_taken : (l : Learned) (from : ℕ) (b : Ballot) (slot : ℕ) (commands : List Command) → is_refused l from b slot commands ≡ false → IsOk (answer_to_run l from b slot commands)
run_taken l from b slot commands h = rw h refl

pub refused_by_one : (l : Learned) (from : ℕ) (b : Ballot) (slot : ℕ) (commands : List Command)
    → IsOk (answer_to_run l from b slot commands) ↔ ((place : ℕ) (c : Command) → slice_get commands place ≡ Some c → IsOk (answer_to l from b (slot + place) c))
refused_by_one l from b slot commands = (
  λ ok. each_ok l from b slot commands (run_ok l from b slot commands ok),
  λ all. run_taken l from b slot commands (none_refused l from b slot commands all),
)

unchanged_by : (l after : Learned) (x : Bool) (marks : List Bool) → ¬ IsOk (let r : Result (List Bool) SlotFault = if x then Err Conflict else Ok marks in r) → (if x then l else after) ≡ l
unchanged_by l after true marks h = refl
unchanged_by l after false marks h = absurd (h refl)

pub refused_is_unchanged : (l : Learned) (from : ℕ) (b : Ballot) (slot : ℕ) (commands : List Command) → ¬ IsOk (answer_to_run l from b slot commands) → hearing_run l from b slot commands ≡ l
refused_is_unchanged l from b slot commands h = unchanged_by l (hearing_each l from b slot commands) (is_refused l from b slot commands) _ h

pub one_is_an_answer : (l : Learned) (from : ℕ) (b : Ballot) (slot : ℕ) (c : Command) → hearing_run l from b slot (c ∷ []) ≡ hearing l from b slot c
unfolding hearing_each is_refused
one_is_an_answer l from b slot c = by (answer_to l from b slot c) refl
  where
    by : (r : Result (Option Chosen) SlotFault) → answer_to l from b slot c ≡ r → (if (if is_err r then true else false) then l else hearing l from b slot c) ≡ hearing l from b slot c
    by (Ok a) e = refl
    by (Err f) e = sym (refused_same l from b slot c f e)

-- what was heard where it isn't refused
heard_is : (l : Learned) (from : ℕ) (b : Ballot) (slot : ℕ) (commands : List Command) → is_refused l from b slot commands ≡ false
    → hearing_run l from b slot commands ≡ hearing_each l from b slot commands
heard_is l from b slot commands h = rw h refl

-- ---- nodes

nodes_each : (l : Learned) (from : ℕ) (b : Ballot) (slot : ℕ) (commands : List Command) → (hearing_each l from b slot commands).nodes ≡ l.nodes
unfolding hearing_each
nodes_each l from b slot [] = refl
nodes_each l from b slot (c ∷ more) = nodes_each (hearing l from b slot c) from b (slot + 1) more ∙ (nodes_stay l from b slot c).0

pub run_nodes_stay : (l : Learned) (from : ℕ) (b : Ballot) (slot : ℕ) (commands : List Command) → (hearing_run l from b slot commands).nodes ≡ l.nodes
run_nodes_stay l from b slot commands = by (is_refused l from b slot commands)
  where
    by : (x : Bool) → (let r : Learned = if x then l else hearing_each l from b slot commands in r.nodes) ≡ l.nodes
    by true = refl
    by false = nodes_each l from b slot commands

-- ---- messages

-- of fewer messages all are counted too
fewer : (came other : List Message) (l : Learned) → ((m : Message) → In m other → In m came) → CountsAll came l → CountsAll other l
fewer came other l sub all = record {
  cells = all.cells;
  few = all.few;
  places = all.places;
  within = λ node b slot c m. all.within node b slot c (sub _ m);
  counted = λ node b slot c is opens m. all.counted node b slot c is opens (sub _ m);
}

-- an answer for a slot that the front has passed is none that has to be counted
passed_counts : (came : List Message) (l : Learned) (from : ℕ) (b : Ballot) (slot : ℕ) (c : Command) → slot < front l.log → CountsAll came l → CountsAll (Accepted from b slot c ∷ came) l
passed_counts came l from b slot c passed all = record {
  cells = all.cells;
  few = all.few;
  places = all.places;
  within = λ node ballot other d m. elim m [
    | inl same ↦ let one : other ≡ slot = cc in omega (arith, one, passed)
    | inr older ↦ all.within node ballot other d older
  ];
  counted = λ node ballot other d is opens m. elim m [
    | inl same ↦ let one : other ≡ slot = cc in let reached = opens.reached in absurd (omega (arith, one, passed, reached))
    | inr older ↦ all.counted node ballot other d is opens older
  ];
}

in_open : (log : Log) (from : ℕ) (b : Ballot) (slot : ℕ) (commands : List Command) (m : Message) → In m (open_answers log from b slot commands) → In m (answers from b slot commands)
in_open log from b slot [] m among = among
in_open log from b slot (c ∷ more) m among = by (is_open log slot) among (λ k. in_open log from b (slot + 1) more m k)
  where
    by : (x : Bool) → In m (if x then Accepted from b slot c ∷ open_answers log from b (slot + 1) more else open_answers log from b (slot + 1) more)
        → (In m (open_answers log from b (slot + 1) more) → In m (answers from b (slot + 1) more)) → In m (Accepted from b slot c ∷ answers from b (slot + 1) more)
    by true (inl same) rest = inl same
    by true (inr later) rest = inr (rest later)
    by false later rest = inr (rest later)

-- ---- what is counted

module _ (goes : FrontsGoOn) where
  counts_each : (messages : List Message) (l : Learned) (from : ℕ) (b : Ballot) (slot : ℕ) (commands : List Command)
      → ((m : Message) → In m (answers from b slot commands) → In m messages) → CountsFrom messages l → CountsFrom messages (hearing_each l from b slot commands)
  unfolding hearing_each
  counts_each messages l from b slot [] came counts = counts
  counts_each messages l from b slot (c ∷ more) came counts =
      counts_each messages (hearing l from b slot c) from b (slot + 1) more (λ m k. came m (inr k))
      (answer_counts goes messages l from b slot c (came (Accepted from b slot c) (inl refl)) counts)

  pub run_counts : (messages : List Message) (l : Learned) (from : ℕ) (b : Ballot) (slot : ℕ) (commands : List Command)
      → ((m : Message) → In m (answers from b slot commands) → In m messages) → CountsFrom messages l → CountsFrom messages (hearing_run l from b slot commands)
  run_counts messages l from b slot commands came counts = by (is_refused l from b slot commands)
    where
      by : (x : Bool) → CountsFrom messages (if x then l else hearing_each l from b slot commands)
      by true = counts
      by false = counts_each messages l from b slot commands came counts

module _ (goes : FrontsGoOn) (known_more : OneMoreIsKnown) (hole : FrontIsFirstHole) (first : Log) (from : ℕ) (b : Ballot) where
  -- for those slots that were open at first, the answer is taken
  abbrev AreTaken : Learned → ℕ → List Command → Type 0
  AreTaken l slot [] = Unit {0}
  AreTaken l slot (c ∷ more) = (IsOpen first slot → IsOk (answer_to l from b slot c)) × AreTaken l (slot + 1) more

  taken_first : (l : Learned) (slot : ℕ) (commands : List Command) → is_refused l from b slot commands ≡ false → AreTaken l slot commands
  unfolding is_refused
  taken_first l slot [] h = tt
  taken_first l slot (c ∷ more) h =
      let parts = taken_by (answer_to l from b slot c) (is_refused l from b (slot + 1) more) h in (λ opens. parts.0, taken_first l (slot + 1) more parts.1)

  -- and stays so once a slot before them was heard
  taken_still : (l : Learned) (slot at : ℕ) (c : Command) (commands : List Command) → IsLog l.log → front first ≤ front l.log → slot < at → at + length commands ≤ slot + WINDOW
      → AreTaken l at commands → AreTaken (hearing l from b slot c) at commands
  taken_still l slot at c [] log on above below taken = tt
  taken_still l slot at c (d ∷ more) log on above below taken = (
    λ opens. let within = opens.within in ok_elsewhere goes known_more hole l from b slot at c d log (λ same. omega (arith, same, above, below)) (omega (arith, within, on)) (taken.0 opens),
    taken_still l slot (at + 1) c more log on (omega (arith, above)) (omega (arith, below)) taken.1,
  )

  moved_over : (os came : List Message) (m x : Message) → In x ((m ∷ os) ++ came) → In x (os ++ m ∷ came)
  moved_over os came m x among = elim among [
    | inl same ↦ in_later os (m ∷ came) x (inl same)
    | inr later ↦ elim (in_split os came x later) [ inl there ↦ in_first os (m ∷ came) x there | inr older ↦ in_later os (m ∷ came) x (inr older) ]
  ]

  -- one slot heard, whose answer has to be counted where the slot was open at first
  one_heard : (came : List Message) (l : Learned) (slot : ℕ) (c : Command) → from < l.nodes → front first ≤ front l.log → (IsOpen first slot → IsOk (answer_to l from b slot c)) → CountsAll came l
      → (x : Bool) → is_open first slot ≡ x → CountsAll (if x then Accepted from b slot c ∷ came else came) (hearing l from b slot c)
  one_heard came l slot c is on taken all true ex = by (is_open l.log slot) refl
    where
      opened : IsOpen first slot
      opened = open_means first slot ex

      by : (w : Bool) → is_open l.log slot ≡ w → CountsAll (Accepted from b slot c ∷ came) (hearing l from b slot c)
      by true ew = answer_counts_all goes came l from b slot c is (open_means l.log slot ew) (taken opened) all
      by false ew = passed (below_or_not slot (front l.log))
        where
          below_or_not : (a k : ℕ) → (a < k) ⊎ (k ≤ a)
          below_or_not a k = grind arith

          passed : (slot < front l.log) ⊎ (front l.log ≤ slot) → CountsAll (Accepted from b slot c ∷ came) (hearing l from b slot c)
          passed (inl below) = subst (CountsAll (Accepted from b slot c ∷ came)) (sym (hearing_shut l from b slot c ew)) (passed_counts came l from b slot c below all)
          passed (inr reached) =
              let within = opened.within in
              let still = open_is l.log slot (record { reached = reached; within = omega (arith, within, on); is_slot = opened.is_slot }) in absurd (true≢false (sym still ∙ ew))
  one_heard came l slot c is on taken all false ex = by (is_open l.log slot) (answer_to l from b slot c) refl refl
    where
      by : (w : Bool) (r : Result (Option Chosen) SlotFault) → is_open l.log slot ≡ w → answer_to l from b slot c ≡ r → CountsAll came (hearing l from b slot c)
      by false r ew er = subst (CountsAll came) (sym (hearing_shut l from b slot c ew)) all
      by true (Ok a) ew er = fewer (Accepted from b slot c ∷ came) came (hearing l from b slot c) (λ m k. inr k) (answer_counts_all goes came l from b slot c is (open_means l.log slot ew) (ap is_ok er) all)
      by true (Err f) ew er = subst (CountsAll came) (sym (refused_same l from b slot c f er)) all

  all_each : (came : List Message) (l : Learned) (slot : ℕ) (commands : List Command) → IsLog l.log → from < l.nodes → front first ≤ front l.log → length commands ≤ WINDOW
      → AreTaken l slot commands → CountsAll came l → CountsAll (open_answers first from b slot commands ++ came) (hearing_each l from b slot commands)
  unfolding hearing_each
  all_each came l slot [] log is on most taken all = all
  all_each came l slot (c ∷ more) log is on most taken all =
      let goes_on : front first ≤ front (hearing l from b slot c).log = (let step = front_heard goes known_more hole l from b slot c in omega (arith, step, on)) in
      let still = taken_still l slot (slot + 1) c more log on (omega arith) (omega (arith, most)) taken.1 in
      by (is_open first slot) (one_heard came l slot c is on taken.0 all (is_open first slot) refl)
      (λ others counted. all_each others (hearing l from b slot c) (slot + 1) more (is_log_heard goes known_more hole l from b slot c log)
      (subst (λ (n : ℕ). from < n) (sym (nodes_stay l from b slot c).0) is) goes_on (omega (arith, most)) still counted)
    where
      by : (x : Bool) → CountsAll (if x then Accepted from b slot c ∷ came else came) (hearing l from b slot c)
          → ((others : List Message) → CountsAll others (hearing l from b slot c) → CountsAll (open_answers first from b (slot + 1) more ++ others) (hearing_each (hearing l from b slot c) from b (slot + 1) more))
          → CountsAll ((if x then Accepted from b slot c ∷ open_answers first from b (slot + 1) more else open_answers first from b (slot + 1) more) ++ came) (hearing_each (hearing l from b slot c) from b (slot + 1) more)
      by true one rest =
          fewer (open_answers first from b (slot + 1) more ++ Accepted from b slot c ∷ came) ((Accepted from b slot c ∷ open_answers first from b (slot + 1) more) ++ came) (hearing_each (hearing l from b slot c) from b (slot + 1) more)
          (λ x among. moved_over (open_answers first from b (slot + 1) more) came (Accepted from b slot c) x among) (rest (Accepted from b slot c ∷ came) one)
      by false one rest = rest came one

-- ---- the whole of a command run

module _ (goes : FrontsGoOn) (known_more : OneMoreIsKnown) (hole : FrontIsFirstHole) where
  pub run_counts_all : (came : List Message) (l : Learned) (from : ℕ) (b : Ballot) (slot : ℕ) (commands : List Command)
      → IsLog l.log → from < l.nodes → length commands ≤ WINDOW → IsOk (answer_to_run l from b slot commands)
      → CountsAll came l → CountsAll (open_answers l.log from b slot commands ++ came) (hearing_run l from b slot commands)
  run_counts_all came l from b slot commands log is most ok all =
      let none = run_ok l from b slot commands ok in
      subst (CountsAll (open_answers l.log from b slot commands ++ came)) (sym (heard_is l from b slot commands none))
      (all_each goes known_more hole l.log from b came l slot commands log is (omega arith) most (taken_first goes known_more hole l.log from b l slot commands none) all)

  -- ---- what is chosen

  tells_by : (l : Learned) (from : ℕ) (b : Ballot) (slot : ℕ) (c : Command) (x y : Bool) → is_open l.log slot ≡ x → completes l from b slot c ≡ y
      → tells (if not x then Ok None else if not y then Ok None else chosen_in l.log slot c) ≡ true → IsOpen l.log slot × (completes l from b slot c ≡ true)
  tells_by l from b slot c false y ex ey h = absurd (let clash : false ≡ true = h in cc)
  tells_by l from b slot c true false ex ey h = absurd (let clash : false ≡ true = h in cc)
  tells_by l from b slot c true true ex ey h = (open_means l.log slot ex, ey)

  told_each : (messages : List Message) (l : Learned) (from : ℕ) (b : Ballot) (slot : ℕ) (commands : List Command) (behind : List Bool) (place : ℕ) (c : Command)
      → CountsFrom messages l → ((m : Message) → In m (answers from b slot commands) → In m messages)
      → slice_get commands place ≡ Some c → slice_get (chosen_each l from b slot commands ++ behind) place ≡ Some true → IsChosenIn l.nodes messages b (slot + place) c
  unfolding chosen_each
  told_each messages l from b slot [] behind zero c counts came e t = absurd (cc)
  told_each messages l from b slot [] behind (suc place) c counts came e t = absurd (cc)
  told_each messages l from b slot (d ∷ more) behind zero c counts came e t =
      let same : d ≡ c = same_command d c e in
      let tells_it : tells (answer_to l from b slot d) ≡ true = cc in
      let shown = tells_by l from b slot d (is_open l.log slot) (completes l from b slot d) refl refl tells_it in
      let here : slot ≡ slot + 0 = omega arith in
      subst (λ (s : ℕ). IsChosenIn l.nodes messages b s c) here (subst (λ (x : Command). IsChosenIn l.nodes messages b slot x) same
      (completed_is_chosen messages l from b slot d counts (came (Accepted from b slot d) (inl refl)) shown.0 shown.1))
  told_each messages l from b slot (d ∷ more) behind (suc place) c counts came e t =
      let next : slot + 1 + place ≡ slot + suc place = omega arith in
      subst (λ (s : ℕ). IsChosenIn l.nodes messages b s c) next (subst (λ (n : ℕ). IsChosenIn n messages b (slot + 1 + place) c) (nodes_stay l from b slot d).0
      (told_each messages (hearing l from b slot d) from b (slot + 1) more behind place c
      (answer_counts goes messages l from b slot d (came (Accepted from b slot d) (inl refl)) counts) (λ m k. came m (inr k)) e t))

  told_by : (x : Bool) (marks told : List Bool) → (let r : Result (List Bool) SlotFault = if x then Err Conflict else Ok marks in r) ≡ Ok told → marks ≡ told
  told_by true marks told h = absurd (cc)
  told_by false marks told h = cc

  pub told_is_chosen : (messages : List Message) (l : Learned) (from : ℕ) (b : Ballot) (slot : ℕ) (commands : List Command) (told : List Bool) (place : ℕ) (c : Command)
      → CountsFrom messages l → ((m : Message) → In m (answers from b slot commands) → In m messages)
      → answer_to_run l from b slot commands ≡ Ok told → slice_get commands place ≡ Some c → slice_get told place ≡ Some true
      → IsChosenIn l.nodes messages b (slot + place) c
  told_is_chosen messages l from b slot commands told place c counts came h e t =
      let marks = told_by (is_refused l from b slot commands) _ told h in
      told_each messages l from b slot commands _ place c counts came e (ap (λ (xs : List Bool). slice_get xs place) marks ∙ t)

  -- ---- what is known

  stays_each : (l : Learned) (from : ℕ) (b : Ballot) (slot : ℕ) (commands : List Command) (other : ℕ) (k : Command) → IsLog l.log → known_at l.log other ≡ Some k
      → known_at (hearing_each l from b slot commands).log other ≡ Some k
  unfolding hearing_each
  stays_each l from b slot [] other k log known = known
  stays_each l from b slot (c ∷ more) other k log known =
      stays_each (hearing l from b slot c) from b (slot + 1) more other k (is_log_heard goes known_more hole l from b slot c log) (known_stays goes known_more hole l from b slot other c k log known)

  below_each : (l : Learned) (from : ℕ) (b : Ballot) (slot : ℕ) (commands : List Command) (other : ℕ) → IsLog l.log → other < slot
      → known_at (hearing_each l from b slot commands).log other ≡ known_at l.log other
  unfolding hearing_each
  below_each l from b slot [] other log below = refl
  below_each l from b slot (c ∷ more) other log below =
      below_each (hearing l from b slot c) from b (slot + 1) more other (is_log_heard goes known_more hole l from b slot c log) (omega (arith, below))
      ∙ known_elsewhere goes known_more hole l from b slot other c log (λ same. omega (arith, same, below))

  -- at each of its slots is known what would be, were it heard alone
  known_alone : (l : Learned) (from : ℕ) (b : Ballot) (slot : ℕ) (commands : List Command) (place : ℕ) (c : Command) → IsLog l.log → length commands ≤ WINDOW
      → slice_get commands place ≡ Some c → slot + place < front l.log + WINDOW
      → known_at (hearing_each l from b slot commands).log (slot + place) ≡ known_at (hearing l from b (slot + place) c).log (slot + place)
  unfolding hearing_each
  known_alone l from b slot [] zero c log most e within = absurd (cc)
  known_alone l from b slot [] (suc place) c log most e within = absurd (cc)
  known_alone l from b slot (d ∷ more) zero c log most e within =
      let here : slot ≡ slot + 0 = omega arith in
      subst (λ (s : ℕ). known_at (hearing_each (hearing l from b slot d) from b (slot + 1) more).log s ≡ known_at (hearing l from b s c).log s) here
      (below_each (hearing l from b slot d) from b (slot + 1) more slot (is_log_heard goes known_more hole l from b slot d log) (omega arith)
      ∙ ap (λ (x : Command). known_at (hearing l from b slot x).log slot) (same_command d c e))
  known_alone l from b slot (d ∷ more) (suc place) c log most e within =
      let low = in_row more place c e in
      let next : slot + 1 + place ≡ slot + suc place = omega arith in
      let on = front_heard goes known_more hole l from b slot d in
      subst (λ (s : ℕ). known_at (hearing_each (hearing l from b slot d) from b (slot + 1) more).log s ≡ known_at (hearing l from b s c).log s) next
      (known_alone (hearing l from b slot d) from b (slot + 1) more place c (is_log_heard goes known_more hole l from b slot d log) (omega (arith, most)) e (omega (arith, within, on))
      ∙ known_alike goes known_more hole l from b slot (slot + 1 + place) d c log (λ same. omega (arith, same, most, low)) (omega (arith, within)))

  -- an answer among those of a command run
  record IsAmong (log : Log) (b d : Ballot) (slot t : ℕ) (commands : List Command) (e : Command) : Type 0 where
    pub place : ℕ
    pub ballot : d ≡ b
    pub slot_is : t ≡ slot + place
    pub command : slice_get commands place ≡ Some e
    pub opened : is_open log t ≡ true

  record IsApart (log : Log) (from : ℕ) (b d : Ballot) (slot t : ℕ) (commands : List Command) (e : Command) : Type 0 where
    pub apart : (k : ℕ) → In (Accepted k d t e) (open_answers log from b slot commands) → ⊥

  among_by : (log : Log) (from : ℕ) (b d : Ballot) (slot t : ℕ) (c : Command) (more : List Command) (e : Command) (x : Bool) → is_open log slot ≡ x
      → IsOne b d slot t c e ⊎ IsOther b d slot t c e → IsAmong log b d (slot + 1) t more e ⊎ IsApart log from b d (slot + 1) t more e
      → IsAmong log b d slot t (c ∷ more) e ⊎ ((k : ℕ) → In (Accepted k d t e) (if x then Accepted from b slot c ∷ open_answers log from b (slot + 1) more else open_answers log from b (slot + 1) more) → ⊥)
  among_by log from b d slot t c more e x ex here (inl later) =
      inl (record { place = suc later.place; ballot = later.ballot; slot_is = later.slot_is ∙ omega arith; command = later.command; opened = later.opened })
  among_by log from b d slot t c more e true ex (inl one) (inr none) =
      inl (record { place = 0; ballot = one.ballot; slot_is = one.slot ∙ omega arith; command = ap Some (sym one.command); opened = ap (is_open log) one.slot ∙ ex })
  among_by log from b d slot t c more e true ex (inr other) (inr none) = inr (λ k m. elim m [ inl same ↦ other.differs k from same | inr later ↦ none.apart k later ])
  among_by log from b d slot t c more e false ex here (inr none) = inr (λ k m. none.apart k m)

  among : (log : Log) (from : ℕ) (b d : Ballot) (slot t : ℕ) (commands : List Command) (e : Command) → IsAmong log b d slot t commands e ⊎ IsApart log from b d slot t commands e
  among log from b d slot t [] e = inr (record { apart = λ k m. m })
  among log from b d slot t (c ∷ more) e =
      elim (among_by log from b d slot t c more e (is_open log slot) refl (one_or b d slot t c e) (among log from b d (slot + 1) t more e)) [ inl there ↦ inl there | inr none ↦ inr (record { apart = none }) ]

  sender_by : (log : Log) (from k : ℕ) (b : Ballot) (slot t : ℕ) (commands : List Command) (d : Ballot) (e : Command) → In (Accepted k d t e) (open_answers log from b slot commands) → k ≡ from
  sender_by log from k b slot t [] d e m = absurd m
  sender_by log from k b slot t (c ∷ more) d e m = by (is_open log slot) m (λ later. sender_by log from k b (slot + 1) t more d e later)
    where
      by : (x : Bool) → In (Accepted k d t e) (if x then Accepted from b slot c ∷ open_answers log from b (slot + 1) more else open_answers log from b (slot + 1) more)
          → (In (Accepted k d t e) (open_answers log from b (slot + 1) more) → k ≡ from) → k ≡ from
      by true (inl same) rest = cc
      by true (inr later) rest = rest later
      by false later rest = rest later

  module _ (came : List Message) (l : Learned) (from : ℕ) (b : Ballot) (slot : ℕ) (commands : List Command)
      (log : IsLog l.log) (is : from < l.nodes) (most : length commands ≤ WINDOW) (none : is_refused l from b slot commands ≡ false)
      (counts : CountsFrom came l) (all : CountsAll came l) (knows : KnowsChosen came l) where
    -- chosen with the answer for one of its slots
    known_among : (d : Ballot) (t : ℕ) (e : Command) → IsAmong l.log b d slot t commands e → IsChosenIn l.nodes (open_answers l.log from b slot commands ++ came) d t e
        → known_at (hearing_each l from b slot commands).log t ≡ Some e
    known_among d t e there chosen =
        let opens = open_means l.log t there.opened in
        let ok : IsOk (answer_to l from b t e) = subst (λ (s : ℕ). IsOk (answer_to l from b s e)) (sym there.slot_is) (each_ok l from b slot commands none there.place e there.command) in
        let voted : IsChosenIn l.nodes (Accepted from b t e ∷ came) b t e = (
          chosen.0,
          chosen.1,
          λ node below votes. elim (in_split (open_answers l.log from b slot commands) came (Accepted node b t e) (subst (λ (y : Ballot). In (Accepted node y t e) (open_answers l.log from b slot commands ++ came)) there.ballot (chosen.2 node below votes))) [
            | inl own ↦ inl (ap (λ (k : ℕ). Accepted k b t e) (sender_by l.log from node b slot t commands b e own))
            | inr older ↦ inr older
          ],
        ) in
        let single : known_at (hearing l from b t e).log t ≡ Some e =
        answers_are_known known_more came l from b t e log opens is ok counts all knows b t e
        (subst (λ (n : ℕ). IsChosenIn n (Accepted from b t e ∷ came) b t e) (sym (nodes_stay l from b t e).0) voted) in
        let within = opens.within in
        let at = there.slot_is in
        let alone = known_alone l from b slot commands there.place e log most there.command (omega (arith, within, at)) in
        subst (λ (s : ℕ). known_at (hearing_each l from b slot commands).log s ≡ known_at (hearing l from b s e).log s) (sym at) alone ∙ single

    known_each : (d : Ballot) (t : ℕ) (e : Command) → IsChosenIn l.nodes (open_answers l.log from b slot commands ++ came) d t e
        → known_at (hearing_each l from b slot commands).log t ≡ Some e
    known_each d t e chosen = elim (among l.log from b d slot t commands e) [
      | inl there ↦ known_among d t e there chosen
      | inr apart ↦
          stays_each l from b slot commands t e log (knows d t e (
            chosen.0,
            chosen.1,
            λ node below votes. elim (in_split (open_answers l.log from b slot commands) came (Accepted node d t e) (chosen.2 node below votes)) [
              | inl own ↦ absurd (apart.apart node own)
              | inr older ↦ older
            ],
          ))
    ]

  pub runs_are_known : (came : List Message) (l : Learned) (from : ℕ) (b : Ballot) (slot : ℕ) (commands : List Command)
      → IsLog l.log → from < l.nodes → length commands ≤ WINDOW → IsOk (answer_to_run l from b slot commands)
      → CountsFrom came l → CountsAll came l → KnowsChosen came l
      → KnowsChosen (open_answers l.log from b slot commands ++ came) (hearing_run l from b slot commands)
  runs_are_known came l from b slot commands log is most ok counts all knows d t e chosen =
      let none = run_ok l from b slot commands ok in
      let heard = heard_is l from b slot commands none in
      let nodes = ap (λ (x : Learned). x.nodes) heard ∙ nodes_each l from b slot commands in
      ap (λ (x : Learned). known_at x.log t) heard
      ∙ known_each came l from b slot commands log is most none counts all knows d t e (subst (λ (n : ℕ). IsChosenIn n (open_answers l.log from b slot commands ++ came) d t e) nodes chosen)
