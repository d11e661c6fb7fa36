-- A slot of a command run is heard as if it were alone: what is heard at another slot changes neither what was counted of it nor what is known there.
use Rattle.std.proofs.Common.{ℕ, zero, suc, ◌≡◌, ◌≢◌, ◌<◌, ◌≤◌, ◌+◌, ◌%◌, ◌⊎◌, inl, inr, Bool, true, false, true≢false, not, List, [], ◌∷◌, Option, Some, None, Result, Ok, Err, refl, sym, ◌∙◌, ap, subst, arith, ◌==◌, if◌then◌else◌, length, get_or-set_other}
use Rattle.std.specs.Prelude.{is_none, is_ok, is_err, IsOk, IsSome, slice_get}
use Rattle.std.proofs.lemmas.Bool.{eq-eqb}
use Rattle.std.proofs.lemmas.Bool.Decides.{eqb_tells}
use Rattle.paxos_wire.specs.declared.limits.TheConstants.{WINDOW}
use Rattle.paxos_wire.specs.declared.ballot.Ballot.{Ballot}
use Rattle.slot_log.specs.declared.limits.TheConstants.{SLOTS}
use Rattle.slot_log.specs.declared.command.Command.{Command}
use Rattle.slot_log.specs.declared.slot_fault.SlotFault.{SlotFault}
use Rattle.slot_log.specs.declared.slot_fault.SlotFault.TheVariants.{Conflict}
use Rattle.slot_log.specs.Slots.{Log, IsLog, front, known_at, with_command}
use Rattle.slot_log.specs.SlotLaws.{FrontIsFirstHole, OneMoreIsKnown, FrontsGoOn}
use Rattle.learner.specs.declared.tally.Tally.{Tally}
use Rattle.learner.specs.declared.chosen.Chosen.{Chosen}
use Rattle.learner.specs.Tallies.{nodes_for, is_completed}
use Rattle.learner.specs.Learning.{Learned, is_open, is_other, tallies_at, known_with, knowing, counting, completes, answer_to, hearing}
use Rattle.learner.specs.Counted.{IsOpen}
use Rattle.learner.specs.CommandRuns.{hearing_each, is_refused}
use Rattle.learner.proofs.Kept.{open_means, open_is, front_stays, moved_at, nodes_stay}
use Rattle.learner.proofs.Known.{known_after}
use Rattle.learner.proofs.HeardRuns.{answer_shut, hearing_shut}

module _ (goes : FrontsGoOn) (more : OneMoreIsKnown) (hole : FrontIsFirstHole) where
  -- ---- what is heard at a slot

  log_by : (l : Learned) (from : ℕ) (b : Ballot) (slot : ℕ) (c : Command) (x y z : Bool) → is_open l.log slot ≡ x → IsLog l.log
      → IsLog (let r : Learned = if not x then l else if not y then counting l from b slot c else if z then l else knowing (counting l from b slot c) slot c in r.log)
  log_by l from b slot c false y z ex log = log
  log_by l from b slot c true false z ex log = log
  log_by l from b slot c true true true ex log = log
  log_by l from b slot c true true false ex log = put (known_at l.log slot) refl
    where
      put : (o : Option Command) → known_at l.log slot ≡ o → IsLog (if is_none o then with_command l.log slot c else l.log)
      put None e = (more l.log slot c log (open_means l.log slot ex).is_slot e).0
      put (Some d) e = log

  -- it stays a log
  pub is_log_heard : (l : Learned) (from : ℕ) (b : Ballot) (slot : ℕ) (c : Command) → IsLog l.log → IsLog (hearing l from b slot c).log
  is_log_heard l from b slot c log = log_by l from b slot c _ _ _ refl log

  front_by : (l : Learned) (from : ℕ) (b : Ballot) (slot : ℕ) (c : Command) (x y z : Bool)
      → front l.log ≤ front (let r : Learned = if not x then l else if not y then counting l from b slot c else if z then l else knowing (counting l from b slot c) slot c in r.log)
  front_by l from b slot c false y z = omega arith
  front_by l from b slot c true false z = omega arith
  front_by l from b slot c true true true = omega arith
  front_by l from b slot c true true false = front_stays goes l.log slot c

  -- whose front never goes back
  pub front_heard : (l : Learned) (from : ℕ) (b : Ballot) (slot : ℕ) (c : Command) → front l.log ≤ front (hearing l from b slot c).log
  front_heard l from b slot c = front_by l from b slot c _ _ _

  -- what is known at a slot once an answer for it was heard, by what it was before
  abbrev known_then : Bool → Bool → Option Command → Command → Option Command
  known_then opened complete known c =
      if not opened then known else if not complete then known else if is_other known c then known else (if is_none known then Some c else known)

  at_by : (log : Log) (slot : ℕ) (c : Command) → IsLog log → slot < SLOTS → (o : Option Command) → known_at log slot ≡ o
      → known_at (if is_none o then with_command log slot c else log) slot ≡ (if is_none o then Some c else o)
  at_by log slot c is below None e = (more log slot c is below e).1 slot ∙ rw (eq-eqb slot slot refl) refl
  at_by log slot c is below (Some d) e = e

  here_by : (l : Learned) (from : ℕ) (b : Ballot) (slot : ℕ) (c : Command) (x y z : Bool) → is_open l.log slot ≡ x → IsLog l.log
      → known_at (let r : Learned = if not x then l else if not y then counting l from b slot c else if z then l else knowing (counting l from b slot c) slot c in r.log) slot
      ≡ (if not x then known_at l.log slot else if not y then known_at l.log slot else if z then known_at l.log slot else (if is_none (known_at l.log slot) then Some c else known_at l.log slot))
  here_by l from b slot c false y z ex log = refl
  here_by l from b slot c true false z ex log = refl
  here_by l from b slot c true true true ex log = refl
  here_by l from b slot c true true false ex log = at_by l.log slot c log (open_means l.log slot ex).is_slot (known_at l.log slot) refl

  known_here : (l : Learned) (from : ℕ) (b : Ballot) (slot : ℕ) (c : Command) → IsLog l.log
      → known_at (hearing l from b slot c).log slot ≡ known_then (is_open l.log slot) (completes l from b slot c) (known_at l.log slot) c
  known_here l from b slot c log = here_by l from b slot c (is_open l.log slot) (completes l from b slot c) (is_other (known_at l.log slot) c) refl log

  apart_by : (log : Log) (slot other : ℕ) (c : Command) → IsLog log → slot < SLOTS → other ≢ slot → (o : Option Command) → known_at log slot ≡ o
      → known_at (if is_none o then with_command log slot c else log) other ≡ known_at log other
  apart_by log slot other c is below differs None e = elim (eqb_tells other slot) [
    | inl same ↦ absurd (differs same.1)
    | inr ne ↦ (more log slot c is below e).1 other ∙ rw ne.0 refl
  ]
  apart_by log slot other c is below differs (Some d) e = refl

  elsewhere_by : (l : Learned) (from : ℕ) (b : Ballot) (slot other : ℕ) (c : Command) (x y z : Bool) → is_open l.log slot ≡ x → IsLog l.log → other ≢ slot
      → known_at (let r : Learned = if not x then l else if not y then counting l from b slot c else if z then l else knowing (counting l from b slot c) slot c in r.log) other ≡ known_at l.log other
  elsewhere_by l from b slot other c false y z ex log differs = refl
  elsewhere_by l from b slot other c true false z ex log differs = refl
  elsewhere_by l from b slot other c true true true ex log differs = refl
  elsewhere_by l from b slot other c true true false ex log differs = apart_by l.log slot other c log (open_means l.log slot ex).is_slot differs (known_at l.log slot) refl

  -- at another slot is known what was
  pub known_elsewhere : (l : Learned) (from : ℕ) (b : Ballot) (slot other : ℕ) (c : Command) → IsLog l.log → other ≢ slot
      → known_at (hearing l from b slot c).log other ≡ known_at l.log other
  known_elsewhere l from b slot other c log differs = elsewhere_by l from b slot other c _ _ _ refl log differs

  stays_by : (l : Learned) (from : ℕ) (b : Ballot) (slot other : ℕ) (c k : Command) (x y z : Bool) → is_open l.log slot ≡ x → IsLog l.log → known_at l.log other ≡ Some k
      → known_at (let r : Learned = if not x then l else if not y then counting l from b slot c else if z then l else knowing (counting l from b slot c) slot c in r.log) other ≡ Some k
  stays_by l from b slot other c k false y z ex log known = known
  stays_by l from b slot other c k true false z ex log known = known
  stays_by l from b slot other c k true true true ex log known = known
  stays_by l from b slot other c k true true false ex log known = known_after more l.log slot c other k log (open_means l.log slot ex).is_slot known

  -- and what was known stays
  pub known_stays : (l : Learned) (from : ℕ) (b : Ballot) (slot other : ℕ) (c k : Command) → IsLog l.log → known_at l.log other ≡ Some k
      → known_at (hearing l from b slot c).log other ≡ Some k
  known_stays l from b slot other c k log known = stays_by l from b slot other c k _ _ _ refl log known

  -- ---- an open slot of another cell

  cell_by : (l : Learned) (from : ℕ) (b : Ballot) (slot other : ℕ) (c : Command) (x y z : Bool) → other % WINDOW ≢ slot % WINDOW → other < front l.log + WINDOW
      → IsOpen (let r : Learned = if not x then l else if not y then counting l from b slot c else if z then l else knowing (counting l from b slot c) slot c in r.log) other
      → tallies_at (let r : Learned = if not x then l else if not y then counting l from b slot c else if z then l else knowing (counting l from b slot c) slot c in r.cells) other
      ≡ tallies_at l.cells other
  cell_by l from b slot other c false y z differs within opens = refl
  cell_by l from b slot other c true false z differs within opens = get_or-set_other l.cells (slot % WINDOW) (other % WINDOW) _ [] differs
  cell_by l from b slot other c true true true differs within opens = refl
  cell_by l from b slot other c true true false differs within opens =
      elim (moved_at (counting l from b slot c) (known_with l.log slot c) other (front_stays goes l.log slot c) opens) [
        | inl same ↦ same.1 ∙ get_or-set_other l.cells (slot % WINDOW) (other % WINDOW) _ [] differs
        | inr beyond ↦ let high = beyond.0 in absurd (omega (arith, high, within))
      ]

  cell_elsewhere : (l : Learned) (from : ℕ) (b : Ballot) (slot other : ℕ) (c : Command) → other % WINDOW ≢ slot % WINDOW → other < front l.log + WINDOW
      → IsOpen (hearing l from b slot c).log other → tallies_at (hearing l from b slot c).cells other ≡ tallies_at l.cells other
  cell_elsewhere l from b slot other c differs within opens = cell_by l from b slot other c _ _ _ differs within opens

  -- it was open before
  was_open : (l : Learned) (from : ℕ) (b : Ballot) (slot other : ℕ) (c : Command) → other < front l.log + WINDOW
      → IsOpen (hearing l from b slot c).log other → IsOpen l.log other
  was_open l from b slot other c within opens =
      let on = front_heard l from b slot c in
      let reached = opens.reached in record { reached = omega (arith, on, reached); within = within; is_slot = opens.is_slot }

  completes_elsewhere : (l : Learned) (from : ℕ) (b : Ballot) (slot other : ℕ) (c d : Command) → other % WINDOW ≢ slot % WINDOW → other < front l.log + WINDOW
      → IsOpen (hearing l from b slot c).log other → completes (hearing l from b slot c) from b other d ≡ completes l from b other d
  completes_elsewhere l from b slot other c d differs within opens =
      ap (λ (n : ℕ). is_completed n (nodes_for b d (tallies_at (hearing l from b slot c).cells other)) from) (nodes_stay l from b slot c).0
      ∙ ap (λ (ts : List Tally). is_completed l.nodes (nodes_for b d ts) from) (cell_elsewhere l from b slot other c differs within opens)

  differ : (slot other : ℕ) → other % WINDOW ≢ slot % WINDOW → other ≢ slot
  differ slot other differs same = differs (ap (λ (k : ℕ). k % WINDOW) same)

  ok_shut : (l : Learned) (from : ℕ) (b : Ballot) (slot : ℕ) (c : Command) → is_open l.log slot ≡ false → IsOk (answer_to l from b slot c)
  ok_shut l from b slot c shut = ap is_ok (answer_shut l from b slot c shut)

  -- an answer for it that isn't refused isn't refused then either
  pub ok_elsewhere : (l : Learned) (from : ℕ) (b : Ballot) (slot other : ℕ) (c d : Command) → IsLog l.log → other % WINDOW ≢ slot % WINDOW → other < front l.log + WINDOW
      → IsOk (answer_to l from b other d) → IsOk (answer_to (hearing l from b slot c) from b other d)
  ok_elsewhere l from b slot other c d log differs within ok = by (is_open (hearing l from b slot c).log other) refl
    where
      by : (x : Bool) → is_open (hearing l from b slot c).log other ≡ x → IsOk (answer_to (hearing l from b slot c) from b other d)
      by false e = ok_shut (hearing l from b slot c) from b other d e
      by true e =
          let opens = open_means (hearing l from b slot c).log other e in
          let before = open_is l.log other (was_open l from b slot other c within opens) in
          let same : answer_to (hearing l from b slot c) from b other d ≡ answer_to l from b other d =
          rw (e, before, completes_elsewhere l from b slot other c d differs within opens, known_elsewhere l from b slot other c log (differ slot other differs)) refl in
          ap is_ok same ∙ ok

  some_is : (o : Option Command) → IsSome o → (d : Command) × (o ≡ Some d)
  some_is (Some d) h = (d, refl)
  some_is None h = absurd (cc)

  then_known : (x y : Bool) (k c : Command) → known_then x y (Some k) c ≡ Some k
  then_known false y k c = refl
  then_known true false k c = refl
  then_known true true k c = by (is_other (Some k) c)
    where
      by : (z : Bool) → (if z then Some k else Some k) ≡ Some k
      by true = refl
      by false = refl

  -- and what is known there once it is heard is the same
  pub known_alike : (l : Learned) (from : ℕ) (b : Ballot) (slot other : ℕ) (c d : Command) → IsLog l.log → other % WINDOW ≢ slot % WINDOW → other < front l.log + WINDOW
      → known_at (hearing (hearing l from b slot c) from b other d).log other ≡ known_at (hearing l from b other d).log other
  known_alike l from b slot other c d log differs within =
      known_here (hearing l from b slot c) from b other d (is_log_heard l from b slot c log)
      ∙ by (is_open (hearing l from b slot c).log other) (is_open l.log other) refl refl
      ∙ sym (known_here l from b other d log)
    where
      same : known_at (hearing l from b slot c).log other ≡ known_at l.log other
      same = known_elsewhere l from b slot other c log (differ slot other differs)

      passed : is_open (hearing l from b slot c).log other ≡ false → is_open l.log other ≡ true → other < front (hearing l from b slot c).log
      passed shut opened = below (open_means l.log other opened) (below_or_not other (front (hearing l from b slot c).log))
        where
          below_or_not : (a k : ℕ) → (a < k) ⊎ (k ≤ a)
          below_or_not a k = grind arith

          below : IsOpen l.log other → (other < front (hearing l from b slot c).log) ⊎ (front (hearing l from b slot c).log ≤ other) → other < front (hearing l from b slot c).log
          below opens (inl yes_below) = yes_below
          below opens (inr reached) =
              let on = front_heard l from b slot c in
              let still = open_is (hearing l from b slot c).log other (record { reached = reached; within = omega (arith, on, within); is_slot = opens.is_slot }) in
              absurd (true≢false (sym still ∙ shut))

      by : (x w : Bool) → is_open (hearing l from b slot c).log other ≡ x → is_open l.log other ≡ w
          → known_then x (completes (hearing l from b slot c) from b other d) (known_at (hearing l from b slot c).log other) d ≡ known_then w (completes l from b other d) (known_at l.log other) d
      by true true ex ew =
          let opens = open_means (hearing l from b slot c).log other ex in
          ap (λ (y : Bool). known_then true y (known_at (hearing l from b slot c).log other) d) (completes_elsewhere l from b slot other c d differs within opens)
          ∙ ap (λ (o : Option Command). known_then true (completes l from b other d) o d) same
      by true false ex ew =
          let before = open_is l.log other (was_open l from b slot other c within (open_means (hearing l from b slot c).log other ex)) in absurd (true≢false (sym before ∙ ew))
      by false false ex ew = same
      by false true ex ew =
          let there = some_is (known_at (hearing l from b slot c).log other) ((hole (hearing l from b slot c).log (is_log_heard l from b slot c log)).0 other (passed ex ew)) in
          let here : known_at l.log other ≡ Some there.0 = sym same ∙ there.1 in
          same ∙ here ∙ sym (then_known true (completes l from b other d) there.0 d) ∙ ap (λ (o : Option Command). known_then true (completes l from b other d) o d) (sym here)
