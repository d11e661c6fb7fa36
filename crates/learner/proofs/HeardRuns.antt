-- Answers for the slots of a command run, as a loop counts them.
use Rattle.std.proofs.Common.{◌≡◌, ℕ, zero, suc, ◌+◌, ◌-◌, ◌<◌, ◌≤◌, Bool, true, false, List, [], ◌∷◌, ◌++◌, length, take, drop, get_or, set, replicate, refl, sym, ap, ◌∙◌, arith, append_assoc, if◌then◌else◌, not}
use Rattle.std.specs.Prelude.{Option, Some, None, Result, Ok, Err, is_err, nat_lt}
use Rattle.std.proofs.lemmas.List.{drop_more, drop_all, take_more_set, take-append-drop, append-nil, replicate-append-replicate}
use Rattle.std.proofs.lemmas.Bool.{le-ltb}
use Rattle.paxos_wire.specs.declared.limits.TheConstants.{WINDOW}
use Rattle.paxos_wire.specs.declared.ballot.Ballot.{Ballot}
use Rattle.slot_log.specs.declared.limits.TheConstants.{SLOTS}
use Rattle.slot_log.specs.declared.command.Command.{Command}
use Rattle.slot_log.specs.declared.slot_fault.SlotFault.{SlotFault}
use Rattle.slot_log.specs.declared.slot_fault.SlotFault.TheVariants.{Conflict}
use Rattle.slot_log.specs.Slots.{Log, front, known_at}
use Rattle.learner.specs.declared.chosen.Chosen.{Chosen}
use Rattle.learner.specs.Learning.{Learned, is_open, is_other, completes, answer_to, hearing}
use Rattle.learner.specs.CommandRuns.{hearing_each, tells, chosen_each, is_refused, hearing_run, answer_to_run}

-- ---- one slot more

module _ (from : ℕ) (ballot : Ballot) (slot : ℕ) (commands : List Command) (place : ℕ) (c : Command) (low : place < length commands) (is : c ≡ get_or commands place c) where
  in_front : drop place commands ≡ c ∷ drop (place + 1) commands
  in_front = drop_more commands place c low ∙ ap (λ (d : Command). d ∷ drop (place + 1) commands) (sym is)

  behind : slot + place + 1 ≡ slot + (place + 1)
  behind = omega arith

  pub refused_step : (l : Learned) → is_refused l from ballot (slot + place) (drop place commands)
      ≡ (if is_err (answer_to l from ballot (slot + place) c) then true else is_refused l from ballot (slot + (place + 1)) (drop (place + 1) commands))
  unfolding is_refused
  refused_step l =
      ap (λ (cs : List Command). is_refused l from ballot (slot + place) cs) in_front
      ∙ ap (λ (s : ℕ). if is_err (answer_to l from ballot (slot + place) c) then true else is_refused l from ballot s (drop (place + 1) commands)) behind

  pub refused_here : (l : Learned) (total : Bool) → is_err (answer_to l from ballot (slot + place) c) ≡ true → is_refused l from ballot (slot + place) (drop place commands) ≡ total → true ≡ total
  refused_here l total error so_far =
      sym (ap (λ (x : Bool). if x then true else is_refused l from ballot (slot + (place + 1)) (drop (place + 1) commands)) error) ∙ sym (refused_step l) ∙ so_far

  pub refused_later : (l : Learned) (total : Bool) → is_err (answer_to l from ballot (slot + place) c) ≡ false → is_refused l from ballot (slot + place) (drop place commands) ≡ total
      → is_refused l from ballot (slot + (place + 1)) (drop (place + 1) commands) ≡ total
  refused_later l total fine so_far =
      sym (ap (λ (x : Bool). if x then true else is_refused l from ballot (slot + (place + 1)) (drop (place + 1) commands)) fine) ∙ sym (refused_step l) ∙ so_far

  pub heard_step : (l : Learned) → hearing_each l from ballot (slot + place) (drop place commands)
      ≡ hearing_each (hearing l from ballot (slot + place) c) from ballot (slot + (place + 1)) (drop (place + 1) commands)
  unfolding hearing_each
  heard_step l =
      ap (λ (cs : List Command). hearing_each l from ballot (slot + place) cs) in_front
      ∙ ap (λ (s : ℕ). hearing_each (hearing l from ballot (slot + place) c) from ballot s (drop (place + 1) commands)) behind

  pub chosen_step : (l : Learned) → chosen_each l from ballot (slot + place) (drop place commands)
      ≡ tells (answer_to l from ballot (slot + place) c) ∷ chosen_each (hearing l from ballot (slot + place) c) from ballot (slot + (place + 1)) (drop (place + 1) commands)
  unfolding chosen_each
  chosen_step l =
      ap (λ (cs : List Command). chosen_each l from ballot (slot + place) cs) in_front
      ∙ ap (λ (s : ℕ). tells (answer_to l from ballot (slot + place) c) ∷ chosen_each (hearing l from ballot (slot + place) c) from ballot s (drop (place + 1) commands)) behind

-- ---- the end

module _ (l : Learned) (from : ℕ) (ballot : Ballot) (slot : ℕ) (commands : List Command) (place : ℕ) (end : length commands ≤ place) where
  pub refused_end : is_refused l from ballot slot (drop place commands) ≡ false
  unfolding is_refused
  refused_end = ap (λ (cs : List Command). is_refused l from ballot slot cs) (drop_all place commands end)

  pub heard_end : hearing_each l from ballot slot (drop place commands) ≡ l
  unfolding hearing_each
  heard_end = ap (λ (cs : List Command). hearing_each l from ballot slot cs) (drop_all place commands end)

  pub chosen_end : chosen_each l from ballot slot (drop place commands) ≡ []
  unfolding chosen_each
  chosen_end = ap (λ (cs : List Command). chosen_each l from ballot slot cs) (drop_all place commands end)

-- ---- marks by place

drop_set : (xs : List Bool) (i : ℕ) (x : Bool) → drop (suc i) (set xs i x) ≡ drop (suc i) xs
drop_set [] i x = refl
drop_set (y ∷ ys) zero x = refl
drop_set (y ∷ ys) (suc i) x = drop_set ys i x

drop_tail : (xs : List Bool) (i : ℕ) (y : Bool) (ys : List Bool) → drop i xs ≡ y ∷ ys → drop (suc i) xs ≡ ys
drop_tail [] zero y ys e = absurd (cc)
drop_tail [] (suc i) y ys e = absurd (cc)
drop_tail (x ∷ xs) zero y ys e = cc
drop_tail (x ∷ xs) (suc i) y ys e = drop_tail xs i y ys e

pub rest_unmarked : (marks : List Bool) (place : ℕ) (mark : Bool) → place < WINDOW → drop place marks ≡ replicate (WINDOW - place) false
    → drop (place + 1) (set marks place mark) ≡ replicate (WINDOW - (place + 1)) false
rest_unmarked marks place mark low rest =
    let next : place + 1 ≡ suc place = omega arith in
    let more : WINDOW - place ≡ suc (WINDOW - (place + 1)) = omega (arith, low) in
    let now : drop place marks ≡ false ∷ replicate (WINDOW - (place + 1)) false = rest ∙ ap (λ (k : ℕ). replicate k false) more in
    ap (λ (k : ℕ). drop k (set marks place mark)) next ∙ drop_set marks place mark ∙ drop_tail marks place false (replicate (WINDOW - (place + 1)) false) now

pub mark_step : (marks : List Bool) (place : ℕ) (mark : Bool) (rest whole total : List Bool) → place < length marks → whole ≡ mark ∷ rest → take place marks ++ whole ≡ total
    → take (place + 1) (set marks place mark) ++ rest ≡ total
mark_step marks place mark rest whole total low is so_far =
    ap (λ (front : List Bool). front ++ rest) (take_more_set marks place mark low)
    ∙ append_assoc (take place marks) (mark ∷ []) rest
    ∙ ap (λ (xs : List Bool). take place marks ++ xs) (sym is)
    ∙ so_far

pub marks_end : (marks : List Bool) (place many : ℕ) (rest total : List Bool) → place ≡ many → rest ≡ [] → take place marks ++ rest ≡ total → drop place marks ≡ replicate (WINDOW - place) false
    → marks ≡ total ++ replicate (WINDOW - many) false
marks_end marks place many rest total end none so_far behind =
    sym (take-append-drop place marks)
    ∙ ap (λ (front : List Bool). front ++ drop place marks) (sym (append-nil (take place marks)) ∙ ap (λ (xs : List Bool). take place marks ++ xs) (sym none) ∙ so_far)
    ∙ ap (λ (xs : List Bool). total ++ xs) (behind ∙ ap (λ (k : ℕ). replicate (WINDOW - k) false) end)

-- ---- slots that there aren't

shut_by : (below within low : Bool) → low ≡ false → (if below then false else if within then low else false) ≡ false
shut_by true within low e = refl
shut_by false true low e = e
shut_by false false low e = refl

shut_past : (log : Log) (slot : ℕ) → SLOTS ≤ slot → is_open log slot ≡ false
shut_past log slot past = shut_by (nat_lt slot (front log)) (nat_lt slot (front log + WINDOW)) (nat_lt slot SLOTS) (le-ltb slot SLOTS past)

pub answer_shut : (l : Learned) (from : ℕ) (ballot : Ballot) (slot : ℕ) (c : Command) → is_open l.log slot ≡ false → answer_to l from ballot slot c ≡ Ok None
answer_shut l from ballot slot c shut = rw shut refl

pub hearing_shut : (l : Learned) (from : ℕ) (ballot : Ballot) (slot : ℕ) (c : Command) → is_open l.log slot ≡ false → hearing l from ballot slot c ≡ l
hearing_shut l from ballot slot c shut = rw shut refl

refused_past : (l : Learned) (from : ℕ) (ballot : Ballot) (slot : ℕ) (commands : List Command) → SLOTS ≤ slot → is_refused l from ballot slot commands ≡ false
unfolding is_refused
refused_past l from ballot slot [] past = refl
refused_past l from ballot slot (c ∷ more) past =
    ap (λ (r : Result (Option Chosen) SlotFault). if is_err r then true else is_refused l from ballot (slot + 1) more) (answer_shut l from ballot slot c (shut_past l.log slot past))
    ∙ refused_past l from ballot (slot + 1) more (omega (arith, past))

heard_past : (l : Learned) (from : ℕ) (ballot : Ballot) (slot : ℕ) (commands : List Command) → SLOTS ≤ slot → hearing_each l from ballot slot commands ≡ l
unfolding hearing_each
heard_past l from ballot slot [] past = refl
heard_past l from ballot slot (c ∷ more) past =
    ap (λ (x : Learned). hearing_each x from ballot (slot + 1) more) (hearing_shut l from ballot slot c (shut_past l.log slot past))
    ∙ heard_past l from ballot (slot + 1) more (omega (arith, past))

chosen_past : (l : Learned) (from : ℕ) (ballot : Ballot) (slot : ℕ) (commands : List Command) → SLOTS ≤ slot → chosen_each l from ballot slot commands ≡ replicate (length commands) false
unfolding chosen_each
chosen_past l from ballot slot [] past = refl
chosen_past l from ballot slot (c ∷ more) past =
    ap (λ (r : Result (Option Chosen) SlotFault). tells r ∷ chosen_each (hearing l from ballot slot c) from ballot (slot + 1) more) (answer_shut l from ballot slot c (shut_past l.log slot past))
    ∙ ap (λ (x : Learned). false ∷ chosen_each x from ballot (slot + 1) more) (hearing_shut l from ballot slot c (shut_past l.log slot past))
    ∙ ap (λ (xs : List Bool). false ∷ xs) (chosen_past l from ballot (slot + 1) more (omega (arith, past)))

pub answer_past : (l : Learned) (from : ℕ) (ballot : Ballot) (slot : ℕ) (commands : List Command) → SLOTS ≤ slot → length commands ≤ WINDOW
    → Ok (replicate WINDOW false) ≡ answer_to_run l from ballot slot commands
answer_past l from ballot slot commands past most =
    let all : length commands + (WINDOW - length commands) ≡ WINDOW = omega (arith, most) in
    let marks : chosen_each l from ballot slot commands ++ replicate (WINDOW - length commands) false ≡ replicate WINDOW false =
    ap (λ (xs : List Bool). xs ++ replicate (WINDOW - length commands) false) (chosen_past l from ballot slot commands past)
    ∙ replicate-append-replicate (length commands) (WINDOW - length commands) false
    ∙ ap (λ (k : ℕ). replicate k false) all in
    rw (refused_past l from ballot slot commands past) (ap Ok (sym marks))

pub hearing_past : (l : Learned) (from : ℕ) (ballot : Ballot) (slot : ℕ) (commands : List Command) → SLOTS ≤ slot → l ≡ hearing_run l from ballot slot commands
hearing_past l from ballot slot commands past = rw (refused_past l from ballot slot commands past) (sym (heard_past l from ballot slot commands past))

-- ---- a refused answer changes nothing

same_by : (l counted known : Learned) (some : Option Chosen) (fault error : SlotFault) (opened complete other : Bool)
    → (if not opened then Ok None else if not complete then Ok None else (if other then Err error else Ok some)) ≡ Err fault
    → (if not opened then l else if not complete then counted else (if other then l else known)) ≡ l
same_by l counted known some fault error false complete other e = refl
same_by l counted known some fault error true false other e = absurd (let clash : Ok None ≡ Err fault = e in cc)
same_by l counted known some fault error true true true e = refl
same_by l counted known some fault error true true false e = absurd (let clash : Ok some ≡ Err fault = e in cc)

pub refused_same : (l : Learned) (from : ℕ) (ballot : Ballot) (slot : ℕ) (c : Command) (fault : SlotFault) → answer_to l from ballot slot c ≡ Err fault → hearing l from ballot slot c ≡ l
refused_same l from ballot slot c fault e = same_by l _ _ _ fault _ (is_open l.log slot) (completes l from ballot slot c) (is_other (known_at l.log slot) c) e
