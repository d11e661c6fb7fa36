-- What is counted came, and what came while its slot was open is counted, from the beginning on.
use Rattle.std.proofs.Common.{ℕ, zero, suc, ◌≡◌, ◌≢◌, ◌<◌, ◌≤◌, ◌+◌, ◌-◌, ◌%◌, ◌⊎◌, inl, inr, Bool, true, false, not, List, [], ◌∷◌, ◌++◌, Option, Some, None, Result, Ok, Err, refl, sym, ◌∙◌, ap, subst, arith, ◌==◌, if◌then◌else◌, length, get_or, set, replicate, length-set, length-append, get_or-set_same, get_or-set_other}
use Rattle.std.specs.Prelude.{nat_lt, is_none, IsOk}
use Rattle.std.proofs.lemmas.Bool.{ltb-true, ltb-false, lt-ltb, le-ltb}
use Rattle.std.proofs.lemmas.Bool.Decides.{eqb_tells}
use Rattle.paxos_wire.specs.declared.limits.TheConstants.{NODES, WINDOW}
use Rattle.paxos_wire.specs.declared.ballot.Ballot.{Ballot}
use Rattle.slot_log.specs.declared.limits.TheConstants.{SLOTS}
use Rattle.slot_log.specs.declared.command.Command.{Command}
use Rattle.slot_log.specs.declared.slot_fault.SlotFault.{SlotFault}
use Rattle.slot_log.specs.declared.slot_fault.SlotFault.TheVariants.{Conflict}
use Rattle.slot_log.specs.Slots.{Log, front, known_at, with_command}
use Rattle.slot_log.specs.SlotLaws.{FrontsGoOn}
use Rattle.protocol_model.specs.Sets.{In}
use Rattle.protocol_model.specs.Messages.{Message, Accepted}
use Rattle.learner.specs.declared.tally.Tally.{Tally}
use Rattle.learner.specs.declared.chosen.Chosen.{Chosen}
use Rattle.learner.specs.Tallies.{has, no_nodes, is_of, nodes_for, with_node}
use Rattle.learner.specs.Learning.{Learned, new_learned, is_open, tallies_at, answers_at, known_with, moved, knowing, counting, answer_to, hearing, believing}
use Rattle.learner.specs.Counted.{IsOpen, CountsFrom, CountsAll}
use Rattle.learner.proofs.Counting.{IsTallied, nobody, one_more, places_for, is_of_means, is_of_if}
use Rattle.learner.proofs.Cells.{emptied_length, emptied_at, emptied_other, emptied_or}

-- ---- open slots

open_by : (log : Log) (slot : ℕ) (x y z : Bool) → nat_lt slot (front log) ≡ x → nat_lt slot (front log + WINDOW) ≡ y → nat_lt slot SLOTS ≡ z
    → (if x then false else if y then z else false) ≡ true → IsOpen log slot
open_by log slot true y z ex ey ez h = absurd (cc)
open_by log slot false true true ex ey ez h = record { reached = ltb-false slot (front log) ex; within = ltb-true slot (front log + WINDOW) ey; is_slot = ltb-true slot SLOTS ez }
open_by log slot false true false ex ey ez h = absurd (cc)
open_by log slot false false z ex ey ez h = absurd (cc)

pub open_means : (log : Log) (slot : ℕ) → is_open log slot ≡ true → IsOpen log slot
open_means log slot h = open_by log slot _ _ _ refl refl refl h

pub open_is : (log : Log) (slot : ℕ) → IsOpen log slot → is_open log slot ≡ true
open_is log slot opens = rw (le-ltb slot (front log) opens.reached, lt-ltb slot (front log + WINDOW) opens.within) (lt-ltb slot SLOTS opens.is_slot)

-- two open slots of one cell are the same
one_of_a_cell : (log : Log) (slot other : ℕ) → IsOpen log slot → IsOpen log other → other % WINDOW ≡ slot % WINDOW → other ≡ slot
one_of_a_cell log slot other a b same =
    let ar = a.reached in let aw = a.within in let br = b.reached in let bw = b.within in omega arith

-- ---- the front moves on

known_front : FrontsGoOn → (log : Log) (slot : ℕ) (command : Command) → (x : Bool) → front log ≤ front (if x then with_command log slot command else log)
known_front goes log slot command true =
    let on = goes log slot command in
    let e : front (with_command log slot command) ≡ length (on.0 ++ log.below) = ap length on.1 in
    omega (arith, e, length-append on.0 log.below)
known_front goes log slot command false = omega arith

pub front_stays : FrontsGoOn → (log : Log) (slot : ℕ) (command : Command) → front log ≤ front (known_with log slot command)
front_stays goes log slot command = known_front goes log slot command (is_none (known_at log slot))

-- an open slot's cell is as it was, where the slot was open, and else it is empty
pub moved_at : (l : Learned) (log : Log) (slot : ℕ) → front l.log ≤ front log → IsOpen log slot
    → (IsOpen l.log slot × (tallies_at (moved l log).cells slot ≡ tallies_at l.cells slot))
    ⊎ ((front l.log + WINDOW ≤ slot) × (tallies_at (moved l log).cells slot ≡ []))
moved_at l log slot on opens = by_case (nat_lt slot (front l.log + WINDOW)) refl
  where
    reached : front log ≤ slot
    reached = opens.reached

    within : slot < front log + WINDOW
    within = opens.within

    by_case : (x : Bool) → nat_lt slot (front l.log + WINDOW) ≡ x
        → (IsOpen l.log slot × (tallies_at (moved l log).cells slot ≡ tallies_at l.cells slot))
        ⊎ ((front l.log + WINDOW ≤ slot) × (tallies_at (moved l log).cells slot ≡ []))
    by_case true e =
        let low = ltb-true slot (front l.log + WINDOW) e in
        inl (
          record { reached = omega arith; within = low; is_slot = opens.is_slot },
          emptied_other (front l.log) (front log - front l.log) (slot % WINDOW) l.cells (λ k below same. omega arith),
        )
    by_case false e =
        let high = ltb-false slot (front l.log + WINDOW) e in
        inr (
          high,
          emptied_at (front l.log) (front log - front l.log) (slot - WINDOW - front l.log) (slot % WINDOW) l.cells (omega arith) (omega arith),
        )

pub counts_moved : (messages : List Message) (l : Learned) (log : Log) → front l.log ≤ front log → CountsFrom messages l → CountsFrom messages (moved l log)
counts_moved messages l log on counts slot tally opens among node h = elim (moved_at l log slot on opens) [
  | inl same ↦ counts slot tally same.0 (subst (λ (ts : List Tally). In tally ts) same.1 among) node h
  | inr none ↦ let no : ⊥ = subst (λ (ts : List Tally). In tally ts) none.1 among in absurd no
]

pub all_moved : (came : List Message) (l : Learned) (log : Log) → front l.log ≤ front log → CountsAll came l → CountsAll came (moved l log)
all_moved came l log on all = record {
  cells = emptied_length (front l.log) (front log - front l.log) l.cells ∙ all.cells;
  few = all.few;
  places = λ slot tally among. elim (emptied_or (front l.log) (front log - front l.log) (slot % WINDOW) l.cells) [
    | inl same ↦ all.places slot tally (subst (λ (ts : List Tally). In tally ts) same among)
    | inr none ↦ let no : ⊥ = subst (λ (ts : List Tally). In tally ts) none among in absurd no
  ];
  within = λ node ballot slot command m. let w = all.within node ballot slot command m in omega arith;
  counted = λ node ballot slot command below opens m. elim (moved_at l log slot on opens) [
    | inl same ↦ ap (λ (ts : List Tally). has (nodes_for ballot command ts) node) same.1 ∙ all.counted node ballot slot command below same.0 m
    | inr none ↦ let w = all.within node ballot slot command m in let high = none.0 in absurd (omega arith)
  ];
}

-- ---- one more answer

-- what a changed place has is what was put there, or there is no such place
set_in : (cells : List (List Tally)) (place : ℕ) (ts : List Tally) (tally : Tally) → In tally (get_or (set cells place ts) place []) → In tally ts
set_in [] place ts tally m = absurd m
set_in (cell ∷ cells) zero ts tally m = m
set_in (cell ∷ cells) (suc place) ts tally m = set_in cells place ts tally m

-- a tally after one more answer is one from before, or that of the answer
pub record IsAnswered (b : Ballot) (c : Command) (from : ℕ) (ts : List Tally) (tally : Tally) : Type 0 where
  pub ballot : tally.ballot ≡ b
  pub command : tally.command ≡ c
  pub nodes : (node : ℕ) → has tally.nodes node ≡ true → (node ≡ from) ⊎ IsTallied b c ts node

later : (b : Ballot) (c : Command) (t : Tally) (ts : List Tally) (node : ℕ) → IsTallied b c ts node → IsTallied b c (t ∷ ts) node
later b c t ts node r = record { tally = r.tally; among = inr r.among; ballot = r.ballot; command = r.command; counted = r.counted }

answered_by : (b : Ballot) (c : Command) (from : ℕ) (t : Tally) (ts : List Tally) (tally : Tally) (x : Bool) → is_of b c t ≡ x
    → In tally (if x then record t { nodes = set t.nodes from true } ∷ ts else t ∷ with_node b c from ts)
    → (In tally (with_node b c from ts) → In tally ts ⊎ IsAnswered b c from ts tally)
    → In tally (t ∷ ts) ⊎ IsAnswered b c from (t ∷ ts) tally
answered_by b c from t ts tally true e (inl same) rest =
    let is = is_of_means b c t e in
    inr (record {
      ballot = ap (λ (u : Tally). u.ballot) same ∙ is.0;
      command = ap (λ (u : Tally). u.command) same ∙ is.1;
      nodes = λ node h. elim (one_more t.nodes from node (ap (λ (u : Tally). has u.nodes node) (sym same) ∙ h)) [
        | inl new ↦ inl new
        | inr was ↦ inr (record { tally = t; among = inl refl; ballot = is.0; command = is.1; counted = was })
      ];
    })
answered_by b c from t ts tally true e (inr older) rest = inl (inr older)
answered_by b c from t ts tally false e (inl same) rest = inl (inl same)
answered_by b c from t ts tally false e (inr m) rest = elim (rest m) [
  | inl older ↦ inl (inr older)
  | inr a ↦ inr (record { ballot = a.ballot; command = a.command; nodes = λ node h. elim (a.nodes node h) [ inl new ↦ inl new | inr was ↦ inr (later b c t ts node was) ] })
]

answered : (b : Ballot) (c : Command) (from : ℕ) (ts : List Tally) (tally : Tally) → In tally (with_node b c from ts) → In tally ts ⊎ IsAnswered b c from ts tally
answered b c from [] tally (inl same) = inr (record {
  ballot = ap (λ (u : Tally). u.ballot) same;
  command = ap (λ (u : Tally). u.command) same;
  nodes = λ node h. elim (one_more no_nodes from node (ap (λ (u : Tally). has u.nodes node) (sym same) ∙ h)) [ inl new ↦ inl new | inr none ↦ absurd (nobody node none) ];
})
answered b c from [] tally (inr none) = absurd none
answered b c from (t ∷ ts) tally m = answered_by b c from t ts tally (is_of b c t) refl m (answered b c from ts tally)

pub counts_counting : (messages : List Message) (l : Learned) (from : ℕ) (b : Ballot) (slot : ℕ) (c : Command) → IsOpen l.log slot
    → In (Accepted from b slot c) messages → CountsFrom messages l → CountsFrom messages (counting l from b slot c)
counts_counting messages l from b slot c opens came counts other tally is among node h = by_case (eqb_tells (other % WINDOW) (slot % WINDOW))
  where
    of_answer : IsAnswered b c from (tallies_at l.cells slot) tally → In (Accepted node tally.ballot slot tally.command) messages
    of_answer a =
        subst (λ (x : Command). In (Accepted node tally.ballot slot x) messages) (sym a.command)
        (subst (λ (x : Ballot). In (Accepted node x slot c) messages) (sym a.ballot) (elim (a.nodes node h) [
          | inl new ↦ subst (λ (k : ℕ). In (Accepted k b slot c) messages) (sym new) came
          | inr was ↦
              subst (λ (x : Command). In (Accepted node b slot x) messages) was.command
              (subst (λ (x : Ballot). In (Accepted node x slot was.tally.command) messages) was.ballot (counts slot was.tally opens was.among node was.counted))
        ]))

    by_case : ((other % WINDOW == slot % WINDOW) ≡ true) × (other % WINDOW ≡ slot % WINDOW) ⊎ ((other % WINDOW == slot % WINDOW) ≡ false) × (other % WINDOW ≢ slot % WINDOW)
        → In (Accepted node tally.ballot other tally.command) messages
    by_case (inl same) =
        let one : other ≡ slot = one_of_a_cell l.log slot other opens is same.1 in
        let there = subst (λ (p : ℕ). In tally (get_or (set l.cells (slot % WINDOW) (with_node b c from (tallies_at l.cells slot))) p [])) same.1 among in
        subst (λ (s : ℕ). In (Accepted node tally.ballot s tally.command) messages) (sym one)
        (elim (answered b c from (tallies_at l.cells slot) tally (set_in l.cells (slot % WINDOW) _ tally there)) [
          | inl older ↦ counts slot tally opens older node h
          | inr a ↦ of_answer a
        ])
    by_case (inr ne) = counts other tally is (subst (λ (ts : List Tally). In tally ts) (get_or-set_other l.cells (slot % WINDOW) (other % WINDOW) _ [] ne.1) among) node h

-- ---- and what came stays counted

marked : (nodes : List Bool) (from node : ℕ) → has nodes node ≡ true → has (set nodes from true) node ≡ true
marked [] from node h = h
marked (x ∷ xs) zero zero h = refl
marked (x ∷ xs) zero (suc node) h = h
marked (x ∷ xs) (suc from) zero h = h
marked (x ∷ xs) (suc from) (suc node) h = marked xs from node h

same_tally : (b : Ballot) (c : Command) (t : Tally) (nodes : List Bool) → is_of b c (record t { nodes = nodes }) ≡ is_of b c t
unfolding is_of
same_tally b c t nodes = refl

keeps_by : (b d : Ballot) (c e : Command) (from node : ℕ) (t : Tally) (ts : List Tally) (x y : Bool) → is_of b c t ≡ x → is_of d e t ≡ y
    → has (if y then t.nodes else nodes_for d e ts) node ≡ true
    → (has (nodes_for d e ts) node ≡ true → has (nodes_for d e (with_node b c from ts)) node ≡ true)
    → has (nodes_for d e (if x then record t { nodes = set t.nodes from true } ∷ ts else t ∷ with_node b c from ts)) node ≡ true
keeps_by b d c e from node t ts true true ex ey h rest = rw (same_tally d e t (set t.nodes from true), ey) (marked t.nodes from node h)
keeps_by b d c e from node t ts true false ex ey h rest = rw (same_tally d e t (set t.nodes from true), ey) h
keeps_by b d c e from node t ts false true ex ey h rest = rw ey h
keeps_by b d c e from node t ts false false ex ey h rest = rw ey (rest h)

keeps : (b d : Ballot) (c e : Command) (from node : ℕ) (ts : List Tally) → has (nodes_for d e ts) node ≡ true → has (nodes_for d e (with_node b c from ts)) node ≡ true
keeps b d c e from node [] h = absurd (nobody node h)
keeps b d c e from node (t ∷ ts) h = keeps_by b d c e from node t ts _ _ refl refl h (keeps b d c e from node ts)

adds_by : (b : Ballot) (c : Command) (from : ℕ) (t : Tally) (ts : List Tally) (x : Bool) → is_of b c t ≡ x
    → nodes_for b c (with_node b c from ts) ≡ set (nodes_for b c ts) from true
    → nodes_for b c (if x then record t { nodes = set t.nodes from true } ∷ ts else t ∷ with_node b c from ts) ≡ set (if x then t.nodes else nodes_for b c ts) from true
adds_by b c from t ts true ex rest = rw (same_tally b c t (set t.nodes from true), ex) refl
adds_by b c from t ts false ex rest = rw ex rest

fresh_by : (b : Ballot) (c : Command) (t : Tally) (x : Bool) → is_of b c t ≡ x → x ≡ true → nodes_for b c (t ∷ []) ≡ t.nodes
fresh_by b c t true ex h = rw ex refl
fresh_by b c t false ex h = absurd (cc)

pub adds : (b : Ballot) (c : Command) (from : ℕ) (ts : List Tally) → nodes_for b c (with_node b c from ts) ≡ set (nodes_for b c ts) from true
adds b c from [] = fresh_by b c (record { ballot = b; command = c; nodes = set no_nodes from true }) _ refl (is_of_if b c (record { ballot = b; command = c; nodes = set no_nodes from true }) refl refl)
adds b c from (t ∷ ts) = adds_by b c from t ts (is_of b c t) refl (adds b c from ts)

places_with_by : (b : Ballot) (c : Command) (from : ℕ) (t : Tally) (ts : List Tally) (x : Bool) → length t.nodes ≡ NODES
    → ((u : Tally) → In u ts → length u.nodes ≡ NODES) → ((u : Tally) → In u (with_node b c from ts) → length u.nodes ≡ NODES)
    → (u : Tally) → In u (if x then record t { nodes = set t.nodes from true } ∷ ts else t ∷ with_node b c from ts) → length u.nodes ≡ NODES
places_with_by b c from t ts true h old rest u (inl same) = ap (λ (v : Tally). length v.nodes) same ∙ length-set t.nodes from true ∙ h
places_with_by b c from t ts true h old rest u (inr m) = old u m
places_with_by b c from t ts false h old rest u (inl same) = ap (λ (v : Tally). length v.nodes) same ∙ h
places_with_by b c from t ts false h old rest u (inr m) = rest u m

places_with : (b : Ballot) (c : Command) (from : ℕ) (ts : List Tally) → ((u : Tally) → In u ts → length u.nodes ≡ NODES)
    → (u : Tally) → In u (with_node b c from ts) → length u.nodes ≡ NODES
places_with b c from [] h u (inl same) = ap (λ (v : Tally). length v.nodes) same ∙ length-set no_nodes from true
places_with b c from [] h u (inr none) = absurd none
places_with b c from (t ∷ ts) h u m = places_with_by b c from t ts (is_of b c t) (h t (inl refl)) (λ v k. h v (inr k)) (λ v k. places_with b c from ts (λ w i. h w (inr i)) v k) u m

pub all_counting : (came : List Message) (l : Learned) (from : ℕ) (b : Ballot) (slot : ℕ) (c : Command) → from < l.nodes → IsOpen l.log slot
    → CountsAll came l → CountsAll (Accepted from b slot c ∷ came) (counting l from b slot c)
all_counting came l from b slot c is opens all = record {
  cells = length-set l.cells (slot % WINDOW) _ ∙ all.cells;
  few = all.few;
  places = λ other tally among. elim (eqb_tells (other % WINDOW) (slot % WINDOW)) [
    | inl same ↦
        places_with b c from (tallies_at l.cells slot) (all.places slot) tally
        (set_in l.cells (slot % WINDOW) _ tally (subst (λ (p : ℕ). In tally (get_or new p [])) same.1 among))
    | inr ne ↦ all.places other tally (subst (λ (ts : List Tally). In tally ts) (get_or-set_other l.cells (slot % WINDOW) (other % WINDOW) _ [] ne.1) among)
  ];
  within = within;
  counted = counted;
}
  where
    new : List (List Tally)
    new = set l.cells (slot % WINDOW) (with_node b c from (tallies_at l.cells slot))

    here : tallies_at new slot ≡ with_node b c from (tallies_at l.cells slot)
    here = let cells = all.cells in get_or-set_same l.cells (slot % WINDOW) _ [] (omega arith)

    within : (node : ℕ) (ballot : Ballot) (other : ℕ) (command : Command) → In (Accepted node ballot other command) (Accepted from b slot c ∷ came) → other < front l.log + WINDOW
    within node ballot other command (inl same) = let one : other ≡ slot = cc in let w = opens.within in omega arith
    within node ballot other command (inr older) = all.within node ballot other command older

    counted : (node : ℕ) (ballot : Ballot) (other : ℕ) (command : Command) → node < l.nodes → IsOpen l.log other
        → In (Accepted node ballot other command) (Accepted from b slot c ∷ came) → has (nodes_for ballot command (tallies_at new other)) node ≡ true
    counted node ballot other command below at (inl same) =
        let one : other ≡ slot = cc in
        let eb : ballot ≡ b = cc in
        let ec : command ≡ c = cc in
        let en : node ≡ from = cc in
        let most = all.few in
        let room : from < length (answers_at l b slot c) = omega (arith, places_for b c (tallies_at l.cells slot) (all.places slot)) in
        subst (λ (s : ℕ). has (nodes_for ballot command (tallies_at new s)) node ≡ true) (sym one)
        (subst (λ (k : ℕ). has (nodes_for ballot command (tallies_at new slot)) k ≡ true) (sym en)
        (subst (λ (x : Ballot). has (nodes_for x command (tallies_at new slot)) from ≡ true) (sym eb)
        (subst (λ (x : Command). has (nodes_for b x (tallies_at new slot)) from ≡ true) (sym ec)
        (ap (λ (ts : List Tally). has (nodes_for b c ts) from) here
        ∙ ap (λ (ns : List Bool). has ns from) (adds b c from (tallies_at l.cells slot))
        ∙ get_or-set_same (answers_at l b slot c) from true false room))))
    counted node ballot other command below at (inr older) = elim (eqb_tells (other % WINDOW) (slot % WINDOW)) [
      | inl same ↦
          let one : other ≡ slot = one_of_a_cell l.log slot other opens at same.1 in
          let was = subst (λ (s : ℕ). has (answers_at l ballot s command) node ≡ true) one (all.counted node ballot other command below at older) in
          subst (λ (s : ℕ). has (nodes_for ballot command (tallies_at new s)) node ≡ true) (sym one)
          (ap (λ (ts : List Tally). has (nodes_for ballot command ts) node) here ∙ keeps b ballot c command from node (tallies_at l.cells slot) was)
      | inr ne ↦
          ap (λ (ts : List Tally). has (nodes_for ballot command ts) node) (get_or-set_other l.cells (slot % WINDOW) (other % WINDOW) _ [] ne.1)
          ∙ all.counted node ballot other command below at older
    ]

-- ---- the whole of a call

module _ (goes : FrontsGoOn) where
  counts_knowing : (messages : List Message) (l : Learned) (slot : ℕ) (c : Command) → CountsFrom messages l → CountsFrom messages (knowing l slot c)
  counts_knowing messages l slot c counts = counts_moved messages l (known_with l.log slot c) (front_stays goes l.log slot c) counts

  all_knowing : (came : List Message) (l : Learned) (slot : ℕ) (c : Command) → CountsAll came l → CountsAll came (knowing l slot c)
  all_knowing came l slot c all = all_moved came l (known_with l.log slot c) (front_stays goes l.log slot c) all

  heard_by : (messages : List Message) (l : Learned) (from : ℕ) (b : Ballot) (slot : ℕ) (c : Command) (x y z : Bool) → is_open l.log slot ≡ x
      → In (Accepted from b slot c) messages → CountsFrom messages l
      → CountsFrom messages (if not x then l else if not y then counting l from b slot c else if z then l else knowing (counting l from b slot c) slot c)
  heard_by messages l from b slot c false y z ex came counts = counts
  heard_by messages l from b slot c true false z ex came counts = counts_counting messages l from b slot c (open_means l.log slot ex) came counts
  heard_by messages l from b slot c true true true ex came counts = counts
  heard_by messages l from b slot c true true false ex came counts =
      counts_knowing messages (counting l from b slot c) slot c (counts_counting messages l from b slot c (open_means l.log slot ex) came counts)

  pub answer_counts : (messages : List Message) (l : Learned) (from : ℕ) (b : Ballot) (slot : ℕ) (c : Command)
      → In (Accepted from b slot c) messages → CountsFrom messages l → CountsFrom messages (hearing l from b slot c)
  answer_counts messages l from b slot c came counts = heard_by messages l from b slot c _ _ _ refl came counts

  all_by : (came : List Message) (l : Learned) (from : ℕ) (b : Ballot) (slot : ℕ) (c : Command) (x y z : Bool) → is_open l.log slot ≡ x
      → from < l.nodes → IsOpen l.log slot
      → IsOk (let r : Result (Option Chosen) SlotFault =
      if not x then Ok None else if not y then Ok None else if z then Err Conflict else Ok (Some (record { slot = slot; command = c })) in r)
      → CountsAll came l
      → CountsAll (Accepted from b slot c ∷ came) (if not x then l else if not y then counting l from b slot c else if z then l else knowing (counting l from b slot c) slot c)
  all_by came l from b slot c false y z ex is opens ok all = let yes = open_is l.log slot opens in absurd (cc)
  all_by came l from b slot c true false z ex is opens ok all = all_counting came l from b slot c is opens all
  all_by came l from b slot c true true true ex is opens ok all = absurd (cc)
  all_by came l from b slot c true true false ex is opens ok all =
      all_knowing (Accepted from b slot c ∷ came) (counting l from b slot c) slot c (all_counting came l from b slot c is opens all)

  pub answer_counts_all : (came : List Message) (l : Learned) (from : ℕ) (b : Ballot) (slot : ℕ) (c : Command)
      → from < l.nodes → IsOpen l.log slot → IsOk (answer_to l from b slot c)
      → CountsAll came l → CountsAll (Accepted from b slot c ∷ came) (hearing l from b slot c)
  answer_counts_all came l from b slot c is opens ok all = all_by came l from b slot c _ _ _ refl is opens ok all

  believed_by : (messages : List Message) (l : Learned) (slot : ℕ) (c : Command) (x y : Bool) → CountsFrom messages l
      → CountsFrom messages (if not x then l else if y then l else knowing l slot c)
  believed_by messages l slot c false y counts = counts
  believed_by messages l slot c true true counts = counts
  believed_by messages l slot c true false counts = counts_knowing messages l slot c counts

  pub chosen_counts : (messages : List Message) (l : Learned) (slot : ℕ) (c : Command) → CountsFrom messages l → CountsFrom messages (believing l slot c)
  chosen_counts messages l slot c counts = believed_by messages l slot c _ _ counts

  all_believed_by : (came : List Message) (l : Learned) (slot : ℕ) (c : Command) (x y : Bool) → CountsAll came l
      → CountsAll came (if not x then l else if y then l else knowing l slot c)
  all_believed_by came l slot c false y all = all
  all_believed_by came l slot c true true all = all
  all_believed_by came l slot c true false all = all_knowing came l slot c all

  pub chosen_counts_all : (came : List Message) (l : Learned) (slot : ℕ) (c : Command) → CountsAll came l → CountsAll came (believing l slot c)
  chosen_counts_all came l slot c all = all_believed_by came l slot c _ _ all

passed_by : (l : Learned) (from : ℕ) (b : Ballot) (slot : ℕ) (c : Command) (x y z : Bool) → is_open l.log slot ≡ x
    → (IsOpen l.log slot → ¬ IsOk (let r : Result (Option Chosen) SlotFault =
    if not x then Ok None else if not y then Ok None else if z then Err Conflict else Ok (Some (record { slot = slot; command = c })) in r))
    → (if not x then l else if not y then counting l from b slot c else if z then l else knowing (counting l from b slot c) slot c) ≡ l
passed_by l from b slot c false y z ex h = refl
passed_by l from b slot c true false z ex h = absurd (h (open_means l.log slot ex) refl)
passed_by l from b slot c true true true ex h = refl
passed_by l from b slot c true true false ex h = absurd (h (open_means l.log slot ex) refl)

pub passed_over : (l : Learned) (from : ℕ) (b : Ballot) (slot : ℕ) (c : Command) → (IsOpen l.log slot → ¬ IsOk (answer_to l from b slot c)) → hearing l from b slot c ≡ l
passed_over l from b slot c h = passed_by l from b slot c _ _ _ refl h

nodes_by : (l : Learned) (from : ℕ) (b : Ballot) (slot : ℕ) (c : Command) (x y z : Bool)
    → (let r : Learned = if not x then l else if not y then counting l from b slot c else if z then l else knowing (counting l from b slot c) slot c in r.nodes) ≡ l.nodes
nodes_by l from b slot c false y z = refl
nodes_by l from b slot c true false z = refl
nodes_by l from b slot c true true true = refl
nodes_by l from b slot c true true false = refl

believed_nodes : (l : Learned) (slot : ℕ) (c : Command) (x y : Bool) → (let r : Learned = if not x then l else if y then l else knowing l slot c in r.nodes) ≡ l.nodes
believed_nodes l slot c false y = refl
believed_nodes l slot c true true = refl
believed_nodes l slot c true false = refl

pub nodes_stay : (l : Learned) (from : ℕ) (b : Ballot) (slot : ℕ) (c : Command) → ((hearing l from b slot c).nodes ≡ l.nodes) × ((believing l slot c).nodes ≡ l.nodes)
nodes_stay l from b slot c = (nodes_by l from b slot c _ _ _, believed_nodes l slot c _ _)

-- ---- the beginning

empty_at : (k place : ℕ) (tally : Tally) → In tally (get_or (replicate k []) place []) → ⊥
empty_at zero place tally m = m
empty_at (suc k) zero tally m = m
empty_at (suc k) (suc place) tally m = empty_at k place tally m

pub new_counts : (messages : List Message) (nodes : ℕ) → CountsFrom messages (new_learned nodes)
new_counts messages nodes slot tally opens among node h = absurd (empty_at WINDOW (slot % WINDOW) tally among)

pub new_counts_all : (nodes : ℕ) → nodes ≤ NODES → CountsAll [] (new_learned nodes)
new_counts_all nodes few = record {
  cells = refl;
  few = few;
  places = λ slot tally among. absurd (empty_at WINDOW (slot % WINDOW) tally among);
  within = λ node ballot slot command m. absurd m;
  counted = λ node ballot slot command below opens m. absurd m;
}
