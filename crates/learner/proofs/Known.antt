-- What a quorum of the answers that came chose is known.
use Rattle.std.proofs.Common.{ℕ, ◌≡◌, ◌<◌, ◌⊎◌, inl, inr, Bool, true, false, not, List, [], ◌∷◌, Option, Some, None, Result, Ok, Err, refl, sym, ◌∙◌, ap, subst, arith, if◌then◌else◌, set}
use Rattle.std.specs.Prelude.{is_none, IsOk}
use Rattle.std.proofs.lemmas.Bool.{eq-eqb}
use Rattle.std.proofs.lemmas.Bool.Decides.{eqb_tells}
use Rattle.paxos_wire.specs.declared.ballot.Ballot.{Ballot}
use Rattle.slot_log.specs.declared.limits.TheConstants.{SLOTS}
use Rattle.slot_log.specs.declared.command.Command.{Command}
use Rattle.slot_log.specs.declared.slot_fault.SlotFault.{SlotFault}
use Rattle.slot_log.specs.declared.slot_fault.SlotFault.TheVariants.{Conflict}
use Rattle.slot_log.specs.Slots.{Log, IsLog, known_at, with_command}
use Rattle.slot_log.specs.SlotLaws.{OneMoreIsKnown}
use Rattle.protocol_model.specs.Messages.{Message, Accepted}
use Rattle.protocol_model.specs.Quorums.{IsChosenIn}
use Rattle.protocol_model.proofs.Quorums.{none_counted}
use Rattle.learner.specs.declared.chosen.Chosen.{Chosen}
use Rattle.learner.specs.Same.{is_same}
use Rattle.learner.specs.Tallies.{is_quorum, is_of}
use Rattle.learner.specs.Learning.{Learned, new_learned, is_open, answers_at, is_other, known_with, knowing, counting, completes, answer_to, hearing, believing}
use Rattle.learner.specs.Counted.{IsOpen, CountsFrom, CountsAll, KnowsChosen}
use Rattle.learner.proofs.Same.{same}
use Rattle.learner.proofs.Counting.{is_of_means, is_of_if, quorum_chose, after_quorum}
use Rattle.learner.proofs.Kept.{open_means, open_is}

-- ---- one more is known

other_by : (k c : Command) (x : Bool) → is_same k c ≡ x → not x ≡ false → k ≡ c
other_by k c true e h = same k c e
other_by k c false e h = absurd (cc)

there_by : OneMoreIsKnown → (log : Log) (slot : ℕ) (c : Command) → IsLog log → slot < SLOTS → (o : Option Command) → known_at log slot ≡ o → is_other o c ≡ false
    → known_at (if is_none o then with_command log slot c else log) slot ≡ Some c
there_by more log slot c is below None e h = (more log slot c is below e).1 slot ∙ rw (eq-eqb slot slot refl) refl
there_by more log slot c is below (Some k) e h = e ∙ ap Some (other_by k c (is_same k c) refl h)

-- a command that is learned is known at its slot
pub known_there : OneMoreIsKnown → (log : Log) (slot : ℕ) (c : Command) → IsLog log → slot < SLOTS → is_other (known_at log slot) c ≡ false
    → known_at (known_with log slot c) slot ≡ Some c
known_there more log slot c is below h = there_by more log slot c is below (known_at log slot) refl h

after_by : OneMoreIsKnown → (log : Log) (slot : ℕ) (c : Command) (other : ℕ) (k : Command) → IsLog log → slot < SLOTS → known_at log other ≡ Some k
    → (o : Option Command) → known_at log slot ≡ o → known_at (if is_none o then with_command log slot c else log) other ≡ Some k
after_by more log slot c other k is below known None e = elim (eqb_tells other slot) [
  | inl same ↦ let wrong : Some k ≡ None = sym known ∙ ap (known_at log) same.1 ∙ e in absurd (cc)
  | inr ne ↦ (more log slot c is below e).1 other ∙ rw ne.0 known
]
after_by more log slot c other k is below known (Some j) e = known

-- and what was known stays
pub known_after : OneMoreIsKnown → (log : Log) (slot : ℕ) (c : Command) (other : ℕ) (k : Command) → IsLog log → slot < SLOTS → known_at log other ≡ Some k
    → known_at (known_with log slot c) other ≡ Some k
known_after more log slot c other k is below known = after_by more log slot c other k is below known (known_at log slot) refl

-- ---- answers of one command, or of another

pub record IsOther (b d : Ballot) (s t : ℕ) (c e : Command) : Type 0 where
  pub differs : (k j : ℕ) → Accepted k d t e ≡ Accepted j b s c → ⊥

pub record IsOne (b d : Ballot) (s t : ℕ) (c e : Command) : Type 0 where
  pub ballot : d ≡ b
  pub slot : t ≡ s
  pub command : e ≡ c

one_or_by : (b d : Ballot) (s : ℕ) (c e : Command) (x : Bool) → is_of b c (record { ballot = d; command = e; nodes = [] }) ≡ x → IsOne b d s s c e ⊎ IsOther b d s s c e
one_or_by b d s c e true h = let is = is_of_means b c (record { ballot = d; command = e; nodes = [] }) h in inl (record { ballot = is.0; slot = refl; command = is.1 })
one_or_by b d s c e false h = inr (record {
  differs = λ k j same.
      let eb : d ≡ b = cc in
      let ec : e ≡ c = cc in
      let yes = is_of_if b c (record { ballot = d; command = e; nodes = [] }) eb ec in absurd (cc);
})

pub one_or : (b d : Ballot) (s t : ℕ) (c e : Command) → IsOne b d s t c e ⊎ IsOther b d s t c e
one_or b d s t c e = elim (eqb_tells t s) [
  | inl same ↦ subst (λ (n : ℕ). IsOne b d s n c e ⊎ IsOther b d s n c e) (sym same.1) (one_or_by b d s c e _ refl)
  | inr ne ↦ inr (record { differs = λ k j same. let es : t ≡ s = cc in ne.1 es })
]

-- a quorum for another command stood without the answer
without : (n : ℕ) (came : List Message) (from : ℕ) (b d : Ballot) (s t : ℕ) (c e : Command) → IsOther b d s t c e
    → IsChosenIn n (Accepted from b s c ∷ came) d t e → IsChosenIn n came d t e
without n came from b d s t c e other q = (q.0, q.1, λ node below is. elim (q.2 node below is) [ inl same ↦ absurd (other.differs node from same) | inr older ↦ older ])

-- ---- nothing is chosen at first

pub new_knows : (nodes : ℕ) → KnowsChosen [] (new_learned nodes)
new_knows nodes b slot c chosen =
    let many = chosen.1 in
    let none = none_counted chosen.0 nodes (λ node below is. chosen.2 node below is) in absurd (omega arith)

-- ---- the whole of a call

-- what is chosen with the answer is known already, where it completed nothing
known_before : (came : List Message) (l : Learned) (from : ℕ) (b d : Ballot) (slot t : ℕ) (c e : Command)
    → IsOpen l.log slot → from < l.nodes → CountsFrom came l → CountsAll came l → KnowsChosen came l
    → completes l from b slot c ≡ false → IsChosenIn l.nodes (Accepted from b slot c ∷ came) d t e → known_at l.log t ≡ Some e
known_before came l from b d slot t c e opens is counts all knows not_now q = elim (one_or b d slot t c e) [
  | inl one ↦
      let same = subst (λ (x : Ballot). IsChosenIn l.nodes (Accepted from b slot c ∷ came) x slot c) one.ballot
      (subst (λ (s : ℕ). IsChosenIn l.nodes (Accepted from b slot c ∷ came) d s c) one.slot
      (subst (λ (x : Command). IsChosenIn l.nodes (Accepted from b slot c ∷ came) d t x) one.command q)) in
      let was = before (is_quorum l.nodes (answers_at l b slot c)) refl (after_quorum came l from b slot c all is opens same) in
      ap (known_at l.log) one.slot ∙ knows b slot c (quorum_chose came l b slot c counts opens was) ∙ ap Some (sym one.command)
  | inr other ↦ knows d t e (without l.nodes came from b d slot t c e other q)
]
  where
    before : (x : Bool) → is_quorum l.nodes (answers_at l b slot c) ≡ x → is_quorum l.nodes (set (answers_at l b slot c) from true) ≡ true
        → is_quorum l.nodes (answers_at l b slot c) ≡ true
    before true ex after = ex
    before false ex after =
        let now : completes l from b slot c ≡ true = rw ex after in absurd (cc)

module _ (more : OneMoreIsKnown) where
  answers_by : (came : List Message) (l : Learned) (from : ℕ) (b : Ballot) (slot : ℕ) (c : Command) (x y z : Bool)
      → is_open l.log slot ≡ x → completes l from b slot c ≡ y → is_other (known_at l.log slot) c ≡ z
      → IsLog l.log → IsOpen l.log slot → from < l.nodes
      → IsOk (let r : Result (Option Chosen) SlotFault =
      if not x then Ok None else if not y then Ok None else if z then Err Conflict else Ok (Some (record { slot = slot; command = c })) in r)
      → CountsFrom came l → CountsAll came l → KnowsChosen came l
      → KnowsChosen (Accepted from b slot c ∷ came) (if not x then l else if not y then counting l from b slot c else if z then l else knowing (counting l from b slot c) slot c)
  answers_by came l from b slot c false y z ex ey ez log opens is ok counts all knows = let yes = open_is l.log slot opens in absurd (cc)
  answers_by came l from b slot c true false z ex ey ez log opens is ok counts all knows =
      λ d t e q. known_before came l from b d slot t c e opens is counts all knows ey q
  answers_by came l from b slot c true true true ex ey ez log opens is ok counts all knows = absurd (cc)
  answers_by came l from b slot c true true false ex ey ez log opens is ok counts all knows = λ d t e q. elim (one_or b d slot t c e) [
    | inl one ↦
        ap (known_at (known_with l.log slot c)) one.slot ∙ known_there more l.log slot c log opens.is_slot ez ∙ ap Some (sym one.command)
    | inr other ↦ known_after more l.log slot c t e log opens.is_slot (knows d t e (without l.nodes came from b d slot t c e other q))
  ]

  pub answers_are_known : (came : List Message) (l : Learned) (from : ℕ) (b : Ballot) (slot : ℕ) (c : Command)
      → IsLog l.log → IsOpen l.log slot → from < l.nodes → IsOk (answer_to l from b slot c)
      → CountsFrom came l → CountsAll came l → KnowsChosen came l → KnowsChosen (Accepted from b slot c ∷ came) (hearing l from b slot c)
  answers_are_known came l from b slot c log opens is ok counts all knows = answers_by came l from b slot c _ _ _ refl refl refl log opens is ok counts all knows

  believed_by : (came : List Message) (l : Learned) (slot : ℕ) (c : Command) (x y : Bool) → is_open l.log slot ≡ x
      → IsLog l.log → KnowsChosen came l → KnowsChosen came (if not x then l else if y then l else knowing l slot c)
  believed_by came l slot c false y ex log knows = knows
  believed_by came l slot c true true ex log knows = knows
  believed_by came l slot c true false ex log knows = λ d t e q. known_after more l.log slot c t e log (open_means l.log slot ex).is_slot (knows d t e q)

  pub chosen_are_known : (came : List Message) (l : Learned) (slot : ℕ) (c : Command) → IsLog l.log → KnowsChosen came l → KnowsChosen came (believing l slot c)
  chosen_are_known came l slot c log knows = believed_by came l slot c _ _ refl log knows
