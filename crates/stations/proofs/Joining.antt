-- Calls of nodes in processes of their own, in any order that keeps each node's, are a run of the rules.
use Rattle.std.proofs.Common.{◌≡◌, ◌≢◌, ℕ, zero, suc, ◌+◌, ◌<◌, ◌≤◌, ◌⊎◌, inl, inr, ◌==◌, if◌then◌else◌, Bool, List, [], ◌∷◌, length, get_or, set, refl, ap, sym, ◌∙◌, subst, arith}
use Rattle.std.proofs.Math.Logic.{∥∥₁_map, ∥∥₁_elim}
use Rattle.std.proofs.lemmas.Bool.{cases_lt}
use Rattle.std.proofs.lemmas.Bool.Decides.{eqb_tells}
use Rattle.protocol_model.specs.Sets.{In}
use Rattle.protocol_model.specs.Stores.{empty_store}
use Rattle.dealer_kind.specs.Kind.{Setting}
use Rattle.dealer_kind.specs.Plans.{Plan, IsPlan}
use Rattle.dealer_kind.specs.declared.source.Source.{Source}
use Rattle.node_rules.specs.Standings.{Standing, place_of, stopped}
use Rattle.dealer_world.specs.Behind.{EachNode}
use Rattle.dealer_world.specs.RuleRuns.{State, IsCreated, plan_of, RunsTo, fresh, step, IsBacked, RunsShowOneList, RunsAreBacked, RunsSendToNodes, RunsNeverConflict, RunsApplyTheChosen, RunsChooseOneList}
use Rattle.stations.specs.Deeds.{Deed, Doing, deeds_of, record_of}
use Rattle.stations.specs.Joining.{DidAt, AreProcesses, ProcessesShowOneList, ProcessesAreBacked, ProcessesSendToNodes, ProcessesNeverConflict, ProcessesApplyTheChosen, ProcessesChooseOneList}

-- ---- the standings of the nodes from k on, so many

abbrev pub from : (ℕ → Standing) → ℕ → ℕ → List Standing
from s k zero = []
from s k (suc n) = s k ∷ from s (k + 1) n

pub length_from : (s : ℕ → Standing) (k n : ℕ) → length (from s k n) ≡ n
length_from s k zero = refl
length_from s k (suc n) = ap suc (length_from s (k + 1) n)

at_from : (s : ℕ → Standing) (k n j : ℕ) (d : Standing) → j < n → get_or (from s k n) j d ≡ s (k + j)
at_from s k zero j d less = absurd (omega (arith, less))
at_from s k (suc n) zero d less = let e : k ≡ k + 0 = omega arith in ap s e
at_from s k (suc n) (suc j) d less = let e : (k + 1) + j ≡ k + suc j = omega arith in at_from s (k + 1) n j d (omega (arith, less)) ∙ ap s e

same_from : (s t : ℕ → Standing) (k n : ℕ) → ((i : ℕ) → k ≤ i → t i ≡ s i) → from t k n ≡ from s k n
same_from s t k zero same = refl
same_from s t k (suc n) same =
    ap (λ (first : Standing). first ∷ from t (k + 1) n) (same k (omega arith))
    ∙ ap (λ (more : List Standing). s k ∷ more) (same_from s t (k + 1) n (λ i above. same i (omega (arith, above))))

-- where the node of number k + j alone changed
set_from : (s t : ℕ → Standing) (k n j : ℕ) → j < n → ((i : ℕ) → k ≤ i → i ≢ k + j → t i ≡ s i) → from t k n ≡ set (from s k n) j (t (k + j))
set_from s t k zero j less same = absurd (omega (arith, less))
set_from s t k (suc n) zero less same =
    let e : k ≡ k + 0 = omega arith in
    ap (λ (first : Standing). first ∷ from t (k + 1) n) (ap t e)
    ∙ ap (λ (more : List Standing). t (k + 0) ∷ more) (same_from s t (k + 1) n (λ i above. same i (omega (arith, above)) (λ is. omega (arith, above, is))))
set_from s t k (suc n) (suc j) less same =
    let e : (k + 1) + j ≡ k + suc j = omega arith in
    ap (λ (first : Standing). first ∷ from t (k + 1) n) (same k (omega arith) (λ is. omega (arith, is)))
    ∙ ap (λ (more : List Standing). s k ∷ more)
    (set_from s t (k + 1) n j (omega (arith, less)) (λ i above other. same i (omega (arith, above)) (λ is. other (is ∙ sym e)))
    ∙ ap (λ (i : ℕ). set (from s (k + 1) n) j (t i)) e)

-- and of all nodes
pub at_place : (s : ℕ → Standing) (n j : ℕ) (d : Standing) → j < n → get_or (from s 0 n) j d ≡ s j
at_place s n j d less = let e : 0 + j ≡ j = omega arith in at_from s 0 n j d less ∙ ap s e

pub set_place : (s t : ℕ → Standing) (n j : ℕ) → j < n → ((i : ℕ) → i ≢ j → t i ≡ s i) → from t 0 n ≡ set (from s 0 n) j (t j)
set_place s t n j less same =
    let e : 0 + j ≡ j = omega arith in
    set_from s t 0 n j less (λ i above other. same i (λ is. other (is ∙ sym e))) ∙ ap (λ (i : ℕ). set (from s 0 n) j (t i)) e

each_at : (IsSo : ℕ → Standing → Type 0) (s : ℕ → Standing) (k n j : ℕ) → j < n → EachNode IsSo k (from s k n) → IsSo (k + j) (s (k + j))
each_at IsSo s k zero j less each = absurd (omega (arith, less))
each_at IsSo s k (suc n) zero less each = let e : k ≡ k + 0 = omega arith in subst (λ (i : ℕ). IsSo i (s i)) e each.0
each_at IsSo s k (suc n) (suc j) less each =
    let e : (k + 1) + j ≡ k + suc j = omega arith in subst (λ (i : ℕ). IsSo i (s i)) e (each_at IsSo s (k + 1) n j (omega (arith, less)) each.1)

each_from : (IsSo : ℕ → Standing → Type 0) (s : ℕ → Standing) (k n : ℕ) → ((i : ℕ) → i < k + n → IsSo i (s i)) → EachNode IsSo k (from s k n)
each_from IsSo s k zero each = tt
each_from IsSo s k (suc n) each = (each k (omega arith), each_from IsSo s (k + 1) n (λ i less. each i (omega (arith, less))))

-- ---- one call less

-- the standings before node j's last call
abbrev back : (ℕ → Standing) → ℕ → Standing → ℕ → Standing
back s j old i = if i == j then old else s i

back_here : (s : ℕ → Standing) (j : ℕ) (old : Standing) → back s j old j ≡ old
back_here s j old = elim (eqb_tells j j) [
  | inl same ↦ ap (λ (b : Bool). if b then old else s j) same.0
  | inr other ↦ absurd (other.1 refl)
]

back_there : (s : ℕ → Standing) (j : ℕ) (old : Standing) (i : ℕ) → i ≢ j → back s j old i ≡ s i
back_there s j old i differs = elim (eqb_tells i j) [
  | inl same ↦ absurd (differs same.1)
  | inr other ↦ ap (λ (b : Bool). if b then old else s i) other.0
]

-- whose deeds they are
own_deeds : (doing : Doing) (before : List Doing) → deeds_of (doing ∷ before) doing.node ≡ doing.deed ∷ deeds_of before doing.node
own_deeds doing before = elim (eqb_tells doing.node doing.node) [
  | inl same ↦ ap (λ (b : Bool). if b then doing.deed ∷ deeds_of before doing.node else deeds_of before doing.node) same.0
  | inr other ↦ absurd (other.1 refl)
]

other_deeds : (doing : Doing) (before : List Doing) (i : ℕ) → i ≢ doing.node → deeds_of (doing ∷ before) i ≡ deeds_of before i
other_deeds doing before i differs = elim (eqb_tells doing.node i) [
  | inl same ↦ absurd (differs (sym same.1))
  | inr other ↦ ap (λ (b : Bool). if b then doing.deed ∷ deeds_of before i else deeds_of before i) other.0
]

-- ---- the run of all

abbrev pub DoneTo : Setting → List Source → List Doing → (ℕ → Standing) → Type 0
DoneTo setting sources all s = (i : ℕ) → i < length sources → DidAt (plan_of setting sources) i (deeds_of all i) (s i)

pub joined : (setting : Setting) (sources : List Source) (all : List Doing) (s : ℕ → Standing) → IsPlan (plan_of setting sources)
    → ((doing : Doing) → In doing all → doing.node < length sources) → DoneTo setting sources all s
    → RunsTo setting (length sources) [] sources (record { standings = from s 0 (length sources); now = record_of all })
joined setting sources [] s plan nodes did =
    let n = length sources in
    fresh sources (record { standings = from s 0 n; now = record_of [] }) plan refl (record {
      count = length_from s 0 n;
      each = each_from (IsCreated (plan_of setting sources)) s 0 n (λ i less. did i (omega (arith, less)));
      empty = refl;
    })
joined setting sources (doing ∷ before) s plan nodes did =
    let n = length sources in
    let j = doing.node in
    let p = plan_of setting sources in
    let less : j < n = nodes doing (inl refl) in
    let last : DidAt p j (doing.deed ∷ deeds_of before j) (s j) = subst (λ (deeds : List Deed). DidAt p j deeds (s j)) (own_deeds doing before) (did j less) in
    let old : Standing = last.0 in
    let was = back s j old in
    let earlier : DoneTo setting sources before was = (λ i within. elim (eqb_tells i j) [
      | inl same ↦
          subst (λ (k : ℕ). DidAt p k (deeds_of before k) (was k)) (sym same.1) (subst (λ (t : Standing). DidAt p j (deeds_of before j) t) (sym (back_here s j old)) last.1)
      | inr other ↦
          subst (λ (t : Standing). DidAt p i (deeds_of before i) t) (sym (back_there s j old i other.1))
          (subst (λ (deeds : List Deed). DidAt p i deeds (s i)) (other_deeds doing before i other.1) (did i within))
    ]) in
    let first : State = record { standings = from was 0 n; now = record_of before } in
    let next : State = record { standings = from s 0 n; now = record_of (doing ∷ before) } in
    let len = length_from was 0 n in
    step [] sources first next
    (joined setting sources before was plan (λ other there. nodes other (inr there)) earlier)
    (record {
      node = j;
      is_node = subst (λ (k : ℕ). j < k) (sym len) less;
      before = old;
      at = at_place was n j old less ∙ back_here s j old;
      called = last.2.0;
      arrived = doing.deed.arrived;
      made = doing.deed.made;
      after = s j;
      ruled = last.2.1;
      standings = set_place was s n j less (λ i differs. sym (back_there s j old i differs));
      grows = refl;
    })

-- each node's standing, once it is chosen
abbrev Chosen : Plan → (ℕ → List Deed) → Type 0
Chosen plan histories = (i : ℕ) → i < length plan.sources → (s : Standing) × DidAt plan i (histories i) s

-- what node i holds and knows after all that it did
holds : (plan : Plan) (histories : ℕ → List Deed) → Chosen plan histories → (i : ℕ) → i < length plan.sources ⊎ length plan.sources ≤ i → Standing
holds plan histories each i (inl within) = (each i within).0
holds plan histories each i (inr beyond) = stopped (place_of plan i) empty_store empty_store

holds_so : (plan : Plan) (histories : ℕ → List Deed) (each : Chosen plan histories) (i : ℕ) (which : i < length plan.sources ⊎ length plan.sources ≤ i) → i < length plan.sources
    → DidAt plan i (histories i) (holds plan histories each i which)
unfolding holds
holds_so plan histories each i (inl within) less = (each i within).1
holds_so plan histories each i (inr beyond) less = absurd (omega (arith, less, beyond))

-- what is merely there for each of so many is merely there for all
pub all_merely : (P : ℕ → Type 0) (n : ℕ) → ((i : ℕ) → i < n → ∥ P i ∥₁) → ∥ ((i : ℕ) → i < n → P i) ∥₁
all_merely P zero each = ∣ (λ i less. absurd (omega (arith, less))) ∣₁
all_merely P (suc n) each =
    ∥∥₁_elim (each n (omega arith)) (hlevel) (λ last. ∥∥₁_map (all_merely P n (λ i less. each i (omega (arith, less)))) (λ before i less. with_last i (cases_lt i n) less before last))
  where
    with_last : (i : ℕ) → i < n ⊎ n ≤ i → i < suc n → ((k : ℕ) → k < n → P k) → P n → P i
    with_last i (inl lower) less before last = before i lower
    with_last i (inr not_lower) less before last = let is : n ≡ i = omega (arith, less, not_lower) in subst P is last

-- ---- what follows for all processes

module _ (setting : Setting) (sources : List Source) (histories : ℕ → List Deed) (all : List Doing) (processes : AreProcesses setting sources histories all) where
  abbrev state_of : (ℕ → Standing) → State
  state_of s = record { standings = from s 0 (length sources); now = record_of all }

  -- with any standings that the nodes' deeds lead to
  pub run_of : (s : ℕ → Standing) → ((i : ℕ) → i < length sources → DidAt (plan_of setting sources) i (histories i) (s i)) → RunsTo setting (length sources) [] sources (state_of s)
  run_of s did = joined setting sources all s processes.plan processes.order.order.nodes
      (λ i less. subst (λ (deeds : List Deed). DidAt (plan_of setting sources) i deeds (s i)) (sym (processes.order.order.each i less)) (did i less))

  merely : ∥ Chosen (plan_of setting sources) histories ∥₁
  merely = all_merely (λ i. (s : Standing) × DidAt (plan_of setting sources) i (histories i) s) (length sources) processes.did

  abbrev chosen_at : Chosen (plan_of setting sources) histories → ℕ → Standing
  chosen_at each i = holds (plan_of setting sources) histories each i (cases_lt i (length sources))

  chosen_did : (each : Chosen (plan_of setting sources) histories) (i : ℕ) → i < length sources → DidAt (plan_of setting sources) i (histories i) (chosen_at each i)
  chosen_did each i less = holds_so (plan_of setting sources) histories each i (cases_lt i (length sources)) less

  run_chosen : (each : Chosen (plan_of setting sources) histories) → RunsTo setting (length sources) [] sources (state_of (chosen_at each))
  run_chosen each = run_of (chosen_at each) (chosen_did each)

  -- with this one of a node's
  module _ (i : ℕ) (s : Standing) (less : i < length sources) (is : DidAt (plan_of setting sources) i (histories i) s) where
    with_this : (each : Chosen (plan_of setting sources) histories) (k : ℕ) → k < length sources → DidAt (plan_of setting sources) k (histories k) (back (chosen_at each) i s k)
    with_this each k within = elim (eqb_tells k i) [
      | inl same ↦
          subst (λ (j : ℕ). DidAt (plan_of setting sources) j (histories j) (back (chosen_at each) i s j)) (sym same.1)
          (subst (λ (t : Standing). DidAt (plan_of setting sources) i (histories i) t) (sym (back_here (chosen_at each) i s)) is)
      | inr other ↦ subst (λ (t : Standing). DidAt (plan_of setting sources) k (histories k) t) (sym (back_there (chosen_at each) i s k other.1)) (chosen_did each k within)
    ]

    run_with : (each : Chosen (plan_of setting sources) histories) → RunsTo setting (length sources) [] sources (state_of (back (chosen_at each) i s))
    run_with each = run_of (back (chosen_at each) i s) (with_this each)

    at_this : (each : Chosen (plan_of setting sources) histories) → get_or (from (back (chosen_at each) i s) 0 (length sources)) i s ≡ s
    at_this each = at_place (back (chosen_at each) i s) (length sources) i s less ∙ back_here (chosen_at each) i s

pub processes_show_one_list : RunsShowOneList → ProcessesShowOneList
processes_show_one_list law setting sources histories all processes =
    ∥∥₁_map (merely setting sources histories all processes)
    (λ each. law setting (length sources) [] sources _ (run_chosen setting sources histories all processes each) processes.order.unforged)

pub processes_are_backed : RunsAreBacked → ProcessesAreBacked
processes_are_backed law setting sources histories all processes i s less is =
    ∥∥₁_map (merely setting sources histories all processes)
    (λ each.
    let t = back (chosen_at setting sources histories all processes each) i s in
    let e : 0 + i ≡ i = omega arith in
    let backed = law setting (length sources) [] sources _ (run_with setting sources histories all processes i s less is each) processes.order.unforged in
    subst (λ (standing : Standing). IsBacked (record_of all).sent i standing) (back_here (chosen_at setting sources histories all processes each) i s)
    (subst (λ (j : ℕ). IsBacked (record_of all).sent j (t j)) e (each_at (IsBacked (record_of all).sent) t 0 (length sources) i less backed)))

pub processes_send_to_nodes : RunsSendToNodes → ProcessesSendToNodes
processes_send_to_nodes law setting sources histories all processes frame there =
    ∥∥₁_map (merely setting sources histories all processes)
    (λ each. law setting (length sources) [] sources _ (run_chosen setting sources histories all processes each) processes.order.unforged frame there)

pub processes_never_conflict : RunsNeverConflict → ProcessesNeverConflict
processes_never_conflict law setting sources histories all processes i s called store less is seated unforged turn =
    ∥∥₁_elim (merely setting sources histories all processes) (hlevel)
    (λ each.
    law setting (length sources) [] sources _ i s called store (run_with setting sources histories all processes i s less is each)
    (subst (λ (n : ℕ). i < n) (sym (length_from (back (chosen_at setting sources histories all processes each) i s) 0 (length sources))) less)
    (at_this setting sources histories all processes i s less is each) seated unforged turn)

pub processes_apply_the_chosen : RunsApplyTheChosen → ProcessesApplyTheChosen
processes_apply_the_chosen law setting sources histories all processes i s less is up =
    ∥∥₁_map (merely setting sources histories all processes)
    (λ each.
    law setting (length sources) [] sources _ i s (run_with setting sources histories all processes i s less is each)
    (subst (λ (n : ℕ). i < n) (sym (length_from (back (chosen_at setting sources histories all processes each) i s) 0 (length sources))) less)
    (at_this setting sources histories all processes i s less is each) up processes.order.unforged)

pub processes_choose_one_list : RunsChooseOneList → ProcessesChooseOneList
processes_choose_one_list law setting sources histories all processes shorter longer short long less =
    ∥∥₁_map (merely setting sources histories all processes)
    (λ each. law setting (length sources) [] sources _ shorter longer (run_chosen setting sources histories all processes each) processes.order.unforged short long less)
