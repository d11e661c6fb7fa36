-- A run of the rules is behind a cluster whose nodes haven't been started yet.
use Rattle.std.proofs.Common.{◌≡◌, ℕ, suc, ◌+◌, ◌<◌, inl, true, false, List, [], ◌∷◌, map, length, get_or, refl, ap, sym, ◌∙◌, subst, arith}
use Rattle.std.proofs.Math.Logic.{∥∥₁_map}
use Rattle.promise_store.specs.declared.disk.Disk.{Ghosts}
use Rattle.promise_store.specs.Journals.{header}
use Rattle.promise_store.specs.Holding.{StandsFor}
use Rattle.protocol_model.specs.Stores.{Store, empty_store}
use Rattle.dealer_kind.specs.Plans.{Plan, IsPlan}
use Rattle.node_rules.specs.Standings.{Standing, place_of, stopped}
use Rattle.dealer_node.specs.Nodes.{Node}
use Rattle.dealer_node.specs.Seeing.{begun_of}
use Rattle.dealer_world.specs.Records.{no_record}
use Rattle.dealer_world.specs.Headline.{Era}
use Rattle.dealer_world.specs.Behind.{EachNode}
use Rattle.dealer_world.specs.RuleRuns.{State, IsCreated, AreReopened, RunsTo, fresh, opened}
use Rattle.dealer_world.specs.Ruling.{AreAtPlaces, AreSeen, AreRuled, AreLeft, Leaves, IsBehind, new_stores, a_run}
use Rattle.dealer_world.specs.Beginning.{IsCreatedAt, IsReopenedAt, HaveStores, AreEach}

-- ---- of a new match

abbrev pub created : {N : Type 0} → Plan → ℕ → List N → List Standing
created plan k [] = []
created plan k (node ∷ nodes) = stopped (place_of plan k) empty_store empty_store ∷ created plan (k + 1) nodes

created_count : {N : Type 0} (plan : Plan) (k : ℕ) (nodes : List N) → length (created plan k nodes) ≡ length nodes
created_count plan k [] = refl
created_count plan k (node ∷ nodes) = ap suc (created_count plan (k + 1) nodes)

created_each : {N : Type 0} (plan : Plan) (k : ℕ) (nodes : List N) → EachNode (IsCreated plan) k (created plan k nodes)
created_each plan k [] = tt
created_each plan k (node ∷ nodes) = (refl, created_each plan (k + 1) nodes)

-- what holds of each, counted from a number on, holds of the first, and of the others
pub first_of : {N : Type 0} (IsSo : ℕ → N → Type 0) (k : ℕ) (node : N) (nodes : List N) → AreEach (λ i. IsSo (k + i)) (node ∷ nodes) → IsSo k node
first_of IsSo k node nodes each = let e : k + 0 ≡ k = omega arith in subst (λ j. IsSo j node) e (each 0 node (omega arith))

pub rest_of : {N : Type 0} (IsSo : ℕ → N → Type 0) (k : ℕ) (node : N) (nodes : List N) → AreEach (λ i. IsSo (k + i)) (node ∷ nodes) → AreEach (λ i. IsSo ((k + 1) + i)) nodes
rest_of IsSo k node nodes each i d less = let e : k + suc i ≡ (k + 1) + i = omega arith in subst (λ j. IsSo j (get_or nodes i d)) e (each (suc i) d (omega arith))

module _ {D : Type 0} (g : Ghosts D) where
  pub created_seen : (plan : Plan) (k : ℕ) (nodes : List (Node D)) → AreEach (λ i. IsCreatedAt g plan (k + i)) nodes → AreSeen g nodes (created plan k nodes)
  created_seen plan k [] each = tt
  created_seen plan k (node ∷ nodes) each =
      ((first_of (IsCreatedAt g plan) k node nodes each).seen, created_seen plan (k + 1) nodes (rest_of (IsCreatedAt g plan) k node nodes each))

  pub from_0 : (IsSo : ℕ → Node D → Type 0) (nodes : List (Node D)) → AreEach IsSo nodes → AreEach (λ i. IsSo (0 + i)) nodes
  from_0 IsSo nodes each i d less = let e : i ≡ 0 + i = omega arith in subst (λ j. IsSo j (get_or nodes i d)) e (each i d less)

  pub created_at_places : (plan : Plan) (nodes : List (Node D)) → AreEach (IsCreatedAt g plan) nodes → ∥ AreAtPlaces plan nodes ∥₁
  created_at_places plan nodes each = ∣ (λ i d less. (each i d less).placed) ∣₁

  pub created_behind : (plan : Plan) (nodes : List (Node D)) → IsPlan plan → length nodes ≡ length plan.sources → AreEach (IsCreatedAt g plan) nodes → IsBehind g false plan nodes no_record
  created_behind plan nodes is_plan count each before none honest =
      let state : State = record { standings = created plan 0 nodes; now = no_record } in
      ∣ (record {
        standings = created plan 0 nodes;
        seen = created_seen plan 0 nodes (from_0 (IsCreatedAt g plan) nodes each);
        runs = subst (λ (eras : List Era). RunsTo plan.setting (length plan.sources) eras plan.sources state) (sym none)
            (fresh plan.sources state is_plan refl (record { count = created_count plan 0 nodes ∙ count; each = created_each plan 0 nodes; empty = refl }));
      }) ∣₁

-- ---- of one that goes on

abbrev reopened : Plan → (ℕ → Store) → ℕ → List Standing → List Standing
reopened plan begun k [] = []
reopened plan begun k (s ∷ standings) = stopped (place_of plan k) s.store (begun k) ∷ reopened plan begun (k + 1) standings

are_reopened : (plan : Plan) (begun : ℕ → Store) (k : ℕ) (standings : List Standing) → AreReopened plan begun k standings (reopened plan begun k standings)
are_reopened plan begun k [] = tt
are_reopened plan begun k (s ∷ standings) = (refl, are_reopened plan begun (k + 1) standings)

module _ {D : Type 0} (g : Ghosts D) where
  reopened_seen : (plan : Plan) (begun : ℕ → Store) (k : ℕ) (nodes : List (Node D)) (standings : List Standing) → AreEach (λ i. IsReopenedAt g plan (k + i)) nodes
      → AreLeft (length plan.sources) k begun (map (begun_of g) nodes) standings → AreSeen g nodes (reopened plan begun k standings)
  reopened_seen plan begun k [] [] each left = tt
  reopened_seen plan begun k [] (s ∷ standings) each left = absurd left
  reopened_seen plan begun k (node ∷ nodes) [] each left = absurd left
  reopened_seen plan begun k (node ∷ nodes) (s ∷ standings) each (stands, left) = (
    (first_of (IsReopenedAt g plan) k node nodes each).seen s.store (begun k) stands,
    reopened_seen plan begun (k + 1) nodes standings (rest_of (IsReopenedAt g plan) k node nodes each) left,
  )

  pub reopened_at_places : (plan : Plan) (nodes : List (Node D)) → AreEach (IsReopenedAt g plan) nodes → ∥ AreAtPlaces plan nodes ∥₁
  reopened_at_places plan nodes each = ∣ (λ i d less. (each i d less).placed) ∣₁

  -- over files of new stores
  created_files_seen : (plan : Plan) (k : ℕ) (nodes : List (Node D)) → AreEach (λ i. IsReopenedAt g plan (k + i)) nodes
      → ((i : ℕ) → i < length (map (begun_of g) nodes) → StandsFor (header (k + i) (length plan.sources)) (get_or (map (begun_of g) nodes) i []) empty_store) → AreSeen g nodes (created plan k nodes)
  created_files_seen plan k [] each have = tt
  created_files_seen plan k (node ∷ nodes) each have =
      let e : k + 0 ≡ k = omega arith in
      let stands : StandsFor (header k (length plan.sources)) (begun_of g node) empty_store =
      subst (λ j. StandsFor (header j (length plan.sources)) (begun_of g node) empty_store) e (have 0 (omega arith)) in (
        (first_of (IsReopenedAt g plan) k node nodes each).seen empty_store empty_store (inl stands),
        created_files_seen plan (k + 1) nodes (rest_of (IsReopenedAt g plan) k node nodes each) (λ i less.
            let f : k + suc i ≡ (k + 1) + i = omega arith in
            subst (λ j. StandsFor (header j (length plan.sources)) (get_or (map (begun_of g) nodes) i []) empty_store) f (have (suc i) (omega arith))),
      )

  -- they go on from no era, as those of a new match
  created_files_ruled : (plan : Plan) (nodes : List (Node D)) → IsPlan plan → length nodes ≡ length plan.sources → AreEach (IsReopenedAt g plan) nodes
      → HaveStores (length plan.sources) (map (begun_of g) nodes) (λ i. empty_store) → AreRuled g plan [] nodes no_record
  created_files_ruled plan nodes is_plan count each have =
      let files = map (begun_of g) nodes in
      let state : State = record { standings = created plan 0 nodes; now = no_record } in
      record {
        standings = created plan 0 nodes;
        seen = created_files_seen plan 0 nodes (from_0 g (IsReopenedAt g plan) nodes each) (λ i less.
            let e : i ≡ 0 + i = omega arith in subst (λ j. StandsFor (header j (length plan.sources)) (get_or files i []) empty_store) e (have i less));
        runs = fresh plan.sources state is_plan refl (record { count = created_count plan 0 nodes ∙ count; each = created_each plan 0 nodes; empty = refl });
      }

  by_left : (plan : Plan) (nodes : List (Node D)) (before : List Era) → IsPlan plan → length nodes ≡ length plan.sources → AreEach (IsReopenedAt g plan) nodes
      → Leaves plan.setting (length plan.sources) before (map (begun_of g) nodes) → AreRuled g plan before nodes no_record
  by_left plan nodes before is_plan count each (new_stores none files_are have) =
      subst (λ (eras : List Era). AreRuled g plan eras nodes no_record) (sym none) (created_files_ruled plan nodes is_plan count each have)
  by_left plan nodes before is_plan count each (a_run left) =
      let standings = reopened plan left.begun 0 left.old.standings in
      let state : State = record { standings = standings; now = no_record } in
      record {
        standings = standings;
        seen = reopened_seen plan left.begun 0 nodes left.old.standings (from_0 g (IsReopenedAt g plan) nodes each) left.held;
        runs = subst (λ (eras : List Era). RunsTo plan.setting (length plan.sources) eras plan.sources state) (sym left.are)
            (opened left.before left.sources left.old left.latest left.begun plan.sources state left.runs left.ends left.same left.unforged is_plan refl
            (are_reopened plan left.begun 0 left.old.standings) refl);
      }

  pub reopened_behind : (plan : Plan) (nodes : List (Node D)) → IsPlan plan → length nodes ≡ length plan.sources → AreEach (IsReopenedAt g plan) nodes → IsBehind g true plan nodes no_record
  reopened_behind plan nodes is_plan count each before goes honest = ∥∥₁_map goes (λ left. by_left plan nodes before is_plan count each left)
