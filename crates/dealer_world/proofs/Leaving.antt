-- What a cluster leaves on its disks, another one may go on from.
use Rattle.std.proofs.Common.{◌≡◌, ℕ, suc, ◌+◌, ◌<◌, ◌⊎◌, true, List, [], ◌∷◌, map, length, get_or, IsTrue, refl, ap, sym, ◌∙◌, subst, arith}
use Rattle.std.proofs.Math.Logic.{∥∥₁_map, ∥∥₁_elim}
use Rattle.promise_store.specs.declared.disk.Disk.{Ghosts}
use Rattle.promise_store.specs.Journals.{header}
use Rattle.promise_store.specs.Holding.{StandsFor}
use Rattle.protocol_model.specs.Stores.{Store, empty_store}
use Rattle.dealer_kind.specs.Kind.{Setting}
use Rattle.dealer_kind.specs.Plans.{Plan}
use Rattle.node_rules.specs.Standings.{Place, Standing, place_of, stopped}
use Rattle.dealer_node.specs.Nodes.{Node}
use Rattle.dealer_node.specs.Members.{place_at}
use Rattle.dealer_node.specs.Seeing.{member_in, IsSeen, begun_of, images_of, head_of}
use Rattle.dealer_world.specs.Headline.{Era}
use Rattle.dealer_world.specs.Behind.{EachNode}
use Rattle.dealer_world.specs.RuleRuns.{at_rest}
use Rattle.dealer_world.specs.Ruling.{AreAtPlaces, AreSeen, AreRuled, AreLeft, Leaves, new_stores, a_run, GoesOn, IsBehind}
use Rattle.dealer_world.specs.Stepping.{View}
use Rattle.dealer_world.specs.Promise.{era_of, HasNoForged, GoesOnFrom}
use Rattle.dealer_world.specs.Beginning.{AreImages, HaveStores}
use Rattle.dealer_world.proofs.Keeping.{each_from}
use Rattle.dealer_world.proofs.Ruled.{same_count, seen_at}

-- what each node began, by its standing
abbrev pub begun_by : List Standing → Standing → ℕ → Store
begun_by standings d i = (get_or standings i d).begun

each_begun_here : (standings : List Standing) (d : Standing) → EachNode (λ i s. begun_by standings d i ≡ s.begun) 0 standings
each_begun_here standings d = each_from (λ i s. begun_by standings d i ≡ s.begun) 0 standings d
    (λ i less. let e : 0 + i ≡ i = omega arith in ap (λ j. (get_or standings j d).begun) e)

-- the file stands for the store of node i of n, or for what was begun there
abbrev pub IsLeftBy : ℕ → ℕ → Store → Store → List ℕ → Type 0
IsLeftBy n i store begun file = StandsFor (header i n) file store ⊎ StandsFor (header i n) file begun

pub left_from : (n : ℕ) (begun : ℕ → Store) (d : Standing) (k : ℕ) (files : List (List ℕ)) (standings : List Standing) → length files ≡ length standings
    → ((i : ℕ) → i < length standings → IsLeftBy n (k + i) (get_or standings i d).store (begun (k + i)) (get_or files i [])) → AreLeft n k begun files standings
left_from n begun d k [] [] count each = tt
left_from n begun d k [] (s ∷ standings) count each = absurd (omega (arith, count))
left_from n begun d k (file ∷ files) [] count each = absurd (omega (arith, count))
left_from n begun d k (file ∷ files) (s ∷ standings) count each =
    let e : k + 0 ≡ k = omega arith in (
      subst (λ j. IsLeftBy n j s.store (begun j) file) e (each 0 (omega arith)),
      left_from n begun d (k + 1) files standings (omega (arith, count))
          (λ i less. let f : k + suc i ≡ (k + 1) + i = omega arith in
          subst (λ j. IsLeftBy n j (get_or standings i d).store (begun j) (get_or files i [])) f (each (suc i) (omega arith))),
    )

module _ {D : Type 0} (g : Ghosts D) where
  -- the law of nodes: each image stands for the store or for what was begun
  abbrev pub ImagesAreSeen : Type 0
  ImagesAreSeen = (node : Node D) (s : Standing) (image : List ℕ) → IsSeen g node s → images_of g node image
      → StandsFor (head_of (member_in node)) image s.store ⊎ StandsFor (head_of (member_in node)) image s.begun

  pub left_at : (plan : Plan) (i : ℕ) (node : Node D) (s : Standing) (file : List ℕ) → ImagesAreSeen → place_at (member_in node) ≡ place_of plan i → IsSeen g node s → images_of g node file
      → StandsFor (header i (length plan.sources)) file s.store ⊎ StandsFor (header i (length plan.sources)) file s.begun
  left_at plan i node s file law placed seen image =
      subst (λ (head : List ℕ). StandsFor head file s.store ⊎ StandsFor head file s.begun) (ap (λ (p : Place). header p.node p.nodes) placed) (law node s file seen image)

  -- each node's file, where each is an image of its disk now
  pub all_left : (plan : Plan) (nodes : List (Node D)) (standings : List Standing) (files : List (List ℕ)) (d : Node D) (e : Standing) (i : ℕ) → ImagesAreSeen → AreAtPlaces plan nodes
      → AreSeen g nodes standings → i < length nodes → images_of g (get_or nodes i d) (get_or files i [])
      → IsLeftBy (length plan.sources) i (get_or standings i e).store (get_or standings i e).begun (get_or files i [])
  all_left plan nodes standings files d e i law at_places seen less image =
      left_at plan i (get_or nodes i d) (get_or standings i e) (get_or files i []) law (at_places i d less) (seen_at g nodes standings i d e less seen) image

  -- between two calls
  pub rests : (view : View (Node D)) (eras : List Era) (files : List (List ℕ)) (d : Standing) → length files ≡ length view.nodes → HasNoForged view
      → (ruled : AreRuled g view.config eras view.nodes view.all)
      → ((i : ℕ) → i < length view.nodes → IsLeftBy (length view.config.sources) i (get_or ruled.standings i d).store (get_or ruled.standings i d).begun (get_or files i []))
      → Leaves view.config.setting (length view.config.sources) (era_of view ∷ eras) files
  rests view eras files d count unforged ruled each =
      let standings = ruled.standings in
      let begun = begun_by standings d in
      let size = same_count g view.nodes standings ruled.seen in
      a_run (record {
        before = eras;
        latest = era_of view;
        are = refl;
        sources = view.config.sources;
        old = record { standings = standings; now = view.all };
        runs = ruled.runs;
        begun = begun;
        ends = at_rest refl (each_begun_here standings d);
        same = refl;
        unforged = unforged;
        held = left_from (length view.config.sources) begun d 0 files standings (count ∙ size)
            (λ i less. let e : i ≡ 0 + i = omega arith in
            subst (λ j. IsLeftBy (length view.config.sources) j (get_or standings i d).store (begun j) (get_or files i [])) e (each i (subst (λ n. i < n) (sym size) less)));
      })

  left_at_rest : (view : View (Node D)) (eras : List Era) (files : List (List ℕ)) → ImagesAreSeen → AreAtPlaces view.config view.nodes → AreImages g view.nodes files → HasNoForged view
      → AreRuled g view.config eras view.nodes view.all → Leaves view.config.setting (length view.config.sources) (era_of view ∷ eras) files
  left_at_rest view eras files law at_places images unforged ruled =
      let d : Standing = stopped (place_of view.config 0) empty_store empty_store in
      rests view eras files d images.count unforged ruled (by_nodes view.nodes refl)
    where
      by_nodes : (nodes : List (Node D)) → nodes ≡ view.nodes → (i : ℕ) → i < length view.nodes
          → IsLeftBy (length view.config.sources) i (get_or ruled.standings i (stopped (place_of view.config 0) empty_store empty_store)).store
          (get_or ruled.standings i (stopped (place_of view.config 0) empty_store empty_store)).begun (get_or files i [])
      by_nodes [] is i less = let size : length view.nodes ≡ 0 = ap length (sym is) in absurd (omega (arith, size, less))
      by_nodes (node ∷ nodes) is i less =
          all_left view.config view.nodes ruled.standings files node (stopped (place_of view.config 0) empty_store empty_store) i law at_places ruled.seen less (images.each i node less)

  -- over new stores a cluster goes on from no era
  pub goes_on_fresh : (now : View (Node D)) (files : List (List ℕ)) (plan : Plan) → now.opened ≡ true → now.config ≡ plan → map (begun_of g) now.nodes ≡ files → length files ≡ length plan.sources
      → HaveStores (length plan.sources) files (λ i. empty_store) → GoesOnFrom g now []
  goes_on_fresh now files plan opened config begun count have =
      subst (λ b. GoesOn b now.config.setting (length now.config.sources) [] (map (begun_of g) now.nodes)) (sym opened)
      (subst (λ (fs : List (List ℕ)). ∥ Leaves now.config.setting (length now.config.sources) [] fs ∥₁) (sym begun)
      (subst (λ (p : Plan). ∥ Leaves p.setting (length p.sources) [] files ∥₁) (sym config) ∣ (new_stores refl count have) ∣₁))

  -- a cluster of the same match goes on from what this one leaves
  pub goes_on : (view now : View (Node D)) (eras : List Era) → ImagesAreSeen → ∥ AreAtPlaces view.config view.nodes ∥₁ → IsBehind g view.opened view.config view.nodes view.all
      → now.opened ≡ true → view.config.setting ≡ now.config.setting → length view.config.sources ≡ length now.config.sources
      → AreImages g view.nodes (map (begun_of g) now.nodes) → GoesOnFrom g view eras → IsTrue g.is_honest → HasNoForged view → GoesOnFrom g now (era_of view ∷ eras)
  goes_on view now eras law at_places behind opened setting count images goes honest unforged =
      let files = map (begun_of g) now.nodes in
      let left : ∥ Leaves view.config.setting (length view.config.sources) (era_of view ∷ eras) files ∥₁ =
      ∥∥₁_elim at_places (hlevel) (λ each. ∥∥₁_map (behind eras goes honest) (λ ruled. left_at_rest view eras files law each images unforged ruled)) in
      let here : ∥ Leaves now.config.setting (length now.config.sources) (era_of view ∷ eras) files ∥₁ =
      subst (λ n. ∥ Leaves now.config.setting n (era_of view ∷ eras) files ∥₁) count (subst (λ (s : Setting). ∥ Leaves s (length view.config.sources) (era_of view ∷ eras) files ∥₁) setting left) in
      subst (λ b. GoesOn b now.config.setting (length now.config.sources) (era_of view ∷ eras) files) (sym opened) here
