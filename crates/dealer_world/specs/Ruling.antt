-- A cluster's nodes as those of a run of the rules, and what a cluster that was opened goes on from.
use Rattle.std.specs.Prelude.{◌≡◌, ℕ, ◌+◌, ◌⊎◌, ◌<◌, Bool, true, false, List, [], ◌∷◌, map, length, IsTrue}
use Rattle.std.proofs.Common.{get_or}
use Rattle.promise_store.specs.declared.disk.Disk.{Ghosts}
use Rattle.promise_store.specs.Journals.{header}
use Rattle.promise_store.specs.Holding.{StandsFor}
use Rattle.protocol_model.specs.Stores.{Store, empty_store}
use Rattle.dealer_kind.specs.Kind.{Setting}
use Rattle.dealer_kind.specs.Plans.{Plan}
use Rattle.dealer_kind.specs.declared.source.Source.{Source}
use Rattle.node_rules.specs.Standings.{Standing, place_of}
use Rattle.dealer_node.specs.Nodes.{Node}
use Rattle.dealer_node.specs.Members.{place_at}
use Rattle.dealer_node.specs.Seeing.{member_in, IsSeen, begun_of}
use Rattle.dealer_world.specs.Records.{Record}
use Rattle.dealer_world.specs.Unforged.{IsUnforged}
use Rattle.dealer_world.specs.Headline.{Era}
use Rattle.dealer_world.specs.RuleRuns.{State, EndsAs, plan_of, RunsTo}
use Rattle.dealer_world.specs.Beginning.{HaveStores}

module _ {D : Type 0} where
  -- each node is at its place in the match
  abbrev pub AreAtPlaces : Plan → List (Node D) → Type 0
  AreAtPlaces plan nodes = (i : ℕ) (d : Node D) → i < length nodes → place_at (member_in (get_or nodes i d)) ≡ place_of plan i

module _ {D : Type 0} (g : Ghosts D) where
  -- the nodes are seen as these standings
  abbrev pub AreSeen : List (Node D) → List Standing → Type 0
  AreSeen [] [] = Unit {0}
  AreSeen [] (s ∷ standings) = ⊥
  AreSeen (node ∷ nodes) [] = ⊥
  AreSeen (node ∷ nodes) (s ∷ standings) = IsSeen g node s × AreSeen nodes standings

  -- the nodes are seen as the standings of a run of the rules, over all its eras, with this record
  pub record AreRuled (plan : Plan) (before : List Era) (nodes : List (Node D)) (now : Record) : Type 0 where
    pub standings : List Standing
    pub seen : AreSeen nodes standings
    pub runs : RunsTo plan.setting (length plan.sources) before plan.sources (record { standings = standings; now = now })

-- each file, that of node i first, stands for the store of its node or for the one that was begun there
abbrev pub AreLeft : ℕ → ℕ → (ℕ → Store) → List (List ℕ) → List Standing → Type 0
AreLeft n i begun [] [] = Unit {0}
AreLeft n i begun [] (s ∷ standings) = ⊥
AreLeft n i begun (file ∷ files) [] = ⊥
AreLeft n i begun (file ∷ files) (s ∷ standings) = (StandsFor (header i n) file s.store ⊎ StandsFor (header i n) file (begun i)) × AreLeft n (i + 1) begun files standings

-- a run of the rules that made these eras, in which no frame was forged, may have been stopped, between two calls or inside one, so that its disks hold these files
pub record RunLeaves (setting : Setting) (n : ℕ) (eras : List Era) (files : List (List ℕ)) : Type 0 where
  pub before : List Era
  pub latest : Era
  pub are : eras ≡ latest ∷ before
  pub sources : List Source
  pub old : State
  pub runs : RunsTo setting n before sources old
  pub begun : ℕ → Store
  pub ends : EndsAs (plan_of setting sources) old latest.record_of begun
  pub same : latest.sources ≡ sources
  pub unforged : IsUnforged latest.record_of.sent latest.record_of.delivered
  pub held : AreLeft n 0 begun files old.standings

-- what may be opened: the files of new stores, which no era made, or what a run left
pub data Leaves (setting : Setting) (n : ℕ) (eras : List Era) (files : List (List ℕ)) : Type 0 where
  new_stores : eras ≡ [] → length files ≡ n → HaveStores n files (λ i. empty_store) → Leaves setting n eras files
  a_run : RunLeaves setting n eras files → Leaves setting n eras files

-- a new cluster goes on from no era, one that was opened from eras that left what its disks held then, or from none over new stores
abbrev pub GoesOn : Bool → Setting → ℕ → List Era → List (List ℕ) → Type 0
GoesOn false setting n eras files = eras ≡ []
GoesOn true setting n eras files = ∥ Leaves setting n eras files ∥₁

module _ {D : Type 0} (g : Ghosts D) where
  -- over honest disks there is a run of the rules behind the cluster, for whatever eras it goes on from
  abbrev pub IsBehind : Bool → Plan → List (Node D) → Record → Type 0
  IsBehind opened plan nodes all = (before : List Era) → GoesOn opened plan.setting (length plan.sources) before (map (begun_of g) nodes) → IsTrue g.is_honest
      → ∥ AreRuled g plan before nodes all ∥₁
