-- The processes that a node had, one after another, and what they did together.
use Rattle.std.specs.Prelude.{◌≡◌, ℕ, ◌⊎◌, List, [], ◌∷◌, ◌++◌, Result, IsTrue}
use Rattle.promise_store.specs.declared.disk.Disk.{Ghosts}
use Rattle.promise_store.specs.Journals.{header}
use Rattle.promise_store.specs.Holding.{StandsFor}
use Rattle.protocol_model.specs.Stores.{empty_store}
use Rattle.node_rules.specs.Standings.{Place}
use Rattle.dealer_node.specs.Nodes.{Node}
use Rattle.dealer_node.specs.declared.fault.NodeFault.{NodeFault}
use Rattle.dealer_node.specs.Outs.{Told}
use Rattle.dealer_node.specs.Seeing.{front_in, begun_of, images_of, since_of, moment_of}
use Rattle.dealer_world.specs.declared.event.Event.{Event}
use Rattle.dealer_world.specs.Events.{node_of}
use Rattle.dealer_world.specs.Stepping.{IsFor, IsGiven}
use Rattle.stations.specs.Deeds.{Deed}
use Rattle.stations.specs.Stations.{Look, known_place, Has, LeavesFile, died, broke_off}

module _ {D : Type 0} (g : Ghosts D) where
  -- a process of the node at this place, with this source of deals, which was begun on this file
  pub record IsProcess (place : Place) (file : List ℕ) (look : Look (Node D)) : Type 0 where
    pub placed : known_place look ≡ place
    pub begun : begun_of g look.node ≡ file
    pub has : Has g look

  -- how a process that was begun on a file came to leave another: it ended between two calls, or inside one
  pub data Ended (place : Place) (found left : List ℕ) : Type 0 where
    at_rest : (look : Look (Node D)) → IsProcess place found look → images_of g look.node left → Ended place found left
    inside : (look : Look (Node D)) → IsProcess place found look → (e : Event) (new : Node D) (told : Told) (answer : Result (Unit {0}) NodeFault)
        → node_of e ≡ place.node → IsFor place.nodes place.setting.game.players e → IsGiven g e look.node new told answer
        → since_of g new (moment_of g look.node) left → Ended place found left

  -- what it did then, all in all: of a call that broke off either nothing was done, or what it brought came
  abbrev pub MayHaveDone : (place : Place) (found left : List ℕ) → Ended place found left → List Deed → Type 0
  MayHaveDone place found left (at_rest look is image) own = own ≡ died ∷ look.deeds
  MayHaveDone place found left (inside look is e new told answer here is_for given since) own =
      (own ≡ died ∷ look.deeds) ⊎ (own ≡ broke_off (front_in look.node) e ∷ look.deeds)

  -- the processes that a node had, up to a file: the first was begun on a new store, each next on what the one before left
  pub data Incarnations (place : Place) : List ℕ → Type 0 where
    new_store : (file : List ℕ) → StandsFor (header place.node place.nodes) file empty_store → Incarnations place file
    one_more : (found left : List ℕ) → Incarnations place found → Ended place found left → Incarnations place left

  -- what these did together, newest first
  abbrev pub IsHistoryOf : (place : Place) (file : List ℕ) → Incarnations place file → List Deed → Type 0
  IsHistoryOf place _ (new_store file is) deeds = deeds ≡ []
  IsHistoryOf place _ (one_more found left incarnations ended) deeds =
      (before : List Deed) × (own : List Deed) × IsHistoryOf place found incarnations before × MayHaveDone place found left ended own × (deeds ≡ own ++ before)

  -- there is a history that leads to the file
  abbrev pub IncarnationsAreDeeds : Type 0
  IncarnationsAreDeeds = (place : Place) (file : List ℕ) (incarnations : Incarnations place file) → IsTrue g.is_honest
      → ∥ ((deeds : List Deed) × IsHistoryOf place file incarnations deeds × LeavesFile place file deeds) ∥₁
