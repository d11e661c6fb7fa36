-- No state of a cluster is a dead end, and a cluster at rest moves.
use Rattle.std.specs.Prelude.{◌≡◌, ℕ, ◌+◌, ◌<◌, ◌≤◌, ◌-◌, ◌^◌, true, List, [], ◌∷◌, ◌++◌, length, IsTrue}
use Rattle.std.proofs.Common.{get_or}
use Rattle.promise_store.specs.declared.disk.Disk.{Ghosts}
use Rattle.slot_log.specs.declared.command.Command.{Command}
use Rattle.protocol_model.specs.Sets.{In}
use Rattle.node_rules.specs.Standings.{Standing, place_of, front_of}
use Rattle.node_rules.specs.Calm.{Calm, Ticks, Delivers, round}
use Rattle.node_rules.specs.Calm as calm
use Rattle.node_rules.specs.CalmRound.{AreKnown}
use Rattle.node_rules.specs.Ways.{Movable, IsWay}
use Rattle.dealer_node.specs.Nodes.{Node}
use Rattle.dealer_node.specs.Seeing.{IsSeen, failures_of}
use Rattle.dealer_world.specs.declared.event.Event.{Event}
use Rattle.dealer_world.specs.declared.event.Event.TheVariants as event
use Rattle.dealer_world.specs.Headline.{Era}
use Rattle.dealer_world.specs.Stepping.{View}
use Rattle.dealer_world.specs.Promise.{GoesOnFrom, HasNoForged}

-- the event is this one of a round: of the same kind, with the same numbers and the same bytes
abbrev pub IsEvent : Event → calm.Event → Type 0
IsEvent (event.Frame from to bytes) (Ticks node) = ⊥
IsEvent (event.Frame from to bytes) (Delivers sender receiver spelled) = (from ≡ sender) × (to ≡ receiver) × (bytes.items ≡ spelled)
IsEvent (event.Line node seat bytes) other = ⊥
IsEvent (event.Tick number) (Ticks node) = number ≡ node
IsEvent (event.Tick number) (Delivers sender receiver spelled) = ⊥
IsEvent (event.Away node) other = ⊥
IsEvent (event.Connect node seat) other = ⊥
IsEvent (event.Drop node seat) other = ⊥
IsEvent (event.Stop node pick) other = ⊥
IsEvent (event.Start node) other = ⊥

-- and so of all, none left out and none more
abbrev pub AreEvents : List Event → List calm.Event → Type 0
AreEvents [] [] = Unit {0}
AreEvents [] (other ∷ others) = ⊥
AreEvents (e ∷ events) [] = ⊥
AreEvents (e ∷ events) (other ∷ others) = IsEvent e other × AreEvents events others

module _ {D : Type 0} (g : Ghosts D) where
  -- no call of a member's disk failed: the counts are what they were, and aren't at their end
  abbrev pub HaveNotFailed : View (Node D) → View (Node D) → List ℕ → Type 0
  HaveNotFailed old new members = (k : ℕ) (d : Node D) → In k members
      → (failures_of g (get_or new.nodes k d) ≡ failures_of g (get_or old.nodes k d)) × (failures_of g (get_or new.nodes k d) < 2 ^ 64 - 1)

  -- node i is seen as one that runs, its front has passed the slot and those of the further commands, and there it knows the commands
  abbrev pub HasPassed : View (Node D) → ℕ → ℕ → List Command → Type 0
  HasPassed view i slot commands = (d : Node D)
      → (s : Standing) × IsSeen g (get_or view.nodes i d) s × (s.up ≡ true) × (slot + length commands ≤ front_of s) × AreKnown s.learned.log slot commands

  -- over honest disks, where no frame was forged before: where the members of a least quorum are seen as these standings, node i is movable with them to some
  -- commands, the events were a beginning of a way of it, and no member's disk failed, no frame was forged in it either; and if they were all of the way, the front
  -- of i has passed as many slots from where it stood, at each of which its command is known
  abbrev pub MovesOn : View (Node D) → List Event → View (Node D) → Type 0
  MovesOn old events new = (before : List Era) (standings : ℕ → Standing) (i : ℕ) (members : List ℕ) (commands : List Command) (first rest : List calm.Event)
      → GoesOnFrom g old before → IsTrue g.is_honest → HasNoForged old
      → ((k : ℕ) (d : Node D) → In k members → IsSeen g (get_or old.nodes k d) (standings k)) → Movable (place_of old.config i) standings i members commands
      → IsWay standings i members commands (first ++ rest) → AreEvents events first → HaveNotFailed old new members
      → ∥ HasNoForged new × (rest ≡ [] → HasPassed new i (front_of (standings i)) commands) ∥₁

  -- the same of members that are calm for node i, where the events were a beginning of its round
  abbrev pub MovesOnAtRest : View (Node D) → List Event → View (Node D) → Type 0
  MovesOnAtRest old events new = (before : List Era) (standings : ℕ → Standing) (i : ℕ) (members : List ℕ) (commands : List Command) (first rest : List calm.Event)
      → GoesOnFrom g old before → IsTrue g.is_honest → HasNoForged old
      → ((k : ℕ) (d : Node D) → In k members → IsSeen g (get_or old.nodes k d) (standings k)) → Calm (place_of old.config i) standings i members commands
      → round standings i members commands ≡ first ++ rest → AreEvents events first → HaveNotFailed old new members
      → ∥ HasNoForged new × (rest ≡ [] → HasPassed new i (front_of (standings i)) commands) ∥₁

  -- which follows: the round of a cluster at rest is a way of it
  abbrev pub ClustersAtRestMove : Type 0
  ClustersAtRestMove = (old new : View (Node D)) (events : List Event) → MovesOn old events new → MovesOnAtRest old events new
