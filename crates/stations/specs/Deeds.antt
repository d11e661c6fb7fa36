-- What the nodes of a match did, each in a process of its own, and the record of all of them together.
use Rattle.std.specs.Prelude.{◌≡◌, ℕ, ◌<◌, ◌==◌, if◌then◌else◌, List, [], ◌∷◌}
use Rattle.protocol_model.specs.Sets.{In}
use Rattle.protocol_model.specs.Stores.{empty_store}
use Rattle.node_rules.specs.Standings.{Place, Standing, stopped}
use Rattle.node_rules.specs.Calls.{Call}
use Rattle.dealer_world.specs.Records.{Record, Arrived, no_record}
use Rattle.dealer_world.specs.Calls.{Made}
use Rattle.dealer_world.specs.Views.{grown}
use Rattle.dealer_world.specs.Runs.{Ruled}

-- one call of a node, as it is seen from outside: what arrived with it and what it made
pub record Deed : Type 0 where
  pub arrived : List Arrived
  pub made : Made

-- the node at this place held and knew this at first, and then did these, newest first, each by the rules; so it holds and knows this. A process that is
-- killed is a call that stops, or one that fails in its append; the next process of the node is its start
abbrev pub Did : Place → Standing → List Deed → Standing → Type 0
Did place first [] s = s ≡ first
Did place first (deed ∷ before) s =
    (old : Standing) × Did place first before old × ((called : Call) × Ruled place old called deed.arrived deed.made s)

-- a node that has just been created
abbrev pub new_at : Place → Standing
new_at place = stopped place empty_store empty_store

-- which node did it
pub record Doing : Type 0 where
  pub node : ℕ
  pub deed : Deed

-- what node i did among all that was done, both newest first
abbrev pub deeds_of : List Doing → ℕ → List Deed
deeds_of [] i = []
deeds_of (doing ∷ before) i = if doing.node == i then doing.deed ∷ deeds_of before i else deeds_of before i

-- an order of all that n nodes did, which keeps that of each node
pub record IsOrder (n : ℕ) (histories : ℕ → List Deed) (all : List Doing) : Type 0 where
  pub nodes : (doing : Doing) → In doing all → doing.node < n
  pub each : (i : ℕ) → i < n → deeds_of all i ≡ histories i

-- the record of all that was done, in this order
abbrev pub record_of : List Doing → Record
record_of [] = no_record
record_of (doing ∷ before) = grown (record_of before) doing.node doing.deed.arrived doing.deed.made
