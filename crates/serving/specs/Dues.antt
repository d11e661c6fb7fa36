-- What is due of a cluster, by what a server knows beside it.
use Rattle.std.specs.Prelude.{◌≡◌, ℕ, nat_lt, if◌then◌else◌, List, length, Option, Some, None}
use Rattle.promise_store.specs.declared.disk.Disk.{Ghosts}
use Rattle.dealer_node.specs.Nodes.{Node}
use Rattle.dealer_world.specs.Records.{Frame}
use Rattle.dealer_world.specs.Stepping.{View}
use Rattle.serving.specs.declared.known.NodeSight.{NodeSight}
use Rattle.serving.specs.declared.due.Due.{Due}
use Rattle.serving.specs.declared.due.Due.TheVariants as due
use Rattle.serving.specs.declared.progress.Progress.{Progress}
use Rattle.serving.specs.declared.waiting.Waiting.{Waiting}
use Rattle.serving.specs.declared.waiting.Taking.{Taking}
use Rattle.serving.specs.declared.waiting.Taking.TheVariants.{Gives}
use Rattle.serving.specs.declared.turn.Turn.{Turn}
use Rattle.serving.specs.Next.{due_by}
use Rattle.serving.specs.Outing.{outages_in}
use Rattle.serving.specs.Placed.{places_in}
use Rattle.serving.specs.Served.{Served}
use Rattle.serving.specs.Sights.{AreSights}
use Rattle.serving.specs.Turning.{IsTaken, IsTakenUp, IsSlow}

-- the number of the next frame, where more were sent than were delivered
abbrev pub next_frame : List Frame → ℕ → Option ℕ
next_frame sent delivered = if nat_lt delivered (length sent) then Some delivered else None

-- the seat that is awaited, and at which node
abbrev pub awaited_in : Due → Option (ℕ × ℕ)
awaited_in (due.Await seat node) = Some (seat, node)
awaited_in other = None

module _ {D : Type 0} (g : Ghosts D) where
  -- the first that is due, as the nodes are seen
  pub record IsDue (view : View (Node D)) (progress : Progress) (what : Due) : Type 0 where
    pub sights : List NodeSight
    pub seen : AreSights g view.nodes (outages_in progress.outages) progress.count sights
    pub first : what ≡ due_by sights (places_in progress.places) progress.greeted (next_frame view.all.sent progress.delivered) progress.repair

  -- the event that a turn gives to the cluster: the one that waits, or else that of what is due
  abbrev pub IsNext : View (Node D) → Progress → Option Waiting → Option Waiting → Type 0
  IsNext view progress (Some waiting) found = found ≡ Some waiting
  IsNext view progress None found = (what : Due) × IsDue view progress what × IsTaken what found

  -- what a turn takes: the event that waits, or else what is due
  abbrev pub TakesNext : View (Node D) → Progress → Option Waiting → Taking → Type 0
  TakesNext view progress (Some waiting) taking = taking ≡ Gives waiting
  TakesNext view progress None taking = (what : Due) × IsDue view progress what × IsTakenUp what taking

  -- no event waits, and a turn waited for the seat that is due to be awaited or read from
  pub record SentNothing (view : View (Node D)) (progress : Progress) (waiting : Option Waiting) (t : Turn) : Type 0 where
    pub free : waiting ≡ None
    pub what : Due
    pub is_due : IsDue view progress what
    pub slow : IsSlow what t

  -- the seat that the next turn awaits: none where an event waits, or something else is due
  abbrev pub IsAwaitedBy : View (Node D) → Progress → Option Waiting → Option (ℕ × ℕ) → Type 0
  IsAwaitedBy view progress (Some waiting) found = found ≡ None
  IsAwaitedBy view progress None found = (what : Due) × IsDue view progress what × (found ≡ awaited_in what)

  abbrev pub IsAwaited : Served (Node D) → Option (ℕ × ℕ) → Type 0
  IsAwaited server found = IsAwaitedBy server.view server.progress server.waiting found
