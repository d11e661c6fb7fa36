-- What a server does next, by what is known.
use Rattle.std.specs.Prelude.{ℕ, ◌+◌, ◌==◌, Bool, true, false, not, ◌&&◌, ◌||◌, if◌then◌else◌, nat_lt, List, Option, Some, None, unwrap_or, position, drop, slice_get}
use Rattle.std.specs.List.{list_all, list_any}
use Rattle.serving.specs.declared.place.Place.{Place}
use Rattle.serving.specs.declared.place.Place.TheVariants.{Awaited, Seated, Leaving, Played}
use Rattle.serving.specs.declared.known.NodeSight.{NodeSight}
use Rattle.serving.specs.declared.known.Repair.{Repair}
use Rattle.serving.specs.declared.known.Repair.TheVariants as repair
use Rattle.serving.specs.declared.known.Known.{Known}
use Rattle.serving.specs.declared.due.Due.{Due}
use Rattle.serving.specs.declared.due.Due.TheVariants.{Stop, Start, Drop, Await, Read, Away, Deliver, Tick, Over}

-- a node whose store failed is stopped, and then started
abbrev pub repairing : Repair → Due
repairing (repair.Stop node) = Stop node
repairing (repair.Start node) = Start node

-- ---- seats

abbrev pub is_leaving : Place → Bool
is_leaving (Leaving node) = true
is_leaving (Awaited node) = false
is_leaving (Seated node) = false
is_leaving (Played node) = false

abbrev pub dropped : ℕ → Option Place → Option Due
dropped seat (Some (Leaving node)) = Some (Drop seat node)
dropped seat other = None

abbrev pub leaving_at : List Place → Option ℕ → Option Due
leaving_at places None = None
leaving_at places (Some seat) = dropped seat (slice_get places seat)

-- the first seat that leaves is dropped
abbrev pub leaving : List Place → Option Due
leaving places = leaving_at places (position is_leaving places)

-- a node by what is known of each
abbrev pub running : List NodeSight → Option ℕ
running nodes = position (λ sight. sight.runs) nodes

-- the first that runs from this one on, in cyclic order; where none runs, this one
abbrev pub or_around : List NodeSight → ℕ → Option ℕ → ℕ
or_around nodes node (Some found) = node + found
or_around nodes node None = unwrap_or (running nodes) node

-- the first that runs from this node on, in cyclic order
abbrev pub running_from : List NodeSight → ℕ → ℕ
running_from nodes node = or_around nodes node (running (drop node nodes))

-- some running node has applied more than so many commands
abbrev pub is_behind : List NodeSight → ℕ → Bool
is_behind nodes front = list_any (λ sight. sight.runs && nat_lt front sight.front) nodes

-- an act waits at the node, or it is behind
abbrev pub has_to_go_on : List NodeSight → Option NodeSight → Bool
has_to_go_on nodes None = false
has_to_go_on nodes (Some sight) = sight.pends || is_behind nodes sight.front

abbrev pub is_to_tick : List NodeSight → ℕ → Bool
is_to_tick nodes node = has_to_go_on nodes (slice_get nodes node)

-- by a node's own table this seat is to act
abbrev pub is_seat : Option ℕ → ℕ → Bool
is_seat None seat = false
is_seat (Some to_act) seat = to_act == seat

abbrev pub acts_by : Option NodeSight → ℕ → Bool
acts_by None seat = false
acts_by (Some sight) seat = is_seat sight.to_act seat

-- and so of the node of this number
abbrev pub has_to_act : List NodeSight → ℕ → ℕ → Bool
has_to_act nodes node seat = acts_by (slice_get nodes node) seat

-- a seat is played for at a node: where the node has to go on first, or another seat is to act there, it ticks
abbrev pub played : List NodeSight → ℕ → ℕ → Due
played nodes seat node = if not (is_to_tick nodes node) && has_to_act nodes node seat then Away seat node else Tick node

-- a seat with a connection is read from, one without is awaited, or played for where it was dropped
abbrev pub meeting : List NodeSight → ℕ → Place → Due
meeting nodes seat (Awaited node) = Await seat (running_from nodes node)
meeting nodes seat (Seated node) = Read seat node
meeting nodes seat (Leaving node) = Drop seat node
meeting nodes seat (Played node) = played nodes seat (running_from nodes node)

abbrev pub greeting_at : List NodeSight → ℕ → Option Place → Option Due
greeting_at nodes seat None = None
greeting_at nodes seat (Some place) = Some (meeting nodes seat place)

-- the next seat is greeted
abbrev pub greeting : List NodeSight → List Place → ℕ → Option Due
greeting nodes places greeted = greeting_at nodes greeted (slice_get places greeted)

-- ---- nodes

-- the match is over wherever a node runs
abbrev pub is_over : List NodeSight → Bool
is_over nodes = list_all (λ sight. not sight.runs || sight.over) nodes

abbrev pub stopping : Option ℕ → Option Due
stopping None = None
stopping (Some node) = Some (Stop node)

abbrev pub starting : List NodeSight → Option ℕ → Option Due
starting nodes None = stopping (position (λ sight. sight.runs && sight.is_out) nodes)
starting nodes (Some node) = Some (Start node)

-- a node whose outage ended is started, before one whose outage begins is stopped
abbrev pub outing : List NodeSight → Option Due
outing nodes = starting nodes (position (λ sight. not sight.runs && not sight.is_out) nodes)

-- ---- the match

abbrev pub acting_at : List NodeSight → ℕ → Option Place → Due
acting_at nodes seat None = Tick 0
acting_at nodes seat (Some (Seated node)) = if is_to_tick nodes node then Tick node else Read seat node
acting_at nodes seat (Some (Awaited node)) = Await seat (running_from nodes node)
acting_at nodes seat (Some (Leaving node)) = Drop seat node
acting_at nodes seat (Some (Played node)) = played nodes seat (running_from nodes node)

-- it is a seat's turn: where its node has to go on first, that node ticks; else the seat is met
abbrev pub acting : List NodeSight → List Place → ℕ → Due
acting nodes places seat = acting_at nodes seat (slice_get places seat)

abbrev pub ticking : Option ℕ → Due
ticking None = Tick 0
ticking (Some node) = Tick node

-- the lowest that runs and whose match isn't over ticks
abbrev pub finishing : List NodeSight → Due
finishing nodes = ticking (position (λ sight. sight.runs && not sight.over) nodes)

abbrev pub going_on : List NodeSight → List Place → ℕ → NodeSight → Option ℕ → Due
going_on nodes places lowest sight None = Tick lowest
going_on nodes places lowest sight (Some seat) = if is_behind nodes sight.front then Tick lowest else acting nodes places seat

abbrev pub as_seen_by : List NodeSight → List Place → ℕ → Option NodeSight → Due
as_seen_by nodes places lowest None = Tick lowest
as_seen_by nodes places lowest (Some sight) = if sight.over then finishing nodes else going_on nodes places lowest sight sight.to_act

abbrev pub playing_at : List NodeSight → List Place → Option ℕ → Due
playing_at nodes places None = Tick 0
playing_at nodes places (Some lowest) = as_seen_by nodes places lowest (slice_get nodes lowest)

-- the match goes on, as the lowest running node sees it
abbrev pub playing : List NodeSight → List Place → Due
playing nodes places = playing_at nodes places (running nodes)

-- ---- all of it

abbrev pub delivering : Due → Option ℕ → Due
delivering later None = later
delivering later (Some number) = Deliver number

abbrev pub repairing_or : Due → Option Repair → Due
repairing_or later None = later
repairing_or later (Some fault) = repairing fault

-- the first that is due, by the nodes, the seats' places, how many seats were greeted, the next frame and what a node whose store failed needs: a failed
-- store, a seat that leaves, greeting, the end, a frame, outages, the match
abbrev pub due_by : List NodeSight → List Place → ℕ → Option ℕ → Option Repair → Due
due_by nodes places greeted frame repair =
    repairing_or
    (unwrap_or (leaving places)
    (unwrap_or (greeting nodes places greeted)
    (if is_over nodes then Over else delivering (unwrap_or (outing nodes) (playing nodes places)) frame)))
    repair

abbrev pub due_of : Known → Due
due_of known = due_by known.nodes.now known.places.now known.greeted known.frame known.repair
