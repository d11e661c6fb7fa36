-- Where seats are when they were dropped, and when a node has stopped.
use Rattle.std.specs.Prelude.{ℕ, ◌==◌, if◌then◌else◌, List, set, slice_get, Option, Some, None}
use Rattle.match_file.specs.declared.absent.Absent.{Absent}
use Rattle.match_file.specs.declared.absent.Absent.TheVariants.{Wait, Play}
use Rattle.serving.specs.declared.place.Place.{Place}
use Rattle.serving.specs.declared.place.Place.TheVariants.{Awaited, Seated, Leaving, Played}

-- the node of a place
abbrev pub node_at : Place → ℕ
node_at (Awaited node) = node
node_at (Seated node) = node
node_at (Leaving node) = node
node_at (Played node) = node

-- from another node on a seat is awaited, or played for as it was
abbrev pub from_there : ℕ → Place → Place
from_there next (Awaited node) = Awaited next
from_there next (Seated node) = Awaited next
from_there next (Leaving node) = Awaited next
from_there next (Played node) = Played next

-- so is a seat that was at a node which stopped, or was awaited there
abbrev pub moved : ℕ → ℕ → Place → Place
moved node next place = if node_at place == node then from_there next place else place

-- a seat that was dropped is awaited from the next node on, or, where absent seats are played for and it had a connection, is played for from there
abbrev pub dropped_from : Absent → ℕ → Place → Place
dropped_from Wait next place = Awaited next
dropped_from Play next (Awaited node) = Awaited next
dropped_from Play next (Seated node) = Played next
dropped_from Play next (Leaving node) = Played next
dropped_from Play next (Played node) = Played next

abbrev pub with_dropped : Absent → ℕ → List Place → ℕ → Option Place → List Place
with_dropped absent next places seat None = places
with_dropped absent next places seat (Some place) = set places seat (dropped_from absent next place)

-- the same of the seat of this number
abbrev pub dropped_at : Absent → ℕ → List Place → ℕ → List Place
dropped_at absent next places seat = with_dropped absent next places seat (slice_get places seat)
