-- All is over only where the match is over at every running node.
use Rattle.std.proofs.Common.{◌≡◌, ℕ, Bool, true, false, List, Option, Some, None, refl}
use Rattle.std.specs.Prelude.{unwrap_or, slice_get, position, if◌then◌else◌, not, ◌&&◌}
use Rattle.serving.specs.declared.place.Place.{Place}
use Rattle.serving.specs.declared.place.Place.TheVariants.{Awaited, Seated, Leaving, Played}
use Rattle.serving.specs.declared.known.NodeSight.{NodeSight}
use Rattle.serving.specs.declared.known.Repair.{Repair}
use Rattle.serving.specs.declared.known.Repair.TheVariants as repair
use Rattle.serving.specs.declared.due.Due.{Due}
use Rattle.serving.specs.declared.due.Due.TheVariants.{Over, Tick, Read, Away}
use Rattle.serving.specs.Next.{repairing_or, leaving, leaving_at, dropped, is_leaving, greeting, greeting_at, is_over, delivering, outing, starting, stopping, playing, playing_at, as_seen_by, going_on, acting, acting_at, played, has_to_act, is_to_tick, is_behind, running_from, finishing, ticking, running, due_by}

-- ---- each step but the end is something else

repair_is_none : (later : Due) (found : Option Repair) → repairing_or later found ≡ Over → later ≡ Over
repair_is_none later None is = is
repair_is_none later (Some (repair.Stop node)) is = cc
repair_is_none later (Some (repair.Start node)) is = cc

neither : (test : Bool) (a b : Due) → (a ≡ Over → ⊥) → (b ≡ Over → ⊥) → (if test then a else b) ≡ Over → ⊥
neither true a b first second is = first is
neither false a b first second is = second is

tick_is_not : (node : ℕ) → Tick node ≡ Over → ⊥
tick_is_not node is = cc

away_is_not : (seat node : ℕ) → Away seat node ≡ Over → ⊥
away_is_not seat node is = cc

played_is_not : (nodes : List NodeSight) (seat node : ℕ) → played nodes seat node ≡ Over → ⊥
played_is_not nodes seat node is = neither (not (is_to_tick nodes node) && has_to_act nodes node seat) (Away seat node) (Tick node) (away_is_not seat node) (tick_is_not node) is

drop_is_none : (seat : ℕ) (place : Option Place) (later : Due) → unwrap_or (dropped seat place) later ≡ Over → later ≡ Over
drop_is_none seat None later is = is
drop_is_none seat (Some (Awaited node)) later is = is
drop_is_none seat (Some (Seated node)) later is = is
drop_is_none seat (Some (Played node)) later is = is
drop_is_none seat (Some (Leaving node)) later is = cc

leaving_is_none : (places : List Place) (found : Option ℕ) (later : Due) → unwrap_or (leaving_at places found) later ≡ Over → later ≡ Over
leaving_is_none places None later is = is
leaving_is_none places (Some seat) later is = drop_is_none seat (slice_get places seat) later is

greeting_is_none : (nodes : List NodeSight) (seat : ℕ) (place : Option Place) (later : Due) → unwrap_or (greeting_at nodes seat place) later ≡ Over → later ≡ Over
greeting_is_none nodes seat None later is = is
greeting_is_none nodes seat (Some (Awaited node)) later is = cc
greeting_is_none nodes seat (Some (Seated node)) later is = cc
greeting_is_none nodes seat (Some (Leaving node)) later is = cc
greeting_is_none nodes seat (Some (Played node)) later is = absurd (played_is_not nodes seat (running_from nodes node) is)

stopping_is_none : (found : Option ℕ) (later : Due) → unwrap_or (stopping found) later ≡ Over → later ≡ Over
stopping_is_none None later is = is
stopping_is_none (Some node) later is = cc

outing_is_none : (nodes : List NodeSight) (found : Option ℕ) (later : Due) → unwrap_or (starting nodes found) later ≡ Over → later ≡ Over
outing_is_none nodes None later is = stopping_is_none (position (λ sight. sight.runs && sight.is_out) nodes) later is
outing_is_none nodes (Some node) later is = cc

frame_is_none : (later : Due) (frame : Option ℕ) → delivering later frame ≡ Over → later ≡ Over
frame_is_none later None is = is
frame_is_none later (Some number) is = cc

-- ---- the match goes on

read_is_not : (seat node : ℕ) → Read seat node ≡ Over → ⊥
read_is_not seat node is = cc

ticking_is_not : (found : Option ℕ) → ticking found ≡ Over → ⊥
ticking_is_not None is = cc
ticking_is_not (Some node) is = cc

acting_is_not : (nodes : List NodeSight) (seat : ℕ) (place : Option Place) → acting_at nodes seat place ≡ Over → ⊥
acting_is_not nodes seat None is = cc
acting_is_not nodes seat (Some (Awaited node)) is = cc
acting_is_not nodes seat (Some (Leaving node)) is = cc
acting_is_not nodes seat (Some (Played node)) is = played_is_not nodes seat (running_from nodes node) is
acting_is_not nodes seat (Some (Seated node)) is = neither (is_to_tick nodes node) (Tick node) (Read seat node) (tick_is_not node) (read_is_not seat node) is

going_on_is_not : (nodes : List NodeSight) (places : List Place) (lowest : ℕ) (sight : NodeSight) (seat : Option ℕ) → going_on nodes places lowest sight seat ≡ Over → ⊥
going_on_is_not nodes places lowest sight None is = cc
going_on_is_not nodes places lowest sight (Some seat) is =
    neither (is_behind nodes sight.front) (Tick lowest) (acting nodes places seat) (tick_is_not lowest) (acting_is_not nodes seat (slice_get places seat)) is

seen_is_not : (nodes : List NodeSight) (places : List Place) (lowest : ℕ) (sight : Option NodeSight) → as_seen_by nodes places lowest sight ≡ Over → ⊥
seen_is_not nodes places lowest None is = cc
seen_is_not nodes places lowest (Some sight) is =
    neither sight.over (finishing nodes) (going_on nodes places lowest sight sight.to_act) (ticking_is_not (position (λ sight. sight.runs && not sight.over) nodes))
    (going_on_is_not nodes places lowest sight sight.to_act) is

playing_is_not : (nodes : List NodeSight) (places : List Place) (lowest : Option ℕ) → playing_at nodes places lowest ≡ Over → ⊥
playing_is_not nodes places None is = cc
playing_is_not nodes places (Some lowest) is = seen_is_not nodes places lowest (slice_get nodes lowest) is

-- ---- all of it

by_end : (test : Bool) (later : Due) → (later ≡ Over → ⊥) → (if test then Over else later) ≡ Over → test ≡ true
by_end true later never is = refl
by_end false later never is = absurd (never is)

pub over_where_over : (nodes : List NodeSight) (places : List Place) (greeted : ℕ) (frame : Option ℕ) (fault : Option Repair)
    → due_by nodes places greeted frame fault ≡ Over → is_over nodes ≡ true
over_where_over nodes places greeted frame fault is =
    let playing_on = unwrap_or (outing nodes) (playing nodes places) in
    let later = delivering playing_on frame in
    let ending = if is_over nodes then Over else later in
    let greeted_all = unwrap_or (greeting nodes places greeted) ending in
    let left_all = unwrap_or (leaving places) greeted_all in
    let no_repair = repair_is_none left_all fault is in
    let no_leaving = leaving_is_none places (position is_leaving places) greeted_all no_repair in
    let no_greeting = greeting_is_none nodes greeted (slice_get places greeted) ending no_leaving in
    by_end (is_over nodes) later
    (λ over. playing_is_not nodes places (running nodes) (outing_is_none nodes (position (λ sight. not sight.runs && not sight.is_out) nodes) (playing nodes places) (frame_is_none playing_on frame over)))
    no_greeting
