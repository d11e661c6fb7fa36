-- A seat that is played for is never awaited, read from or dropped.
use Rattle.std.proofs.Common.{◌≡◌, ℕ, ◌⊎◌, inl, inr, Bool, true, false, List, Option, Some, None, refl, sym, ◌∙◌, ap, subst}
use Rattle.std.specs.Prelude.{unwrap_or, slice_get, position, if◌then◌else◌, not, ◌&&◌}
use Rattle.serving.specs.declared.place.Place.{Place}
use Rattle.serving.specs.declared.place.Place.TheVariants.{Awaited, Seated, Leaving, Played}
use Rattle.serving.specs.declared.known.NodeSight.{NodeSight}
use Rattle.serving.specs.declared.known.Repair.{Repair}
use Rattle.serving.specs.declared.known.Repair.TheVariants as repair
use Rattle.serving.specs.declared.due.Due.{Due}
use Rattle.serving.specs.declared.due.Due.TheVariants.{Over, Tick, Read, Await, Drop, Away}
use Rattle.serving.specs.Next.{repairing_or, leaving, leaving_at, dropped, is_leaving, greeting, greeting_at, is_over, delivering, outing, starting, stopping, playing, playing_at, as_seen_by, going_on, acting, acting_at, played, has_to_act, is_to_tick, is_behind, finishing, ticking, running, running_from, due_by}
use Rattle.serving.specs.Played.{PlayedAreLeftAlone}

-- the seat is awaited, read from or dropped
abbrev pub Meets : ℕ → Due → Type 0
Meets seat (Await other node) = other ≡ seat
Meets seat (Read other node) = other ≡ seat
Meets seat (Drop other node) = other ≡ seat
Meets seat due = ⊥

one_of : (test : Bool) (seat : ℕ) (a b : Due) → Meets seat (if test then a else b) → Meets seat a ⊎ Meets seat b
one_of true seat a b meets = inl meets
one_of false seat a b meets = inr meets

played_meets : (nodes : List NodeSight) (seat other node : ℕ) → Meets seat (played nodes other node) → ⊥
played_meets nodes seat other node meets = elim (one_of (not (is_to_tick nodes node) && has_to_act nodes node other) seat (Away other node) (Tick node) meets) [
  | inl none ↦ none
  | inr none ↦ none
]

no_awaited : (node at : ℕ) → ◌≡◌ {A = Option Place} (Some (Awaited node)) (Some (Played at)) → ⊥
no_awaited node at e = cc

no_seated : (node at : ℕ) → ◌≡◌ {A = Option Place} (Some (Seated node)) (Some (Played at)) → ⊥
no_seated node at e = cc

no_leaving : (node at : ℕ) → ◌≡◌ {A = Option Place} (Some (Leaving node)) (Some (Played at)) → ⊥
no_leaving node at e = cc

-- ---- one thing after another

repair_meets : (seat : ℕ) (later : Due) (found : Option Repair) → Meets seat (repairing_or later found) → Meets seat later
repair_meets seat later None meets = meets
repair_meets seat later (Some (repair.Stop node)) meets = absurd meets
repair_meets seat later (Some (repair.Start node)) meets = absurd meets

drop_meets : (seat at other : ℕ) (place : Option Place) (later : Due) → (other ≡ seat → place ≡ Some (Played at)) → Meets seat (unwrap_or (dropped other place) later)
    → Meets seat later
drop_meets seat at other None later here meets = meets
drop_meets seat at other (Some (Awaited node)) later here meets = meets
drop_meets seat at other (Some (Seated node)) later here meets = meets
drop_meets seat at other (Some (Played node)) later here meets = meets
drop_meets seat at other (Some (Leaving node)) later here meets = absurd (no_leaving node at (here meets))

leaving_meets : (seat at : ℕ) (places : List Place) (found : Option ℕ) (later : Due) → ((other : ℕ) → other ≡ seat → slice_get places other ≡ Some (Played at))
    → Meets seat (unwrap_or (leaving_at places found) later) → Meets seat later
leaving_meets seat at places None later here meets = meets
leaving_meets seat at places (Some other) later here meets = drop_meets seat at other (slice_get places other) later (here other) meets

greeting_meets : (nodes : List NodeSight) (seat at other : ℕ) (place : Option Place) (later : Due) → (other ≡ seat → place ≡ Some (Played at))
    → Meets seat (unwrap_or (greeting_at nodes other place) later) → Meets seat later
greeting_meets nodes seat at other None later here meets = meets
greeting_meets nodes seat at other (Some (Awaited node)) later here meets = absurd (no_awaited node at (here meets))
greeting_meets nodes seat at other (Some (Seated node)) later here meets = absurd (no_seated node at (here meets))
greeting_meets nodes seat at other (Some (Leaving node)) later here meets = absurd (no_leaving node at (here meets))
greeting_meets nodes seat at other (Some (Played node)) later here meets = absurd (played_meets nodes seat other (running_from nodes node) meets)

stopping_meets : (seat : ℕ) (found : Option ℕ) (later : Due) → Meets seat (unwrap_or (stopping found) later) → Meets seat later
stopping_meets seat None later meets = meets
stopping_meets seat (Some node) later meets = absurd meets

outing_meets : (nodes : List NodeSight) (seat : ℕ) (found : Option ℕ) (later : Due) → Meets seat (unwrap_or (starting nodes found) later) → Meets seat later
outing_meets nodes seat None later meets = stopping_meets seat (position (λ sight. sight.runs && sight.is_out) nodes) later meets
outing_meets nodes seat (Some node) later meets = absurd meets

frame_meets : (seat : ℕ) (later : Due) (frame : Option ℕ) → Meets seat (delivering later frame) → Meets seat later
frame_meets seat later None meets = meets
frame_meets seat later (Some number) meets = absurd meets

-- ---- the match goes on

ticking_meets : (seat : ℕ) (found : Option ℕ) → Meets seat (ticking found) → ⊥
ticking_meets seat None meets = meets
ticking_meets seat (Some node) meets = meets

acting_meets : (nodes : List NodeSight) (seat at other : ℕ) (place : Option Place) → (other ≡ seat → place ≡ Some (Played at)) → Meets seat (acting_at nodes other place) → ⊥
acting_meets nodes seat at other None here meets = meets
acting_meets nodes seat at other (Some (Awaited node)) here meets = no_awaited node at (here meets)
acting_meets nodes seat at other (Some (Leaving node)) here meets = no_leaving node at (here meets)
acting_meets nodes seat at other (Some (Played node)) here meets = played_meets nodes seat other (running_from nodes node) meets
acting_meets nodes seat at other (Some (Seated node)) here meets = elim (one_of (is_to_tick nodes node) seat (Tick node) (Read other node) meets) [
  | inl none ↦ none
  | inr reads ↦ no_seated node at (here reads)
]

module _ (places : List Place) (seat at : ℕ) (there : slice_get places seat ≡ Some (Played at)) where
  here_too : (other : ℕ) → other ≡ seat → slice_get places other ≡ Some (Played at)
  here_too other same = ap (slice_get places) same ∙ there

  going_on_meets : (nodes : List NodeSight) (lowest : ℕ) (sight : NodeSight) (to_act : Option ℕ) → Meets seat (going_on nodes places lowest sight to_act) → ⊥
  going_on_meets nodes lowest sight None meets = meets
  going_on_meets nodes lowest sight (Some other) meets = elim (one_of (is_behind nodes sight.front) seat (Tick lowest) (acting nodes places other) meets) [
    | inl none ↦ none
    | inr acts ↦ acting_meets nodes seat at other (slice_get places other) (here_too other) acts
  ]

  seen_meets : (nodes : List NodeSight) (lowest : ℕ) (sight : Option NodeSight) → Meets seat (as_seen_by nodes places lowest sight) → ⊥
  seen_meets nodes lowest None meets = meets
  seen_meets nodes lowest (Some sight) meets = elim (one_of sight.over seat (finishing nodes) (going_on nodes places lowest sight sight.to_act) meets) [
    | inl ends ↦ ticking_meets seat (position (λ other. other.runs && not other.over) nodes) ends
    | inr on ↦ going_on_meets nodes lowest sight sight.to_act on
  ]

  playing_meets : (nodes : List NodeSight) (lowest : Option ℕ) → Meets seat (playing_at nodes places lowest) → ⊥
  playing_meets nodes None meets = meets
  playing_meets nodes (Some lowest) meets = seen_meets nodes lowest (slice_get nodes lowest) meets

  pub nothing_meets : (nodes : List NodeSight) (greeted : ℕ) (frame : Option ℕ) (fault : Option Repair) → Meets seat (due_by nodes places greeted frame fault) → ⊥
  nothing_meets nodes greeted frame fault meets =
      let playing_on = unwrap_or (outing nodes) (playing nodes places) in
      let later = delivering playing_on frame in
      let ending = if is_over nodes then Over else later in
      let greeted_all = unwrap_or (greeting nodes places greeted) ending in
      let left_all = unwrap_or (leaving places) greeted_all in
      let no_repair = repair_meets seat left_all fault meets in
      let no_leaving = leaving_meets seat at places (position is_leaving places) greeted_all here_too no_repair in
      let no_greeting = greeting_meets nodes seat at greeted (slice_get places greeted) ending (here_too greeted) no_leaving in
      elim (one_of (is_over nodes) seat Over later no_greeting) [
        | inl none ↦ none
        | inr on ↦ playing_meets nodes (running nodes) (outing_meets nodes seat (position (λ sight. not sight.runs && not sight.is_out) nodes) (playing nodes places) (frame_meets seat playing_on frame on))
      ]

pub left_alone : PlayedAreLeftAlone
left_alone nodes places greeted frame fault seat at node there =
    let none = nothing_meets places seat at there nodes greeted frame fault in (
      (λ awaited. none (subst (Meets seat) (sym awaited) refl)),
      (λ reads. none (subst (Meets seat) (sym reads) refl)),
      (λ drops. none (subst (Meets seat) (sym drops) refl)),
    )
