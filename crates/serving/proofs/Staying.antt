-- Who is played for stays so, and was dropped before.
use Rattle.std.proofs.Common.{◌≡◌, ℕ, zero, suc, ◌⊎◌, inl, inr, Bool, true, false, List, [], ◌∷◌, set, slice_get, Option, Some, None, Result, Ok, Err, refl, ap, sym, subst, ◌∙◌}
use Rattle.std.specs.Prelude.{◌==◌, if◌then◌else◌}
use Rattle.std.specs.Option.{option_map}
use Rattle.std.proofs.lemmas.Option.{slice_get-map}
use Rattle.promise_store.specs.declared.disk.Disk.{Ghosts}
use Rattle.dealer_node.specs.Nodes.{Node}
use Rattle.dealer_node.specs.declared.fault.NodeFault.{NodeFault}
use Rattle.dealer_node.specs.declared.fault.NodeFault.TheVariants as fault
use Rattle.dealer_world.specs.declared.event.Event.{Event}
use Rattle.dealer_world.specs.declared.event.Event.TheVariants as event
use Rattle.dealer_world.specs.Stepping.{View}
use Rattle.match_links.specs.Passages.{Passage}
use Rattle.match_file.specs.declared.absent.Absent.{Absent}
use Rattle.match_file.specs.declared.absent.Absent.TheVariants.{Wait, Play}
use Rattle.serving.specs.declared.due.Due.{Due}
use Rattle.serving.specs.declared.due.Due.TheVariants as due
use Rattle.serving.specs.declared.place.Place.{Place}
use Rattle.serving.specs.declared.place.Place.TheVariants.{Awaited, Seated, Leaving, Played}
use Rattle.serving.specs.declared.progress.Progress.{Progress}
use Rattle.serving.specs.declared.serve_fault.ServeFault.TheVariants as serve
use Rattle.serving.specs.declared.turn.Turn.TheVariants as turn
use Rattle.serving.specs.declared.waiting.Waiting.{Waiting}
use Rattle.serving.specs.Dues.{IsNext}
use Rattle.serving.specs.Giving.{to_give}
use Rattle.serving.specs.Going.{first, again, leaves, OnlyLeave, AsksRepair, PlacesAfter}
use Rattle.serving.specs.Placed.{places_in}
use Rattle.serving.specs.Placing.{moved, dropped_from, with_dropped}
use Rattle.serving.specs.Played.{IsOfSeat, PlaysFor, LeavesAlone, PlayedWereDropped, PlayedStaySo}
use Rattle.serving.specs.Served.{Served}
use Rattle.serving.specs.Turned.{Ends}
use Rattle.serving.specs.Turning.{IsForDue, goes_on, turn_of}
use Rattle.serving.proofs.Apart.{Meets, nothing_meets}

-- ---- one place is another

abbrev IsPlayedAt : Option Place → Type 0
IsPlayedAt place = (node : ℕ) × (place ≡ Some (Played node))

no_awaited : (a b : ℕ) → ◌≡◌ {A = Option Place} (Some (Awaited a)) (Some (Played b)) → ⊥
no_awaited a b e = cc

no_seated : (a b : ℕ) → ◌≡◌ {A = Option Place} (Some (Seated a)) (Some (Played b)) → ⊥
no_seated a b e = cc

no_leaving : (a b : ℕ) → ◌≡◌ {A = Option Place} (Some (Leaving a)) (Some (Played b)) → ⊥
no_leaving a b e = cc

some_of : {A : Type 0} (a b : A) → ◌≡◌ {A = Option A} (Some a) (Some b) → a ≡ b
some_of a b e = cc

none_of : {A : Type 0} (a : A) → ◌≡◌ {A = Option A} None (Some a) → ⊥
none_of a e = cc

-- what was put at a seat's place, or what was there
set_either : (places : List Place) (at seat : ℕ) (place found : Place) → slice_get (set places at place) seat ≡ Some found
    → (slice_get places seat ≡ Some found) ⊎ ((at ≡ seat) × (place ≡ found))
set_either [] at seat place found is = inl is
set_either (p ∷ places) zero zero place found is = inr (refl, some_of place found is)
set_either (p ∷ places) zero (suc seat) place found is = inl is
set_either (p ∷ places) (suc at) zero place found is = inl is
set_either (p ∷ places) (suc at) (suc seat) place found is = elim (set_either places at seat place found is) [
  | inl before ↦ inl before
  | inr (same, put) ↦ inr (ap suc same, put)
]

-- another seat's stays
set_elsewhere : (places : List Place) (at seat : ℕ) (place : Place) → (at ≡ seat → ⊥) → slice_get (set places at place) seat ≡ slice_get places seat
set_elsewhere [] at seat place other = refl
set_elsewhere (p ∷ places) zero zero place other = absurd (other refl)
set_elsewhere (p ∷ places) zero (suc seat) place other = refl
set_elsewhere (p ∷ places) (suc at) zero place other = refl
set_elsewhere (p ∷ places) (suc at) (suc seat) place other = set_elsewhere places at seat place (λ same. other (ap suc same))

-- ---- seats that leave

played_before : (lines given : List Passage) (old new : List Place) → OnlyLeave lines given old new → (seat : ℕ) → IsPlayedAt (slice_get new seat) → IsPlayedAt (slice_get old seat)
played_before lines given old new leave seat (node, played) = elim (leave seat) [
  | inl same ↦ (node, sym same ∙ played)
  | inr (at, was, is, misses) ↦ absurd (no_leaving at node (sym is ∙ played))
]

played_after : (lines given : List Passage) (old new : List Place) → OnlyLeave lines given old new → (seat : ℕ) → IsPlayedAt (slice_get old seat) → IsPlayedAt (slice_get new seat)
played_after lines given old new leave seat (node, played) = elim (leave seat) [
  | inl same ↦ (node, same ∙ played)
  | inr (at, was, is, misses) ↦ absurd (no_seated at node (sym was ∙ played))
]

-- a repair moves nobody
asks_places : (old : Progress) (node : ℕ) (asks : Bool) (new : Progress) → AsksRepair old node asks new → places_in new.places ≡ places_in old.places
asks_places old node asks new (first a n asked free is) = ap (λ (p : Progress). places_in p.places) is
asks_places old node asks new (again a n asked failed is) = ap (λ (p : Progress). places_in p.places) is

ends_leave : (called : Result (Unit {0}) NodeFault) (w : Waiting) (lines given : List Passage) (settled new : Progress) → Ends called w lines given settled new
    → OnlyLeave lines given (places_in settled.places) (places_in new.places)
ends_leave (Ok done) w lines given settled new ends = ends.1
ends_leave (Err (fault.Store why)) w lines given settled new (asked, asks, kept, leave) =
    subst (λ (places : List Place). OnlyLeave lines given places (places_in new.places)) (asks_places settled _ true asked asks) leave
ends_leave (Err fault.Down) w lines given settled new ends = ends.1
ends_leave (Err fault.OutOfMemory) w lines given settled new ends = ends.1
ends_leave (Err fault.Spent) w lines given settled new ends = ends.1
ends_leave (Err (fault.BadFrame bytes)) w lines given settled new ends = ends.1
ends_leave (Err fault.Conflict) w lines given settled new ends = ends.1
ends_leave (Err fault.NothingToAct) w lines given settled new ends = ends.1

-- ---- places after an event

played_by_drop : (absent : Absent) (next : ℕ) (places : List Place) (at seat node : ℕ) (found : Option Place)
    → slice_get (with_dropped absent next places at found) seat ≡ Some (Played node) → IsPlayedAt (slice_get places seat) ⊎ ((at ≡ seat) × (absent ≡ Play))
played_by_drop absent next places at seat node None played = inl (node, played)
played_by_drop Play next places at seat node (Some place) played = elim (set_either places at seat (dropped_from Play next place) (Played node) played) [
  | inl before ↦ inl (node, before)
  | inr (same, put) ↦ inr (same, refl)
]
played_by_drop Wait next places at seat node (Some place) played = elim (set_either places at seat (Awaited next) (Played node) played) [
  | inl before ↦ inl (node, before)
  | inr (same, put) ↦ absurd (no_awaited next node (ap (λ (p : Place). Some p) put))
]

awaited_or : (test : Bool) (next node at : ℕ) (place : Place) → ◌≡◌ {A = Option Place} (Some (if test then Awaited next else place)) (Some (Played node)) → place ≡ Played node
awaited_or true next node at place played = absurd (no_awaited next node played)
awaited_or false next node at place played = some_of place (Played node) played

played_by_stop : (at next node : ℕ) (place : Option Place) → option_map (moved at next) place ≡ Some (Played node) → IsPlayedAt place
played_by_stop at next node None played = absurd (none_of (Played node) played)
played_by_stop at next node (Some (Awaited i)) played = (node, ap (λ (p : Place). Some p) (awaited_or (i == at) next node at (Awaited i) played))
played_by_stop at next node (Some (Seated i)) played = (node, ap (λ (p : Place). Some p) (awaited_or (i == at) next node at (Seated i) played))
played_by_stop at next node (Some (Leaving i)) played = (node, ap (λ (p : Place). Some p) (awaited_or (i == at) next node at (Leaving i) played))
played_by_stop at next node (Some (Played i)) played = (i, refl)

played_or : (test : Bool) (next node : ℕ) → IsPlayedAt (Some (if test then Played next else Played node))
played_or true next node = (next, refl)
played_or false next node = (node, refl)

left_either : (test : Bool) (places : List Place) (at seat node i : ℕ) → slice_get (if test then set places at (Leaving i) else places) seat ≡ Some (Played node)
    → IsPlayedAt (slice_get places seat)
left_either false places at seat node i played = (node, played)
left_either true places at seat node i played = elim (set_either places at seat (Leaving i) (Played node) played) [
  | inl before ↦ (node, before)
  | inr (same, put) ↦ absurd (no_leaving i node (ap (λ (p : Place). Some p) put))
]

left_elsewhere : (test : Bool) (places : List Place) (at seat i : ℕ) → (at ≡ seat → ⊥) → slice_get (if test then set places at (Leaving i) else places) seat ≡ slice_get places seat
left_elsewhere true places at seat i other = set_elsewhere places at seat (Leaving i) other
left_elsewhere false places at seat i other = refl

drop_elsewhere : (absent : Absent) (next : ℕ) (places : List Place) (at seat : ℕ) (found : Option Place) → (at ≡ seat → ⊥)
    → slice_get (with_dropped absent next places at found) seat ≡ slice_get places seat
drop_elsewhere absent next places at seat None other = refl
drop_elsewhere absent next places at seat (Some place) other = set_elsewhere places at seat (dropped_from absent next place) other

module _ {D : Type 0} (g : Ghosts D) where
  -- who is played for after an event was so before, or was dropped by it
  played_by : (view : View (Node D)) (progress : Progress) (number whose : ℕ) (e : Event) (old new : List Place) (seat node : ℕ) → PlacesAfter g view progress e old new
      → slice_get new seat ≡ Some (Played node) → IsPlayedAt (slice_get old seat) ⊎ ((turn_of number whose e ≡ turn.Gone seat) × (progress.absent ≡ Play))
  played_by view progress number whose (event.Connect i s) old new seat node after played =
      let put : slice_get (set old s (Seated i)) seat ≡ Some (Played node) = ap (λ (ps : List Place). slice_get ps seat) (sym after) ∙ played in
      elim (set_either old s seat (Seated i) (Played node) put) [
        | inl before ↦ inl (node, before)
        | inr (same, is) ↦ absurd (no_seated i node (ap (λ (p : Place). Some p) is))
      ]
  played_by view progress number whose (event.Line i s bytes) old new seat node after played =
      inl (left_either (leaves s bytes.items view.last.faults) old s seat node i (ap (λ (ps : List Place). slice_get ps seat) (sym after) ∙ played))
  played_by view progress number whose (event.Drop i s) old new seat node (next, is_next, after) played =
      elim (played_by_drop progress.absent next old s seat node (slice_get old s) (ap (λ (ps : List Place). slice_get ps seat) (sym after) ∙ played)) [
        | inl before ↦ inl before
        | inr (same, play) ↦ inr (ap turn.Gone same, play)
      ]
  played_by view progress number whose (event.Stop i pick) old new seat node (next, is_next, after) played =
      inl (played_by_stop i next node (slice_get old seat)
      (sym (slice_get-map (moved i next) old seat) ∙ ap (λ (ps : List Place). slice_get ps seat) (sym after) ∙ played))
  played_by view progress number whose (event.Frame from to bytes) old new seat node after played = inl (node, ap (λ (ps : List Place). slice_get ps seat) (sym after) ∙ played)
  played_by view progress number whose (event.Tick i) old new seat node after played = inl (node, ap (λ (ps : List Place). slice_get ps seat) (sym after) ∙ played)
  played_by view progress number whose (event.Away i) old new seat node after played = inl (node, ap (λ (ps : List Place). slice_get ps seat) (sym after) ∙ played)
  played_by view progress number whose (event.Start i) old new seat node after played = inl (node, ap (λ (ps : List Place). slice_get ps seat) (sym after) ∙ played)

  -- an event of no other seat leaves who is played for as it is
  played_still : (view : View (Node D)) (progress : Progress) (e : Event) (old new : List Place) (seat node : ℕ) → PlacesAfter g view progress e old new
      → (IsOfSeat seat e → ⊥) → slice_get old seat ≡ Some (Played node) → IsPlayedAt (slice_get new seat)
  played_still view progress (event.Connect i s) old new seat node after other played =
      (node, ap (λ (ps : List Place). slice_get ps seat) after ∙ set_elsewhere old s seat (Seated i) other ∙ played)
  played_still view progress (event.Line i s bytes) old new seat node after other played =
      (node, ap (λ (ps : List Place). slice_get ps seat) after ∙ left_elsewhere (leaves s bytes.items view.last.faults) old s seat i other ∙ played)
  played_still view progress (event.Drop i s) old new seat node (next, is_next, after) other played =
      (node, ap (λ (ps : List Place). slice_get ps seat) after ∙ drop_elsewhere progress.absent next old s seat (slice_get old s) other ∙ played)
  played_still view progress (event.Stop i pick) old new seat node (next, is_next, after) other played =
      let there : slice_get new seat ≡ Some (moved i next (Played node)) =
      ap (λ (ps : List Place). slice_get ps seat) after ∙ slice_get-map (moved i next) old seat ∙ ap (option_map (moved i next)) played in
      subst IsPlayedAt (sym there) (played_or (node == i) next node)
  played_still view progress (event.Frame from to bytes) old new seat node after other played = (node, ap (λ (ps : List Place). slice_get ps seat) after ∙ played)
  played_still view progress (event.Tick i) old new seat node after other played = (node, ap (λ (ps : List Place). slice_get ps seat) after ∙ played)
  played_still view progress (event.Away i) old new seat node after other played = (node, ap (λ (ps : List Place). slice_get ps seat) after ∙ played)
  played_still view progress (event.Start i) old new seat node after other played = (node, ap (λ (ps : List Place). slice_get ps seat) after ∙ played)

-- ---- what is due of a seat

line_for : (what : Due) (seat number whose i s : ℕ) (bytes : _) → IsForDue what number whose (event.Line i s bytes) → s ≡ seat → Meets seat what
line_for (due.Read t node) seat number whose i s bytes (at, is) same = sym is ∙ same
line_for other seat number whose i s bytes is same = absurd is

connect_for : (what : Due) (seat number whose i s : ℕ) → IsForDue what number whose (event.Connect i s) → s ≡ seat → Meets seat what
connect_for (due.Await t node) seat number whose i s (at, is) same = sym is ∙ same
connect_for other seat number whose i s is same = absurd is

drop_for : (what : Due) (seat number whose i s : ℕ) → IsForDue what number whose (event.Drop i s) → s ≡ seat → Meets seat what
drop_for (due.Await t node) seat number whose i s (at, is) same = sym is ∙ same
drop_for (due.Read t node) seat number whose i s (at, is) same = sym is ∙ same
drop_for (due.Drop t node) seat number whose i s (at, is) same = sym is ∙ same
drop_for other seat number whose i s is same = absurd is

for_seat : (what : Due) (seat number whose : ℕ) (e : Event) → IsForDue what number whose e → IsOfSeat seat e → Meets seat what
for_seat what seat number whose (event.Line i s bytes) is same = line_for what seat number whose i s bytes is same
for_seat what seat number whose (event.Connect i s) is same = connect_for what seat number whose i s is same
for_seat what seat number whose (event.Drop i s) is same = drop_for what seat number whose i s is same
for_seat what seat number whose (event.Frame from to bytes) is same = absurd same
for_seat what seat number whose (event.Tick i) is same = absurd same
for_seat what seat number whose (event.Away i) is same = absurd same
for_seat what seat number whose (event.Stop i pick) is same = absurd same
for_seat what seat number whose (event.Start i) is same = absurd same

no_memory : (e : Event) (called : Result (Unit {0}) NodeFault) → called ≡ Err fault.OutOfMemory → goes_on e called ≡ true → ⊥
no_memory e called none goes = let both : goes_on e (Err fault.OutOfMemory) ≡ true = subst (λ (c : Result (Unit {0}) NodeFault). goes_on e c ≡ true) none goes in ends e both where
  ends : (found : Event) → goes_on found (Err fault.OutOfMemory) ≡ true → ⊥
  ends (event.Line i s bytes) is = cc
  ends (event.Connect i s) is = cc
  ends (event.Drop i s) is = cc
  ends (event.Frame from to bytes) is = cc
  ends (event.Tick i) is = cc
  ends (event.Away i) is = cc
  ends (event.Stop i pick) is = cc
  ends (event.Start i) is = cc

nothing_waits : {N : Type 0} (server : Served N) (seat : ℕ) → server.waiting ≡ None → LeavesAlone server seat
nothing_waits server seat none w waits = absurd (none_of w (sym none ∙ waits))

module _ {D : Type 0} (g : Ghosts D) where
  -- what is next is no event of a seat that is played for
  next_is_apart : (view : View (Node D)) (progress : Progress) (waiting : Option Waiting) (w : Waiting) (seat at : ℕ) → slice_get (places_in progress.places) seat ≡ Some (Played at)
      → ((x : Waiting) → waiting ≡ Some x → IsOfSeat seat x.event → ⊥) → IsNext g view progress waiting (Some w) → IsOfSeat seat w.event → ⊥
  next_is_apart view progress (Some before) w seat at played alone next = alone w (sym next)
  next_is_apart view progress None w seat at played alone (what, is_due, taken) = λ of_seat.
      nothing_meets (places_in progress.places) seat at played is_due.sights progress.greeted _ progress.repair
      (subst (Meets seat) is_due.first (for_seat what seat w.number w.seat w.event taken of_seat))

  pub were_dropped : PlayedWereDropped g
  were_dropped old new t seat (inl (same, nothing)) plays = inl (subst (λ (s : Served (Node D)). PlaysFor s seat) same plays)
  were_dropped old new t seat (inr (w, next, gave)) plays =
      let went = gave.went in
      let settled = went.settled in
      let lines = to_give new.view.all.shown old.shown new.shown in
      let there = played_before lines gave.passes.given (places_in settled.places) (places_in new.progress.places) (ends_leave gave.called w lines gave.passes.given settled new.progress went.ends) seat plays in
      let after = played_by g new.view settled w.number w.seat w.event (places_in old.progress.places) (places_in settled.places) seat there.0 went.settles.places there.1 in
      elim after [
        | inl before ↦ inl before
        | inr (gone, play) ↦ inr (
          gave.tells.0 ∙ gone,
          sym went.settles.absent ∙ play,
          nothing_waits new seat (gave.given (λ none. no_memory w.event gave.called none gave.tells.1)),
        )
      ]

  pub stay_so : PlayedStaySo g
  stay_so old new answer seat may (inl (same, nothing)) plays alone =
      subst (λ (s : Served (Node D)). PlaysFor s seat × LeavesAlone s seat) (sym same) (plays, alone)
  stay_so old new (Ok t) seat may (inr (w, next, gave)) (at, played) alone =
      let went = gave.went in
      let settled = went.settled in
      let lines = to_give new.view.all.shown old.shown new.shown in
      let other = next_is_apart old.view old.progress old.waiting w seat at played alone next in
      let there = played_still g new.view settled w.event (places_in old.progress.places) (places_in settled.places) seat at went.settles.places other played in (
        played_after lines gave.passes.given (places_in settled.places) (places_in new.progress.places) (ends_leave gave.called w lines gave.passes.given settled new.progress went.ends) seat there,
        nothing_waits new seat (gave.given (λ none. no_memory w.event gave.called none gave.tells.1)),
      )
  stay_so old new (Err (serve.Node why)) seat may (inr (w, next, gave)) (at, played) alone =
      let other = next_is_apart old.view old.progress old.waiting w seat at played alone next in
      let kept = gave.again (gave.tells ∙ ap (λ (f : NodeFault). Err f) may) in (
        (at, ap (λ (p : Progress). slice_get (places_in p.places) seat) kept.1 ∙ played),
        λ x waits. subst (λ (y : Waiting). IsOfSeat seat y.event → ⊥) (some_of w x (sym kept.0 ∙ waits)) other,
      )
  stay_so old new (Err serve.LinkFailed) seat may (inr (w, next, gave)) plays alone = absurd may
  stay_so old new (Err serve.LogFailed) seat may (inr (w, next, gave)) plays alone = absurd may
