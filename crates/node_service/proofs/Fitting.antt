-- What a node was given of its seats, call by call.
use Rattle.std.proofs.Common.{◌≡◌, ◌⊎◌, inl, inr, ℕ, ◌==◌, Bool, true, false, cond, List, [], ◌∷◌, ◌++◌, append_assoc, refl, ap, sym, subst, ◌∙◌}
use Rattle.std.proofs.lemmas.Bool.{eq-eqb, ne_eqb, cases_eq, cond-true, cond-false}
use Rattle.std.proofs.lemmas.List.{append-nil}
use Rattle.std.specs.Prelude.{Result}
use Rattle.dealer_node.specs.declared.fault.NodeFault.{NodeFault}
use Rattle.dealer_node.specs.Outs.{Told}
use Rattle.dealer_world.specs.declared.event.Event.{Event}
use Rattle.dealer_world.specs.declared.event.Event.TheVariants as event
use Rattle.dealer_world.specs.Calls.{Made}
use Rattle.dealer_world.specs.Records.{Connected, Dropped, Came}
use Rattle.node_wires.specs.declared.line.Line.{Line}
use Rattle.node_wires.specs.declared.line.Line.TheVariants.{Seat}
use Rattle.node_wires.specs.Passages.{Passage, Began, Came as PieceCame, came_by, came_behind, came_over}
use Rattle.stations.specs.Deeds.{Deed}
use Rattle.stations.specs.Stations.{deed_by}
use Rattle.node_service.specs.declared.sitting.Sitting.{Sitting}
use Rattle.node_service.specs.declared.sitting.Sitting.TheVariants.{Away, Here, LetGo}
use Rattle.node_service.specs.declared.sitting.Sittings.{Sittings}
use Rattle.node_service.specs.Arriving.{seats_of, taken_for}
use Rattle.node_service.specs.Sessions.{Session, Without, With, with_more, session_of, IsBeginning, AreGiven}
use Rattle.node_service.specs.Sittings.{sitting_at, Loosens, Frees, Sets, IsSeated, Admits, Settles, Refuses}
use Rattle.node_service.specs.Fitting.{FitsAt, FitsFor}

-- ---- over a line

-- behind what passed, one passage more
came_on : (line : Line) (before : List ℕ) (xs : List Passage) (p : Passage) → came_behind line before (xs ++ p ∷ []) ≡ came_by line (came_behind line before xs) p
came_on line before [] p = refl
came_on line before (x ∷ xs) p = came_on line (came_by line before x) xs p

-- a passage of this seat, as it is seen at others
abbrev pub IsElsewhere : ℕ → Passage → Type 0
IsElsewhere at p = (seat : ℕ) (came : List ℕ) → (at ≡ seat → ⊥) → came_by (Seat seat) came p ≡ came

pub began_elsewhere : (at : ℕ) → IsElsewhere at (Began (Seat at))
began_elsewhere at seat came differs = cond-false (at == seat) [] came (ne_eqb at seat differs)

came_elsewhere : (at : ℕ) (bytes : List ℕ) → IsElsewhere at (PieceCame (Seat at) bytes)
came_elsewhere at bytes seat came differs = cond-false (at == seat) (came ++ bytes) came (ne_eqb at seat differs)

-- ---- what sessions were given

-- it stays so when more passes
pub given_still : (seat : ℕ) (deeds : List Deed) (passed more : List Passage) → AreGiven seat deeds passed → AreGiven seat deeds (passed ++ more)
given_still seat [] passed more are = tt
given_still seat (deed ∷ deeds) passed more are = record {
  by_then = are.by_then;
  since = are.since ++ more;
  passed_is = ap (λ (m : List Passage). m ++ more) are.passed_is ∙ append_assoc are.by_then are.since more;
  given = are.given;
  earlier = are.earlier;
}

-- a deed by which the session stays
given_before : (seat : ℕ) (deed : Deed) (deeds : List Deed) (passed : List Passage) → session_of seat (deed ∷ deeds) ≡ session_of seat deeds → AreGiven seat deeds passed
    → AreGiven seat (deed ∷ deeds) passed
given_before seat deed [] passed same are = record {
  by_then = passed;
  since = [];
  passed_is = sym (append-nil passed);
  given = subst (λ (s : Session). IsBeginning s (came_over passed (Seat seat))) (sym same) tt;
  earlier = tt;
}
given_before seat deed (last ∷ deeds) passed same are = record {
  by_then = are.by_then;
  since = are.since;
  passed_is = are.passed_is;
  given = subst (λ (s : Session). IsBeginning s (came_over are.by_then (Seat seat))) (sym same) are.given;
  earlier = record { by_then = are.by_then; since = []; passed_is = sym (append-nil are.by_then); given = are.given; earlier = are.earlier };
}

-- one by which it has a beginning of all that came by now
given_now : (seat : ℕ) (deed : Deed) (deeds : List Deed) (passed : List Passage) → IsBeginning (session_of seat (deed ∷ deeds)) (came_over passed (Seat seat)) → AreGiven seat deeds passed
    → AreGiven seat (deed ∷ deeds) passed
given_now seat deed deeds passed begins are = record { by_then = passed; since = []; passed_is = sym (append-nil passed); given = begins; earlier = are }

-- ---- at one seat

fits_as : (one other : Sitting) (session last : Session) (came now : List ℕ) → other ≡ one → last ≡ session → now ≡ came → FitsAt one session came → FitsAt other last now
fits_as one other session last came now e f h fits =
    subst (λ (s : Sitting). FitsAt s last now) (sym e) (subst (λ (s : Session). FitsAt one s now) (sym f) (subst (λ (c : List ℕ). FitsAt one session c) (sym h) fits))

fits_loosened : (one other : Sitting) (session : Session) (came : List ℕ) → (other ≡ one) ⊎ ((one ≡ Here) × (other ≡ LetGo)) → FitsAt one session came → FitsAt other session came
fits_loosened one other session came (inl e) fits = fits_as one other session session came came e refl refl fits
fits_loosened one other session came (inr e) fits = subst (λ (s : Sitting). FitsAt s session came) (sym e.1) tt

-- of a bot that isn't here more may come
fits_free : (one : Sitting) (session : Session) (came now : List ℕ) → (one ≡ Here → ⊥) → FitsAt one session came → FitsAt one session now
fits_free Away session came now free fits = fits
fits_free Here session came now free fits = absurd (free refl)
fits_free LetGo session came now free fits = tt

-- one that is here was given all
fits_here : (one : Sitting) (session : Session) (came : List ℕ) → one ≡ Here → FitsAt one session came → session ≡ With came
fits_here one session came is fits = subst (λ (s : Sitting). FitsAt s session came) is fits

-- ---- at all seats

pub fits_moved : (deeds : List Deed) (old new : Sittings) (passed : List Passage) → Loosens old new → FitsFor deeds old passed → FitsFor deeds new passed
fits_moved deeds old new passed loosened fits seat =
    let at = fits seat in
    (at.0, fits_loosened (sitting_at old seat) (sitting_at new seat) (session_of seat deeds) (came_over passed (Seat seat)) (loosened seat) at.1)

-- and nothing more passed
fits_as_before : (deeds : List Deed) (old new : Sittings) (passed : List Passage) → Loosens old new → FitsFor deeds old passed → FitsFor deeds new (passed ++ [])
fits_as_before deeds old new passed loosened fits =
    subst (λ (m : List Passage). FitsFor deeds new m) (sym (append-nil passed)) (fits_moved deeds old new passed loosened fits)

-- what passed over the line of a seat isn't given
pub fits_left_out : (at : ℕ) (p : Passage) (deeds : List Deed) (old new : Sittings) (passed : List Passage) → IsElsewhere at p → Frees at old new → FitsFor deeds old passed
    → FitsFor deeds new (passed ++ p ∷ [])
fits_left_out at p deeds old new passed elsewhere frees fits seat =
    let here = fits seat in
    let came = came_over passed (Seat seat) in
    let now = came_over (passed ++ p ∷ []) (Seat seat) in
    let session = session_of seat deeds in
    let stays : FitsAt (sitting_at new seat) session came = fits_loosened (sitting_at old seat) (sitting_at new seat) session came (frees.loosened seat) here.1 in
    let e : now ≡ came_by (Seat seat) came p = came_on (Seat seat) [] passed p in (
      given_still seat deeds passed (p ∷ []) here.0,
      elim (cases_eq at seat) as (λ _. FitsAt (sitting_at new seat) session now) [
        | inl same ↦ fits_free (sitting_at new seat) session came now (subst (λ (s : ℕ). sitting_at new s ≡ Here → ⊥) same frees.free) stays
        | inr differs ↦ fits_as (sitting_at new seat) (sitting_at new seat) session session came now refl refl (e ∙ elsewhere seat came differs) stays
      ],
    )

-- a deed that brought nothing of seats
fits_aside : (deed : Deed) (deeds : List Deed) (old new : Sittings) (passed : List Passage) → ((seat : ℕ) → session_of seat (deed ∷ deeds) ≡ session_of seat deeds) → new ≡ old
    → FitsFor deeds old passed → FitsFor (deed ∷ deeds) new (passed ++ [])
fits_aside deed deeds old new passed stays same fits =
    subst (λ (s : Sittings). FitsFor (deed ∷ deeds) s (passed ++ [])) (sym same)
    (subst (λ (m : List Passage). FitsFor (deed ∷ deeds) old m) (sym (append-nil passed))
    (λ seat. (
      given_before seat deed deeds passed (stays seat) (fits seat).0,
      fits_as (sitting_at old seat) (sitting_at old seat) (session_of seat deeds) (session_of seat (deed ∷ deeds)) (came_over passed (Seat seat)) (came_over passed (Seat seat)) refl (stays seat) refl (fits seat).1,
    )))

-- ---- one deed more

-- of other seats all stays, and of this one it fits
fits_deed : (at : ℕ) (deed : Deed) (deeds : List Deed) (old new : Sittings) (passed more : List Passage)
    → ((seat : ℕ) → (at ≡ seat → ⊥) → (sitting_at new seat ≡ sitting_at old seat) × (session_of seat (deed ∷ deeds) ≡ session_of seat deeds)
    × (came_over (passed ++ more) (Seat seat) ≡ came_over passed (Seat seat)))
    → IsBeginning (session_of at (deed ∷ deeds)) (came_over (passed ++ more) (Seat at))
    → FitsAt (sitting_at new at) (session_of at (deed ∷ deeds)) (came_over (passed ++ more) (Seat at)) → FitsFor deeds old passed → FitsFor (deed ∷ deeds) new (passed ++ more)
fits_deed at deed deeds old new passed more others begins now fits seat =
    elim (cases_eq at seat) as (λ _. AreGiven seat (deed ∷ deeds) (passed ++ more) × FitsAt (sitting_at new seat) (session_of seat (deed ∷ deeds)) (came_over (passed ++ more) (Seat seat))) [
      | inl same ↦
          subst (λ (s : ℕ). AreGiven s (deed ∷ deeds) (passed ++ more) × FitsAt (sitting_at new s) (session_of s (deed ∷ deeds)) (came_over (passed ++ more) (Seat s))) same
          (given_now at deed deeds (passed ++ more) begins (given_still at deeds passed more (fits at).0), now)
      | inr differs ↦
          let stays = others seat differs in (
            given_before seat deed deeds (passed ++ more) stays.1 (given_still seat deeds passed more (fits seat).0),
            fits_as (sitting_at old seat) (sitting_at new seat) (session_of seat deeds) (session_of seat (deed ∷ deeds)) (came_over passed (Seat seat)) (came_over (passed ++ more) (Seat seat)) stays.0
                stays.1 stays.2 (fits seat).1,
          )
    ]

fits_line : (node at : ℕ) (bytes : List ℕ) (made : Made) (deeds : List Deed) (s : Sittings) (passed : List Passage) → sitting_at s at ≡ Here → FitsFor deeds s passed
    → FitsFor ((record { arrived = Came node at bytes ∷ []; made = made }) ∷ deeds) s (passed ++ PieceCame (Seat at) bytes ∷ [])
fits_line node at bytes made deeds s passed here fits =
    let p = PieceCame (Seat at) bytes in
    let came = came_over passed (Seat at) in
    let session = session_of at deeds in
    let same : (at == at) ≡ true = eq-eqb at at refl in
    let had : session ≡ With came = fits_here (sitting_at s at) session came here (fits at).1 in
    let last : cond (at == at) (with_more bytes session) session ≡ With (came ++ bytes) = cond-true (at == at) (with_more bytes session) session same ∙ ap (with_more bytes) had in
    let now : came_over (passed ++ p ∷ []) (Seat at) ≡ came ++ bytes = came_on (Seat at) [] passed p ∙ cond-true (at == at) (came ++ bytes) came same in
    fits_deed at (record { arrived = Came node at bytes ∷ []; made = made }) deeds s s passed (p ∷ [])
    (λ seat differs. (
      refl,
      cond-false (at == seat) (with_more bytes (session_of seat deeds)) (session_of seat deeds) (ne_eqb at seat differs),
      came_on (Seat seat) [] passed p ∙ came_elsewhere at bytes seat (came_over passed (Seat seat)) differs,
    ))
    (subst (λ (x : Session). IsBeginning x (came_over (passed ++ p ∷ []) (Seat at))) (sym last) ([], now ∙ sym (append-nil (came ++ bytes))))
    (fits_as Here (sitting_at s at) (With (came ++ bytes)) (cond (at == at) (with_more bytes session) session) (came ++ bytes) (came_over (passed ++ p ∷ []) (Seat at)) here last now refl) fits

fits_connect : (node at : ℕ) (made : Made) (deeds : List Deed) (old new : Sittings) (passed : List Passage) → Sets at Here old new → FitsFor deeds old passed
    → FitsFor ((record { arrived = Connected node at ∷ []; made = made }) ∷ deeds) new (passed ++ Began (Seat at) ∷ [])
fits_connect node at made deeds old new passed sets fits =
    let p = Began (Seat at) in
    let came = came_over passed (Seat at) in
    let session = session_of at deeds in
    let same : (at == at) ≡ true = eq-eqb at at refl in
    let last : cond (at == at) (With []) session ≡ With [] = cond-true (at == at) (With []) session same in
    let now : came_over (passed ++ p ∷ []) (Seat at) ≡ [] = came_on (Seat at) [] passed p ∙ cond-true (at == at) [] came same in
    fits_deed at (record { arrived = Connected node at ∷ []; made = made }) deeds old new passed (p ∷ [])
    (λ seat differs. (
      sets.others seat differs,
      cond-false (at == seat) (With []) (session_of seat deeds) (ne_eqb at seat differs),
      came_on (Seat seat) [] passed p ∙ began_elsewhere at seat (came_over passed (Seat seat)) differs,
    ))
    (subst (λ (x : Session). IsBeginning x (came_over (passed ++ p ∷ []) (Seat at))) (sym last) (came_over (passed ++ p ∷ []) (Seat at), refl))
    (fits_as Here (sitting_at new at) (With []) (cond (at == at) (With []) session) [] (came_over (passed ++ p ∷ []) (Seat at)) sets.here last now refl) fits

fits_drop : (node at : ℕ) (made : Made) (deeds : List Deed) (old new : Sittings) (passed : List Passage) → Sets at Away old new → FitsFor deeds old passed
    → FitsFor ((record { arrived = Dropped node at ∷ []; made = made }) ∷ deeds) new (passed ++ [])
fits_drop node at made deeds old new passed sets fits =
    let session = session_of at deeds in
    let last : cond (at == at) Without session ≡ Without = cond-true (at == at) Without session (eq-eqb at at refl) in
    let came = came_over (passed ++ []) (Seat at) in
    fits_deed at (record { arrived = Dropped node at ∷ []; made = made }) deeds old new passed []
    (λ seat differs. (sets.others seat differs, cond-false (at == seat) Without (session_of seat deeds) (ne_eqb at seat differs), ap (λ (m : List Passage). came_over m (Seat seat)) (append-nil passed)))
    (subst (λ (x : Session). IsBeginning x came) (sym last) tt) (fits_as Away (sitting_at new at) Without (cond (at == at) Without session) came came sets.here last refl refl) fits

-- ---- a call of the node

pub seated : (runs : Bool) (e : Event) (s : Sittings) → Admits runs e s → IsSeated e
seated runs (event.Connect node seat) s admitted = admitted.2
seated runs (event.Frame from to bytes) s admitted = tt
seated runs (event.Line node seat bytes) s admitted = tt
seated runs (event.Tick node) s admitted = tt
seated runs (event.Away node) s admitted = tt
seated runs (event.Drop node seat) s admitted = tt
seated runs (event.Stop node pick) s admitted = tt
seated runs (event.Start node) s admitted = tt

-- which was given what it brought
pub fits_given : (runs : Bool) (front : ℕ) (e : Event) (told : Told) (answer : Result (Unit {0}) NodeFault) (deeds : List Deed) (old new : Sittings) (passed : List Passage) → Admits runs e old
    → Settles e old new → FitsFor deeds old passed → FitsFor (deed_by runs front e told answer ∷ deeds) new (passed ++ seats_of (taken_for e))
fits_given true front (event.Line node seat bytes) told answer deeds old new passed admitted settled fits =
    subst (λ (s : Sittings). FitsFor (deed_by true front (event.Line node seat bytes) told answer ∷ deeds) s (passed ++ PieceCame (Seat seat) bytes.items ∷ [])) (sym settled)
    (fits_line node seat bytes.items (deed_by true front (event.Line node seat bytes) told answer).made deeds old passed admitted.1 fits)
fits_given true front (event.Connect node seat) told answer deeds old new passed admitted settled fits =
    fits_connect node seat (deed_by true front (event.Connect node seat) told answer).made deeds old new passed settled fits
fits_given true front (event.Drop node seat) told answer deeds old new passed admitted settled fits =
    fits_drop node seat (deed_by true front (event.Drop node seat) told answer).made deeds old new passed settled fits
fits_given false front (event.Line node seat bytes) told answer deeds old new passed admitted settled fits = let never : false ≡ true = admitted.0 in absurd (cc)
fits_given false front (event.Connect node seat) told answer deeds old new passed admitted settled fits = let never : false ≡ true = admitted.0 in absurd (cc)
fits_given false front (event.Drop node seat) told answer deeds old new passed admitted settled fits = let never : false ≡ true = admitted in absurd (cc)
fits_given true front (event.Frame from to bytes) told answer deeds old new passed admitted settled fits =
    fits_aside (deed_by true front (event.Frame from to bytes) told answer) deeds old new passed (λ seat. refl) settled fits
fits_given false front (event.Frame from to bytes) told answer deeds old new passed admitted settled fits =
    fits_aside (deed_by false front (event.Frame from to bytes) told answer) deeds old new passed (λ seat. refl) settled fits
fits_given true front (event.Tick node) told answer deeds old new passed admitted settled fits =
    fits_aside (deed_by true front (event.Tick node) told answer) deeds old new passed (λ seat. refl) settled fits
fits_given false front (event.Tick node) told answer deeds old new passed admitted settled fits =
    fits_aside (deed_by false front (event.Tick node) told answer) deeds old new passed (λ seat. refl) settled fits
fits_given true front (event.Away node) told answer deeds old new passed admitted settled fits =
    fits_aside (deed_by true front (event.Away node) told answer) deeds old new passed (λ seat. refl) settled fits
fits_given false front (event.Away node) told answer deeds old new passed admitted settled fits =
    fits_aside (deed_by false front (event.Away node) told answer) deeds old new passed (λ seat. refl) settled fits
fits_given true front (event.Stop node pick) told answer deeds old new passed admitted settled fits =
    fits_aside (deed_by true front (event.Stop node pick) told answer) deeds old new passed (λ seat. refl) settled fits
fits_given false front (event.Stop node pick) told answer deeds old new passed admitted settled fits =
    fits_aside (deed_by false front (event.Stop node pick) told answer) deeds old new passed (λ seat. refl) settled fits
fits_given true front (event.Start node) told answer deeds old new passed admitted settled fits =
    fits_aside (deed_by true front (event.Start node) told answer) deeds old new passed (λ seat. refl) settled fits
fits_given false front (event.Start node) told answer deeds old new passed admitted settled fits =
    fits_aside (deed_by false front (event.Start node) told answer) deeds old new passed (λ seat. refl) settled fits

-- or was refused it
pub fits_refused : (e : Event) (deeds : List Deed) (old new : Sittings) (passed : List Passage) → Refuses e old new → FitsFor deeds old passed
    → FitsFor deeds new (passed ++ seats_of (taken_for e))
fits_refused (event.Line node seat bytes) deeds old new passed frees fits = fits_left_out seat (PieceCame (Seat seat) bytes.items) deeds old new passed (came_elsewhere seat bytes.items) frees fits
fits_refused (event.Connect node seat) deeds old new passed frees fits = fits_left_out seat (Began (Seat seat)) deeds old new passed (began_elsewhere seat) frees fits
fits_refused (event.Drop node seat) deeds old new passed loosened fits = fits_as_before deeds old new passed loosened fits
fits_refused (event.Frame from to bytes) deeds old new passed loosened fits = fits_as_before deeds old new passed loosened fits
fits_refused (event.Tick node) deeds old new passed loosened fits = fits_as_before deeds old new passed loosened fits
fits_refused (event.Away node) deeds old new passed loosened fits = fits_as_before deeds old new passed loosened fits
fits_refused (event.Stop node pick) deeds old new passed loosened fits = fits_as_before deeds old new passed loosened fits
fits_refused (event.Start node) deeds old new passed loosened fits = fits_as_before deeds old new passed loosened fits
