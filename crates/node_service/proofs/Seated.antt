-- Who sits at a seat is somebody to the node, call by call.
use Rattle.std.proofs.Common.{◌≡◌, ◌⊎◌, inl, inr, ℕ, true, false, List, [], ◌∷◌, refl, ap, sym, subst, ◌∙◌}
use Rattle.std.proofs.lemmas.Bool.Decides.{eqb_tells}
use Rattle.std.specs.Prelude.{Option, Some, None}
use Rattle.node_wires.specs.Passages.{Passage, Began, Came as PieceCame}
use Rattle.node_wires.specs.declared.line.Line.TheVariants.{Seat as SeatOf}
use Rattle.node_seats.specs.declared.bot.Bot.{Bot}
use Rattle.node_seats.specs.declared.seat.Seat.{Seat}
use Rattle.node_seats.specs.declared.seat_notice.SeatNotice.{SeatNotice}
use Rattle.node_seats.specs.declared.seat_notice.SeatNotice.TheVariants as notices
use Rattle.node_seats.specs.Seating.{bot_at, sits_at, no_bot, Changes, KeepsOtherBots}
use Rattle.node_seats.specs.Telling.{SaysAt}
use Rattle.dealer_world.specs.declared.event.Event.{Event}
use Rattle.dealer_world.specs.declared.event.Event.TheVariants as event
use Rattle.node_service.specs.Arriving.{seats_of, taken_for}
use Rattle.node_service.specs.Seated.{IsSomebody, SatBefore, IsFree, seat_left}
use Rattle.node_service.specs.Sittings.{sitting_at, seat_in, Loosens, Sets, Settles, Refuses}
use Rattle.node_service.specs.Telling.{incoming_by}
use Rattle.node_service.specs.declared.sitting.Sitting.{Sitting}
use Rattle.node_service.specs.declared.sitting.Sitting.TheVariants.{Here, LetGo}
use Rattle.node_service.specs.declared.sitting.Sittings.{Sittings}

-- ---- who sits there

-- he is somebody, or was taken in last
abbrev Are : List Seat → Sittings → Type 0
Are bots s = (seat : ℕ) → sits_at bots seat ≡ true → IsSomebody (sitting_at s seat)

abbrev AreBut : List Passage → List Seat → Sittings → Type 0
AreBut passed bots s = (seat : ℕ) → sits_at bots seat ≡ true → IsSomebody (sitting_at s seat) ⊎ (passed ≡ Began (SeatOf seat) ∷ [])

taken_and_left : {A : Type 0} (bots : List Seat) (seat : ℕ) → sits_at bots seat ≡ true → sits_at bots seat ≡ false → A
taken_and_left bots seat sits left = let never : true ≡ false = sym sits ∙ left in absurd cc

none_and_one : {A : Type 0} (passed : List Passage) (p : Passage) → passed ≡ [] → passed ≡ p ∷ [] → A
none_and_one passed p none one = let never : [] ≡ p ∷ [] = sym none ∙ one in absurd cc

same_seat : (at seat : ℕ) → Began (SeatOf at) ∷ [] ≡ Began (SeatOf seat) ∷ [] → at ≡ seat
same_seat at seat is = cc

no_piece : {A : Type 0} (at seat : ℕ) (bytes : List ℕ) → PieceCame (SeatOf at) bytes ∷ [] ≡ Began (SeatOf seat) ∷ [] → A
no_piece at seat bytes is = absurd cc

loosened_is : (old new : Sitting) → (new ≡ old) ⊎ ((old ≡ Here) × (new ≡ LetGo)) → IsSomebody old → IsSomebody new
loosened_is old new (inl same) is = subst IsSomebody (sym same) is
loosened_is old new (inr freed) is = subst IsSomebody (sym freed.1) tt

pub all_but_none : (passed : List Passage) (bots : List Seat) (s : Sittings) → Are bots s → AreBut passed bots s
all_but_none passed bots s are seat sits = inl (are seat sits)

pub but_nobody : (passed : List Passage) (bots : List Seat) (s : Sittings) → passed ≡ [] → AreBut passed bots s → Are bots s
but_nobody passed bots s none but seat sits =
    elim (but seat sits) as (λ _. IsSomebody (sitting_at s seat)) [ inl is ↦ is | inr came ↦ none_and_one passed (Began (SeatOf seat)) none came ]

-- bots are let go of, or leave
pub still_somebody : (were are : List Seat) (old new : Sittings) → SatBefore were are → Loosens old new → Are were old → Are are new
still_somebody were are old new sat loosened is seat sits = loosened_is (sitting_at old seat) (sitting_at new seat) (loosened seat) (is seat (sat seat sits))

pub still_but : (passed : List Passage) (were are : List Seat) (old new : Sittings) → SatBefore were are → Loosens old new → AreBut passed were old → AreBut passed are new
still_but passed were are old new sat loosened but seat sits =
    elim (but seat (sat seat sits)) as (λ _. IsSomebody (sitting_at new seat) ⊎ (passed ≡ Began (SeatOf seat) ∷ [])) [
      | inl is ↦ inl (loosened_is (sitting_at old seat) (sitting_at new seat) (loosened seat) is)
      | inr came ↦ inr came
    ]

-- ---- calls of the node

-- one that changes nothing of how bots are
aside : (passed : List Passage) (were are : List Seat) (old new : Sittings) → ((seat : ℕ) → passed ≡ Began (SeatOf seat) ∷ [] → ⊥) → SatBefore were are → new ≡ old → AreBut passed were old → Are are new
aside passed were are old new none sat same but seat sits =
    elim (but seat (sat seat sits)) as (λ _. IsSomebody (sitting_at new seat)) [
      | inl is ↦ subst (λ (s : Sittings). IsSomebody (sitting_at s seat)) (sym same) is
      | inr came ↦ absurd (none seat came)
    ]

no_thing : (seat : ℕ) → [] ≡ Began (SeatOf seat) ∷ [] → ⊥
no_thing seat is = none_and_one [] (Began (SeatOf seat)) refl is

connected : (at : ℕ) (were are : List Seat) (old new : Sittings) → SatBefore were are → Sets at Here old new → AreBut (Began (SeatOf at) ∷ []) were old → Are are new
connected at were are old new sat sets but seat sits =
    elim (eqb_tells at seat) as (λ _. IsSomebody (sitting_at new seat)) [
      | inl same ↦ subst (λ (n : ℕ). IsSomebody (sitting_at new n)) same.1 (subst IsSomebody (sym sets.here) tt)
      | inr differs ↦
          elim (but seat (sat seat sits)) as (λ _. IsSomebody (sitting_at new seat)) [
            | inl is ↦ subst IsSomebody (sym (sets.others seat differs.1)) is
            | inr came ↦ absurd (differs.1 (same_seat at seat came))
          ]
    ]

dropped : (at : ℕ) (sitting : Sitting) (were are : List Seat) (old new : Sittings) → SatBefore were are → sits_at are at ≡ false → Sets at sitting old new → AreBut [] were old → Are are new
dropped at sitting were are old new sat left sets but seat sits =
    elim (eqb_tells at seat) as (λ _. IsSomebody (sitting_at new seat)) [
      | inl same ↦ taken_and_left are seat sits (subst (λ (n : ℕ). sits_at are n ≡ false) same.1 left)
      | inr differs ↦ subst IsSomebody (sym (sets.others seat differs.1)) (but_nobody [] were old refl but seat (sat seat sits))
    ]

-- which was given what it brought
pub given_somebody : (e : Event) (were are : List Seat) (old new : Sittings) → SatBefore were are → IsFree (seat_left e) are → Settles e old new → AreBut (seats_of (taken_for e)) were old → Are are new
given_somebody (event.Connect node seat) were are old new sat left settled but = connected seat were are old new sat settled but
given_somebody (event.Drop node seat) were are old new sat left settled but = dropped seat _ were are old new sat left settled but
given_somebody (event.Line node seat bytes) were are old new sat left settled but =
    aside (PieceCame (SeatOf seat) bytes.items ∷ []) were are old new (λ other is. no_piece seat other bytes.items is) sat settled but
given_somebody (event.Frame from to bytes) were are old new sat left settled but = aside [] were are old new no_thing sat settled but
given_somebody (event.Tick node) were are old new sat left settled but = aside [] were are old new no_thing sat settled but
given_somebody (event.Away node) were are old new sat left settled but = aside [] were are old new no_thing sat settled but
given_somebody (event.Stop node pick) were are old new sat left settled but = aside [] were are old new no_thing sat settled but
given_somebody (event.Start node) were are old new sat left settled but = aside [] were are old new no_thing sat settled but

-- or was refused it
refused_one : (passed : List Passage) (were are : List Seat) (old new : Sittings) → ((seat : ℕ) → sits_at are seat ≡ true → passed ≡ Began (SeatOf seat) ∷ [] → ⊥) → SatBefore were are → Loosens old new
    → AreBut passed were old → Are are new
refused_one passed were are old new none sat loosened but seat sits =
    elim (but seat (sat seat sits)) as (λ _. IsSomebody (sitting_at new seat)) [
      | inl is ↦ loosened_is (sitting_at old seat) (sitting_at new seat) (loosened seat) is
      | inr came ↦ absurd (none seat sits came)
    ]

pub refused_somebody : (e : Event) (were are : List Seat) (old new : Sittings) → SatBefore were are → IsFree (seat_in e) are → Refuses e old new → AreBut (seats_of (taken_for e)) were old → Are are new
refused_somebody (event.Connect node at) were are old new sat free refuses but =
    refused_one (Began (SeatOf at) ∷ []) were are old new (λ seat sits came. taken_and_left are seat sits (subst (λ (n : ℕ). sits_at are n ≡ false) (same_seat at seat came) free)) sat refuses.loosened but
refused_somebody (event.Line node at bytes) were are old new sat free refuses but =
    refused_one (PieceCame (SeatOf at) bytes.items ∷ []) were are old new (λ seat sits came. no_piece at seat bytes.items came) sat refuses.loosened but
refused_somebody (event.Drop node at) were are old new sat free refuses but = refused_one [] were are old new (λ seat sits came. no_thing seat came) sat refuses but
refused_somebody (event.Frame from to bytes) were are old new sat free refuses but = refused_one [] were are old new (λ seat sits came. no_thing seat came) sat refuses but
refused_somebody (event.Tick node) were are old new sat free refuses but = refused_one [] were are old new (λ seat sits came. no_thing seat came) sat refuses but
refused_somebody (event.Away node) were are old new sat free refuses but = refused_one [] were are old new (λ seat sits came. no_thing seat came) sat refuses but
refused_somebody (event.Stop node pick) were are old new sat free refuses but = refused_one [] were are old new (λ seat sits came. no_thing seat came) sat refuses but
refused_somebody (event.Start node) were are old new sat free refuses but = refused_one [] were are old new (λ seat sits came. no_thing seat came) sat refuses but

-- ---- what is told to bots, and what came of them

pub sat_still : (bots : List Seat) → SatBefore bots bots
sat_still bots seat sits = sits

pub sat_on : (a b c : List Seat) → SatBefore a b → SatBefore b c → SatBefore a c
sat_on a b c first then_on seat sits = first seat (then_on seat sits)

-- at all other seats it is as it was
sat_at : (number : ℕ) (were are : List Seat) → (sits_at are number ≡ true → sits_at were number ≡ true) → ((seat : ℕ) → (seat ≡ number → ⊥) → bot_at are seat ≡ bot_at were seat) → SatBefore were are
sat_at number were are here others seat sits = elim (eqb_tells seat number) as (λ _. sits_at were seat ≡ true) [
  | inl same ↦ subst (λ (n : ℕ). sits_at were n ≡ true) (sym same.1) (here (subst (λ (n : ℕ). sits_at are n ≡ true) same.1 sits))
  | inr differs ↦ sym (ap (λ (b : Bot). b.sits) (others seat differs.1)) ∙ sits
]

pub sat_said : (seat : ℕ) (were are : List Seat) → SaysAt seat were are → SatBefore were are
sat_said seat were are says = sat_at seat were are (λ sits. sym says.here.sits ∙ sits) says.bots

pub sat_unless_gone : (seat : ℕ) (were are : List Seat) → sits_at are seat ≡ false → KeepsOtherBots seat were are → SatBefore were are
sat_unless_gone seat were are gone others = sat_at seat were are (λ sits. taken_and_left are seat sits gone) (λ other differs. (others other differs).0)

-- nobody was taken in, or he is gone
pub sat_changed : (notice : Option SeatNotice) (were are : List Seat) → ((number : ℕ) → notice ≡ Some (notices.Came number) → ⊥) → Changes notice were are → SatBefore were are
sat_changed None were are none is = λ seat sits. sym (ap (λ (b : Bot). b.sits) (is seat)) ∙ sits
sat_changed (Some (notices.Piece number bytes)) were are none is = sat_at number were are (λ sits. sym (ap (λ (b : Bot). b.sits) is.0) ∙ sits) is.1
sat_changed (Some (notices.Gone number)) were are none is = sat_at number were are (λ sits. let never : false ≡ true = sym (ap (λ (b : Bot). b.sits) is.0) ∙ sits in absurd cc) is.1
sat_changed (Some (notices.Came number)) were are none is = absurd (none number refl)
sat_changed (Some other) were are none is = λ seat sits. sym (ap (λ (b : Bot). b.sits) (is seat)) ∙ sits

pub sat_came : (number : ℕ) (were mid are : List Seat) → Changes (Some (notices.Came number)) were mid → sits_at are number ≡ false → KeepsOtherBots number mid are → SatBefore were are
sat_came number were mid are came gone others =
    sat_at number were are (λ sits. taken_and_left are number sits gone) (λ seat differs. (others seat differs).0 ∙ came.1.1 seat differs)

-- he is somebody once what was told of him is given to the node
coming_at : (number : ℕ) (passed : List Passage) (were are : List Seat) (old new : Sittings) → (sits_at are number ≡ true → IsSomebody (sitting_at new number) ⊎ (passed ≡ Began (SeatOf number) ∷ []))
    → ((seat : ℕ) → (seat ≡ number → ⊥) → bot_at are seat ≡ bot_at were seat) → Loosens old new → Are were old → AreBut passed are new
coming_at number passed were are old new here others loosened is seat sits =
    elim (eqb_tells seat number) as (λ _. IsSomebody (sitting_at new seat) ⊎ (passed ≡ Began (SeatOf seat) ∷ [])) [
      | inl same ↦
          subst (λ (n : ℕ). IsSomebody (sitting_at new n) ⊎ (passed ≡ Began (SeatOf n) ∷ [])) (sym same.1) (here (subst (λ (n : ℕ). sits_at are n ≡ true) same.1 sits))
      | inr differs ↦
          inl (loosened_is (sitting_at old seat) (sitting_at new seat) (loosened seat) (is seat (sym (ap (λ (b : Bot). b.sits) (others seat differs.1)) ∙ sits)))
    ]

pub coming_somebody : (notice : Option SeatNotice) (were are : List Seat) (old new : Sittings) → Changes notice were are → Loosens old new → Are were old → AreBut (seats_of (incoming_by notice)) are new
coming_somebody (Some (notices.Came number)) were are old new changes loosened is = coming_at number (Began (SeatOf number) ∷ []) were are old new (λ sits. inr refl) changes.1.1 loosened is
coming_somebody None were are old new changes loosened is =
    all_but_none [] are new (still_somebody were are old new (sat_changed None were are (λ number same. absurd cc) changes) loosened is)
coming_somebody (Some (notices.Piece number bytes)) were are old new changes loosened is =
    all_but_none (PieceCame (SeatOf number) bytes.items ∷ []) are new (still_somebody were are old new (sat_changed (Some (notices.Piece number bytes)) were are (λ other same. absurd cc) changes) loosened is)
coming_somebody (Some other) were are old new changes loosened is =
    all_but_none [] are new (still_somebody were are old new (sat_changed (Some other) were are (λ number same. absurd cc) changes) loosened is)

-- ---- a new process

pub nobody_sits : (bots : List Seat) (s : Sittings) → ((seat : ℕ) → bot_at bots seat ≡ no_bot) → Are bots s
nobody_sits bots s none seat sits = let never : false ≡ true = sym (ap (λ (b : Bot). b.sits) (none seat)) ∙ sits in absurd cc
