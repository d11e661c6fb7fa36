-- What seats had sent, by the world and by the record.
use Rattle.std.proofs.Common.{◌≡◌, ◌≢◌, ℕ, ◌≤◌, ◌⊎◌, inl, inr, ◌==◌, ◌&&◌, Bool, true, false, cond, min, eq-eqb, ne_eqb, List, [], ◌∷◌, ◌++◌, map, length, Option, Some, None, refl, ap, sym, ◌∙◌, subst, arith}
use Rattle.std.specs.Option.{option_map}
use Rattle.std.proofs.lemmas.List.{take-append-le, take_min, take_all, append-nil}
use Rattle.std.proofs.lemmas.Bool.{cases_eq}
use Rattle.protocol_model.specs.Sets.{In, IsBeginning}
use Rattle.protocol_model.specs.Arrivals as model
use Rattle.protocol_model.proofs.Hearing.{none_own}
use Rattle.dealer_world.specs.Records.{Arrived, Delivered, Came, Connected, Dropped, Ordered, Arrival}
use Rattle.dealer_world.specs.Hearing.{heard_after, heard_from, heard_by, WasHeard}
use Rattle.dealer_world.specs.Headline.{Era, InSome}
use Rattle.dealer_world.specs.Calls.{Brings, BringsAll}
use Rattle.dealer_world.specs.Behind.{AreHeard}
use Rattle.dealer_world.specs.Views.{placed_at}
use Rattle.dealer_world.proofs.Lists.{cons_not_nil}

heard_on : (heard : Option (List ℕ)) (delivered more : List Arrival) (node seat : ℕ)
    → heard_from heard (delivered ++ more) node seat ≡ heard_from (heard_from heard delivered node seat) more node seat
heard_on heard [] more node seat = refl
heard_on heard (arrival ∷ delivered) more node seat = heard_on (heard_after arrival.what node seat heard) delivered more node seat

pub was_heard_on : (delivered more : List Arrival) (node seat : ℕ) (bytes : List ℕ) → WasHeard delivered node seat bytes → WasHeard (delivered ++ more) node seat bytes
was_heard_on delivered more node seat bytes (count, heard) =
    let short : min count (length delivered) ≤ length delivered = omega arith in (
      min count (length delivered),
      ap (λ first. heard_by first node seat) (take-append-le (min count (length delivered)) delivered more short ∙ take_min count delivered) ∙ heard,
    )

heard_now_was : (delivered : List Arrival) (node seat : ℕ) (bytes : List ℕ) → heard_by delivered node seat ≡ Some bytes → WasHeard delivered node seat bytes
heard_now_was delivered node seat bytes heard = (length delivered, ap (λ first. heard_by first node seat) (take_all (length delivered) delivered (omega arith)) ∙ heard)

-- what the world has heard, the record has
abbrev pub Tells : Option (List ℕ) → Option (List ℕ) → Type 0
Tells world told = (bytes : List ℕ) → world ≡ Some bytes → told ≡ Some bytes

beginning_cases : (earlier came : List model.Arrival) (latest : model.Arrival) → IsBeginning earlier (latest ∷ came)
    → (earlier ≡ latest ∷ came) ⊎ IsBeginning earlier came
beginning_cases earlier came latest ([], is) = inl (sym is)
beginning_cases earlier came latest (first ∷ later, is) = inr (later, cc)

-- one thing more came to node i
hears_one : (i : ℕ) (came : List model.Arrival) (delivered more : List Arrival) (before : List Era) (latest : model.Arrival)
    → ((j seat : ℕ) (heard : Option (List ℕ)) → j ≢ i → model.heard_after latest.event j seat heard ≡ heard)
    → ((seat : ℕ) → Tells (model.heard_in (latest ∷ came) i seat) (heard_by (delivered ++ more) i seat))
    → AreHeard came delivered before → AreHeard (latest ∷ came) (delivered ++ more) before
hears_one i came delivered more before latest others own heard earlier node seat bytes beginning is =
    elim (beginning_cases earlier came latest beginning) [
      | inr old ↦ on (heard earlier node seat bytes old is)
      | inl all ↦
          let now : model.heard_in (latest ∷ came) node seat ≡ Some bytes = subst (λ arrivals. model.heard_in arrivals node seat ≡ Some bytes) all is in
          elim (cases_eq node i) [
            | inl same ↦
                subst (λ j. WasHeard (delivered ++ more) j seat bytes ⊎ InSome (λ era. WasHeard era.record_of.delivered j seat bytes) before) (sym same)
                (inl (heard_now_was (delivered ++ more) i seat bytes
                (own seat bytes (subst (λ j. model.heard_in (latest ∷ came) j seat ≡ Some bytes) same now))))
            | inr other ↦ on (heard came node seat bytes ([], refl) (sym (others node seat (model.heard_in came node seat) other) ∙ now))
          ]
    ]
  where
    on : WasHeard delivered node seat bytes ⊎ InSome (λ era. WasHeard era.record_of.delivered node seat bytes) before
        → WasHeard (delivered ++ more) node seat bytes ⊎ InSome (λ era. WasHeard era.record_of.delivered node seat bytes) before
    on (inl here) = inl (was_heard_on delivered more node seat bytes here)
    on (inr there) = inr there

-- a seat's event is no other node's
started_other : (j i : ℕ) (heard : Option (List ℕ)) → j ≢ i → cond (j == i) None heard ≡ heard
started_other j i heard other = ap (λ b. cond b None heard) (ne_eqb j i other)

tells_by : (b : Bool) (x y world told : Option (List ℕ)) → Tells x y → Tells world told → Tells (cond b x world) (cond b y told)
tells_by true x y world told first second = first
tells_by false x y world told first second = second

tells_none : (told : Option (List ℕ)) → Tells None told
tells_none told bytes never = absurd cc

tells_longer : (more : List ℕ) (world told : Option (List ℕ)) → Tells world told
    → Tells (option_map (λ before. before ++ more) world) (option_map (λ before. before ++ more) told)
tells_longer more None told tells bytes never = absurd cc
tells_longer more (Some heard) told tells bytes is = ap (option_map (λ before. before ++ more)) (tells heard refl) ∙ is

-- a closing takes from what the world has heard alone
tells_closed : (b : Bool) (world told : Option (List ℕ)) → Tells world told → Tells (cond b None world) told
tells_closed true world told tells = tells_none told
tells_closed false world told tells = tells

-- what a call makes of what seats were heard to say
pub record HearsOn (i : ℕ) (came all : List model.Arrival) (delivered now : List Arrival) (before : List Era) : Type 0 where
  pub heard : AreHeard all now before
  pub own : (seat : ℕ) → Tells (model.heard_in came i seat) (heard_by delivered i seat) → Tells (model.heard_in all i seat) (heard_by now i seat)
  pub world_others : (j seat : ℕ) → j ≢ i → model.heard_in all j seat ≡ model.heard_in came j seat
  pub others : (j seat : ℕ) → j ≢ i → heard_by now j seat ≡ heard_by delivered j seat

one_event : (out : List model.Arrival) (event : model.Event) → map (λ (arrival : model.Arrival). arrival.event) out ≡ event ∷ []
    → (arrival : model.Arrival) × (out ≡ arrival ∷ []) × (arrival.event ≡ event)
one_event [] event is = absurd cc
one_event (arrival ∷ []) event is = (arrival, refl, cc)
one_event (arrival ∷ other ∷ more) event is = absurd cc

no_event : (out : List model.Arrival) → map (λ (arrival : model.Arrival). arrival.event) out ≡ [] → out ≡ []
no_event [] is = refl
no_event (arrival ∷ out) is = absurd cc

two_events : (out : List model.Arrival) (later first : model.Event) → map (λ (arrival : model.Arrival). arrival.event) out ≡ later ∷ first ∷ []
    → (b : model.Arrival) × (a : model.Arrival) × (out ≡ b ∷ a ∷ []) × (b.event ≡ later) × (a.event ≡ first)
two_events [] later first is = absurd cc
two_events (b ∷ []) later first is = absurd cc
two_events (b ∷ a ∷ []) later first is = (b, a, refl, cc, cc)
two_events (b ∷ a ∷ c ∷ more) later first is = absurd cc

-- the arrival in the record does to the bytes of each seat what the event does in the world
one_alike : (i : ℕ) (came : List model.Arrival) (delivered : List Arrival) (before : List Era) (arrival : model.Arrival) (event : model.Event) (placed : Arrival)
    → arrival.event ≡ event
    → ((j seat : ℕ) (heard : Option (List ℕ)) → j ≢ i → model.heard_after event j seat heard ≡ heard)
    → ((j seat : ℕ) (heard : Option (List ℕ)) → j ≢ i → heard_after placed.what j seat heard ≡ heard)
    → ((seat : ℕ) (world told : Option (List ℕ)) → Tells world told → Tells (model.heard_after event i seat world) (heard_after placed.what i seat told))
    → ((seat : ℕ) → Tells (model.heard_in came i seat) (heard_by delivered i seat))
    → AreHeard came delivered before → HearsOn i came (arrival ∷ came) delivered (delivered ++ placed ∷ []) before
one_alike i came delivered before arrival event placed is world_other other alike now heard =
    let world : (j seat : ℕ) (h : Option (List ℕ)) → j ≢ i → model.heard_after arrival.event j seat h ≡ h =
    λ j seat h ne. ap (λ e. model.heard_after e j seat h) is ∙ world_other j seat h ne in
    let own : (seat : ℕ) → Tells (model.heard_in came i seat) (heard_by delivered i seat) → Tells (model.heard_in (arrival ∷ came) i seat) (heard_by (delivered ++ placed ∷ []) i seat) =
    λ seat tells bytes here. heard_on None delivered (placed ∷ []) i seat
    ∙ alike seat (model.heard_in came i seat) (heard_by delivered i seat) tells bytes (sym (ap (λ e. model.heard_after e i seat (model.heard_in came i seat)) is) ∙ here) in
    record {
      heard = hears_one i came delivered (placed ∷ []) before arrival world (λ seat. own seat (now seat)) heard;
      own = own;
      world_others = λ j seat ne. world j seat (model.heard_in came j seat) ne;
      others = λ j seat ne. heard_on None delivered (placed ∷ []) j seat ∙ other j seat (heard_by delivered j seat) ne;
    }

-- an event of the world that the record doesn't keep, after which the node has heard no more
one_alone : (i : ℕ) (came : List model.Arrival) (delivered : List Arrival) (before : List Era) (arrival : model.Arrival)
    → ((j seat : ℕ) (heard : Option (List ℕ)) → j ≢ i → model.heard_after arrival.event j seat heard ≡ heard)
    → ((seat : ℕ) → Tells (model.heard_in (arrival ∷ came) i seat) (heard_by delivered i seat))
    → AreHeard came delivered before → HearsOn i came (arrival ∷ came) delivered delivered before
one_alone i came delivered before arrival world now heard = record {
  heard = subst (λ ds. AreHeard (arrival ∷ came) ds before) (append-nil delivered)
      (hears_one i came delivered [] before arrival world (λ seat. subst (λ ds. Tells (model.heard_in (arrival ∷ came) i seat) (heard_by ds i seat)) (sym (append-nil delivered)) (now seat)) heard);
  own = λ seat tells. now seat;
  world_others = λ j seat ne. world j seat (model.heard_in came j seat) ne;
  others = λ j seat ne. refl;
}

none_more : (i : ℕ) (came : List model.Arrival) (delivered : List Arrival) (before : List Era) → AreHeard came delivered before → HearsOn i came came delivered delivered before
none_more i came delivered before heard = record { heard = heard; own = λ seat tells. tells; world_others = λ j seat ne. refl; others = λ j seat ne. refl }

then_on : (i : ℕ) (came between all : List model.Arrival) (delivered now latest : List Arrival) (before : List Era)
    → HearsOn i came between delivered now before → HearsOn i between all now latest before → HearsOn i came all delivered latest before
then_on i came between all delivered now latest before first second = record {
  heard = second.heard;
  own = λ seat tells. second.own seat (first.own seat tells);
  world_others = λ j seat ne. second.world_others j seat ne ∙ first.world_others j seat ne;
  others = λ j seat ne. second.others j seat ne ∙ first.others j seat ne;
}

-- an arrival that is nothing to any seat
unheard : (i : ℕ) (came : List model.Arrival) (delivered : List Arrival) (before : List Era) (placed : Arrival)
    → ((j seat : ℕ) (heard : Option (List ℕ)) → heard_after placed.what j seat heard ≡ heard)
    → AreHeard came delivered before → HearsOn i came came delivered (delivered ++ placed ∷ []) before
unheard i came delivered before placed quiet heard = record {
  heard = λ earlier node seat bytes beginning is. elim (heard earlier node seat bytes beginning is) [
    | inl here ↦ inl (was_heard_on delivered (placed ∷ []) node seat bytes here)
    | inr there ↦ inr there
  ];
  own = λ seat tells bytes is. heard_on None delivered (placed ∷ []) i seat ∙ (quiet i seat (heard_by delivered i seat) ∙ tells bytes is);
  world_others = λ j seat ne. refl;
  others = λ j seat ne. heard_on None delivered (placed ∷ []) j seat ∙ quiet j seat (heard_by delivered j seat);
}

-- an arrival at node i: of a node's own frames and seats only
abbrev pub IsAt : ℕ → Arrived → Type 0
IsAt i (Delivered frame) = frame.to ≡ i
IsAt i (Came node seat bytes) = node ≡ i
IsAt i (Connected node seat) = node ≡ i
IsAt i (Dropped node seat) = node ≡ i
IsAt i (Ordered node front) = node ≡ i

hears_by : (i : ℕ) (what : Arrived) (count : ℕ) (out came : List model.Arrival) (delivered : List Arrival) (before : List Era) → IsAt i what
    → Brings i what (map (λ (arrival : model.Arrival). arrival.event) out)
    → ((seat : ℕ) → Tells (model.heard_in came i seat) (heard_by delivered i seat))
    → AreHeard came delivered before → HearsOn i came (out ++ came) delivered (delivered ++ placed_at count what ∷ []) before
hears_by i (Delivered frame) count out came delivered before at brings now heard =
    subst (λ all. HearsOn i came (all ++ came) delivered (delivered ++ placed_at count (Delivered frame) ∷ []) before) (sym (no_event out brings))
    (unheard i came delivered before (placed_at count (Delivered frame)) (λ j seat h. refl) heard)
hears_by i (Ordered node front) count out came delivered before at brings now heard = elim brings [
  | inl one ↦
      let found = one_event out (model.Ordered node front) one in
      subst (λ all. HearsOn i came (all ++ came) delivered (delivered ++ placed_at count (Ordered node front) ∷ []) before) (sym found.1)
      (one_alike i came delivered before found.0 (model.Ordered node front) (placed_at count (Ordered node front)) found.2
      (λ j place h ne. refl) (λ j place h ne. refl) (λ place world told tells. tells) now heard)
  | inr none ↦
      subst (λ all. HearsOn i came (all ++ came) delivered (delivered ++ placed_at count (Ordered node front) ∷ []) before) (sym (no_event out none))
      (unheard i came delivered before (placed_at count (Ordered node front)) (λ j seat h. refl) heard)
]
hears_by i (Connected node seat) count out came delivered before at brings now heard =
    let found = one_event out (model.Connected node seat) brings in
    subst (λ all. HearsOn i came (all ++ came) delivered (delivered ++ placed_at count (Connected node seat) ∷ []) before) (sym found.1)
    (one_alike i came delivered before found.0 (model.Connected node seat) (placed_at count (Connected node seat)) found.2
    (λ j place h ne. none_own j node seat place (Some []) h (λ same. ne (same ∙ at)))
    (λ j place h ne. none_own j node seat place (Some []) h (λ same. ne (same ∙ at)))
    (λ place world told tells. tells_by ((i == node) && (place == seat)) (Some []) (Some []) world told (λ bytes is. is) tells) now heard)
hears_by i (Dropped node seat) count out came delivered before at brings now heard =
    let found = one_event out (model.Dropped node seat) brings in
    subst (λ all. HearsOn i came (all ++ came) delivered (delivered ++ placed_at count (Dropped node seat) ∷ []) before) (sym found.1)
    (one_alike i came delivered before found.0 (model.Dropped node seat) (placed_at count (Dropped node seat)) found.2
    (λ j place h ne. none_own j node seat place None h (λ same. ne (same ∙ at)))
    (λ j place h ne. none_own j node seat place None h (λ same. ne (same ∙ at)))
    (λ place world told tells. tells_by ((i == node) && (place == seat)) None None world told (λ bytes is. is) tells) now heard)
hears_by i (Came node seat bytes) count out came delivered before at brings now heard = elim brings [
  | inl one ↦
      let found = one_event out (model.Came node seat bytes) one in
      subst (λ all. HearsOn i came (all ++ came) delivered (delivered ++ placed_at count (Came node seat bytes) ∷ []) before) (sym found.1)
      (came_by found.0 found.2)
  | inr two ↦
      let found = two_events out (model.Closed node seat) (model.Came node seat bytes) two in
      let first = came_by found.1 found.4 in
      subst (λ all. HearsOn i came (all ++ came) delivered (delivered ++ placed_at count (Came node seat bytes) ∷ []) before) (sym found.2)
      (then_on i came (found.1 ∷ came) (found.0 ∷ found.1 ∷ came) delivered (delivered ++ placed_at count (Came node seat bytes) ∷ []) (delivered ++ placed_at count (Came node seat bytes) ∷ []) before
      first (closed_by found.1 found.0 found.3 first))
]
  where
    came_by : (arrival : model.Arrival) → arrival.event ≡ model.Came node seat bytes
        → HearsOn i came (arrival ∷ came) delivered (delivered ++ placed_at count (Came node seat bytes) ∷ []) before
    came_by arrival is =
        one_alike i came delivered before arrival (model.Came node seat bytes) (placed_at count (Came node seat bytes)) is
        (λ j place h ne. none_own j node seat place (option_map (λ first. first ++ bytes) h) h (λ same. ne (same ∙ at)))
        (λ j place h ne. none_own j node seat place (option_map (λ first. first ++ bytes) h) h (λ same. ne (same ∙ at)))
        (λ place world told tells. tells_by ((i == node) && (place == seat)) (option_map (λ first. first ++ bytes) world) (option_map (λ first. first ++ bytes) told) world told
        (tells_longer bytes world told tells) tells) now heard

    closed_by : (first later : model.Arrival) → later.event ≡ model.Closed node seat
        → HearsOn i came (first ∷ came) delivered (delivered ++ placed_at count (Came node seat bytes) ∷ []) before
        → HearsOn i (first ∷ came) (later ∷ first ∷ came) (delivered ++ placed_at count (Came node seat bytes) ∷ []) (delivered ++ placed_at count (Came node seat bytes) ∷ []) before
    closed_by first later is on =
        one_alone i (first ∷ came) (delivered ++ placed_at count (Came node seat bytes) ∷ []) before later
        (λ j place h ne. ap (λ e. model.heard_after e j place h) is ∙ none_own j node seat place None h (λ same. ne (same ∙ at)))
        (λ place. subst (λ e. Tells (model.heard_after e i place (model.heard_in (first ∷ came) i place)) (heard_by (delivered ++ placed_at count (Came node seat bytes) ∷ []) i place)) (sym is)
        (tells_closed ((i == node) && (place == seat)) (model.heard_in (first ∷ came) i place) (heard_by (delivered ++ placed_at count (Came node seat bytes) ∷ []) i place) (on.own place (now place))))
        on.heard

-- what a call brings
pub hears : (i : ℕ) (began : Bool) (arrived : List Arrived) (count : ℕ) (out came : List model.Arrival) (delivered : List Arrival) (before : List Era)
    → ((what : Arrived) → In what arrived → IsAt i what)
    → BringsAll i began arrived (map (λ (arrival : model.Arrival). arrival.event) out)
    → (arrived ≢ [] → (seat : ℕ) → Tells (model.heard_in came i seat) (heard_by delivered i seat))
    → AreHeard came delivered before
    → AreHeard (out ++ came) (delivered ++ map (placed_at count) arrived) before
    × ((seat : ℕ) → (began ≡ false → Tells (model.heard_in came i seat) (heard_by delivered i seat)) → Tells (model.heard_in (out ++ came) i seat) (heard_by (delivered ++ map (placed_at count) arrived) i seat))
    × ((j seat : ℕ) → j ≢ i → (model.heard_in (out ++ came) j seat ≡ model.heard_in came j seat) × (heard_by (delivered ++ map (placed_at count) arrived) j seat ≡ heard_by delivered j seat))
hears i true [] count out came delivered before at brings now heard =
    let found = one_event out (model.Started i) brings in
    let here : (seat : ℕ) → model.heard_in (found.0 ∷ came) i seat ≡ None =
    λ seat. ap (λ e. model.heard_after e i seat (model.heard_in came i seat)) found.2 ∙ ap (λ b. cond b None (model.heard_in came i seat)) (eq-eqb i i refl) in
    let none : (seat : ℕ) → Tells (model.heard_in (found.0 ∷ came) i seat) (heard_by delivered i seat) =
    λ seat. subst (λ h. Tells h (heard_by delivered i seat)) (sym (here seat)) (tells_none (heard_by delivered i seat)) in
    let on = one_alone i came delivered before found.0
    (λ j seat h ne. ap (λ e. model.heard_after e j seat h) found.2 ∙ started_other j i h ne) none heard in
    subst (λ ds. AreHeard (out ++ came) ds before
    × ((seat : ℕ) → (true ≡ false → Tells (model.heard_in came i seat) (heard_by delivered i seat)) → Tells (model.heard_in (out ++ came) i seat) (heard_by ds i seat))
    × ((j seat : ℕ) → j ≢ i → (model.heard_in (out ++ came) j seat ≡ model.heard_in came j seat) × (heard_by ds j seat ≡ heard_by delivered j seat))) (sym (append-nil delivered))
    (subst (λ all. AreHeard (all ++ came) delivered before
    × ((seat : ℕ) → (true ≡ false → Tells (model.heard_in came i seat) (heard_by delivered i seat)) → Tells (model.heard_in (all ++ came) i seat) (heard_by delivered i seat))
    × ((j seat : ℕ) → j ≢ i → (model.heard_in (all ++ came) j seat ≡ model.heard_in came j seat) × (heard_by delivered j seat ≡ heard_by delivered j seat))) (sym found.1)
    (on.heard, λ seat not. none seat, λ j seat ne. (on.world_others j seat ne, refl)))
hears i false [] count out came delivered before at brings now heard =
    subst (λ ds. AreHeard (out ++ came) ds before
    × ((seat : ℕ) → (false ≡ false → Tells (model.heard_in came i seat) (heard_by delivered i seat)) → Tells (model.heard_in (out ++ came) i seat) (heard_by ds i seat))
    × ((j seat : ℕ) → j ≢ i → (model.heard_in (out ++ came) j seat ≡ model.heard_in came j seat) × (heard_by ds j seat ≡ heard_by delivered j seat))) (sym (append-nil delivered))
    (subst (λ all. AreHeard (all ++ came) delivered before
    × ((seat : ℕ) → (false ≡ false → Tells (model.heard_in came i seat) (heard_by delivered i seat)) → Tells (model.heard_in (all ++ came) i seat) (heard_by delivered i seat))
    × ((j seat : ℕ) → j ≢ i → (model.heard_in (all ++ came) j seat ≡ model.heard_in came j seat) × (heard_by delivered j seat ≡ heard_by delivered j seat))) (sym (no_event out brings))
    (heard, λ seat tells. tells refl, λ j seat ne. (refl, refl)))
hears i began (what ∷ more) count out came delivered before at brings now heard =
    let on = hears_by i what count out came delivered before (at what (inl refl)) brings.2 (now (cons_not_nil what more)) heard in
    subst (λ (rest : List Arrived). AreHeard (out ++ came) (delivered ++ placed_at count what ∷ map (placed_at count) rest) before
    × ((seat : ℕ) → (began ≡ false → Tells (model.heard_in came i seat) (heard_by delivered i seat)) → Tells (model.heard_in (out ++ came) i seat) (heard_by (delivered ++ placed_at count what ∷ map (placed_at count) rest) i seat))
    × ((j seat : ℕ) → j ≢ i → (model.heard_in (out ++ came) j seat ≡ model.heard_in came j seat) × (heard_by (delivered ++ placed_at count what ∷ map (placed_at count) rest) j seat ≡ heard_by delivered j seat))) (sym brings.0)
    (on.heard, λ seat tells. on.own seat (tells brings.1), λ j seat ne. (on.world_others j seat ne, on.others j seat ne))

-- what came to one node is nothing to another
what_other : (i j seat : ℕ) (what : Arrived) (heard : Option (List ℕ)) → IsAt i what → j ≢ i → heard_after what j seat heard ≡ heard
what_other i j seat (Delivered frame) heard at ne = refl
what_other i j seat (Came node place bytes) heard at ne = none_own j node place seat (option_map (λ first. first ++ bytes) heard) heard (λ same. ne (same ∙ at))
what_other i j seat (Connected node place) heard at ne = none_own j node place seat (Some []) heard (λ same. ne (same ∙ at))
what_other i j seat (Ordered node front) heard at ne = refl
what_other i j seat (Dropped node place) heard at ne = none_own j node place seat None heard (λ same. ne (same ∙ at))

others_from : (i j seat count : ℕ) (arrived : List Arrived) (heard : Option (List ℕ)) → ((what : Arrived) → In what arrived → IsAt i what) → j ≢ i
    → heard_from heard (map (placed_at count) arrived) j seat ≡ heard
others_from i j seat count [] heard at ne = refl
others_from i j seat count (what ∷ more) heard at ne =
    ap (λ h. heard_from h (map (placed_at count) more) j seat) (what_other i j seat what heard (at what (inl refl)) ne)
    ∙ others_from i j seat count more heard (λ later there. at later (inr there)) ne

pub others_at : (i j seat count : ℕ) (arrived : List Arrived) (delivered : List Arrival) → ((what : Arrived) → In what arrived → IsAt i what) → j ≢ i
    → heard_by (delivered ++ map (placed_at count) arrived) j seat ≡ heard_by delivered j seat
others_at i j seat count arrived delivered at ne =
    heard_on None delivered (map (placed_at count) arrived) j seat ∙ others_from i j seat count arrived (heard_by delivered j seat) at ne
