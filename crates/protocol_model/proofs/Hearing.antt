-- What a node hears of a seat is what came from the seat since it connected, and arrivals come in order.
use Rattle.std.proofs.Common.{◌≡◌, ◌≢◌, ℕ, ◌≤◌, ◌⊎◌, inl, inr, ◌==◌, ◌&&◌, Bool, cond, eq-eqb, ne_eqb, eqb-true, true, false, Option, Some, None, List, [], ◌∷◌, ◌++◌, length, refl, ap, sym, ◌∙◌, subst, arith, length-append}
use Rattle.std.specs.Option.{option_map}
use Rattle.std.proofs.lemmas.Bool.{cases_eq}
use Rattle.protocol_model.specs.Sets.{In, put}
use Rattle.protocol_model.specs.Messages.{Message}
use Rattle.protocol_model.specs.Dealers.{Dealer}
use Rattle.protocol_model.specs.Nodes.{Node}
use Rattle.protocol_model.specs.Arrivals.{Event, Arrival, Started, Connected, Dropped, Closed, Came, Ordered, heard_after, heard_in, AreInOrder}
use Rattle.protocol_model.specs.Moves
use Rattle.protocol_model.specs.Moves.{Output, Move}
use Rattle.protocol_model.specs.Worlds
use Rattle.protocol_model.specs.Worlds.{World, IsAfter, Run, Reached}

-- the event is no other node's
abbrev IsOf : ℕ → Event → Type 0
IsOf i event = (j seat : ℕ) (heard : Option (List ℕ)) → j ≢ i → heard_after event j seat heard ≡ heard

-- what a move takes: nothing, or one event of its node
abbrev TakesNothing : Node → Output → Node → Type 0
TakesNothing old out new = (out.came ≡ []) × ((seat : ℕ) → new.heard seat ≡ old.heard seat)

abbrev TakesEvent : ℕ → List Message → Node → Output → Node → Type 0
TakesEvent i ever old out new =
    (event : Event) × (out.came ≡ (record { event = event; sent = length ever }) ∷ []) × IsOf i event
    × ((seat : ℕ) → new.heard seat ≡ heard_after event i seat (old.heard seat))

abbrev Takes : ℕ → List Message → Node → Output → Node → Type 0
Takes i ever old out new = TakesNothing old out new ⊎ TakesEvent i ever old out new

quiet : (i : ℕ) (ever : List Message) (old : Node) (out o : Output) (new v : Node) → out ≡ o → new ≡ v → o.came ≡ []
    → ((seat : ℕ) → v.heard seat ≡ old.heard seat) → Takes i ever old out new
quiet i ever old out o new v eo en none same = inl (ap (λ x. x.came) eo ∙ none, λ seat. ap (λ x. x.heard seat) en ∙ same seat)

-- an event of a seat changes that seat alone, and at its own node
own : (i : ℕ) (b : Bool) → ((i == i) && b) ≡ b
own i b = ap (λ t. t && b) (eq-eqb i i refl)

not_own : (j i : ℕ) (b : Bool) → j ≢ i → ((j == i) && b) ≡ false
not_own j i b ne = ap (λ t. t && b) (ne_eqb j i ne)

put_own : (i place seat : ℕ) (heard : ℕ → Option (List ℕ)) (x : Option (List ℕ)) → put heard place x seat ≡ cond ((i == i) && (seat == place)) x (heard seat)
put_own i place seat heard x = ap (λ b. cond b x (heard seat)) (sym (own i (seat == place)))

pub none_own : (j i place seat : ℕ) (x heard : Option (List ℕ)) → j ≢ i → cond ((j == i) && (seat == place)) x heard ≡ heard
none_own j i place seat x heard ne = ap (λ b. cond b x heard) (not_own j i (seat == place) ne)

-- more bytes of a seat stand behind those before them
put_more : (heard : ℕ → Option (List ℕ)) (place seat : ℕ) (bytes : List ℕ)
    → put heard place (option_map (λ before. before ++ bytes) (heard place)) seat
    ≡ cond (seat == place) (option_map (λ before. before ++ bytes) (heard seat)) (heard seat)
put_more heard place seat bytes = by_test (seat == place) refl
  where
    by_test : (b : Bool) → (seat == place) ≡ b
        → cond b (option_map (λ before. before ++ bytes) (heard place)) (heard seat) ≡ cond b (option_map (λ before. before ++ bytes) (heard seat)) (heard seat)
    by_test true here = ap (λ k. option_map (λ before. before ++ bytes) (heard k)) (sym (eqb-true seat place here))
    by_test false there = refl

move_takes : (dealer : Dealer) (n i : ℕ) (ever : List Message) (old : Node) (out : Output) (new : Node) → Move dealer n i ever old out new
    → Takes i ever old out new
move_takes dealer n i ever old out new (Moves.connects place up eo en) = inr (
  Connected i place,
  ap (λ o. o.came) eo,
  (λ j seat heard ne. none_own j i place seat (Some []) heard ne),
  λ seat. ap (λ v. v.heard seat) en ∙ put_own i place seat old.heard (Some []),
)
move_takes dealer n i ever old out new (Moves.drops place up eo en) = inr (
  Dropped i place,
  ap (λ o. o.came) eo,
  (λ j seat heard ne. none_own j i place seat None heard ne),
  λ seat. ap (λ v. v.heard seat) en ∙ put_own i place seat old.heard None,
)
move_takes dealer n i ever old out new (Moves.closes place up eo en) = inr (
  Closed i place,
  ap (λ o. o.came) eo,
  (λ j seat heard ne. none_own j i place seat None heard ne),
  λ seat. ap (λ v. v.heard seat) en ∙ put_own i place seat old.heard None,
)
move_takes dealer n i ever old out new (Moves.hears place bytes up eo en) = inr (
  Came i place bytes,
  ap (λ o. o.came) eo,
  (λ j seat heard ne. none_own j i place seat (option_map (λ before. before ++ bytes) heard) heard ne),
  λ seat. ap (λ v. v.heard seat) en ∙ put_more old.heard place seat bytes
      ∙ ap (λ b. cond b (option_map (λ before. before ++ bytes) (old.heard seat)) (old.heard seat)) (sym (own i (seat == place))),
)
move_takes dealer n i ever old out new (Moves.ordered before command up knows hole orders eo en) = inr (
  Ordered i (length before),
  ap (λ o. o.came) eo,
  (λ j seat heard ne. refl),
  λ seat. ap (λ v. v.heard seat) en,
)
move_takes dealer n i ever old out new (Moves.starts store down found eo en) = inr (
  Started i,
  ap (λ o. o.came) eo,
  (λ j seat heard ne. ap (λ b. cond b None heard) (ne_eqb j i ne)),
  λ seat. ap (λ v. v.heard seat) en ∙ ap (λ b. cond b None (old.heard seat)) (sym (eq-eqb i i refl)),
)
move_takes dealer n i ever old out new (Moves.gets message up here eo en) = quiet i ever old out _ new _ eo en refl (λ s. refl)
move_takes dealer n i ever old out new (Moves.notes seat bytes before line command up connected knows heard says eo en) = quiet i ever old out _ new _ eo en refl (λ s. refl)
move_takes dealer n i ever old out new (Moves.begins ballot slot told up own below tells eo en) = quiet i ever old out _ new _ eo en refl (λ s. refl)
move_takes dealer n i ever old out new (Moves.promises ballot slot told up here below tells eo en) = quiet i ever old out _ new _ eo en refl (λ s. refl)
move_takes dealer n i ever old out new (Moves.proposes ballot first slot command up prepared none own may eo en) = quiet i ever old out _ new _ eo en refl (λ s. refl)
move_takes dealer n i ever old out new (Moves.accepts ballot slot command up here at_most eo en) = quiet i ever old out _ new _ eo en refl (λ s. refl)
move_takes dealer n i ever old out new (Moves.repeats ballot slot command up stored at_most eo en) = quiet i ever old out _ new _ eo en refl (λ s. refl)
move_takes dealer n i ever old out new (Moves.refuses ballot slot greater up eo en) = quiet i ever old out _ new _ eo en refl (λ s. refl)
move_takes dealer n i ever old out new (Moves.learns slot command up chosen eo en) = quiet i ever old out _ new _ eo en refl (λ s. refl)
move_takes dealer n i ever old out new (Moves.believes sender slot command up here eo en) = quiet i ever old out _ new _ eo en refl (λ s. refl)
move_takes dealer n i ever old out new (Moves.tells slot command up knows eo en) = quiet i ever old out _ new _ eo en refl (λ s. refl)
move_takes dealer n i ever old out new (Moves.asks slot up eo en) = quiet i ever old out _ new _ eo en refl (λ s. refl)
move_takes dealer n i ever old out new (Moves.forwards command up said eo en) = quiet i ever old out _ new _ eo en refl (λ s. refl)
move_takes dealer n i ever old out new (Moves.shows commands reader text up knows more shown eo en) = quiet i ever old out _ new _ eo en refl (λ s. refl)
move_takes dealer n i ever old out new (Moves.stops begun up append eo en) = quiet i ever old out _ new _ eo en refl (λ s. refl)

-- after a move the arrivals tell what each node hears
hears_after : (i : ℕ) (ever : List Message) (old : Node) (out : Output) (new : Node) (came : List Arrival) → Takes i ever old out new
    → ((seat : ℕ) → old.heard seat ≡ heard_in came i seat)
    → ((seat : ℕ) → new.heard seat ≡ heard_in (out.came ++ came) i seat)
    × ((j seat : ℕ) → j ≢ i → heard_in (out.came ++ came) j seat ≡ heard_in came j seat)
hears_after i ever old out new came (inl none) is = (
  λ seat. none.1 seat ∙ is seat ∙ ap (λ xs. heard_in (xs ++ came) i seat) (sym none.0),
  λ j seat ne. ap (λ xs. heard_in (xs ++ came) j seat) none.0,
)
hears_after i ever old out new came (inr takes) is = (
  λ seat. takes.3 seat ∙ ap (heard_after takes.0 i seat) (is seat) ∙ ap (λ xs. heard_in (xs ++ came) i seat) (sym takes.1),
  λ j seat ne. ap (λ xs. heard_in (xs ++ came) j seat) takes.1 ∙ takes.2 j seat (heard_in came j seat) ne,
)

pub world_hears : (dealer : Dealer) (n : ℕ) (world : World) (j seat : ℕ) → Reached dealer n world
    → (world.nodes j).heard seat ≡ heard_in world.came j seat
world_hears dealer n world j seat Worlds.start = refl
world_hears dealer n world j seat (Worlds.more between i out node end run within move after) =
    let takes = move_takes dealer n i between.ever (between.nodes i) out node move in
    let hears = hears_after i between.ever (between.nodes i) out node between.came takes (λ s. world_hears dealer n between i s run) in
    elim (cases_eq j i) [
      | inl e ↦ subst (λ k. (end.nodes k).heard seat ≡ heard_in end.came k seat) (sym e)
          (ap (λ (v : Node). v.heard seat) after.moved ∙ hears.0 seat ∙ ap (λ xs. heard_in xs i seat) (sym after.came))
      | inr ne ↦ ap (λ (v : Node). v.heard seat) (after.others j ne) ∙ world_hears dealer n between j seat run
          ∙ sym (hears.1 j seat ne) ∙ ap (λ xs. heard_in xs j seat) (sym after.came)
    ]

-- what a move takes tells how much had been sent before the move
pub taken_now : (dealer : Dealer) (n i : ℕ) (ever : List Message) (old : Node) (out : Output) (new : Node) (arrival : Arrival)
    → Move dealer n i ever old out new → In arrival out.came → arrival.sent ≡ length ever
taken_now dealer n i ever old out new arrival move here = elim (move_takes dealer n i ever old out new move) [
  | inl none ↦ absurd (subst (In arrival) none.0 here)
  | inr takes ↦ elim (let h : In arrival ((record { event = takes.0; sent = length ever }) ∷ []) = subst (In arrival) takes.1 here in h) [
    | inl e ↦ ap (λ (a : Arrival). a.sent) e
    | inr never ↦ absurd never
  ]
]

-- arrivals stay in order when more is sent
order_stays : (came : List Arrival) (fewer more : ℕ) → fewer ≤ more → AreInOrder came fewer → AreInOrder came more
order_stays [] fewer more le order = tt
order_stays (latest ∷ before) fewer more le order = (omega (arith, order.0), order.1)

-- none came when more had been sent than at the newest
pub none_later : (came : List Arrival) (sent : ℕ) → AreInOrder came sent → (arrival : Arrival) → In arrival came → arrival.sent ≤ sent
none_later [] sent order arrival here = absurd here
none_later (latest ∷ before) sent order arrival (inl e) = subst (λ (a : Arrival). a.sent ≤ sent) (sym e) order.0
none_later (latest ∷ before) sent order arrival (inr here) =
    let le = none_later before latest.sent order.1 arrival here in omega (arith, order.0)

takes_in_order : (i : ℕ) (ever sent : List Message) (old : Node) (out : Output) (new : Node) (came : List Arrival) → Takes i ever old out new
    → AreInOrder came (length ever) → AreInOrder (out.came ++ came) (length (sent ++ ever))
takes_in_order i ever sent old out new came (inl none) order =
    subst (λ xs. AreInOrder (xs ++ came) (length (sent ++ ever))) (sym none.0)
    (order_stays came (length ever) (length (sent ++ ever)) (omega (arith, length-append sent ever)) order)
takes_in_order i ever sent old out new came (inr takes) order =
    subst (λ xs. AreInOrder (xs ++ came) (length (sent ++ ever))) (sym takes.1) (omega (arith, length-append sent ever), order)

pub world_in_order : (dealer : Dealer) (n : ℕ) (world : World) → Reached dealer n world → AreInOrder world.came (length world.ever)
world_in_order dealer n world Worlds.start = tt
world_in_order dealer n world (Worlds.more between i out node end run within move after) =
    let takes = move_takes dealer n i between.ever (between.nodes i) out node move in
    let order = takes_in_order i between.ever out.sent (between.nodes i) out node between.came takes (world_in_order dealer n between run) in
    subst (λ xs. AreInOrder end.came (length xs)) (sym after.ever) (subst (λ xs. AreInOrder xs (length (out.sent ++ between.ever))) (sym after.came) order)
