-- A cluster moves on: its events are those of a way of the rules.
use Rattle.std.proofs.Common.{Option, Some, None, ◌≡◌, ◌≢◌, ℕ, ◌+◌, ◌<◌, ◌≤◌, ◌-◌, ◌^◌, ◌⊎◌, inl, inr, true, false, ◌==◌, List, [], ◌∷◌, ◌++◌, length, get_or, set, Result, Err, IsTrue, refl, ap, sym, ◌∙◌, subst, arith, length-set, get_or-set_same, get_or-set_other, le_refl}
use Rattle.std.proofs.Math.Logic.{∥∥₁_map, ∥∥₁_elim}
use Rattle.std.proofs.lemmas.List.{get_or_default}
use Rattle.std.proofs.lemmas.Bool.Decides.{eqb_tells}
use Rattle.promise_store.specs.declared.disk.Disk.{Ghosts}
use Rattle.promise_store.specs.Disks.{Rose}
use Rattle.promise_store.specs.declared.fault.StoreFault.TheVariants.{Disk}
use Rattle.protocol_model.specs.Sets.{In}
use Rattle.protocol_model.specs.Stores.{Store, empty_store}
use Rattle.protocol_model.proofs.Sets.{in_first, in_later}
use Rattle.node_rules.proofs.Members.{above_all}
use Rattle.node_rules.proofs.WayMembers.{AllIn, way_in, movable_same, way_same, some_command}
use Rattle.dealer_kind.specs.Plans.{Plan}
use Rattle.node_rules.specs.Standings.{Place, Standing, place_of, stopped, front_of}
use Rattle.node_rules.specs.Sending.{Frame as Outgoing}
use Rattle.node_rules.specs.Showing.{Piece as Shown, SeatFault}
use Rattle.node_rules.specs.Calls.{Call, Start, Tick, Line, Connect, Drop, Stop}
use Rattle.node_rules.specs.Calls as call
use Rattle.node_rules.specs.Called.{Ends, took, refused, failed, unchanged}
use Rattle.node_rules.specs.Calm.{Ticks, Delivers}
use Rattle.node_rules.specs.Calm as calm
use Rattle.node_rules.specs.CalmRound as of_round
use Rattle.node_rules.specs.CalmRound.{AreKnown}
use Rattle.node_rules.specs.Ways.{IsWay, CalmIsMovable}
use Rattle.dealer_node.specs.Nodes.{Node}
use Rattle.dealer_node.specs.declared.fault.NodeFault.{NodeFault}
use Rattle.dealer_node.specs.declared.fault.NodeFault.TheVariants as fault
use Rattle.dealer_node.specs.Members.{Membership, place_at}
use Rattle.dealer_node.specs.declared.up.Up.{Up}
use Rattle.dealer_node.specs.Seeing.{member_in, runs, IsSeenBy, IsSeen, failures_of, front_in}
use Rattle.dealer_node.specs.Taking.{Answered}
use Rattle.dealer_world.specs.declared.event.Event.{Event}
use Rattle.dealer_world.specs.declared.event.Event.TheVariants as event
use Rattle.dealer_world.specs.Runs.{IsSeated}
use Rattle.dealer_world.specs.Recordings.{made_by}
use Rattle.dealer_world.specs.RuleRuns.{State}
use Rattle.dealer_world.specs.Events.{node_of, call_of}
use Rattle.dealer_world.specs.Stepping.{View, Stepped, Ran, none, more, arrived_by_event, begins_by_event}
use Rattle.dealer_world.specs.Ruling.{AreAtPlaces, AreSeen, IsBehind}
use Rattle.dealer_world.specs.CalmRun.{standing_at, IsUntroubled, TakesEvent, TakesEvents, NoDeadEnd}
use Rattle.dealer_world.specs.CalmCluster.{IsEvent, AreEvents, HaveNotFailed, MovesOn, ClustersAtRestMove}
use Rattle.dealer_world.proofs.Ruled.{ruled_by, front_seen, same_count, seen_at, seen_set}
use Rattle.dealer_world.proofs.Advancing.{same_place}
use Rattle.dealer_world.proofs.Answering.{all_is, TellsUp}

-- ---- no fault

no_rise : (old new : ℕ) → new ≡ old → new < 2 ^ 64 - 1 → Rose old new → ⊥
no_rise old new same low rose = grind (arith, same, low, rose)

pub untroubled : (place : Place) (s : Standing) (called : Call) (after : Standing) (frames : List Outgoing) (shown : List Shown) (faults : List SeatFault) (answer : Result (Unit {0}) NodeFault)
    → (answer ≡ Err fault.OutOfMemory → ⊥) → (answer ≡ Err (fault.Store Disk) → ⊥)
    → (ends : Ends place s called after frames shown) → Answered place s called after frames shown ends faults answer → IsUntroubled place s called after frames shown ends
untroubled place s called after frames shown faults answer ample sound (took turn rule a b c) answered = tt
untroubled place s called after frames shown faults answer ample sound (refused refusal rule a b c) answered = tt
untroubled place s called after frames shown faults answer ample sound (failed outcome begun ran rule d a b c) (told, err) = sound err
untroubled place s called after frames shown faults answer ample sound (unchanged a b c) (told, inl no_memory) = ample no_memory
untroubled place s called after frames shown faults answer ample sound (unchanged a b c) (told, inr (start, err)) = sound err

-- ---- the events of a round

pub same_node : (e : Event) (y : calm.Event) → IsEvent e y → node_of e ≡ of_round.node_of y
same_node (event.Frame from to bytes) (Ticks node) is = absurd is
same_node (event.Frame from to bytes) (Delivers sender receiver spelled) is = is.1
same_node (event.Line node seat bytes) other is = absurd is
same_node (event.Tick number) (Ticks node) is = is
same_node (event.Tick number) (Delivers sender receiver spelled) is = absurd is
same_node (event.Away node) other is = absurd is
same_node (event.Connect node seat) other is = absurd is
same_node (event.Drop node seat) other is = absurd is
same_node (event.Stop node pick) other is = absurd is
same_node (event.Start node) other is = absurd is

pub same_call : (e : Event) (y : calm.Event) (found : Store) → IsEvent e y → call_of found e ≡ of_round.call_of y
same_call (event.Frame from to bytes) (Ticks node) found is = absurd is
same_call (event.Frame from to bytes) (Delivers sender receiver spelled) found is = λ j. call.Frame (is.0 j) (is.2 j)
same_call (event.Line node seat bytes) other found is = absurd is
same_call (event.Tick number) (Ticks node) found is = refl
same_call (event.Tick number) (Delivers sender receiver spelled) found is = absurd is
same_call (event.Away node) other found is = absurd is
same_call (event.Connect node seat) other found is = absurd is
same_call (event.Drop node seat) other found is = absurd is
same_call (event.Stop node pick) other found is = absurd is
same_call (event.Start node) other found is = absurd is

-- the last of some events
pub record Split (before : List Event) (e : Event) (ys : List calm.Event) : Type 0 where
  pub front : List calm.Event
  pub last : calm.Event
  pub whole : ys ≡ front ++ last ∷ []
  pub are : AreEvents before front
  pub is : IsEvent e last

split : (before : List Event) (e : Event) (ys : List calm.Event) → AreEvents (before ++ e ∷ []) ys → Split before e ys
split [] e [] are = absurd are
split [] e (y ∷ []) are = record { front = []; last = y; whole = refl; are = tt; is = are.0 }
split [] e (y ∷ z ∷ zs) are = absurd are.1
split (x ∷ before) e [] are = absurd are
split (x ∷ before) e (y ∷ ys) are =
    let s = split before e ys are.1 in
    record { front = y ∷ s.front; last = s.last; whole = ap (λ (l : List calm.Event). y ∷ l) s.whole; are = (are.0, s.are); is = s.is }

takes_one_more : (plan : Plan) (first : State) (ys : List calm.Event) (between last : State) (y : calm.Event) → TakesEvents plan first ys between → TakesEvent plan between y last → TakesEvents plan first (ys ++ y ∷ []) last
takes_one_more plan first [] between last y e takes = (last, subst (λ (s : State). TakesEvent plan s y last) e takes, refl)
takes_one_more plan first (x ∷ ys) between last y (mid, one, rest) takes = (mid, one, takes_one_more plan mid ys between last y rest takes)

-- ---- small facts

no_events : (events : List Event) (ys : List calm.Event) → events ≡ [] → AreEvents events ys → ys ≡ []
no_events [] [] e are = refl
no_events [] (y ∷ ys) e are = absurd are
no_events (x ∷ events) ys e are = absurd (cc)

-- ---- one event

pub is_seated : (players : ℕ) (e : Event) (y : calm.Event) (found : Store) → IsEvent e y → IsSeated players (call_of found e)
is_seated players (event.Frame from to bytes) y found is = tt
is_seated players (event.Line node seat bytes) y found is = absurd is
is_seated players (event.Tick number) y found is = tt
is_seated players (event.Away node) y found is = absurd is
is_seated players (event.Connect node seat) y found is = absurd is
is_seated players (event.Drop node seat) y found is = absurd is
is_seated players (event.Stop node pick) y found is = absurd is
is_seated players (event.Start node) y found is = absurd is

module _ {D : Type 0} (g : Ghosts D) where
  -- the state of the rules that a view is
  abbrev state_of : List Standing → View (Node D) → State
  state_of standings view = record { standings = standings; now = view.all }

  record Next (plan : Plan) (standings : List Standing) (old : View (Node D)) (y : calm.Event) (new : View (Node D)) : Type 0 where
    after : List Standing
    seen : AreSeen g new.nodes after
    takes : TakesEvent plan (state_of standings old) y (state_of after new)

  step_on : (plan : Plan) (standings : List Standing) (old new : View (Node D)) (e : Event) (answer : Result (Unit {0}) NodeFault) (y : calm.Event) → AreAtPlaces plan old.nodes
      → node_of e < length old.nodes → AreSeen g old.nodes standings → IsTrue g.is_honest → TellsUp g → (stepped : Stepped g old e answer new) → (answer ≡ Err fault.OutOfMemory → ⊥) → IsEvent e y
      → failures_of g stepped.after ≡ failures_of g stepped.before → failures_of g stepped.after < 2 ^ 64 - 1 → Next plan standings old y new
  step_on plan standings old new e answer y at_places less are_seen honest up stepped ample is same low =
      let i : ℕ = node_of e in
      let d : Standing = stopped (place_of plan i) empty_store empty_store in
      let s : Standing = get_or standings i d in
      let count = same_count g old.nodes standings are_seen in
      let seen : IsSeen g stepped.before s = subst (λ node. IsSeen g node s) stepped.at (seen_at g old.nodes standings i stepped.before d less are_seen) in
      let placed : place_at (member_in stepped.before) ≡ place_of plan i = ap (λ (n : Node D). place_at (member_in n)) (sym stepped.at) ∙ at_places i stepped.before less in
      let t = stepped.given.taken s honest seen in
      let takes = t.1 in
      let called : Call = call_of t.0 e in
      let moved = subst (λ (p : Place). (ends : Ends p s called takes.after takes.frames takes.shown) × Answered p s called takes.after takes.frames takes.shown ends takes.faults answer)
      placed (takes.ends, takes.answered) in
      let sound : answer ≡ Err (fault.Store Disk) → ⊥ = (λ err. no_rise (failures_of g stepped.before) (failures_of g stepped.after) same low (stepped.given.stays.rose err)) in
      record {
        after = set standings i takes.after;
        seen = subst (λ (nodes : List (Node D)). AreSeen g nodes (set standings i takes.after)) (sym stepped.others) (seen_set g old.nodes standings i stepped.after takes.after are_seen takes.now);
        takes = record {
          steps = record {
            node = i;
            is_node = subst (λ n. i < n) count less;
            before = s;
            at = get_or_default standings i s d (subst (λ n. i < n) count less);
            called = called;
            arrived = arrived_by_event (runs stepped.before) (front_in stepped.before) e;
            made = made_by i stepped.told (begins_by_event (runs stepped.before) e answer);
            after = takes.after;
            ruled = ruled_by (place_of plan i) s e t.0 takes.after takes.frames takes.shown takes.faults answer stepped.told (runs stepped.before) (front_in stepped.before) refl (up stepped.before s seen) (front_seen g stepped.before s seen) ample
                (is_seated plan.setting.game.players e y t.0 is) moved.0 moved.1 takes.told takes.fits;
            standings = refl;
            grows = all_is e (runs stepped.before) (front_in stepped.before) stepped.told old new answer stepped.gains ample;
          };
          node = same_node e y is;
          called = same_call e y t.0 is;
          untroubled = untroubled (place_of plan i) s called takes.after takes.frames takes.shown takes.faults answer ample sound moved.0 moved.1;
        };
      }

  -- ---- counts of failures

  after_at : (old new : View (Node D)) (e : Event) (answer : Result (Unit {0}) NodeFault) (stepped : Stepped g old e answer new) (d : Node D) → node_of e < length old.nodes
      → (get_or new.nodes (node_of e) d ≡ stepped.after) × (get_or old.nodes (node_of e) d ≡ stepped.before)
  after_at old new e answer stepped d less = (
    ap (λ (nodes : List (Node D)). get_or nodes (node_of e) d) stepped.others ∙ get_or-set_same old.nodes (node_of e) stepped.after d less,
    get_or_default old.nodes (node_of e) d stepped.before less ∙ stepped.at,
  )

  step_counts : (old new : View (Node D)) (e : Event) (answer : Result (Unit {0}) NodeFault) → Stepped g old e answer new → node_of e < length old.nodes → (k : ℕ) (d : Node D)
      → failures_of g (get_or old.nodes k d) ≤ failures_of g (get_or new.nodes k d)
  step_counts old new e answer stepped less k d = by_node (eqb_tells k (node_of e))
    where
      by_node : ((k == node_of e) ≡ true) × (k ≡ node_of e) ⊎ ((k == node_of e) ≡ false) × (k ≢ node_of e) → failures_of g (get_or old.nodes k d) ≤ failures_of g (get_or new.nodes k d)
      by_node (inl same) =
          let a = after_at old new e answer stepped d less in
          subst (λ (m : ℕ). failures_of g (get_or old.nodes m d) ≤ failures_of g (get_or new.nodes m d)) (sym same.1)
          (subst (λ (n : Node D). failures_of g n ≤ failures_of g (get_or new.nodes (node_of e) d)) (sym a.1)
          (subst (λ (n : Node D). failures_of g stepped.before ≤ failures_of g n) (sym a.0) stepped.given.stays.counts))
      by_node (inr other) =
          subst (λ (n : Node D). failures_of g (get_or old.nodes k d) ≤ failures_of g n)
          (sym (ap (λ (nodes : List (Node D)). get_or nodes k d) stepped.others ∙ get_or-set_other old.nodes (node_of e) k stepped.after d other.1))
          (le_refl (failures_of g (get_or old.nodes k d)))

  -- ---- all events

  -- where a run of a round's events has come to, with no disk of a member failing
  record Moved (plan : Plan) (standings : List Standing) (old : View (Node D)) (ys : List calm.Event) (new : View (Node D)) : Type 0 where
    after : List Standing
    seen : AreSeen g new.nodes after
    takes : TakesEvents plan (state_of standings old) ys (state_of after new)
    at_places : AreAtPlaces plan new.nodes
    count : length new.nodes ≡ length old.nodes

  -- as many nodes, and counts that didn't fall
  record Grown (old new : View (Node D)) : Type 0 where
    count : length new.nodes ≡ length old.nodes
    counts : (k : ℕ) (d : Node D) → failures_of g (get_or old.nodes k d) ≤ failures_of g (get_or new.nodes k d)

  grown_by : (n : ℕ) (members : List ℕ) (first last : View (Node D)) (events : List Event) (ys : List calm.Event) → length first.nodes ≡ n → ((k : ℕ) → In k members → k < n) → Ran g first events last
      → AreEvents events ys → AllIn members ys → Grown first last
  grown_by n members first end all_events ys count low (none events last e same) are all = record {
    count = ap (λ (v : View (Node D)). length v.nodes) same;
    counts = λ k d. subst (λ (v : View (Node D)). failures_of g (get_or first.nodes k d) ≤ failures_of g (get_or v.nodes k d)) (sym same) (le_refl (failures_of g (get_or first.nodes k d)));
  }
  grown_by n members first end all_events ys count low (more before between e answer events last ran stepped ample whole) are all =
      let s = split before e ys (subst (λ (l : List Event). AreEvents l ys) whole are) in
      let b = grown_by n members first between before s.front count low ran s.are (λ y h. all y (subst (λ (l : List calm.Event). In y l) (sym s.whole) (in_first s.front (s.last ∷ []) y h))) in
      let among : In (node_of e) members = subst (λ (k : ℕ). In k members) (sym (same_node e s.last s.is))
      (all s.last (subst (λ (l : List calm.Event). In s.last l) (sym s.whole) (in_later s.front (s.last ∷ []) s.last (inl refl)))) in
      let less : node_of e < length between.nodes = subst (λ (m : ℕ). node_of e < m) (sym (b.count ∙ count)) (low (node_of e) among) in
      record {
        count = ap (λ (l : List (Node D)). length l) stepped.others ∙ (length-set between.nodes (node_of e) stepped.after ∙ b.count);
        counts = λ k d. let x = b.counts k d in let y = step_counts between last e answer stepped less k d in omega (arith, x, y);
      }

  ran_on : (n : ℕ) (members : List ℕ) (plan : Plan) (standings : List Standing) (first last : View (Node D)) (events : List Event) (ys : List calm.Event) → length first.nodes ≡ n
      → ((k : ℕ) → In k members → k < n) → Ran g first events last → AreEvents events ys → AllIn members ys → AreAtPlaces plan first.nodes → AreSeen g first.nodes standings → IsTrue g.is_honest → TellsUp g
      → HaveNotFailed g first last members → Moved plan standings first ys last
  ran_on n members plan standings first end all_events ys count low (none events last e same) are all at_places seen honest up sound = record {
    after = standings;
    seen = subst (λ (v : View (Node D)). AreSeen g v.nodes standings) (sym same) seen;
    takes = subst (λ (l : List calm.Event). TakesEvents plan (state_of standings first) l (state_of standings last)) (sym (no_events events ys e are)) (ap (state_of standings) same);
    at_places = subst (λ (v : View (Node D)). AreAtPlaces plan v.nodes) (sym same) at_places;
    count = ap (λ (v : View (Node D)). length v.nodes) same;
  }
  ran_on n members plan standings first end all_events ys count low (more before between e answer events last ran stepped ample whole) are all at_places seen honest up sound =
      let s = split before e ys (subst (λ (l : List Event). AreEvents l ys) whole are) in
      let front_in : AllIn members s.front = (λ y h. all y (subst (λ (l : List calm.Event). In y l) (sym s.whole) (in_first s.front (s.last ∷ []) y h))) in
      let b = grown_by n members first between before s.front count low ran s.are front_in in
      let among : In (node_of e) members = subst (λ (k : ℕ). In k members) (sym (same_node e s.last s.is))
      (all s.last (subst (λ (l : List calm.Event). In s.last l) (sym s.whole) (in_later s.front (s.last ∷ []) s.last (inl refl)))) in
      let less : node_of e < length between.nodes = subst (λ (m : ℕ). node_of e < m) (sym (b.count ∙ count)) (low (node_of e) among) in
      let still : HaveNotFailed g first between members =
      (λ k d h. let x = b.counts k d in let y = step_counts between last e answer stepped less k d in let z = sound k d h in let zz = z.0 in let zw = z.1 in (omega (arith, x, y, zz), omega (arith, y, zw))) in
      let m = ran_on n members plan standings first between before s.front count low ran s.are front_in at_places seen honest up still in
      let a = after_at between last e answer stepped stepped.before less in
      let here = sound (node_of e) stepped.before among in
      let there = still (node_of e) stepped.before among in
      let even : failures_of g stepped.after ≡ failures_of g stepped.before =
      ap (failures_of g) (sym a.0) ∙ (here.0 ∙ (sym there.0 ∙ ap (failures_of g) a.1)) in
      let bounded : failures_of g stepped.after < 2 ^ 64 - 1 = subst (λ (x : Node D). failures_of g x < 2 ^ 64 - 1) a.0 here.1 in
      let x = step_on plan m.after between last e answer s.last m.at_places less m.seen honest up stepped ample s.is even bounded in
      record {
        after = x.after;
        seen = x.seen;
        takes = subst (λ (l : List calm.Event). TakesEvents plan (state_of standings first) l (state_of x.after last)) (sym s.whole)
            (takes_one_more plan (state_of standings first) s.front (state_of m.after between) (state_of x.after last) s.last m.takes x.takes);
        at_places = subst (AreAtPlaces plan) (sym stepped.others)
            (λ j d within. same_place between.nodes (node_of e) j stepped.after d
            (ap place_at stepped.given.stays.member ∙ (ap (λ (node : Node D). place_at (member_in node)) (sym stepped.at) ∙ (m.at_places (node_of e) stepped.before less ∙ sym (m.at_places (node_of e) d less))))
            ∙ m.at_places j d (subst (λ (k : ℕ). j < k) (length-set between.nodes (node_of e) stepped.after) within));
        count = ap (λ (l : List (Node D)). length l) stepped.others ∙ (length-set between.nodes (node_of e) stepped.after ∙ m.count);
      }

  -- ---- the whole

  node_there : {A : Type 0} (nodes : List (Node D)) (k : ℕ) → k < length nodes → (Node D → A) → A
  node_there [] k within by = absurd (omega (arith, within))
  node_there (node ∷ nodes) k within by = by node

  -- a node that runs is seen as one standing alone
  abbrev SeenAsOne : Type 0
  SeenAsOne = (node : Node D) (a b : Standing) → IsTrue g.is_honest → IsSeen g node a → IsSeen g node b → a.up ≡ true → a ≡ b

  -- a node that is down has passed nothing
  up_above : (member : Membership) (up : Option (Up D)) (disk : Option D) (s : Standing) (slot : ℕ) → IsSeenBy g member up disk s → slot < front_of s → s.up ≡ true
  up_above member (Some up) disk s slot seen above = seen.running.up
  up_above member None (Some disk) s slot seen above = let none : front_of s ≡ 0 = ap (λ (k : Standing). front_of k) seen.stopped in absurd (omega (arith, none, above))
  up_above member None None s slot seen above = absurd seen

  pub moves_on : (old new : View (Node D)) (events : List Event) → NoDeadEnd → SeenAsOne → TellsUp g → ∥ AreAtPlaces old.config old.nodes ∥₁ → length old.nodes ≡ length old.config.sources
      → IsBehind g old.opened old.config old.nodes old.all → Ran g old events new → MovesOn g old events new
  moves_on old new events law one up at_places count behind ran before standings i members commands first rest goes honest unforged seen movable_now way are sound =
      ∥∥₁_elim at_places (hlevel) (λ each. ∥∥₁_map (behind before goes honest) (λ ruled.
      let plan : Plan = old.config in
      let n : ℕ = length old.config.sources in
      let state : State = state_of ruled.standings old in
      let low : (k : ℕ) → In k members → k < n = (λ k h. (above_all 0 n members k movable_now.quorum.rise h).1) in
      let same : (k : ℕ) → In k members → standings k ≡ standing_at plan state k =
      (λ k h. let within : k < length old.nodes = subst (λ (m : ℕ). k < m) (sym count) (low k h) in
      node_there old.nodes k within (λ d.
      one (get_or old.nodes k d) (standings k) (standing_at plan state k) honest (seen k d h)
      (seen_at g old.nodes ruled.standings k d (stopped (place_of plan k) empty_store empty_store) within ruled.seen) (movable_now.up k h))) in
      let movable_then = movable_same (place_of plan i) standings (standing_at plan state) i members commands same movable_now in
      let way_then = way_same standings (standing_at plan state) i members commands (first ++ rest) movable_now.member same way in
      let inside : AllIn members first =
      (λ y h. way_in (standing_at plan state) i members commands (first ++ rest) movable_now.member way_then y (in_first first rest y h)) in
      let m = ran_on n members plan ruled.standings old new events first count low ran are inside each ruled.seen honest up sound in
      let moved = (law plan.setting n before plan.sources state (state_of m.after new) i members commands ruled.runs unforged movable_then).1 first rest way_then m.takes in
      let within : i < length new.nodes = subst (λ (k : ℕ). i < k) (sym (m.count ∙ count)) (low i movable_now.member) in
      let front_is : front_of (standing_at plan state i) ≡ front_of (standings i) = ap (λ (x : Standing). front_of x) (sym (same i movable_now.member)) in
      let s : Standing = standing_at plan (state_of m.after new) i in (
        moved.0,
        λ all d.
            let is = seen_at g new.nodes m.after i d (stopped (place_of plan i) empty_store empty_store) within m.seen in
            let passed = moved.2 all in
            let further = subst (λ (f : ℕ). (f + length commands ≤ front_of s) × AreKnown s.learned.log f commands) front_is passed in
            let some = some_command (place_of plan i) standings i members commands movable_now.value in
            let up_to = further.0 in
            let above : front_of (standings i) < front_of s = omega (arith, some, up_to) in
            (s, is, up_above (member_in (get_or new.nodes i d)) (get_or new.nodes i d).up (get_or new.nodes i d).disk s (front_of (standings i)) is.by above, further.0, further.1),
      )))

  -- a cluster at rest moves
  pub moves_at_rest : CalmIsMovable → ClustersAtRestMove g
  moves_at_rest is_movable old new events moves before standings i members commands first rest goes honest unforged seen calm_now whole are sound =
      let m = is_movable (place_of old.config i) standings i members commands calm_now in
      moves before standings i members commands first rest goes honest unforged seen m.0 (subst (IsWay standings i members commands) whole m.1) are sound
