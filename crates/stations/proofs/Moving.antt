-- The ways of the processes of a match are those of a run of the rules.
use Rattle.std.proofs.Common.{◌≡◌, ◌≢◌, ℕ, ◌+◌, ◌<◌, ◌≤◌, ◌⊎◌, inl, inr, true, false, ◌==◌, List, [], ◌∷◌, ◌++◌, length, set, IsTrue, refl, ap, sym, ◌∙◌, subst}
use Rattle.std.proofs.lemmas.Bool.Decides.{eqb_tells}
use Rattle.promise_store.specs.declared.disk.Disk.{Ghosts}
use Rattle.protocol_model.specs.Sets.{In, put}
use Rattle.protocol_model.specs.Stores.{empty_store}
use Rattle.protocol_model.proofs.Sets.{in_first, in_later, put_same, put_other}
use Rattle.dealer_kind.specs.Kind.{Setting}
use Rattle.dealer_kind.specs.Plans.{Plan}
use Rattle.dealer_kind.specs.declared.source.Source.{Source}
use Rattle.node_rules.specs.Standings.{Standing, place_of, stopped, front_of}
use Rattle.node_rules.specs.Rules.{IsTurn}
use Rattle.node_rules.specs.Calm.{Event}
use Rattle.node_rules.specs.CalmRound.{node_of, call_of, AreKnown, HasMovedOn}
use Rattle.node_rules.specs.Ways.{IsWay, HasShortWay}
use Rattle.node_rules.proofs.Members.{above_all}
use Rattle.node_rules.proofs.WayMembers.{AllIn, way_in, movable_same, way_same}
use Rattle.dealer_node.specs.Nodes.{Node}
use Rattle.dealer_node.specs.Members.{place_at}
use Rattle.dealer_node.specs.Seeing.{member_in, runs, front_in, IsSeen}
use Rattle.dealer_world.specs.declared.event.Event.{Event as Given}
use Rattle.dealer_world.specs.Events.{node_of as given_to}
use Rattle.dealer_world.specs.Stepping.{IsGiven}
use Rattle.dealer_world.specs.CalmCluster.{AreEvents}
use Rattle.dealer_world.specs.TakenEvents.{SoundEventsAreTaken}
use Rattle.dealer_world.proofs.CalmCluster.{same_node}
use Rattle.dealer_world.specs.Unforged.{IsUnforged}
use Rattle.dealer_world.specs.RuleRuns.{State, plan_of}
use Rattle.dealer_world.specs.CalmRun.{standing_at, TakesEvents, IsNextTaken, NoDeadEnd}
use Rattle.stations.specs.Deeds.{Deed, Doing, deeds_of, record_of}
use Rattle.stations.specs.Joining.{IsTrueOrder}
use Rattle.stations.specs.Stations.{deed_by, Look}
use Rattle.stations.specs.Moving.{DoEvents, IsNextDone, ProcessesHaveNoDeadEnd, LooksDo, AreSeenAs, StationsHaveNoDeadEnd}
use Rattle.stations.proofs.Joining.{from, length_from, at_place, set_place, run_of}

abbrev state : List Source → (ℕ → Standing) → List Doing → State
state sources s all = record { standings = from s 0 (length sources); now = record_of all }

-- what is done by events is taken
takes : (setting : Setting) (sources : List Source) (s : ℕ → Standing) (all : List Doing) (events : List Event) (t : ℕ → Standing) (later : List Doing) → ((y : Event) → In y events → node_of y < length sources)
    → DoEvents (plan_of setting sources) s all events t later → TakesEvents (plan_of setting sources) (state sources s all) events (state sources t later)
takes setting sources s all [] t later inside (same, none) = λ j. record { standings = from (same j) 0 (length sources); now = record_of (none j) }
takes setting sources s all (event ∷ events) t later inside (deed, after, does, more) =
    let n = length sources in
    let j = node_of event in
    let less : j < n = inside event (inl refl) in
    let doing : Doing = record { node = node_of event; deed = deed } in (
      state sources (put s (node_of event) after) (doing ∷ all),
      record {
        steps = record {
          node = node_of event;
          is_node = subst (λ (k : ℕ). j < k) (sym (length_from s 0 n)) less;
          before = s (node_of event);
          at = at_place s n j (s j) less;
          called = call_of event;
          arrived = deed.arrived;
          made = deed.made;
          after = after;
          ruled = does.ruled;
          standings = set_place s (put s j after) n j less (λ i differs. put_other s j after i differs) ∙ ap (λ (x : Standing). set (from s 0 n) j x) (put_same s j after);
          grows = refl;
        };
        node = refl;
        called = refl;
        untroubled = does.untroubled;
      },
      takes setting sources (put s (node_of event) after) (doing ∷ all) events t later (λ y h. inside y (inr h)) more,
    )

-- by nodes of the match
nodes_of : (setting : Setting) (sources : List Source) (s : ℕ → Standing) (all : List Doing) (events : List Event) (t : ℕ → Standing) (later : List Doing) → ((y : Event) → In y events → node_of y < length sources)
    → ((doing : Doing) → In doing all → doing.node < length sources) → DoEvents (plan_of setting sources) s all events t later → (doing : Doing) → In doing later → doing.node < length sources
nodes_of setting sources s all [] t later inside nodes (same, none) doing h = nodes doing (subst (In doing) none h)
nodes_of setting sources s all (event ∷ events) t later inside nodes (deed, after, does, more) doing h =
    nodes_of setting sources (put s (node_of event) after) (record { node = node_of event; deed = deed } ∷ all) events t later (λ y k. inside y (inr k))
    (λ other k. elim k [ inl e ↦ subst (λ (d : Doing). d.node < length sources) (sym e) (inside event (inl refl)) | inr old ↦ nodes other old ]) more doing h

-- the next one, at the node's own standing
next_done : (setting : Setting) (sources : List Source) (t : ℕ → Standing) (later : List Doing) (rest : List Event) → ((y : Event) → In y rest → node_of y < length sources)
    → IsNextTaken (plan_of setting sources) (state sources t later) rest → IsNextDone (plan_of setting sources) t rest
next_done setting sources t later [] inside next = tt
next_done setting sources t later (event ∷ rest) inside next = λ outcome is.
    next outcome (subst (λ (x : Standing). IsTurn (place_of (plan_of setting sources) (node_of event)) x (call_of event) outcome)
    (sym (at_place t (length sources) (node_of event) (stopped (place_of (plan_of setting sources) (node_of event)) empty_store empty_store) (inside event (inl refl)))) is)

pub processes_have_no_dead_end : NoDeadEnd → ProcessesHaveNoDeadEnd
processes_have_no_dead_end law setting sources histories all s i members commands processes did movable = (
  (let short = (ways s all).0 in (short.0, way_same (standing_at (plan_of setting sources) (state sources s all)) s i members commands short.0 movable.member (λ k h. sym (same k h)) short.1, short.2)),
  λ first rest t later way does. by_way first rest t later way does,
)
  where
    low : (k : ℕ) → In k members → k < length sources
    low k h = (above_all 0 (length sources) members k movable.quorum.rise h).1

    same : (k : ℕ) → In k members → s k ≡ standing_at (plan_of setting sources) (state sources s all) k
    same k h = sym (at_place s (length sources) k (stopped (place_of (plan_of setting sources) k) empty_store empty_store) (low k h))

    ways : (t : ℕ → Standing) (later : List Doing) → HasShortWay (standing_at (plan_of setting sources) (state sources s all)) i members commands
        × ((first rest : List Event) → IsWay (standing_at (plan_of setting sources) (state sources s all)) i members commands (first ++ rest)
        → TakesEvents (plan_of setting sources) (state sources s all) first (state sources t later)
        → IsUnforged (record_of later).sent (record_of later).delivered
        × IsNextTaken (plan_of setting sources) (state sources t later) rest
        × (rest ≡ [] → HasMovedOn i (front_of (standing_at (plan_of setting sources) (state sources s all) i)) commands (standing_at (plan_of setting sources) (state sources t later))))
    ways t later = law setting (length sources) [] sources (state sources s all) (state sources t later) i members commands (run_of setting sources histories all processes s did) processes.order.unforged
        (movable_same (place_of (plan_of setting sources) i) s (standing_at (plan_of setting sources) (state sources s all)) i members commands same movable)

    by_way : (first rest : List Event) (t : ℕ → Standing) (later : List Doing) → IsWay s i members commands (first ++ rest) → DoEvents (plan_of setting sources) s all first t later
        → IsTrueOrder (length sources) (deeds_of later) later
        × IsNextDone (plan_of setting sources) t rest
        × (rest ≡ [] → HasMovedOn i (front_of (s i)) commands t)
    by_way first rest t later way does =
        let inside : (y : Event) → In y (first ++ rest) → node_of y < length sources = (λ y h. low (node_of y) (way_in s i members commands (first ++ rest) movable.member way y h)) in
        let front_inside : (y : Event) → In y first → node_of y < length sources = (λ y h. inside y (in_first first rest y h)) in
        let moved = (ways t later).1 first rest (way_same s (standing_at (plan_of setting sources) (state sources s all)) i members commands (first ++ rest) movable.member same way)
        (takes setting sources s all first t later front_inside does) in
        let here : standing_at (plan_of setting sources) (state sources t later) i ≡ t i =
        at_place t (length sources) i (stopped (place_of (plan_of setting sources) i) empty_store empty_store) (low i movable.member) in (
          record {
            order = record { nodes = nodes_of setting sources s all first t later front_inside processes.order.order.nodes does; each = λ k less. refl };
            unforged = moved.0;
          },
          next_done setting sources t later rest (λ y h. inside y (in_later first rest y h)) moved.1,
          λ none.
              subst (λ (x : Standing). (front_of (s i) + length commands ≤ front_of x) × AreKnown x.learned.log (front_of (s i)) commands) here
              (subst (λ (f : ℕ). (f + length commands ≤ front_of (standing_at (plan_of setting sources) (state sources t later) i))
              × AreKnown (standing_at (plan_of setting sources) (state sources t later) i).learned.log f commands) (ap (λ (x : Standing). front_of x) (sym (same i movable.member))) (moved.2 none)),
        )

-- ---- stations as they are seen

module _ {D : Type 0} (g : Ghosts D) where
  -- what stations did by events of a way, by the rules
  record Done (plan : Plan) (s : ℕ → Standing) (all : List Doing) (ys : List Event) (later : List Doing) (new : ℕ → Look (Node D)) (members : List ℕ) : Type 0 where
    after : ℕ → Standing
    does : DoEvents plan s all ys after later
    seen : AreSeenAs g plan new after members

  -- one more, by the member that it was given to
  seen_more : (plan : Plan) (looks : ℕ → Look (Node D)) (s : ℕ → Standing) (members : List ℕ) (j : ℕ) (next : Look (Node D)) (after : Standing) → AreSeenAs g plan looks s members
      → IsSeen g next.node after → place_at (member_in next.node) ≡ place_of plan j → AreSeenAs g plan (put looks j next) (put s j after) members
  seen_more plan looks s members j next after seen now placed k h = by_node (eqb_tells k j)
    where
      by_node : ((k == j) ≡ true) × (k ≡ j) ⊎ ((k == j) ≡ false) × (k ≢ j) → IsSeen g (put looks j next k).node (put s j after k) × (place_at (member_in (put looks j next k).node) ≡ place_of plan k)
      by_node (inl same) =
          subst (λ (m : ℕ). IsSeen g (put looks j next m).node (put s j after m) × (place_at (member_in (put looks j next m).node) ≡ place_of plan m)) (sym same.1)
          (subst (λ (look : Look (Node D)). IsSeen g look.node (put s j after j) × (place_at (member_in look.node) ≡ place_of plan j)) (sym (put_same looks j next))
          (subst (IsSeen g next.node) (sym (put_same s j after)) now, placed))
      by_node (inr other) =
          subst (λ (look : Look (Node D)). IsSeen g look.node (put s j after k) × (place_at (member_in look.node) ≡ place_of plan k)) (sym (put_other looks j next k other.1))
          (subst (λ (x : Standing). IsSeen g (looks k).node x × (place_at (member_in (looks k).node) ≡ place_of plan k)) (sym (put_other s j after k other.1)) (seen k h))

  done_by : SoundEventsAreTaken g → (plan : Plan) (members : List ℕ) (events : List Given) (ys : List Event) (s : ℕ → Standing) (all : List Doing) (looks new : ℕ → Look (Node D)) (later : List Doing)
      → IsTrue g.is_honest → AreEvents events ys → AllIn members ys → AreSeenAs g plan looks s members → LooksDo g looks all events new later → Done plan s all ys later new members
  done_by law plan members [] [] s all looks new later honest are inside seen (same, none) = record {
    after = s;
    does = (refl, none);
    seen = subst (λ (l : ℕ → Look (Node D)). AreSeenAs g plan l s members) (sym same) seen;
  }
  done_by law plan members [] (y ∷ ys) s all looks new later honest are inside seen did = absurd are
  done_by law plan members (e ∷ events) [] s all looks new later honest are inside seen did = absurd are
  done_by law plan members (e ∷ events) (y ∷ ys) s all looks new later honest (is, are) inside seen (told, answer, next, acts, ample, sound, more) =
      let j : ℕ = node_of y in
      let here : given_to e ≡ node_of y = same_node e y is in
      let given : IsGiven g e (looks j).node next.node told answer = subst (λ (k : ℕ). IsGiven g e (looks k).node next.node told answer) here acts.given in
      let at = seen j (inside y (inl refl)) in
      let taken = law (place_of plan j) e y (s j) (looks j).node next.node told answer at.1 here is honest at.0 given ample sound in
      let deed : Deed = deed_by (runs (looks j).node) (front_in (looks j).node) e told answer in
      let placed : place_at (member_in next.node) ≡ place_of plan j = ap place_at given.stays.member ∙ at.1 in
      let rest : LooksDo g (put looks j next) (record { node = j; deed = deed } ∷ all) events new later =
      subst (λ (k : ℕ). LooksDo g (put looks k next) (record { node = k; deed = deed_by (runs (looks k).node) (front_in (looks k).node) e told answer } ∷ all) events new later) here more in
      let later_on = done_by law plan members events ys (put s j taken.after) (record { node = j; deed = deed } ∷ all) (put looks j next) new later honest are (λ z h. inside z (inr h))
      (seen_more plan looks s members j next taken.after seen taken.now placed) rest in
      record {
        after = later_on.after;
        does = (deed, taken.after, record { ruled = taken.ruled; untroubled = taken.untroubled }, later_on.does);
        seen = later_on.seen;
      }

  pub stations_have_no_dead_end : NoDeadEnd → SoundEventsAreTaken g → StationsHaveNoDeadEnd g
  stations_have_no_dead_end law taken setting sources histories all s looks new i members commands first rest events later honest processes did seen movable way are looks_do =
      let inside : AllIn members first = (λ y h. way_in s i members commands (first ++ rest) movable.member way y (in_first first rest y h)) in
      let d = done_by taken (plan_of setting sources) members events first s all looks new later honest are inside seen looks_do in
      let moved = (processes_have_no_dead_end law setting sources histories all s i members commands processes did movable).1 first rest d.after later way d.does in (
        moved.0,
        λ none. let passed = moved.2 none in (d.after i, (d.seen i movable.member).0, passed.0, passed.1),
      )
