-- What the record of a cluster is once all nodes were started.
use Rattle.std.proofs.Common.{◌≡◌, ◌≢◌, ℕ, zero, suc, ◌+◌, ◌<◌, ◌≤◌, ◌⊎◌, inl, inr, Bool, true, false, if◌then◌else◌, ne_eqb, eq-eqb, List, [], ◌∷◌, ◌++◌, map, length, get_or, Result, Ok, Err, IsTrue, refl, ap, sym, ◌∙◌, subst, arith, length-set}
use Rattle.std.specs.Prelude.{is_ok}
use Rattle.std.proofs.lemmas.Bool.{cases_eq}
use Rattle.std.proofs.lemmas.List.{get_or-set_same, get_or-set_other, get_or-map, length-map}
use Rattle.promise_store.specs.declared.disk.Disk.{Ghosts}
use Rattle.protocol_model.specs.Stores.{Store, empty_store}
use Rattle.dealer_kind.specs.Plans.{Plan}
use Rattle.node_rules.specs.Standings.{Place, Standing, place_of, stopped, started}
use Rattle.node_rules.specs.Sending.{Frame as Outgoing}
use Rattle.node_rules.specs.Showing.{Piece as Shown, SeatFault, header}
use Rattle.node_rules.specs.Turns.{Turn, Refusal}
use Rattle.node_rules.specs.Calls.{Start}
use Rattle.node_rules.specs.Called.{Ends, took, refused, failed, unchanged}
use Rattle.node_rules.specs.Rules.{asking_all, starting}
use Rattle.dealer_node.specs.Nodes.{Node}
use Rattle.dealer_node.specs.declared.fault.NodeFault.{NodeFault}
use Rattle.dealer_node.specs.Outs.{Told, nothing_told, both_told}
use Rattle.dealer_node.specs.Members.{place_at}
use Rattle.dealer_node.specs.Turned.{framed, printed, fault_of}
use Rattle.dealer_node.specs.Seeing.{member_in, runs, front_in, IsSeen, begun_of}
use Rattle.promise_store.specs.Journals.{header as store_header}
use Rattle.promise_store.specs.Holding.{StandsFor}
use Rattle.dealer_node.specs.Taking.{Answered}
use Rattle.dealer_world.specs.declared.event.Event.TheVariants as event
use Rattle.dealer_world.specs.Records.{Record, start_count, last_start, no_record}
use Rattle.dealer_world.specs.declared.event.Event.{Event}
use Rattle.dealer_world.specs.Events.{node_of}
use Rattle.dealer_world.specs.Views.{grown, piece_of}
use Rattle.dealer_world.specs.Recordings.{made_by, frame_by, text_by}
use Rattle.dealer_world.specs.Stepping.{View, Gains, nothing, call, arrived_by_event, begins_by_event}
use Rattle.dealer_world.specs.Beginning.{IsCreatedAt, IsReopenedAt, HaveStores, AreEach, first_starts, first_headers, first_asks, first_record, AreStarted, Starts, none, more, StartsAll}
use Rattle.dealer_world.proofs.Pieces.{count_more}

-- ---- a start by the rules

abbrev turn_in : Turn → Result Turn Refusal → Turn
turn_in d (Ok turn) = turn
turn_in d (Err why) = d

-- what a start that was taken leaves, sends and shows
record IsStart (place : Place) (store : Store) (after : Standing) (frames : List Outgoing) (shown : List Shown) : Type 0 where
  standing : after ≡ started place store
  asks : frames ≡ asking_all place store
  shows : shown ≡ header place.setting ∷ []

by_turn : (place : Place) (store found : Store) (turn : Turn) (after : Standing) (frames : List Outgoing) (shown : List Shown) → found ≡ store → turn ≡ starting place found
    → after ≡ turn.after → frames ≡ turn.frames → shown ≡ turn.shown → IsStart place store after frames shown
by_turn place store found turn after frames shown same is a b c =
    let all : turn ≡ starting place store = is ∙ ap (starting place) same in record {
      standing = a ∙ ap (λ (t : Turn). t.after) all;
      asks = b ∙ ap (λ (t : Turn). t.frames) all;
      shows = c ∙ ap (λ (t : Turn). t.shown) all;
    }

either_same : (store found : Store) → (found ≡ store) ⊎ (found ≡ store) → found ≡ store
either_same store found (inl is) = is
either_same store found (inr is) = is

not_err : (why : NodeFault) (answer : Result (Unit {0}) NodeFault) → answer ≡ Ok tt → answer ≡ Err why → ⊥
not_err why answer ok err = let e : true ≡ false = ap is_ok (sym ok ∙ err) in cc

start_turn : (place : Place) (store found : Store) (after : Standing) (frames : List Outgoing) (shown : List Shown) (faults : List SeatFault)
    → (ends : Ends place (stopped place store store) (Start found) after frames shown) → Answered place (stopped place store store) (Start found) after frames shown ends faults (Ok tt)
    → IsStart place store after frames shown
start_turn place store found after frames shown faults (took turn (found_is, turn_is) a b c) answered =
    by_turn place store found turn after frames shown (either_same store found found_is) (ap (turn_in turn) turn_is) a b c
start_turn place store found after frames shown faults (refused refusal rule a b c) (told, err) = absurd (not_err _ (Ok tt) refl err)
start_turn place store found after frames shown faults (failed outcome begun up rule d a b c) (told, err) = absurd (not_err _ (Ok tt) refl err)
start_turn place store found after frames shown faults (unchanged a b c) (told, inl err) = absurd (not_err _ (Ok tt) refl err)
start_turn place store found after frames shown faults (unchanged a b c) (told, inr (start, err)) = absurd (not_err _ (Ok tt) refl err)

-- ---- the record

none_yet : (k j : ℕ) → k ≤ j → start_count (first_starts k) j ≡ 0
none_yet zero j less = refl
none_yet (suc k) j less =
    let first : start_count (first_starts k) j ≡ 0 = none_yet k j (omega (arith, less)) in
    let ne : k ≢ j = λ e. omega (arith, e, less) in
    let last : start_count ((record { node = k; start = 0 }) ∷ []) j ≡ 0 = ap (λ b. if b then 1 + 0 else 0) (ne_eqb k j ne) in
    let all = count_more (first_starts k) ((record { node = k; start = 0 }) ∷ []) j in omega (arith, first, last, all)

-- the record, a start longer
start_more : (plan : Plan) (stores : ℕ → Store) (k : ℕ) (told : Told) (frames : List Outgoing) (shown : List Shown) (faults : List SeatFault)
    → told ≡ both_told nothing_told (record { frames = map framed frames; shown = map printed shown; faults = map fault_of faults })
    → frames ≡ asking_all (place_of plan k) (stores k) → shown ≡ header plan.setting ∷ []
    → grown (first_record plan stores k) k [] (made_by k told true) ≡ first_record plan stores (suc k)
start_more plan stores k told frames shown faults made asks shows =
    let asked = asking_all (place_of plan k) (stores k) in
    let shape : Told → ℕ → ℕ → Record = λ t n m. record {
      sent = first_asks plan stores k ++ map (frame_by k) t.frames;
      delivered = [];
      starts = first_starts k ++ (record { node = k; start = n }) ∷ [];
      shown = first_headers plan.setting k ++ map (piece_of k m) (map text_by t.shown);
    } in
    let n = start_count (first_starts k) k in
    let m = last_start (first_starts k ++ (record { node = k; start = n }) ∷ []) k in
    let zero_n : n ≡ 0 = none_yet k k (omega arith) in
    let one : start_count ((record { node = k; start = n }) ∷ []) k ≡ 1 = ap (λ b. if b then 1 + 0 else 0) (eq-eqb k k refl) in
    let sum = count_more (first_starts k) ((record { node = k; start = n }) ∷ []) k in
    let zero_m : m ≡ 0 = omega (arith, zero_n, one, sum) in
    let first : Told = record { frames = map framed frames; shown = map printed shown; faults = map fault_of faults } in
    let second : Told = record { frames = map framed asked; shown = map printed shown; faults = map fault_of faults } in
    let third : Told = record { frames = map framed asked; shown = map printed (header plan.setting ∷ []); faults = map fault_of faults } in
    let made_first : told ≡ first = made in
    let first_second : first ≡ second = ap (λ fs. record { frames = map framed fs; shown = map printed shown; faults = map fault_of faults }) asks in
    let second_third : second ≡ third = ap (λ ps. record { frames = map framed asked; shown = map printed ps; faults = map fault_of faults }) shows in
    ap (λ (t : Told). shape t n m) (made_first ∙ (first_second ∙ second_third)) ∙ (ap (λ x. shape third x m) zero_n ∙ ap (λ y. shape third 0 y) zero_m)

-- ---- one start after another

gained : {N : Type 0} (e : Event) (up : Bool) (front : ℕ) (told : Told) (old new : View N) (answer : Result (Unit {0}) NodeFault) → answer ≡ Ok tt → Gains e up front told old new answer
    → new.all ≡ grown old.all (node_of e) (arrived_by_event up front e) (made_by (node_of e) told (begins_by_event up e answer))
gained e up front told old new answer ok (nothing a absent all last) = absurd (not_err _ answer ok absent)
gained e up front told old new answer ok (call a ample all last) = all

module _ {D : Type 0} (g : Ghosts D) where
  -- node i of a plan, down, with this store
  pub record IsWaiting (plan : Plan) (stores : ℕ → Store) (i : ℕ) (node : Node D) : Type 0 where
    pub placed : place_at (member_in node) ≡ place_of plan i
    pub down : runs node ≡ false
    pub seen : IsSeen g node (stopped (place_of plan i) (stores i) (stores i))

  -- so many of the first nodes were started
  record AreUpTo (stores : ℕ → Store) (first : View (Node D)) (k : ℕ) (view : View (Node D)) : Type 0 where
    same_config : view.config ≡ first.config
    size : length view.nodes ≡ length first.nodes
    all : view.all ≡ first_record first.config stores k
    done : (i : ℕ) (d : Node D) → i < k → IsSeen g (get_or view.nodes i d) (started (place_of first.config i) (stores i))
    waiting : (i : ℕ) (d : Node D) → k ≤ i → get_or view.nodes i d ≡ get_or first.nodes i d

  up_to : (stores : ℕ → Store) (first : View (Node D)) → IsTrue g.is_honest → first.all ≡ no_record → AreEach (IsWaiting first.config stores) first.nodes
      → (k : ℕ) (view : View (Node D)) → Starts g first k view → AreUpTo stores first k view
  up_to stores first honest empty each k view (none count last zero_is is) = record {
    same_config = ap (λ (v : View (Node D)). v.config) is;
    size = ap (λ (v : View (Node D)). length v.nodes) is;
    all = ap (λ (v : View (Node D)). v.all) is ∙ (empty ∙ sym (ap (first_record first.config stores) zero_is));
    done = λ i d less. absurd (omega (arith, less, zero_is));
    waiting = λ i d most. ap (λ (v : View (Node D)). get_or v.nodes i d) is;
  }
  up_to stores first honest empty each k view (more j count between last starts stepped is) =
      let before = up_to stores first honest empty each j between starts in
      let plan = first.config in
      let node = stepped.before in
      let place = place_of plan j in
      let s : Standing = stopped place (stores j) (stores j) in
      let less : j < length first.nodes = subst (λ n. j < n) before.size stepped.within in
      let same : get_or first.nodes j node ≡ node = sym (before.waiting j node (omega arith)) ∙ stepped.at in
      let waits : IsWaiting plan stores j node = subst (IsWaiting plan stores j) same (each j node less) in
      let t = stepped.given.taken s honest waits.seen in
      let takes = t.1 in
      let moved = subst (λ (p : Place). (ends : Ends p s (Start t.0) takes.after takes.frames takes.shown) × Answered p s (Start t.0) takes.after takes.frames takes.shown ends takes.faults (Ok tt))
      waits.placed (takes.ends, takes.answered) in
      let start = start_turn place (stores j) t.0 takes.after takes.frames takes.shown takes.faults moved.0 moved.1 in
      let e = event.Start j in
      let grows : last.all ≡ first_record plan stores (suc j) =
      gained e (runs node) (front_in node) stepped.told between last (Ok tt) refl stepped.gains
      ∙ (ap (λ u. grown between.all j (arrived_by_event u (front_in node) e) (made_by j stepped.told (begins_by_event u e (Ok tt)))) waits.down
      ∙ (ap (λ (all : Record). grown all j [] (made_by j stepped.told true)) before.all
      ∙ start_more plan stores j stepped.told takes.frames takes.shown takes.faults takes.told start.asks start.shows)) in
      let here : (d : Node D) → get_or last.nodes j d ≡ stepped.after = λ d.
      ap (λ (ns : List (Node D)). get_or ns j d) stepped.others ∙ get_or-set_same between.nodes j stepped.after d stepped.within in
      let other : (i : ℕ) (d : Node D) → i ≢ j → get_or last.nodes i d ≡ get_or between.nodes i d = λ i d ne.
      ap (λ (ns : List (Node D)). get_or ns i d) stepped.others ∙ get_or-set_other between.nodes j i stepped.after d ne in
      let now_seen : IsSeen g stepped.after (started place (stores j)) = subst (λ (x : Standing). IsSeen g stepped.after x) start.standing takes.now in
      record {
        same_config = stepped.same_config ∙ before.same_config;
        size = ap length stepped.others ∙ (length-set between.nodes j stepped.after ∙ before.size);
        all = grows ∙ sym (ap (first_record plan stores) is);
        done = λ i d under. elim (cases_eq i j) [
          | inl same_i ↦ subst (λ x. IsSeen g (get_or last.nodes x d) (started (place_of plan x) (stores x))) (sym same_i)
              (subst (λ (n : Node D). IsSeen g n (started place (stores j))) (sym (here d)) now_seen)
          | inr ne ↦ subst (λ (n : Node D). IsSeen g n (started (place_of plan i) (stores i))) (sym (other i d ne)) (before.done i d (omega (arith, under, is, ne)))
        ];
        waiting = λ i d most. let ne : i ≢ j = λ same_i. omega (arith, same_i, most, is) in other i d ne ∙ before.waiting i d (omega (arith, most, is));
      }

  -- all of them
  pub all_started : (stores : ℕ → Store) (first last : View (Node D)) → IsTrue g.is_honest → first.all ≡ no_record → length first.nodes ≡ length first.config.sources
      → AreEach (IsWaiting first.config stores) first.nodes → StartsAll g first last → AreStarted g stores last
  all_started stores first last honest empty count each starts =
      let upto = up_to stores first honest empty each (length first.config.sources) starts.between starts.starts in
      let same : last.config ≡ first.config = ap (λ (v : View (Node D)). v.config) starts.forgets ∙ upto.same_config in
      let nodes_are : last.nodes ≡ starts.between.nodes = ap (λ (v : View (Node D)). v.nodes) starts.forgets in
      record {
        all = ap (λ (v : View (Node D)). v.all) starts.forgets ∙ (upto.all ∙ ap (λ (plan : Plan). first_record plan stores (length plan.sources)) (sym same));
        seen = λ i d less.
            let under : i < length first.config.sources = subst (λ n. i < n) (ap length nodes_are ∙ (upto.size ∙ count)) less in
            subst (λ (plan : Plan). IsSeen g (get_or last.nodes i d) (started (place_of plan i) (stores i))) (sym same)
            (subst (λ (ns : List (Node D)). IsSeen g (get_or ns i d) (started (place_of first.config i) (stores i))) (sym nodes_are) (upto.done i d under));
      }

  -- the nodes of a new match wait, with empty stores
  pub created_wait : (config : Plan) (nodes : List (Node D)) (first : View (Node D)) → first.config ≡ config → first.nodes ≡ nodes → AreEach (IsCreatedAt g config) nodes
      → AreEach (IsWaiting first.config (λ i. empty_store)) first.nodes
  created_wait config nodes first config_is nodes_are each =
      subst (λ (plan : Plan). AreEach (IsWaiting plan (λ i. empty_store)) first.nodes) (sym config_is)
      (subst (λ (ns : List (Node D)). AreEach (IsWaiting config (λ i. empty_store)) ns) (sym nodes_are)
      (λ i d less. let e = each i d less in record { placed = e.placed; down = e.down; seen = e.seen }))

  -- those over disks that hold these stores wait with them
  pub reopened_wait : (config : Plan) (nodes : List (Node D)) (first : View (Node D)) (files : List (List ℕ)) (stores : ℕ → Store) → first.config ≡ config → first.nodes ≡ nodes
      → AreEach (IsReopenedAt g config) nodes → map (begun_of g) nodes ≡ files → HaveStores (length config.sources) files stores → AreEach (IsWaiting first.config stores) first.nodes
  reopened_wait config nodes first files stores config_is nodes_are each held have =
      subst (λ (plan : Plan). AreEach (IsWaiting plan stores) first.nodes) (sym config_is)
      (subst (λ (ns : List (Node D)). AreEach (IsWaiting config stores) ns) (sym nodes_are)
      (λ i d less.
      let e = each i d less in
      let here : get_or files i [] ≡ begun_of g (get_or nodes i d) = ap (λ fs. get_or fs i []) (sym held) ∙ get_or-map (begun_of g) nodes i d [] less in
      let within : i < length files = subst (λ n. i < n) (sym (length-map nodes (begun_of g)) ∙ ap length held) less in
      record {
        placed = e.placed;
        down = e.down;
        seen = e.seen (stores i) (stores i) (inl (subst (λ file. StandsFor (store_header i (length config.sources)) file (stores i)) here (have i within)));
      }))
