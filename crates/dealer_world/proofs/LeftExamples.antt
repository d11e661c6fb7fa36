-- Files from which a cluster may be opened, after a stop inside an append or as new stores; and files from which none may, since a promise is lost or a
-- store isn't new.
use Rattle.std.proofs.Common.{◌≡◌, ◌≢◌, ◌⊎◌, ℕ, zero, suc, ◌<◌, inl, inr, true, List, [], ◌∷◌, ◌++◌, length, get_or, set, length-set, length-append, Err, Result, refl, ap, sym, ◌∙◌, subst, arith}
use Rattle.std.proofs.Math.Logic.{∥∥₁_elim}
use Rattle.std.proofs.lemmas.List.{get_or-set_same, get_or-set_other}
use Rattle.std.proofs.lemmas.Bool.{cases_eq}
use Rattle.std.proofs.lemmas.List.Elements.{All-nil, All-from_recursion}
use Rattle.match_log.proofs.Examples.{two_names}
use Rattle.promise_store.specs.declared.records.Record.{Record as Stored}
use Rattle.promise_store.specs.declared.records.Record.TheVariants.{Promised}
use Rattle.promise_store.specs.declared.disk.Disk.{Ghosts}
use Rattle.promise_store.specs.declared.fault.StoreFault.TheVariants.{NoStore, BadHeader, Closed}
use Rattle.promise_store.specs.declared.stage.Stage.TheVariants.{Old, New}
use Rattle.promise_store.specs.Stages.{head_of}
use Rattle.promise_store.specs.Journals.{header, gated, IsJournal}
use Rattle.promise_store.specs.Refusals.{Refuses}
use Rattle.promise_store.specs.Holding.{holding, store_of, StandsFor}
use Rattle.promise_store.proofs.Stages.{head_long}
use Rattle.promise_store.proofs.Journals.{one_journal}
use Rattle.protocol_model.specs.Sets.{In}
use Rattle.protocol_model.specs.Messages.{Message, Prepare}
use Rattle.protocol_model.specs.Ballots.{AtMost}
use Rattle.protocol_model.specs.Stores.{Store, empty_store}
use Rattle.protocol_model.specs.Backing.{Backs}
use Rattle.protocol_model.specs.Dealers.{Log}
use Rattle.dealer_kind.specs.Kind.{Setting}
use Rattle.dealer_kind.specs.Plans.{Plan, IsPlan}
use Rattle.dealer_kind.specs.Sources.{HasDeals}
use Rattle.dealer_kind.specs.declared.source.Source.{Source}
use Rattle.dealer_kind.specs.declared.source.Source.TheVariants.{Seed}
use Rattle.node_rules.specs.Standings.{Standing, place_of, stopped, started, front_of}
use Rattle.node_rules.specs.Calls.{Call, Start, Tick}
use Rattle.node_rules.specs.Turns.{Turn, Refusal, and_then}
use Rattle.node_rules.specs.Proposing.{ticking, closing}
use Rattle.node_rules.specs.Rules.{IsTurn, standing_after, starting}
use Rattle.node_rules.specs.Called.{took, failed}
use Rattle.node_rules.proofs.Examples.{opened, setting, ballot}
use Rattle.match_log.specs.Lines.{header_line}
use Rattle.dealer_node.specs.Nodes.{Node}
use Rattle.dealer_node.specs.declared.fault.NodeFault.TheVariants as fault
use Rattle.dealer_world.specs.declared.event.Event.TheVariants as event
use Rattle.dealer_world.specs.Stepping.{View, MakesOfDisk, none}
use Rattle.dealer_world.specs.Promise.{IsForMatch, WasReached}
use Rattle.dealer_world.specs.Beginning.{HaveStores, IsFirstNoStore, IsUnopened}
use Rattle.dealer_world.specs.Records.{Record, Frame, no_record, said_by}
use Rattle.dealer_world.specs.Unforged.{IsUnforged}
use Rattle.dealer_world.specs.Headline.{Era}
use Rattle.dealer_world.specs.Calls.{Made, nothing_made}
use Rattle.dealer_world.specs.Views.{grown}
use Rattle.dealer_world.specs.Behind.{EachNode}
use Rattle.dealer_world.specs.Runs.{IsSeated, arrived_by, arrived_at}
use Rattle.dealer_world.specs.RuleRuns.{State, Steps, EndsAs, at_rest, in_a_call, plan_of, RunsTo, fresh, step, IsBacked, RunsAreBacked}
use Rattle.dealer_world.specs.Ruling.{AreLeft, RunLeaves, Leaves, GoesOn, new_stores, a_run}
use Rattle.dealer_world.proofs.Keeping.{each_here}
use Rattle.dealer_world.proofs.ListExamples.{prepare, prepare_said}

-- ---- a match of three nodes

abbrev sources : List Source
sources = Seed 7 ∷ Seed 8 ∷ Seed 9 ∷ []

abbrev pub plan : Plan
plan = plan_of setting sources

is_plan : IsPlan plan
is_plan = record {
  within = record {
    is_game = record {
      least_players = omega arith;
      most_players = omega arith;
      stack_each = refl;
      blind_each = refl;
      stacks_fit = (omega arith, (omega arith, tt));
      stacks_above = (omega arith, (omega arith, tt));
      some_blind = omega arith;
      four_sizes = refl;
      sizes_fit = (omega arith, (omega arith, (omega arith, (omega arith, tt))));
      some_size = (omega arith, (omega arith, (omega arith, (omega arith, tt))));
      first_each = refl;
      firsts_play = (omega arith, (omega arith, (omega arith, (omega arith, tt))));
      raises_each = refl;
      raises_fit = (omega arith, (omega arith, (omega arith, (omega arith, tt))));
    };
    match_name = record { least = omega arith; most = omega arith; bytes = (refl, tt) };
    game_word = record {
      least = omega arith;
      most = omega arith;
      printable = (
        (omega arith, omega arith),
        ((omega arith, omega arith), ((omega arith, omega arith), ((omega arith, omega arith), ((omega arith, omega arith), ((omega arith, omega arith), ((omega arith, omega arith), tt)))))),
      );
    };
    least = omega arith;
    most = omega arith;
    seat_names = two_names;
  };
  nodes = inl refl;
  deals = All-from_recursion (HasDeals 2 1) sources (tt, (tt, (tt, tt)));
}

-- ---- a stop inside an append

-- node 0 was started, the others not yet
abbrev new : State
new = record { standings = stopped (place_of plan 0) empty_store empty_store ∷ stopped (place_of plan 1) empty_store empty_store ∷ stopped (place_of plan 2) empty_store empty_store ∷ []; now = no_record }

abbrev first_node : Standing
first_node = started (place_of plan 0) empty_store

abbrev header_made : Made
header_made = record { frames = []; texts = (record { reader = Log; text = header_line setting.title.name setting.title.game setting.title.hands }) ∷ []; began = true }

abbrev begun_state : State
begun_state = record { standings = set new.standings 0 first_node; now = grown no_record 0 [] header_made }

starts : Steps plan new begun_state
starts = record {
  node = 0;
  is_node = omega arith;
  before = stopped (place_of plan 0) empty_store empty_store;
  at = refl;
  called = Start empty_store;
  arrived = [];
  made = header_made;
  after = first_node;
  ruled = record {
    frames = [];
    shown = (starting (place_of plan 0) empty_store).shown;
    ends = took (starting (place_of plan 0) empty_store) (inl refl, refl) refl refl refl;
    seated = tt;
    written = tt;
    texts = refl;
    keeps = (refl, refl);
  };
  standings = refl;
  grows = refl;
}

-- its tick stores a promise of its first ballot
abbrev ticked : Result Turn Refusal
ticked = and_then (ticking (place_of plan 0) first_node) (closing (place_of plan 0))

abbrev pub next : Store
next = (standing_after (place_of plan 0) first_node ticked).begun

-- node 0 may have begun that append
abbrev begun : ℕ → Store
begun zero = next
begun (suc node) = empty_store

abbrev pub with_promise : List ℕ
with_promise = 72 ∷ 68 ∷ 74 ∷ 50 ∷ 0 ∷ 3 ∷ 0 ∷ 0 ∷ 1 ∷ 0 ∷ 6 ∷ 1 ∷ 0 ∷ 0 ∷ 0 ∷ 1 ∷ 0 ∷ 0 ∷ []

abbrev pub created : ℕ → List ℕ
created node = 72 ∷ 68 ∷ 74 ∷ 50 ∷ node ∷ 3 ∷ 0 ∷ 0 ∷ 0 ∷ []

pub stands_created : (node : ℕ) → StandsFor (header node 3) (created node) empty_store
stands_created node = record { records = []; journal = (New, New, record { gate = 0; rest = []; stands = refl; shut = λ e. omega (arith, e); each = tt; text = refl }); is = refl }

pub stands_promised : StandsFor (header 0 3) with_promise next
unfolding opened
stands_promised = record {
  records = Promised (ballot 1 0) ∷ [];
  journal = (New, New, record { gate = 0; rest = []; stands = refl; shut = λ e. omega (arith, e); each = (record { first = omega arith; last = omega arith; node = omega arith }, tt); text = refl });
  is = refl;
}

abbrev era : Era
era = record { sources = sources; record_of = grown begun_state.now 0 [] nothing_made }

-- node 0 was stopped inside that append, with a file that stands for the store before it or for the one behind it; the other two have the stores that were made
goes_on_with : (file : List ℕ) → StandsFor (header 0 3) file empty_store ⊎ StandsFor (header 0 3) file next → GoesOn true setting 3 (era ∷ []) (file ∷ created 1 ∷ created 2 ∷ [])
goes_on_with file stands = ∣ (a_run (record {
  before = [];
  latest = era;
  are = refl;
  sources = sources;
  old = begun_state;
  runs = step [] sources new begun_state (fresh sources new is_plan refl (record { count = refl; each = (refl, (refl, (refl, tt))); empty = refl })) starts;
  begun = begun;
  ends = in_a_call 0 first_node Tick ticked (omega arith) refl refl tt refl refl refl ((λ ne. absurd (ne refl)), ((λ ne. refl), ((λ ne. refl), tt)));
  same = refl;
  unforged = λ arrival there. elim there [ ];
  held = (stands, (inl (stands_created 1), (inl (stands_created 2), tt)));
})) ∣₁

-- the append went through
goes_on_from_a_stop : GoesOn true setting 3 (era ∷ []) (with_promise ∷ created 1 ∷ created 2 ∷ [])
goes_on_from_a_stop = goes_on_with with_promise (inr stands_promised)

-- a part of its bytes is there, and the gate in front of them is shut
abbrev torn : List ℕ
torn = 72 ∷ 68 ∷ 74 ∷ 50 ∷ 0 ∷ 3 ∷ 0 ∷ 0 ∷ 0 ∷ 0 ∷ 6 ∷ 1 ∷ 0 ∷ []

goes_on_from_a_torn_append : GoesOn true setting 3 (era ∷ []) (torn ∷ created 1 ∷ created 2 ∷ [])
goes_on_from_a_torn_append = goes_on_with torn (inl (record {
  records = [];
  journal = (New, New, record { gate = 0; rest = 0 ∷ 6 ∷ 1 ∷ 0 ∷ []; stands = refl; shut = λ e. omega (arith, e); each = tt; text = refl });
  is = refl;
}))

-- nothing of it is there: the file as it was made goes on as well
goes_on_without : GoesOn true setting 3 (era ∷ []) (created 0 ∷ created 1 ∷ created 2 ∷ [])
goes_on_without = goes_on_with (created 0) (inl (stands_created 0))

-- files of new stores go on from no era
new_files : GoesOn true setting 3 [] (created 0 ∷ created 1 ∷ created 2 ∷ [])
new_files = ∣ (new_stores refl refl have) ∣₁
  where
    have : (i : ℕ) → i < 3 → StandsFor (header i 3) (get_or (created 0 ∷ created 1 ∷ created 2 ∷ []) i []) empty_store
    have zero less = stands_created 0
    have (suc zero) less = stands_created 1
    have (suc (suc zero)) less = stands_created 2
    have (suc (suc (suc i))) less = absurd (omega (arith, less))

-- other files go on from no era only if they are those of new stores
only_new_stores : (files : List (List ℕ)) → (length files ≡ 3 → HaveStores 3 files (λ i. empty_store) → ⊥) → GoesOn true setting 3 [] files → ⊥
only_new_stores files other goes = ∥∥₁_elim goes (hlevel) (λ left. by_left left)
  where
    by_left : Leaves setting 3 [] files → ⊥
    by_left (new_stores absent count have) = other count have
    by_left (a_run left) = let absent : [] ≡ left.latest ∷ left.before = left.are in cc

-- a file with a promise
pub no_promise : StandsFor (header 0 3) with_promise empty_store → ⊥
unfolding stands_promised
no_promise stands =
    let promised : stands.records ≡ Promised (ballot 1 0) ∷ [] = one_journal (header 0 3) with_promise stands.records (Promised (ballot 1 0) ∷ []) stands.journal stands_promised.journal in
    let same : empty_store ≡ store_of (holding (header 0 3) (Promised (ballot 1 0) ∷ [])) = stands.is ∙ ap (λ (records : List Stored). store_of (holding (header 0 3) records)) promised in
    let round : 0 ≡ 1 = ap (λ (store : Store). store.promise.round) same in
    omega (arith, round)

promised_file : GoesOn true setting 3 [] (with_promise ∷ created 1 ∷ created 2 ∷ []) → ⊥
promised_file = only_new_stores (with_promise ∷ created 1 ∷ created 2 ∷ []) (λ count have. no_promise (have 0 (omega arith)))

-- a file of another node, though its store is new
file_of_another_node : GoesOn true setting 3 [] (created 1 ∷ created 1 ∷ created 2 ∷ []) → ⊥
file_of_another_node = only_new_stores (created 1 ∷ created 1 ∷ created 2 ∷ []) (λ count have. not_of_node_0 (have 0 (omega arith)))
  where
    not_of_node_0 : StandsFor (header 0 3) (created 1) empty_store → ⊥
    not_of_node_0 stands = by_stage stands.records stands.journal
      where
        by_stage : (records : List Stored) → IsJournal (header 0 3) (created 1) records → ⊥
        by_stage records (Old, last, is) = let version : 50 ≡ 49 = ap (λ (l : List ℕ). get_or l 3 9) is.text in omega (arith, version)
        by_stage records (New, last, is) = let node : 1 ≡ 0 = ap (λ (l : List ℕ). get_or l 4 9) is.text in omega (arith, node)

-- one file too few
two_files : GoesOn true setting 3 [] (created 0 ∷ created 1 ∷ []) → ⊥
two_files = only_new_stores (created 0 ∷ created 1 ∷ []) (λ count have. omega (arith, count))

-- ---- why files aren't opened

-- node 1 has an empty file, behind a store of node 0
empty_behind_a_store : IsUnopened 3 (created 0 ∷ [] ∷ created 2 ∷ []) (fault.Store NoStore)
empty_behind_a_store = inr (NoStore, refl, record { kind = tt; node = 1; within = omega arith; refused = refl; before = have })
  where
    have : (i : ℕ) → i < 1 → (store : Store) × StandsFor (header i 3) (get_or (created 0 ∷ [] ∷ created 2 ∷ []) i []) store
    have zero less = (empty_store, stands_created 0)
    have (suc i) less = absurd (omega (arith, less))

-- want of memory may come whatever they are
unopened_for_want : (files : List (List ℕ)) → IsUnopened 3 files fault.OutOfMemory
unopened_for_want files = inl (inl refl)

-- a fault that isn't of a file's bytes, and one of no file
closed_store : (files : List (List ℕ)) → IsFirstNoStore 3 files Closed → ⊥
closed_store files first = first.kind

-- a file of another node, where one before it is empty
pub stands_for_none : (head : List ℕ) (store : Store) → length head ≡ 8 → StandsFor head [] store → ⊥
stands_for_none head store eight stands =
    let first = stands.journal.0 in
    let is = stands.journal.2 in
    let whole = ap length is.text in
    omega (
      arith,
      eight,
      whole,
      head_long first head,
      length-append (head_of first head ++ gated stands.records) (is.gate ∷ is.rest),
      length-append (head_of first head) (gated stands.records),
    )

later_file_first : IsFirstNoStore 3 ([] ∷ created 0 ∷ created 2 ∷ []) BadHeader → ⊥
later_file_first first = by_node first.node refl first.within
  where
    by_node : (node : ℕ) → node ≡ first.node → first.node < 3 → ⊥
    by_node zero is less = (subst (λ k. Refuses (header k 3) (get_or ([] ∷ created 0 ∷ created 2 ∷ []) k []) BadHeader) (sym is) first.refused).0 refl
    by_node (suc node) is less = let earlier = first.before 0 (omega (arith, is)) in stands_for_none (header 0 3) earlier.0 refl earlier.1

-- ---- from one view to another

-- each view was reached from itself
reached_by_nothing : {D : Type 0} (g : Ghosts D) (view : View (Node D)) → WasReached g view view
reached_by_nothing g view = record { events = []; are_for = All-nil (IsForMatch view.config); ran = none [] view refl refl }

-- a stop for which there was no memory says nothing of the disk
stop_without_memory : {D : Type 0} (g : Ghosts D) (node : Node D) → MakesOfDisk g (event.Stop 1 7) node node (Err fault.OutOfMemory)
stop_without_memory g node = λ honest. tt

-- ---- a promise that is lost

-- the turn of a call is that of a call whose append was begun and not finished
broken_off : (setting : Setting) (n : ℕ) (before : List Era) (sources : List Source) (old : State) (node : ℕ) (s : Standing) (called : Call) (outcome : Result Turn Refusal)
    → RunsTo setting n before sources old → node < length old.standings → get_or old.standings node s ≡ s → s.up ≡ true → IsSeated setting.game.players called
    → IsTurn (place_of (plan_of setting sources) node) s called outcome
    → let place = place_of (plan_of setting sources) node in
    RunsTo setting n before sources (record {
      standings = set old.standings node (stopped place s.store (standing_after place s outcome).begun);
      now = grown old.now node (arrived_by node (front_of s) called) nothing_made;
    })
broken_off setting n before sources old node s called outcome run less at up seated turn =
    let place = place_of (plan_of setting sources) node in
    let after = stopped place s.store (standing_after place s outcome).begun in
    step before sources old _ run (record {
      node = node;
      is_node = less;
      before = s;
      at = at;
      called = called;
      arrived = arrived_by node (front_of s) called;
      made = nothing_made;
      after = after;
      ruled = record {
        frames = [];
        shown = [];
        ends = failed outcome (standing_after place s outcome).begun up turn (inr refl) refl refl refl;
        seated = seated;
        written = tt;
        texts = refl;
        keeps = (ap (λ u. arrived_at u node (front_of s) called) (sym up), refl);
      };
      standings = refl;
      grows = refl;
    })

-- what node 0 said by its frames both stores back that its file may stand for
ends_backed : (setting : Setting) (n : ℕ) (before : List Era) (sources : List Source) (old : State) (s0 : Standing) (others : List Standing) (all : Record) (begun : ℕ → Store) (frame : Frame) (message : Message)
    → RunsAreBacked → RunsTo setting n before sources old → old.standings ≡ s0 ∷ others → EndsAs (plan_of setting sources) old all begun → IsUnforged all.sent all.delivered
    → In frame all.sent → frame.from ≡ 0 → In message (said_by frame) → Backs s0.store message × Backs (begun 0) message
ends_backed setting n before sources old s0 others all begun frame message law run first (at_rest same are) unforged sent from says =
    let back = law setting n before sources old run (subst (λ (now : Record). IsUnforged now.sent now.delivered) same unforged) in
    let here : IsBacked old.now.sent 0 s0 = (subst (λ standings. EachNode (IsBacked old.now.sent) 0 standings) first back).0 in
    let both = here frame message (subst (λ (now : Record). In frame now.sent) same sent) from says in
    let began : begun 0 ≡ s0.begun = (subst (λ standings. EachNode (λ i s. begun i ≡ s.begun) 0 standings) first are).0 in
    (both.0, subst (λ store. Backs store message) (sym began) both.1)
ends_backed setting n before sources old s0 others all begun frame message law run first (in_a_call node s called outcome less at up seated turn grew began rest) unforged sent from says =
    let place = place_of (plan_of setting sources) node in
    let after = stopped place s.store (standing_after place s outcome).begun in
    let broken = broken_off setting n before sources old node s called outcome run less at up seated turn in
    let clean = subst (λ (now : Record). IsUnforged now.sent now.delivered) grew unforged in
    let back = law setting n before sources _ broken clean in
    let here = subst (λ (now : Record). In frame now.sent) grew sent in
    elim (cases_eq 0 node) [
      | inl is ↦
          let stands : IsBacked (grown old.now node (arrived_by node (front_of s) called) nothing_made).sent node after =
          subst (IsBacked (grown old.now node (arrived_by node (front_of s) called) nothing_made).sent node) (get_or-set_same old.standings node after after less)
          (each_here (IsBacked (grown old.now node (arrived_by node (front_of s) called) nothing_made).sent) node (set old.standings node after) after (omega (arith, less, length-set old.standings node after)) back) in
          let both = stands frame message here (from ∙ is) says in
          let same : s ≡ s0 = sym at ∙ (ap (λ k. get_or old.standings k s) (sym is) ∙ ap (λ standings. get_or standings 0 s) first) in
          let now : begun 0 ≡ (standing_after place s outcome).begun = ap begun is ∙ began in
          (subst (λ (k : Standing). Backs k.store message) same both.0, subst (λ store. Backs store message) (sym now) both.1)
      | inr ne ↦
          let size : 0 < length old.standings = omega (arith, ap length first) in
          let stands : IsBacked (grown old.now node (arrived_by node (front_of s) called) nothing_made).sent 0 s0 =
          subst (IsBacked (grown old.now node (arrived_by node (front_of s) called) nothing_made).sent 0) (get_or-set_other old.standings node 0 after s0 ne ∙ ap (λ standings. get_or standings 0 s0) first)
          (each_here (IsBacked (grown old.now node (arrived_by node (front_of s) called) nothing_made).sent) 0 (set old.standings node after) s0 (omega (arith, size, length-set old.standings node after)) back) in
          let both = stands frame message here from says in
          let now : begun 0 ≡ s0.begun = (subst (λ standings. EachNode (λ i other. i ≢ node → begun i ≡ other.begun) 0 standings) first rest).0 ne in
          (both.0, subst (λ store. Backs store message) (sym now) both.1)
    ]

-- node 0 has asked for promises of its first ballot
abbrev asked : Era
asked = record { sources = sources; record_of = record { sent = (record { from = 0; to = 1; bytes = prepare }) ∷ []; delivered = []; starts = begun_state.now.starts; shown = begun_state.now.shown } }

-- a file that was just made doesn't keep that
made_backs_nothing : (store : Store) → StandsFor (header 0 3) (created 0) store → Backs store (Prepare (ballot 1 0) 0) → ⊥
unfolding stands_created
made_backs_nothing store stands backs =
    let empty : stands.records ≡ [] = one_journal (header 0 3) (created 0) stands.records [] stands.journal (stands_created 0).journal in
    let same : store ≡ empty_store = stands.is ∙ ap (λ (records : List Stored). store_of (holding (header 0 3) records)) empty in
    elim (subst (λ (s : Store). AtMost (ballot 1 0) s.promise) same backs) [ inl l ↦ omega (arith, l) | inr e ↦ (let h = e.0 in omega (arith, h)) ]

lost : RunsAreBacked → (standings : List Standing) → (left : RunLeaves setting 3 (asked ∷ []) (created 0 ∷ created 1 ∷ created 2 ∷ [])) → left.old.standings ≡ standings
    → AreLeft 3 0 left.begun (created 0 ∷ created 1 ∷ created 2 ∷ []) standings → ⊥
lost law [] left is held = held
lost law (s0 ∷ others) left is (held, rest) =
    let latest : asked ≡ left.latest = head_of left.are in
    let frame : Frame = record { from = 0; to = 1; bytes = prepare } in
    let backed = ends_backed setting 3 left.before left.sources left.old s0 others left.latest.record_of left.begun frame (Prepare (ballot 1 0) 0) law left.runs is left.ends left.unforged
    (subst (λ (e : Era). In frame e.record_of.sent) latest (inl refl)) refl (subst (In (Prepare (ballot 1 0) 0)) (sym prepare_said) (inl refl)) in
    elim held [
      | inl stands ↦ made_backs_nothing s0.store stands backed.0
      | inr stands ↦ made_backs_nothing (left.begun 0) stands backed.1
    ]
  where
    head_of : {a b : Era} {xs ys : List Era} → a ∷ xs ≡ b ∷ ys → a ≡ b
    head_of same = cc

-- from what has lost the promise no cluster goes on, by the law that in every run what was said is backed (`laws::runs_are_backed`)
promise_lost : RunsAreBacked → GoesOn true setting 3 (asked ∷ []) (created 0 ∷ created 1 ∷ created 2 ∷ []) → ⊥
promise_lost law goes = ∥∥₁_elim goes (hlevel) (λ left. by_left left)
  where
    by_left : Leaves setting 3 (asked ∷ []) (created 0 ∷ created 1 ∷ created 2 ∷ []) → ⊥
    by_left (new_stores absent count have) = cc
    by_left (a_run left) = lost law left.old.standings left refl left.held
