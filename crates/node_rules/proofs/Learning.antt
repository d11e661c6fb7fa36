-- What is counted and known, on the path of a call.
use Rattle.std.proofs.Common.{◌≡◌, ℕ, ◌+◌, ◌-◌, ◌<◌, ◌⊎◌, inl, inr, Bool, true, false, not, if◌then◌else◌, ◌==◌, List, [], ◌∷◌, ◌++◌, Option, Some, None, Result, Ok, Err, refl, sym, ap, subst, ◌∙◌, arith, length, replicate, append_assoc}
use Rattle.std.specs.Prelude.{is_none, is_err, IsOk}
use Rattle.std.proofs.lemmas.Bool.{eqb-true, eqb-false}
use Rattle.std.proofs.lemmas.List.{append-nil, length-append}
use Rattle.paxos_wire.specs.declared.limits.TheConstants.{WINDOW}
use Rattle.paxos_wire.specs.declared.ballot.Ballot.{Ballot}
use Rattle.slot_log.specs.declared.limits.TheConstants.{SLOTS}
use Rattle.slot_log.specs.declared.slot_fault.SlotFault.{SlotFault}
use Rattle.slot_log.specs.declared.slot_fault.SlotFault.TheVariants.{Conflict as KnownOther}
use Rattle.slot_log.specs.Slots.{Log, IsLog, front, known_at, with_command}
use Rattle.slot_log.specs.declared.command.Command.{Command}
use Rattle.protocol_model.specs.Sets.{In}
use Rattle.protocol_model.specs.Messages.{Message, Accepted, Chosen}
use Rattle.protocol_model.specs.Frames.{answers}
use Rattle.protocol_model.proofs.Sets.{Within}
use Rattle.protocol_model.specs.Quorums.{IsChosen, IsChosenIn}
use Rattle.protocol_model.specs.Nodes.{Node, Knows as KnowsCommands}
use Rattle.protocol_model.specs.Arrivals.{Arrival}
use Rattle.protocol_model.specs.Moves.{Chain, nothing, more, learns, believes}
use Rattle.protocol_model.specs.Worlds.{World, Reached, IsAfter, new_world}
use Rattle.learner.specs.declared.chosen.Chosen.{Chosen as Learnt}
use Rattle.learner.specs.Same.{is_same}
use Rattle.learner.specs.Learning.{Learned, is_open, is_other, known_with, knowing, counting, completes, answer_to, hearing, answer_to_chosen, believing as with_chosen}
use Rattle.learner.specs.CommandRuns.{hearing_each, chosen_each, is_refused}
use Rattle.learner.specs.Counted.{IsOpen, CountsFrom, CountsAll, KnowsChosen}
use Rattle.node_rules.specs.Standings.{Place, Standing, applied}
use Rattle.node_rules.specs.Showing.{Piece}
use Rattle.node_rules.specs.Called.{AreShown, log_after}
use Rattle.node_rules.specs.Turns.{Turn, Refusal, joined, behind}
use Rattle.node_rules.specs.Applying.{scene_of, applying}
use Rattle.node_rules.specs.Learning.{learning, counting_votes}
use Rattle.node_rules.specs.Being.{IsLearner}
use Rattle.node_rules.specs.Given.{Given}
use Rattle.node_rules.proofs.Proposed.{learned_proposed}
use Rattle.learner.proofs.Kept.{open_means}
use Rattle.node_rules.proofs.Keeping.{others_proposer, others_pending, commands_more}
use Rattle.node_rules.proofs.Steps.{unsent}
use Rattle.node_rules.proofs.Paths.{Hearing, Scope, dealer_in, first_in, Path, Goes}
use Rattle.node_rules.proofs.Settling.{settle, at_scene}

-- ---- no other command is known where one was chosen

pub world_now : (x : Scope) (came : List Arrival) (heard : Hearing) (upto : List Command) (t : Turn) (p : Path x came heard upto t)
    → (later : World) × Reached (dealer_in x) x.place.nodes later × IsAfter x.world x.place.node (record { sent = p.sent; shown = p.shown; came = came }) p.node later
world_now x came heard upto t p =
    x.given.reach (dealer_in x) x.place.nodes x.place.node new_world x.world (record { sent = p.sent; shown = p.shown; came = came }) p.node
    x.reached x.is_place.node p.chain

same_if : (g : Given) (a b : Command) → a ≡ b → not (is_same a b) ≡ false
same_if g a b e = ap not ((g.same a b).1 e)

pub not_other : (g : Given) (known : Option Command) (command : Command) → ((other : Command) → known ≡ Some other → other ≡ command) → is_other known command ≡ false
not_other g None command h = refl
not_other g (Some other) command h = same_if g other command (h other refl)

no_conflict : (x : Scope) (came : List Arrival) (heard : Hearing) (upto : List Command) (t : Turn) (p : Path x came heard upto t) (slot : ℕ) (command : Command)
    → IsChosen x.place.nodes p.node.has slot command ⊎ ((sender : ℕ) × In (Chosen sender slot command) (p.sent ++ x.world.ever))
    → is_other (known_at t.after.learned.log slot) command ≡ false
no_conflict x came heard upto t p slot command source = not_other x.given (known_at t.after.learned.log slot) command one
  where
    now : (later : World) × Reached (dealer_in x) x.place.nodes later × IsAfter x.world x.place.node (record { sent = p.sent; shown = p.shown; came = came }) p.node later
    now = world_now x came heard upto t p

    chosen : IsChosen x.place.nodes now.0.ever slot command
    chosen = elim source [
      | inl had ↦ x.given.answered (dealer_in x) x.place.nodes x.place.node now.0 slot command now.1
          (subst (λ (y : Node). IsChosen x.place.nodes y.has slot command) (sym now.2.moved) had)
      | inr told ↦ x.given.told (dealer_in x) x.place.nodes told.0 now.0 slot command now.1
          (subst (λ (l : List Message). In (Chosen told.0 slot command) l) (sym now.2.ever) told.1)
    ]

    one : (other : Command) → known_at t.after.learned.log slot ≡ Some other → other ≡ command
    one other e = x.given.one_choice (dealer_in x) x.place.nodes now.0 slot other command now.1
        (x.given.known (dealer_in x) x.place.nodes x.place.node now.0 slot other now.1
        (subst (λ (y : Node). In (slot, other) y.known) (sym now.2.moved) (p.knows.learner.knows slot other e))) chosen

-- ---- one more command is known

known_split : (slot k : ℕ) (c d : Command) (b : Bool) (old : Option Command) → (k == slot) ≡ b → (if b then Some c else old) ≡ Some d → ((k ≡ slot) × (c ≡ d)) ⊎ (old ≡ Some d)
known_split slot k c d true old e h = inl (eqb-true k slot e, (let s : c ≡ d = cc in s))
known_split slot k c d false old e h = inr h

known_new : (slot k : ℕ) (c d : Command) (b : Bool) (old : Option Command) → (k == slot) ≡ b → k ≡ slot → c ≡ d → (if b then Some c else old) ≡ Some d
known_new slot k c d true old e same is = ap (λ a. Some a) is
known_new slot k c d false old e same is = absurd (eqb-false k slot e same)

known_old : (log : Log) (slot k : ℕ) (c d : Command) (b : Bool) → (k == slot) ≡ b → known_at log slot ≡ None → known_at log k ≡ Some d → (if b then Some c else known_at log k) ≡ Some d
known_old log slot k c d true e none h =
    let clash : ◌≡◌ {A = Option Command} None (Some d) = sym none ∙ (ap (known_at log) (sym (eqb-true k slot e)) ∙ h) in absurd (cc)
known_old log slot k c d false e none h = h

pair_is : (s t : ℕ) (c d : Command) → ◌≡◌ {A = ℕ × Command} (s, c) (t, d) → (s ≡ t) × (c ≡ d)
pair_is s t c d e = (ap (λ (p : ℕ × Command). p.0) e, ap (λ (p : ℕ × Command). p.1) e)

-- ---- the node learns

abbrev with_known : Node → List (ℕ × Command) → Node
with_known node known = record node { known = known }

-- a learner with one command more, or the same
abbrev Knew : Log → Log → List (ℕ × Command) → List (ℕ × Command) → ℕ → Command → Type 0
Knew old new before known slot command = ((new ≡ old) × (known ≡ before)) ⊎ ((new ≡ with_command old slot command) × (known_at old slot ≡ None) × (known ≡ (slot, command) ∷ before))

later_by : (g : Given) (old new : Log) (before known : List (ℕ × Command)) (slot : ℕ) (command : Command) → Knew old new before known slot command
    → (later : List Command) × (new.below ≡ later ++ old.below)
later_by g old new before known slot command (inl same) = ([], ap (λ (l : Log). l.below) same.0)
later_by g old new before known slot command (inr one) =
    let on = g.goes_on old slot command in (on.0, ap (λ (l : Log). l.below) one.0 ∙ on.1)

-- a path on which this was learned, the front may have gone on over what was applied, and these messages are had still
pub record Learns (x : Scope) (came : List Arrival) (heard : Hearing) (t : Turn) (new : Learned) (has : List Message) : Type 0 where
  pub path : Path x came heard (applied t.after) (at_scene t new (scene_of t.after))
  pub later : List Command
  pub goes_on : new.log.below ≡ later ++ applied t.after
  pub had : (m : Message) → In m has → In m path.node.has

-- at first nothing is
unlearned : (x : Scope) (came : List Arrival) (heard : Hearing) (t : Turn) (p : Path x came heard (applied t.after) t) → Learns x came heard t t.after.learned p.node.has
unfolding unsent
unlearned x came heard t p = record {
  path = unsent x came heard (applied t.after) (applied t.after) t (at_scene t t.after.learned (scene_of t.after)) p p.node.known p.shown p.node.shown refl refl p.unbegun
      (append-nil t.frames) p.chain p.knows p.commands
      (λ ends. subst (λ (l : List Piece). AreShown x.place.node x.start x.log l p.shown) (sym (append-nil t.shown)) (p.pieces ends))
      (λ ends. ap (log_after x.log) (append-nil t.shown) ∙ p.logged ends) p.unshown;
  later = [];
  goes_on = refl;
  had = λ m h. h;
}

-- the path goes on with what was learned, of which nothing is applied yet
learned : (x : Scope) (came : List Arrival) (heard : Hearing) (t : Turn) (mid new : Learned) (has : List Message) (l : Learns x came heard t mid has) (known : List (ℕ × Command))
    → (later : List Command) → new.log.below ≡ later ++ mid.log.below
    → IsLearner x.place.nodes l.path.node.has known new
    → Chain (dealer_in x) x.place.nodes x.place.node x.world.ever (first_in x) (record { sent = l.path.sent; shown = l.path.shown; came = came }) (with_known l.path.node known)
    → ((commands : List Command) → KnowsCommands l.path.node.known commands → KnowsCommands known commands)
    → Learns x came heard t new has
unfolding unsent
learned x came heard t mid new has l known later e learner chain wider = record {
  path = unsent x came heard (applied t.after) (applied t.after) (at_scene t mid (scene_of t.after)) (at_scene t new (scene_of t.after)) p known p.shown p.node.shown refl refl p.unbegun refl chain
      (record {
        up = p.knows.up;
        store = p.knows.store;
        within = p.knows.within;
        proposer = others_proposer x.place.nodes x.place.node p.node known p.node.heard p.node.shown (front mid.log) (front new.log) t.after.campaign
            (let h = ap length e ∙ length-append later mid.log.below in omega (arith, h)) p.knows.proposer;
        learner = learner;
        pending = others_pending (dealer_in x) x.place.node p.node known p.node.heard p.node.shown (applied t.after) t.after.pending p.knows.pending;
        places = p.knows.places;
        shown = p.knows.shown;
        seen = p.knows.seen;
        proposals = learned_proposed x.place.nodes x.place.node x.place (record t.after { learned = mid }) (applied t.after) new later p.node.store p.node.has p.node.sent
            (let h = ap length l.goes_on ∙ length-append l.later (applied t.after) in omega (arith, h)) e p.knows.proposals;
      })
      (wider (applied t.after) p.commands) p.pieces p.logged p.unshown;
  later = later ++ l.later;
  goes_on = e ∙ (ap (λ (b : List Command). later ++ b) l.goes_on ∙ sym (append_assoc later l.later (applied t.after)));
  had = λ m h. l.had m h;
}
  where
    p : Path x came heard (applied t.after) (at_scene t mid (scene_of t.after))
    p = l.path

-- the learner's part, where its log goes on or stays
learner_by : (g : Given) (n : ℕ) (has : List Message) (known wider : List (ℕ × Command)) (slot : ℕ) (command : Command) (old new : Learned) (in_time : List Message)
    → IsLearner n has known old → Knew old.log new.log known wider slot command → slot < SLOTS → new.nodes ≡ old.nodes
    → ((m : Message) → In m in_time → In m has) → CountsFrom in_time new → CountsAll in_time new → KnowsChosen in_time new
    → IsLearner n has wider new
learner_by g n has known wider slot command old new in_time l (inl same) is_slot nodes came counts all chosen = record {
  nodes = nodes ∙ l.nodes;
  log = subst IsLog (sym same.0) l.log;
  knows = λ k c e. subst (λ (y : List (ℕ × Command)). In (k, c) y) (sym same.1) (l.knows k c (ap (λ (y : Log). known_at y k) (sym same.0) ∙ e));
  only = λ k c h. ap (λ (y : Log). known_at y k) same.0 ∙ l.only k c (subst (λ (y : List (ℕ × Command)). In (k, c) y) same.1 h);
  in_time = in_time;
  came = came;
  counts = counts;
  counts_all = all;
  knows_chosen = chosen;
}
learner_by g n has known wider slot command old new in_time l (inr one) is_slot nodes came counts all chosen = record {
  nodes = nodes ∙ l.nodes;
  log = subst IsLog (sym one.0) law.0;
  knows = λ k c e. subst (λ (y : List (ℕ × Command)). In (k, c) y) (sym one.2) (knows k c (known_split slot k command c (k == slot) (known_at old.log k) refl (sym (law.1 k) ∙ (ap (λ (y : Log). known_at y k) (sym one.0) ∙ e))));
  only = λ k c h. ap (λ (y : Log). known_at y k) one.0 ∙ (law.1 k ∙ only k c (subst (λ (y : List (ℕ × Command)). In (k, c) y) one.2 h));
  in_time = in_time;
  came = came;
  counts = counts;
  counts_all = all;
  knows_chosen = chosen;
}
  where
    law : IsLog (with_command old.log slot command) × ((other : ℕ) → known_at (with_command old.log slot command) other ≡ (if other == slot then Some command else known_at old.log other))
    law = g.one_more old.log slot command l.log is_slot one.1

    knows : (k : ℕ) (c : Command) → ((k ≡ slot) × (command ≡ c)) ⊎ (known_at old.log k ≡ Some c) → In (k, c) ((slot, command) ∷ known)
    knows k c (inl new_one) = inl (λ i. (new_one.0 i, sym new_one.1 i))
    knows k c (inr before) = inr (l.knows k c before)

    only : (k : ℕ) (c : Command) → In (k, c) ((slot, command) ∷ known) → (if k == slot then Some command else known_at old.log k) ≡ Some c
    only k c (inl e) = let s = pair_is k slot c command e in known_new slot k command c (k == slot) (known_at old.log k) refl s.0 (sym s.1)
    only k c (inr before) = known_old old.log slot k command c (k == slot) refl one.1 (l.only k c before)

-- ---- a command becomes known, or was known

known_with_by : (log : Log) (slot : ℕ) (command : Command) (held : Option Command) → known_at log slot ≡ held → (known : List (ℕ × Command))
    → (more : List (ℕ × Command)) × Knew log (if is_none held then with_command log slot command else log) known more slot command
known_with_by log slot command None e known = ((slot, command) ∷ known, inr (refl, e, refl))
known_with_by log slot command (Some other) e known = (known, inl (refl, refl))

-- what shows that it was chosen
abbrev Shows : Scope → List Message → Node → ℕ → Command → Type 0
Shows x sent node slot command = IsChosen x.place.nodes node.has slot command ⊎ ((sender : ℕ) × In (Chosen sender slot command) node.has)

inform_by : (x : Scope) (came : List Arrival) (heard : Hearing) (upto : List Command) (t : Turn) (p : Path x came heard upto t) (log : Log) (slot : ℕ) (command : Command) (held : Option Command)
    → known_at log slot ≡ held → Shows x p.sent p.node slot command
    → (known : List (ℕ × Command)) × Knew log (if is_none held then with_command log slot command else log) p.node.known known slot command
    × Chain (dealer_in x) x.place.nodes x.place.node x.world.ever (first_in x) (record { sent = p.sent; shown = p.shown; came = came }) (with_known p.node known)
    × ((commands : List Command) → KnowsCommands p.node.known commands → KnowsCommands known commands)
inform_by x came heard upto t p log slot command (Some other) e source = (p.node.known, inl (refl, refl), p.chain, λ cs h. h)
inform_by x came heard upto t p log slot command None e (inl chosen) = (
  (slot, command) ∷ p.node.known,
  inr (refl, e, refl),
  more _ p.node nothing _ _ p.chain (learns slot command p.knows.up chosen refl refl) refl,
  λ cs h. commands_more p.node.known (slot, command) cs h,
)
inform_by x came heard upto t p log slot command None e (inr told) = (
  (slot, command) ∷ p.node.known,
  inr (refl, e, refl),
  more _ p.node nothing _ _ p.chain (believes told.0 slot command p.knows.up told.1 refl refl) refl,
  λ cs h. commands_more p.node.known (slot, command) cs h,
)

-- ---- the path of what is learned

-- where what is known is this, with these votes that came in time
now_known : (x : Scope) (came : List Arrival) (heard : Hearing) (t : Turn) (mid new : Learned) (has : List Message) (l : Learns x came heard t mid has) (slot : ℕ) (command : Command) (in_time : List Message)
    → new.log ≡ known_with mid.log slot command → slot < SLOTS → new.nodes ≡ mid.nodes → Shows x l.path.sent l.path.node slot command
    → ((m : Message) → In m in_time → In m l.path.node.has) → CountsFrom in_time new → CountsAll in_time new → KnowsChosen in_time new
    → Learns x came heard t new has
now_known x came heard t mid new has l slot command in_time e is_slot nodes source cames counts all chosen =
    let told = inform_by x came heard (applied t.after) (at_scene t mid (scene_of t.after)) l.path mid.log slot command (known_at mid.log slot) refl source in
    let knew : Knew mid.log new.log l.path.node.known told.0 slot command = subst (λ (y : Log). Knew mid.log y l.path.node.known told.0 slot command) (sym e) told.1 in
    let on = later_by x.given mid.log new.log l.path.node.known told.0 slot command knew in
    learned x came heard t mid new has l told.0 on.0 on.1
    (learner_by x.given x.place.nodes l.path.node.has l.path.node.known told.0 slot command mid new in_time l.path.knows.learner knew is_slot nodes cames counts all chosen)
    told.2 told.3

-- where the log stays
known_before : (x : Scope) (came : List Arrival) (heard : Hearing) (t : Turn) (mid new : Learned) (has : List Message) (l : Learns x came heard t mid has) (in_time : List Message)
    → new.log ≡ mid.log → new.nodes ≡ mid.nodes
    → ((m : Message) → In m in_time → In m l.path.node.has) → CountsFrom in_time new → CountsAll in_time new → KnowsChosen in_time new
    → Learns x came heard t new has
known_before x came heard t mid new has l in_time e nodes cames counts all chosen =
    learned x came heard t mid new has l l.path.node.known [] (ap (λ (y : Log). y.below) e)
    (record {
      nodes = nodes ∙ old.nodes;
      log = subst IsLog (sym e) old.log;
      knows = λ k c h. old.knows k c (ap (λ (y : Log). known_at y k) (sym e) ∙ h);
      only = λ k c h. ap (λ (y : Log). known_at y k) e ∙ old.only k c h;
      in_time = in_time;
      came = cames;
      counts = counts;
      counts_all = all;
      knows_chosen = chosen;
    })
    l.path.chain (λ cs h. h)
  where
    old : IsLearner x.place.nodes l.path.node.has l.path.node.known mid
    old = l.path.knows.learner

-- what was learned is applied
apply : (x : Scope) (came : List Arrival) (heard : Hearing) (t : Turn) (new : Learned) (has : List Message) → Learns x came heard t new has
    → Path x came heard new.log.below (joined t (applying x.place new t.after))
apply x came heard t new has l = settle x came heard t new l.later l.goes_on l.path

-- ---- a node's vote is counted

-- chosen by these messages, it is by those among which they are
chosen_more : (n m : ℕ) (messages has : List Message) (ballot : Ballot) (slot : ℕ) (command : Command) → n ≡ m → ((o : Message) → In o messages → In o has)
    → IsChosenIn n messages ballot slot command → IsChosenIn m has ballot slot command
chosen_more n m messages has ballot slot command same inside h =
    subst (λ (k : ℕ). IsChosenIn k has ballot slot command) same (h.0, h.1, λ node below is. inside (Accepted node ballot slot command) (h.2 node below is))

in_time_had : (in_time has : List Message) (m : Message) → In m has → ((o : Message) → In o in_time → In o has) → (o : Message) → In o (m ∷ in_time) → In o has
in_time_had in_time has m h came o (inl e) = subst (λ (k : Message). In k has) (sym e) h
in_time_had in_time has m h came o (inr i) = came o i

-- with one more vote, to which the learner has an answer, all is counted
vote_counted : (g : Given) (n : ℕ) (has : List Message) (known : List (ℕ × Command)) (old new : Learned) (from : ℕ) (ballot : Ballot) (slot : ℕ) (command : Command) (answer : Option Learnt)
    → (l : IsLearner n has known old) → from < n → is_open old.log slot ≡ true → answer_to old from ballot slot command ≡ Ok answer → hearing old from ballot slot command ≡ new
    → CountsFrom (Accepted from ballot slot command ∷ l.in_time) new × CountsAll (Accepted from ballot slot command ∷ l.in_time) new × KnowsChosen (Accepted from ballot slot command ∷ l.in_time) new
vote_counted g n has known old new from ballot slot command answer l below opens is en =
    let at : IsOpen old.log slot = open_means old.log slot opens in
    let ok : IsOk (answer_to old from ballot slot command) = subst IsOk (sym is) refl in
    let low : from < old.nodes = subst (λ (k : ℕ). from < k) (sym l.nodes) below in
    let m : Message = Accepted from ballot slot command in (
      subst (CountsFrom (m ∷ l.in_time)) en (g.answer_counts (m ∷ l.in_time) old from ballot slot command (inl refl) (g.more l.in_time old m l.counts)),
      subst (CountsAll (m ∷ l.in_time)) en (g.answer_counts_all l.in_time old from ballot slot command low at ok l.counts_all),
      subst (KnowsChosen (m ∷ l.in_time)) en (g.answers_known l.in_time old from ballot slot command l.log at low ok l.counts l.counts_all l.knows_chosen),
    )

-- chosen by the votes that are had, where this one completes them
completed : (x : Scope) (came : List Arrival) (heard : Hearing) (upto : List Command) (t : Turn) (p : Path x came heard upto t) (from : ℕ) (ballot : Ballot) (slot : ℕ) (command : Command)
    → In (Accepted from ballot slot command) p.node.has → is_open t.after.learned.log slot ≡ true → completes t.after.learned from ballot slot command ≡ true
    → IsChosenIn x.place.nodes p.node.has ballot slot command
completed x came heard upto t p from ballot slot command had opens done =
    chosen_more t.after.learned.nodes x.place.nodes (m ∷ l.in_time) p.node.has ballot slot command l.nodes (in_time_had l.in_time p.node.has m had l.came)
    (x.given.completed (m ∷ l.in_time) t.after.learned from ballot slot command (x.given.more l.in_time t.after.learned m l.counts) (inl refl) (open_means t.after.learned.log slot opens) done)
  where
    m : Message
    m = Accepted from ballot slot command

    l : IsLearner x.place.nodes p.node.has p.node.known t.after.learned
    l = p.knows.learner

-- a vote that the node has isn't refused
pub not_refused : (x : Scope) (came : List Arrival) (heard : Hearing) (upto : List Command) (t : Turn) (p : Path x came heard upto t) (from : ℕ) (ballot : Ballot) (slot : ℕ) (command : Command)
    → In (Accepted from ballot slot command) p.node.has → is_err (answer_to t.after.learned from ballot slot command) ≡ false
not_refused x came heard upto t p from ballot slot command had =
    by_tests (is_open t.after.learned.log slot) (completes t.after.learned from ballot slot command) (is_other (known_at t.after.learned.log slot) command) refl refl refl
  where
    by_tests : (ahead done other : Bool) → is_open t.after.learned.log slot ≡ ahead → completes t.after.learned from ballot slot command ≡ done
        → is_other (known_at t.after.learned.log slot) command ≡ other
        → is_err (let r : Result (Option Learnt) SlotFault = if not ahead then Ok None else if not done then Ok None else if other then Err KnownOther
        else Ok (Some (record { slot = slot; command = command })) in r) ≡ false
    by_tests false done other eo ed er = refl
    by_tests true false other eo ed er = refl
    by_tests true true false eo ed er = refl
    by_tests true true true eo ed er =
        let clash : true ≡ false = sym er ∙ no_conflict x came heard upto t p slot command (inl (ballot, completed x came heard upto t p from ballot slot command had eo ed)) in absurd (cc)

hear_by : (x : Scope) (came : List Arrival) (heard : Hearing) (t : Turn) (mid : Learned) (has : List Message) (from : ℕ) (ballot : Ballot) (slot : ℕ) (command : Command) (ahead done other : Bool)
    (l : Learns x came heard t mid has) → In (Accepted from ballot slot command) l.path.node.has → from < x.place.nodes
    → is_open mid.log slot ≡ ahead → completes mid from ballot slot command ≡ done → is_other (known_at mid.log slot) command ≡ other
    → (answer : Result (Option Learnt) SlotFault) → answer_to mid from ballot slot command ≡ answer
    → answer ≡ (if not ahead then Ok None else if not done then Ok None else if other then Err KnownOther else Ok (Some (record { slot = slot; command = command })))
    → (new : Learned) → hearing mid from ballot slot command ≡ new
    → new ≡ (if not ahead then mid else if not done then counting mid from ballot slot command else if other then mid
    else knowing (counting mid from ballot slot command) slot command)
    → Learns x came heard t new has
hear_by x came heard t mid has from ballot slot command false done other l had below eo ed er answer ea answers new en is =
    subst (λ (y : Learned). Learns x came heard t y has) (sym is) l
hear_by x came heard t mid has from ballot slot command true false other l had below eo ed er (Err f) ea answers new en is = absurd (cc)
hear_by x came heard t mid has from ballot slot command true false other l had below eo ed er (Ok a) ea answers new en is =
    let k = l.path.knows.learner in
    let m : Message = Accepted from ballot slot command in
    let counts = vote_counted x.given x.place.nodes l.path.node.has l.path.node.known mid new from ballot slot command a k below eo ea en in
    known_before x came heard t mid new has l (m ∷ k.in_time) (ap (λ (y : Learned). y.log) is) (ap (λ (y : Learned). y.nodes) is) (in_time_had k.in_time l.path.node.has m had k.came)
    counts.0 counts.1 counts.2
hear_by x came heard t mid has from ballot slot command true true true l had below eo ed er answer ea answers new en is =
    let clash : true ≡ false = sym er ∙ no_conflict x came heard (applied t.after) (at_scene t mid (scene_of t.after)) l.path slot command
    (inl (ballot, completed x came heard (applied t.after) (at_scene t mid (scene_of t.after)) l.path from ballot slot command had eo ed)) in absurd (cc)
hear_by x came heard t mid has from ballot slot command true true false l had below eo ed er (Err f) ea answers new en is = absurd (cc)
hear_by x came heard t mid has from ballot slot command true true false l had below eo ed er (Ok a) ea answers new en is =
    let k = l.path.knows.learner in
    let m : Message = Accepted from ballot slot command in
    let counts = vote_counted x.given x.place.nodes l.path.node.has l.path.node.known mid new from ballot slot command a k below eo ea en in
    now_known x came heard t mid new has l slot command (m ∷ k.in_time) (ap (λ (y : Learned). y.log) is) (open_means mid.log slot eo).is_slot (ap (λ (y : Learned). y.nodes) is)
    (inl (ballot, completed x came heard (applied t.after) (at_scene t mid (scene_of t.after)) l.path from ballot slot command had eo ed))
    (in_time_had k.in_time l.path.node.has m had k.came) counts.0 counts.1 counts.2

-- a vote that the node has is counted, and nothing applied yet
hear : (x : Scope) (came : List Arrival) (heard : Hearing) (t : Turn) (mid : Learned) (has : List Message) (from : ℕ) (ballot : Ballot) (slot : ℕ) (command : Command)
    → Learns x came heard t mid has → In (Accepted from ballot slot command) has → from < x.place.nodes
    → Learns x came heard t (hearing mid from ballot slot command) has
hear x came heard t mid has from ballot slot command l had below =
    hear_by x came heard t mid has from ballot slot command _ _ _ l (l.had (Accepted from ballot slot command) had) below refl refl refl
    (answer_to mid from ballot slot command) refl refl (hearing mid from ballot slot command) refl refl

hear_each : (x : Scope) (came : List Arrival) (heard : Hearing) (t : Turn) (mid : Learned) (has : List Message) (from : ℕ) (ballot : Ballot) (slot : ℕ) (commands : List Command)
    → Learns x came heard t mid has → Within (answers from ballot slot commands) has → from < x.place.nodes
    → Learns x came heard t (hearing_each mid from ballot slot commands) has
unfolding hearing_each
hear_each x came heard t mid has from ballot slot [] l had below = l
hear_each x came heard t mid has from ballot slot (command ∷ later) l had below =
    hear_each x came heard t (hearing mid from ballot slot command) has from ballot (slot + 1) later
    (hear x came heard t mid has from ballot slot command l (had (Accepted from ballot slot command) (inl refl)) below) (λ m h. had m (inr h)) below

-- votes that the node has aren't refused
pub none_refused : (x : Scope) (came : List Arrival) (heard : Hearing) (upto : List Command) (t : Turn) (p : Path x came heard upto t) (from : ℕ) (ballot : Ballot) (slot : ℕ) (commands : List Command)
    → Within (answers from ballot slot commands) p.node.has → is_refused t.after.learned from ballot slot commands ≡ false
unfolding is_refused
none_refused x came heard upto t p from ballot slot [] had = refl
none_refused x came heard upto t p from ballot slot (command ∷ later) had =
    ap (λ (b : Bool). if b then true else is_refused t.after.learned from ballot (slot + 1) later)
    (not_refused x came heard upto t p from ballot slot command (had (Accepted from ballot slot command) (inl refl)))
    ∙ none_refused x came heard upto t p from ballot (slot + 1) later (λ m h. had m (inr h))

-- where none is, all are heard, and then what the front has passed is applied
pub heard_is : (place : Place) (from : ℕ) (ballot : Ballot) (slot : ℕ) (commands : List Command) (s : Standing) → is_refused s.learned from ballot slot commands ≡ false
    → counting_votes place from ballot slot commands s ≡ Ok (applying place (hearing_each s.learned from ballot slot commands) s)
heard_is place from ballot slot commands s none = λ j.
    learning place (let r : Result (List Bool) SlotFault = if none j then Err KnownOther
    else Ok (chosen_each s.learned from ballot slot commands ++ replicate (WINDOW - length commands) false) in r)
    (if none j then s.learned else hearing_each s.learned from ballot slot commands) s

-- votes of a node that the node has are counted, and what they complete is applied
pub count : (x : Scope) (came : List Arrival) (heard : Hearing) (t : Turn) (from : ℕ) (ballot : Ballot) (slot : ℕ) (commands : List Command)
    (p : Path x came heard (applied t.after) t) → Within (answers from ballot slot commands) p.node.has → from < x.place.nodes
    → Goes x came heard (behind t (counting_votes x.place from ballot slot commands t.after))
count x came heard t from ballot slot commands p had below =
    subst (λ (r : Result Turn Refusal). Goes x came heard (behind t r))
    (sym (heard_is x.place from ballot slot commands t.after (none_refused x came heard (applied t.after) t p from ballot slot commands had)))
    (apply x came heard t (hearing_each t.after.learned from ballot slot commands) p.node.has
    (hear_each x came heard t t.after.learned p.node.has from ballot slot commands (unlearned x came heard t p) had below))

-- ---- what is told as chosen

tell_by : (x : Scope) (came : List Arrival) (heard : Hearing) (t : Turn) (sender slot : ℕ) (command : Command) (ahead other : Bool)
    (p : Path x came heard (applied t.after) t) → In (Chosen sender slot command) p.node.has → In (Chosen sender slot command) (p.sent ++ x.world.ever)
    → is_open t.after.learned.log slot ≡ ahead → is_other (known_at t.after.learned.log slot) command ≡ other
    → (answer : Result (Unit {0}) SlotFault) → answer ≡ (if not ahead then Ok tt else if other then Err KnownOther else Ok tt)
    → (new : Learned) → with_chosen t.after.learned slot command ≡ new
    → new ≡ (if not ahead then t.after.learned else if other then t.after.learned else knowing t.after.learned slot command)
    → Goes x came heard (behind t (learning x.place answer new t.after))
tell_by x came heard t sender slot command false other p had sent eo er (Err f) answers new en is = absurd (cc)
tell_by x came heard t sender slot command false other p had sent eo er (Ok a) answers new en is =
    apply x came heard t new p.node.has (subst (λ (y : Learned). Learns x came heard t y p.node.has) (sym is) (unlearned x came heard t p))
tell_by x came heard t sender slot command true true p had sent eo er answer answers new en is =
    let clash : true ≡ false = sym er ∙ no_conflict x came heard (applied t.after) t p slot command (inr (sender, sent)) in absurd (cc)
tell_by x came heard t sender slot command true false p had sent eo er (Err f) answers new en is = absurd (cc)
tell_by x came heard t sender slot command true false p had sent eo er (Ok a) answers new en is =
    let first = unlearned x came heard t p in
    let l = first.path.knows.learner in
    let g = x.given in
    apply x came heard t new p.node.has
    (now_known x came heard t t.after.learned new p.node.has first slot command l.in_time (ap (λ (y : Learned). y.log) is) (open_means t.after.learned.log slot eo).is_slot (ap (λ (y : Learned). y.nodes) is)
    (inr (sender, first.had (Chosen sender slot command) had)) l.came
    (subst (CountsFrom l.in_time) en (g.chosen_counts l.in_time t.after.learned slot command l.counts))
    (subst (CountsAll l.in_time) en (g.chosen_counts_all l.in_time t.after.learned slot command l.counts_all))
    (subst (KnowsChosen l.in_time) en (g.chosen_known l.in_time t.after.learned slot command l.log l.knows_chosen)))

-- what another node tells as chosen is known, and applied
pub tell : (x : Scope) (came : List Arrival) (heard : Hearing) (t : Turn) (sender slot : ℕ) (command : Command)
    (p : Path x came heard (applied t.after) t) → In (Chosen sender slot command) p.node.has → In (Chosen sender slot command) (p.sent ++ x.world.ever)
    → Goes x came heard (behind t (learning x.place (answer_to_chosen t.after.learned.log slot command) (with_chosen t.after.learned slot command) t.after))
tell x came heard t sender slot command p had sent =
    tell_by x came heard t sender slot command _ _ p had sent refl refl (answer_to_chosen t.after.learned.log slot command) refl
    (with_chosen t.after.learned slot command) refl refl
