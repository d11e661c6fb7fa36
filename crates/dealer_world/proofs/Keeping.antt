-- In every run of the rules one list is behind the records of all eras.
use Rattle.std.proofs.Common.{◌≡◌, ◌≢◌, ℕ, suc, ◌+◌, ◌<◌, ◌≤◌, inl, inr, Bool, true, false, Option, Some, None, List, [], ◌∷◌, map, length, get_or, set, refl, ap, sym, ◌∙◌, subst, arith, length-set}
use Rattle.std.specs.Prelude.{slice_get, bytes_eq}
use Rattle.std.proofs.lemmas.Bool.{cases_eq, false≢true}
use Rattle.std.proofs.lemmas.List.{get_or_default}
use Rattle.std.proofs.lemmas.Slice.Eq.{bytes_eq-Decides}
use Rattle.slot_log.specs.declared.command.Command.{Command}
use Rattle.slot_log.specs.declared.command.Command.TheVariants.{Deal}
use Rattle.paxos_wire.specs.declared.ballot.Ballot.{Ballot}
use Rattle.protocol_model.specs.Sets.{In}
use Rattle.protocol_model.specs.Messages.{Message, Prepare, Promise, Refuse, Accept, Accepted, Chosen, Ask, Forward, Said, sender_of}
use Rattle.protocol_model.specs.Backing.{Backs, IsAcceptedToo}
use Rattle.protocol_model.specs.Nodes.{Node as WorldNode, new_node}
use Rattle.protocol_model.specs.Stores.{Store, empty_store, unchanged as unchanged_append}
use Rattle.protocol_model.specs.Worlds.{World, Reached}
use Rattle.protocol_model.specs.Dealers.{Dealer}
use Rattle.protocol_model.specs.Moves.{Chain}
use Rattle.protocol_model.specs.Laws.{OwnsMore, IsLeft}
use Rattle.dealer_kind.specs.Kind.{Setting, dealer_of}
use Rattle.dealer_kind.specs.Owning.{OwnsDeals, either}
use Rattle.dealer_kind.specs.Sources.{owns, deal_of, is_deal, deals as deals_of}
use Rattle.dealer_kind.specs.Plans.{Plan, IsPlan}
use Rattle.dealer_kind.specs.declared.source.Source.{Source}
use Rattle.node_rules.specs.Standings.{Place, Standing, place_of, front_of, deals_from, stopped}
use Rattle.node_rules.specs.Turns.{Turn, Refusal}
use Rattle.std.specs.Prelude.{Result}
use Rattle.node_rules.specs.Rules.{IsTurn, standing_after}
use Rattle.node_rules.specs.Calls.{Call, Start, Tick, Away, Line, Connect, Drop, Stop}
use Rattle.node_rules.specs.Calls as call
use Rattle.node_rules.specs.Being.{IsPlace}
use Rattle.node_rules.specs.Called.{Ends, took, refused, failed, unchanged}
use Rattle.node_rules.specs.Sound.{Stands, CallsAreSound, AppendsAreBegun, LinesAreRefusedDown}
use Rattle.dealer_world.specs.Records.{Record, Frame, Arrived, no_record, log_of, last_start, said}
use Rattle.dealer_world.specs.Unforged.{IsUnforged, ArePlaced}
use Rattle.dealer_world.specs.Headline.{Era, said_in, owned_in, dealer_in, OneList}
use Rattle.dealer_world.specs.Calls.{Made, Calls, IsSound, nothing_made}
use Rattle.dealer_world.specs.Views.{grown, placed_at}
use Rattle.dealer_world.specs.Behind.{Behind, EachNode}
use Rattle.dealer_world.specs.Openings.{BehindEras, LeftInside}
use Rattle.dealer_world.specs.Runs.{Ruled, Keeps, IsSeated, arrived_at, arrived_by, IsOfRule}
use Rattle.dealer_world.specs.Given.{Reaches, KnownIsChosen, Given}
use Rattle.dealer_world.specs.RuleRuns.{State, IsCreated, EndsAs, at_rest, in_a_call, AreReopened, plan_of, RunsTo, fresh, step, opened, RunsShowOneList, IsBacked, RunsAreBacked}
use Rattle.protocol_model.proofs.Sets.{in_later}
use Rattle.dealer_world.proofs.Saying.{in_said, unforged_before, placed_after, came_was_sent}
use Rattle.dealer_world.proofs.Heard.{IsAt}
use Rattle.dealer_world.proofs.Extends.{extends, each_at, frame_at, sound_of}
use Rattle.dealer_world.proofs.Opening.{era_of, begins, no_eras, no_eras_world, behind_eras, broken_off, MayLeave, all_rest, widened}
use Rattle.dealer_world.proofs.OneList.{IsOneDealer, IsOneChoice, ChosenAreDealtOrSaid, one_list_of}
use Rattle.dealer_world.proofs.Ruling.{called_by_rule, knew_at, comes_up, events_left}

-- ---- whose deals are whose

-- the deals that count as each node's own: those of the sources, and of the eras before
abbrev pub own_of : Setting → List Source → List Era → ℕ → Command → Bool
own_of setting sources before = either (owns setting.game.players sources) (owned_in setting.game.players before)

same_bytes : (bytes : List ℕ) → bytes_eq bytes bytes ≡ true
same_bytes bytes = (bytes_eq-Decides bytes bytes).1 refl

is_deal_same : (deal : Option (List ℕ)) (cards : List ℕ) → deal ≡ Some cards → is_deal deal cards ≡ true
is_deal_same deal cards is = ap (λ d. is_deal d cards) is ∙ same_bytes cards

owns_by : (players : ℕ) (source : Option Source) (hand : ℕ) (deal : List ℕ) → deals_from players source hand ≡ Some deal → deals_of players source (Deal hand deal) ≡ true
owns_by players None hand deal is = absurd cc
owns_by players (Some source) hand deal is = is_deal_same (deal_of players source hand) deal is

or_left_true : (a b : Bool) → a ≡ true → either (λ node command. a) (λ node command. b) 0 (Deal 0 []) ≡ true
or_left_true true b is = refl
or_left_true false b is = cc

pub is_place : (setting : Setting) (sources : List Source) (before : List Era) (i : ℕ) → IsPlan (plan_of setting sources) → i < length sources
    → IsPlace (own_of setting sources before) (place_of (plan_of setting sources) i)
is_place setting sources before i kept less = record {
  few = kept.nodes;
  node = less;
  match = kept.within;
  owns = λ hand deal is. or_left_true (owns setting.game.players sources i (Deal hand deal)) (owned_in setting.game.players before i (Deal hand deal))
      (owns_by setting.game.players (slice_get sources i) hand deal is);
}

-- a standing of node i is the world's node
abbrev pub IsNode : Setting → List Source → List Era → ℕ → Standing → WorldNode → List ℕ → Type 0
IsNode setting sources before i s there log = IsOfRule (own_of setting sources before) (place_of (plan_of setting sources) i) s there log

-- ---- what arrived

pub arrived_here : (i front : ℕ) (up : Bool) (called : Call) (what : Arrived) → In what (arrived_at up i front called) → IsAt i what
arrived_here i front false called what there = elim there [ ]
arrived_here i front true (Start found) what there = elim there [ ]
arrived_here i front true Tick what there = elim there [ ]
arrived_here i front true Away what (inl is) = subst (IsAt i) (sym is) refl
arrived_here i front true Away what (inr none) = elim none [ ]
arrived_here i front true (call.Frame from bytes) what (inl is) = subst (IsAt i) (sym is) refl
arrived_here i front true (call.Frame from bytes) what (inr none) = elim none [ ]
arrived_here i front true (Line seat bytes) what (inl is) = subst (IsAt i) (sym is) refl
arrived_here i front true (Line seat bytes) what (inr none) = elim none [ ]
arrived_here i front true (Connect seat) what (inl is) = subst (IsAt i) (sym is) refl
arrived_here i front true (Connect seat) what (inr none) = elim none [ ]
arrived_here i front true (Drop seat) what (inl is) = subst (IsAt i) (sym is) refl
arrived_here i front true (Drop seat) what (inr none) = elim none [ ]
arrived_here i front true Stop what there = elim there [ ]

at_node : (place : Place) (s : Standing) (called : Call) (arrived : List Arrived) (made : Made) (new : Standing) → Ruled place s called arrived made new
    → (what : Arrived) → In what arrived → IsAt place.node what
at_node place s called arrived made new r what there = by_end r.ends r.keeps
  where
    by_end : (ends : Ends place s called new r.frames r.shown) → Keeps place s called new r.frames r.shown ends arrived made.began → IsAt place.node what
    by_end (took turn turned same frames shown) (came, began) = arrived_here place.node (front_of s) s.up called what (subst (In what) came there)
    by_end (refused refusal turn same frames shown) (came, began) = arrived_here place.node (front_of s) s.up called what (subst (In what) came there)
    by_end (failed outcome begun up turn either same frames shown) (came, began) = arrived_here place.node (front_of s) s.up called what (subst (In what) came there)
    by_end (unchanged same frames shown) (came, began) = elim (subst (In what) came there) [ ]

-- ---- the calls of the rules, in the world

calls_by_rule : (setting : Setting) (sources : List Source) (before : List Era) (n i : ℕ) (s : Standing) (called : Call) (arrived : List Arrived) (made : Made) (new : Standing)
    → CallsAreSound → LinesAreRefusedDown → IsPlan (plan_of setting sources) → n ≡ length sources → i < n → Ruled (place_of (plan_of setting sources) i) s called arrived made new
    → Calls (IsNode setting sources before) (dealer_of setting (own_of setting sources before)) n i s arrived made new
calls_by_rule setting sources before n i s called arrived made new law refused_down kept is less ruled = subst
    (λ m. i < m → Calls (IsNode setting sources before) (dealer_of setting (own_of setting sources before)) m i s arrived made new) (sym is)
    (λ within world log reached below of sound.
    called_by_rule (own_of setting sources before) (place_of (plan_of setting sources) i) world log s called arrived made new law refused_down (is_place setting sources before i kept within) reached of ruled sound)
    less

-- ---- a new cluster

new_is : (setting : Setting) (sources : List Source) (i : ℕ) (s : Standing) → IsCreated (plan_of setting sources) i s → IsNode setting sources [] i s new_node []
new_is setting sources i s is = subst (λ (k : Standing). IsNode setting sources [] i k new_node []) (sym is)
    (record { of = record { up = refl; store = refl; begun = refl; runs = λ up. absurd (false≢true up) }; logs = λ up. absurd (false≢true up) })

each_new : (setting : Setting) (sources : List Source) (i : ℕ) (standings : List Standing) → EachNode (IsCreated (plan_of setting sources)) i standings
    → EachNode (λ k s. IsNode setting sources [] k s new_node []) i standings
each_new setting sources i [] all = tt
each_new setting sources i (s ∷ more) (is, all) = (new_is setting sources i s is, each_new setting sources (i + 1) more all)

-- ---- an opened cluster

pub each_here : {Node : Type 0} (IsSo : ℕ → Node → Type 0) (i : ℕ) (nodes : List Node) (d : Node) → i < length nodes → EachNode IsSo 0 nodes → IsSo i (get_or nodes i d)
each_here IsSo i nodes d less each = let e : 0 + i ≡ i = omega arith in subst (λ j. IsSo j (get_or nodes i d)) e (each_at IsSo 0 i nodes d less each)

-- the stores that the nodes of a world have, by their standings
abbrev HaveStores : World → ℕ → List Standing → Type 0
HaveStores world i [] = Unit {0}
HaveStores world i (s ∷ more) = ((world.nodes i).store ≡ s.store) × HaveStores world (i + 1) more

have_from : (world : World) (k : ℕ) (standings : List Standing) (d : Standing) → ((i : ℕ) → i < length standings → (world.nodes (k + i)).store ≡ (get_or standings i d).store) → HaveStores world k standings
have_from world k [] d each = tt
have_from world k (s ∷ more) d each =
    let e : k + 0 ≡ k = omega arith in (
      subst (λ j. (world.nodes j).store ≡ s.store) e (each 0 (omega arith)),
      have_from world (k + 1) more d (λ i less. let f : k + suc i ≡ (k + 1) + i = omega arith in subst (λ j. (world.nodes j).store ≡ (get_or more i d).store) f (each (suc i) (omega arith))),
    )

same_count : (plan : Plan) (begun : ℕ → Store) (i : ℕ) (old new : List Standing) → AreReopened plan begun i old new → length new ≡ length old
same_count plan begun i [] [] are = refl
same_count plan begun i [] (t ∷ more) are = absurd are
same_count plan begun i (s ∷ before) [] are = absurd are
same_count plan begun i (s ∷ before) (t ∷ more) (is, are) = ap suc (same_count plan begun (i + 1) before more are)

reopened_is : (setting : Setting) (others : List Source) (eras : List Era) (i : ℕ) (s t : Standing) (begun : Store) (there : WorldNode)
    → t ≡ stopped (place_of (plan_of setting others) i) s.store begun → there.up ≡ false → there.store ≡ s.store → there.begun ≡ begun → IsNode setting others eras i t there []
reopened_is setting others eras i s t begun there is down store begun_is = subst (λ (k : Standing). IsNode setting others eras i k there []) (sym is)
    (record { of = record { up = down; store = store; begun = begun_is; runs = λ up. absurd (false≢true up) }; logs = λ up. absurd (false≢true up) })

each_reopened : (setting : Setting) (others : List Source) (eras : List Era) (begun : ℕ → Store) (world : World) (n k : ℕ) (old new : List Standing)
    → AreReopened (plan_of setting others) begun k old new → HaveStores world k old → k + length old ≤ n
    → ((i : ℕ) → i < n → (world.nodes i).up ≡ false) → ((i : ℕ) → i < n → (world.nodes i).begun ≡ begun i)
    → EachNode (λ i t. IsNode setting others eras i t (world.nodes i) []) k new
each_reopened setting others eras begun world n k [] [] are have most down is_begun = tt
each_reopened setting others eras begun world n k [] (t ∷ more) are have most down is_begun = absurd are
each_reopened setting others eras begun world n k (s ∷ before) [] are have most down is_begun = absurd are
each_reopened setting others eras begun world n k (s ∷ before) (t ∷ more) (is, are) (store, have) most down is_begun = (
  reopened_is setting others eras k s t (begun k) (world.nodes k) is (down k (omega arith)) store (is_begun k (omega arith)),
  each_reopened setting others eras begun world n (k + 1) before more are have (omega arith) down is_begun,
)

-- ---- what a node leaves

leaves_at_rest : (setting : Setting) (sources : List Source) (before : List Era) (i : ℕ) (s : Standing) (there : WorldNode) (log : List ℕ) (begun : Store)
    → IsNode setting sources before i s there log → begun ≡ s.begun → MayLeave i there begun
leaves_at_rest setting sources before i s there log begun of is = by_up s.up refl
  where
    by_up : (up : Bool) → s.up ≡ up → MayLeave i there begun
    by_up true up = record {
      left = inl (of.of.up ∙ up, unchanged_append begun (is ∙ ((of.of.runs up).unbegun ∙ sym of.of.store)));
      same = λ down. absurd (false≢true (sym down ∙ (of.of.up ∙ up)));
    }
    by_up false down = record {
      left = inr (of.of.up ∙ down, inr (is ∙ sym of.of.begun));
      same = λ still. is ∙ sym of.of.begun;
    }

-- a world behind all eras, whose nodes are down, each with the store of its standing and with this begun
record Ended (setting : Setting) (sources : List Source) (before : List Era) (old : State) (eras : List Era) (begun : ℕ → Store) : Type 0 where
  behind : BehindEras (dealer_of setting (own_of setting sources before)) (length old.standings) eras
  down : (i : ℕ) → i < length old.standings → (behind.world.nodes i).up ≡ false
  have : HaveStores behind.world 0 old.standings
  is_begun : (i : ℕ) → i < length old.standings → (behind.world.nodes i).begun ≡ begun i

abbrev pub BehindRules : Setting → List Source → List Era → State → Type 0
BehindRules setting sources before state = Behind (IsNode setting sources before) (dealer_of setting (own_of setting sources before)) state.standings state.now before

ended_by : (setting : Setting) (sources : List Source) (before : List Era) (old : State) (eras : List Era) (begun : ℕ → Store) → Reaches
    → (be : BehindEras (dealer_of setting (own_of setting sources before)) (length old.standings) eras)
    → ((i : ℕ) → i < length old.standings → MayLeave i (be.world.nodes i) (begun i))
    → ((i : ℕ) (d : Standing) → i < length old.standings → (be.world.nodes i).store ≡ (get_or old.standings i d).store) → Ended setting sources before old eras begun
ended_by setting sources before old eras begun reach be may stores =
    let rests = all_rest (dealer_of setting (own_of setting sources before)) (length old.standings) eras begun reach be may in
    let d : Standing = stopped (place_of (plan_of setting sources) 0) empty_store empty_store in
    record {
      behind = rests.behind;
      down = rests.down;
      have = have_from rests.behind.world 0 old.standings d (λ i less. let e : 0 + i ≡ i = omega arith in
          subst (λ j. (rests.behind.world.nodes j).store ≡ (get_or old.standings i d).store) (sym e) (rests.store i less ∙ stores i d less));
      is_begun = rests.begun;
    }

ended_at_rest : (setting : Setting) (sources : List Source) (before : List Era) (old : State) (begun : ℕ → Store) → Reaches → BehindRules setting sources before old
    → EachNode (λ i s. begun i ≡ s.begun) 0 old.standings → Ended setting sources before old (era_of sources old.now ∷ before) begun
ended_at_rest setting sources before old begun reach b are =
    let d : Standing = stopped (place_of (plan_of setting sources) 0) empty_store empty_store in
    ended_by setting sources before old (era_of sources old.now ∷ before) begun reach
    (behind_eras (IsNode setting sources before) (dealer_of setting (own_of setting sources before)) old.standings old.now sources before b)
    (λ i less. leaves_at_rest setting sources before i (get_or old.standings i d) (b.world.nodes i) _ (begun i) (each_here _ i old.standings d less b.are_of) (each_here _ i old.standings d less are))
    (λ i other less. (each_here _ i old.standings other less b.are_of).of.store)

ended_in_a_call : (setting : Setting) (sources : List Source) (before : List Era) (old : State) (begun : ℕ → Store) (node : ℕ) (s : Standing) (called : Call) (outcome : Result Turn Refusal) → Reaches → KnownIsChosen → AppendsAreBegun
    → IsPlan (plan_of setting sources) → length old.standings ≡ length sources → node < length old.standings → get_or old.standings node s ≡ s → s.up ≡ true
    → IsSeated setting.game.players called → IsTurn (place_of (plan_of setting sources) node) s called outcome
    → IsUnforged (grown old.now node (arrived_by node (front_of s) called) nothing_made).sent (grown old.now node (arrived_by node (front_of s) called) nothing_made).delivered
    → begun node ≡ (standing_after (place_of (plan_of setting sources) node) s outcome).begun → EachNode (λ i other. i ≢ node → begun i ≡ other.begun) 0 old.standings
    → BehindRules setting sources before old → Ended setting sources before old (era_of sources (grown old.now node (arrived_by node (front_of s) called) nothing_made) ∷ before) begun
ended_in_a_call setting sources before old begun node s called outcome reach known appends kept count less at up seated turn unforged begun_here others b =
    let own = own_of setting sources before in
    let dealer = dealer_of setting own in
    let place = place_of (plan_of setting sources) node in
    let arrived = arrived_by node (front_of s) called in
    let within : node < length sources = subst (λ m. node < m) count less in
    let is_at : (what : Arrived) → In what arrived → IsAt node what = λ what there. arrived_here node (front_of s) true called what there in
    let IsSo : ℕ → Standing → Type 0 = λ i k. IsNode setting sources before i k (b.world.nodes i) (log_of old.now.shown i (last_start old.now.starts i)) in
    let IsBegun : ℕ → Standing → Type 0 = λ i k. i ≢ node → begun i ≡ k.begun in
    let of = subst (IsSo node) at (each_here IsSo node old.standings s less b.are_of) in
    let stands : Stands own place b.world s = record { is_place = is_place setting sources before node kept within; reached = subst (λ m. Reached dealer m b.world) count b.reached; of = of.of } in
    let comes = comes_up place (front_of s) b.world.ever called arrived seated refl (λ frame there.
    subst (λ m. IsSound m node b.world.ever frame) count
    (sound_of (IsNode setting sources before) dealer old.standings old.now before node b frame (came_was_sent old.now.sent [] old.now.delivered arrived unforged frame there) (frame_at node arrived frame is_at there))) in
    let begins = appends own place b.world s called outcome stands comes up turn in
    let inside : LeftInside dealer (length old.standings) node b.world.ever (b.world.nodes node) arrived (begun node) = record {
      output = begins.output;
      last = begins.last;
      chain = subst (λ m. Chain dealer m node b.world.ever (b.world.nodes node) begins.output begins.last) (sym count) begins.chain;
      left = subst (IsLeft node begins.last) (sym begun_here) begins.left;
      none_accepted = begins.unaccepted;
      none_shown = begins.unshown;
      knew = λ other front there. knew_at own place b.world s called other front of.of up there;
      came = events_left node (front_of s) called begins.output.came begins.happened;
    } in
    let bo = broken_off (IsNode setting sources before) dealer old.standings old.now sources before node arrived (begun node) reach known less is_at b (λ some. of.of.up ∙ up) inside in
    let d : Standing = stopped (place_of (plan_of setting sources) 0) empty_store empty_store in
    ended_by setting sources before old (era_of sources (grown old.now node arrived nothing_made) ∷ before) begun reach bo.behind
    (λ i below. elim (cases_eq i node) [
      | inl is ↦ subst (λ j. MayLeave j (bo.behind.world.nodes j) (begun j)) (sym is)
          (subst (λ there. MayLeave node there (begun node)) (sym bo.moved)
          (record { left = inside.left; same = λ down. absurd (false≢true (sym down ∙ begins.up)) }))
      | inr other ↦ subst (λ there. MayLeave i there (begun i)) (sym (bo.others i other))
          (leaves_at_rest setting sources before i (get_or old.standings i d) (b.world.nodes i) (log_of old.now.shown i (last_start old.now.starts i)) (begun i) (each_here IsSo i old.standings d below b.are_of) (each_here IsBegun i old.standings d below others other))
    ])
    (λ i other_d below. elim (cases_eq i node) [
      | inl is ↦ subst (λ j. (bo.behind.world.nodes j).store ≡ (get_or old.standings j other_d).store) (sym is)
          (ap (λ (there : WorldNode). there.store) bo.moved ∙ (begins.same_store ∙ (of.of.store ∙ ap (λ (k : Standing). k.store) (sym at ∙ get_or_default old.standings node s other_d less))))
      | inr other ↦ ap (λ (there : WorldNode). there.store) (bo.others i other) ∙ (each_here IsSo i old.standings other_d below b.are_of).of.store
    ])

-- ---- the run

pub record Kept (setting : Setting) (n : ℕ) (before : List Era) (sources : List Source) (state : State) : Type 0 where
  pub plan : IsPlan (plan_of setting sources)
  pub sources_are : length sources ≡ n
  pub count : length state.standings ≡ n
  pub placed : ArePlaced state.now.sent state.now.delivered
  pub deals : OwnsDeals (own_of setting sources before)
  pub behind : IsUnforged state.now.sent state.now.delivered → BehindRules setting sources before state

none_own : OwnsDeals (λ node command. false)
none_own node command owned = absurd (false≢true owned)

era_is : (latest : Era) (sources : List Source) (all : Record) → latest.sources ≡ sources → latest.record_of ≡ all → era_of sources all ≡ latest
era_is latest sources all same is = ap (λ (ss : List Source). era_of ss all) (sym same) ∙ ap (λ (r : Record). era_of latest.sources r) (sym is)

ended_as : (laws : Given) (setting : Setting) (n : ℕ) (before : List Era) (sources : List Source) (old : State) (latest : Era) (begun : ℕ → Store) → Kept setting n before sources old
    → EndsAs (plan_of setting sources) old latest.record_of begun → latest.sources ≡ sources → IsUnforged latest.record_of.sent latest.record_of.delivered
    → Ended setting sources before old (latest ∷ before) begun
ended_as laws setting n before sources old latest begun was (at_rest all each) same unforged =
    subst (λ (era : Era). Ended setting sources before old (era ∷ before) begun) (era_is latest sources old.now same all)
    (ended_at_rest setting sources before old begun laws.reach (was.behind (subst (λ (r : Record). IsUnforged r.sent r.delivered) all unforged)) each)
ended_as laws setting n before sources old latest begun was (in_a_call node s called outcome less at up seated turn all begun_here others) same unforged =
    let now_unforged = subst (λ (r : Record). IsUnforged r.sent r.delivered) all unforged in
    subst (λ (era : Era). Ended setting sources before old (era ∷ before) begun) (era_is latest sources (grown old.now node (arrived_by node (front_of s) called) nothing_made) same all)
    (ended_in_a_call setting sources before old begun node s called outcome laws.reach laws.known laws.appends was.plan (was.count ∙ sym was.sources_are) less at up seated turn now_unforged begun_here others
    (was.behind (unforged_before old.now.sent [] old.now.delivered (map (placed_at (length old.now.sent)) (arrived_by node (front_of s) called)) was.placed now_unforged)))

begun_behind : (setting : Setting) (others : List Source) (eras : List Era) (dealer : Dealer) (m : ℕ) (standings : List Standing) → length standings ≡ m → (be : BehindEras dealer m eras)
    → ((i : ℕ) → i < m → (be.world.nodes i).up ≡ false) → EachNode (λ i t. IsNode setting others eras i t (be.world.nodes i) []) 0 standings
    → Behind (IsNode setting others eras) dealer standings no_record eras
begun_behind setting others eras dealer m standings size be down each =
    (subst (λ k. (be : BehindEras dealer k eras) → ((i : ℕ) → i < k → (be.world.nodes i).up ≡ false) → EachNode (λ i t. IsNode setting others eras i t (be.world.nodes i) []) 0 standings
    → Behind (IsNode setting others eras) dealer standings no_record eras) size (begins (IsNode setting others eras) dealer standings eras)) be down each

opened_behind : (laws : Given) (setting : Setting) (before : List Era) (sources : List Source) (old : State) (latest : Era) (begun : ℕ → Store) (others : List Source) (state : State)
    → latest.sources ≡ sources → Ended setting sources before old (latest ∷ before) begun → AreReopened (plan_of setting others) begun 0 old.standings state.standings → state.now ≡ no_record
    → BehindRules setting others (latest ∷ before) state
opened_behind laws setting before sources old latest begun others state same ended are empty =
    let players = setting.game.players in
    let old_own = own_of setting sources before in
    let owned : owned_in players (latest ∷ before) ≡ old_own = ap (λ (ss : List Source). own_of setting ss before) same in
    let new_own = own_of setting others (latest ∷ before) in
    let more : OwnsMore (dealer_of setting old_own) new_own = subst (λ (own : ℕ → Command → Bool). OwnsMore (dealer_of setting own) (either (owns players others) (owned_in players (latest ∷ before)))) owned
    (laws.second setting (owns players others) (owned_in players (latest ∷ before))) in
    let wide = widened (dealer_of setting old_own) new_own (length old.standings) (latest ∷ before) laws.widen more ended.behind in
    let same_world = wide.1 in
    let size = same_count (plan_of setting others) begun 0 old.standings state.standings are in
    let is_be : BehindEras (dealer_of setting new_own) (length old.standings) (latest ∷ before) = wide.0 in
    let each = each_reopened setting others (latest ∷ before) begun ended.behind.world (length old.standings) 0 old.standings state.standings are ended.have (omega arith) ended.down ended.is_begun in
    subst (λ (now : Record). Behind (IsNode setting others (latest ∷ before)) (dealer_of setting new_own) state.standings now (latest ∷ before)) (sym empty)
    (begun_behind setting others (latest ∷ before) (dealer_of setting new_own) (length old.standings) state.standings size is_be
    (subst (λ (w : World). (i : ℕ) → i < length old.standings → (w.nodes i).up ≡ false) (sym same_world) ended.down)
    (subst (λ (w : World). EachNode (λ i t. IsNode setting others (latest ∷ before) i t (w.nodes i) []) 0 state.standings) (sym same_world) each))

pub run_keeps : (laws : Given) (setting : Setting) (n : ℕ) (before : List Era) (sources : List Source) (state : State) → RunsTo setting n before sources state → Kept setting n before sources state
run_keeps laws setting n _ _ _ (fresh sources state plan are is) = record {
  plan = plan;
  sources_are = are;
  count = is.count ∙ are;
  placed = subst (λ (now : Record). ArePlaced now.sent now.delivered) (sym is.empty) (λ arrival there. elim there [ ]);
  deals = laws.both_deal (owns setting.game.players sources) (λ node command. false) (laws.source_deals setting.game.players sources) none_own;
  behind = λ unforged.
      let dealer = dealer_of setting (own_of setting sources []) in
      let n' = length state.standings in
      subst (λ (now : Record). Behind (IsNode setting sources []) dealer state.standings now []) (sym is.empty)
      (begins (IsNode setting sources []) dealer state.standings [] (no_eras dealer n')
      (λ i less. ap (λ (w : World). (w.nodes i).up) (no_eras_world dealer n'))
      (subst (λ (w : World). EachNode (λ i s. IsNode setting sources [] i s (w.nodes i) []) 0 state.standings) (sym (no_eras_world dealer n')) (each_new setting sources 0 state.standings is.each)));
}
run_keeps laws setting n _ _ _ (step before sources old state run s) =
    let was = run_keeps laws setting n before sources old run in
    let dealer = dealer_of setting (own_of setting sources before) in
    record {
      plan = was.plan;
      sources_are = was.sources_are;
      count = ap length s.standings ∙ (length-set old.standings s.node s.after ∙ was.count);
      placed = subst (λ (now : Record). ArePlaced now.sent now.delivered) (sym s.grows) (placed_after old.now.sent s.made.frames old.now.delivered s.arrived was.placed);
      deals = was.deals;
      behind = λ unforged.
          let now_unforged : IsUnforged (grown old.now s.node s.arrived s.made).sent (grown old.now s.node s.arrived s.made).delivered = subst (λ (now : Record). IsUnforged now.sent now.delivered) s.grows unforged in
          subst (λ (standings : List Standing). Behind (IsNode setting sources before) dealer standings state.now before) (sym s.standings)
          (subst (λ (now : Record). Behind (IsNode setting sources before) dealer (set old.standings s.node s.after) now before) (sym s.grows)
          (extends (IsNode setting sources before) dealer s.node old.standings s.before s.after s.arrived s.made old.now before laws.reach laws.known s.is_node s.at
          (calls_by_rule setting sources before (length old.standings) s.node s.before s.called s.arrived s.made s.after laws.calls laws.refused_down was.plan (was.count ∙ sym was.sources_are) s.is_node s.ruled)
          (at_node (place_of (plan_of setting sources) s.node) s.before s.called s.arrived s.made s.after s.ruled)
          (came_was_sent old.now.sent s.made.frames old.now.delivered s.arrived now_unforged)
          (was.behind (unforged_before old.now.sent s.made.frames old.now.delivered _ was.placed now_unforged))));
    }
run_keeps laws setting n _ _ _ (opened before sources old latest begun others state run ends same unforged plan are reopened empty) =
    let was = run_keeps laws setting n before sources old run in
    record {
      plan = plan;
      sources_are = are;
      count = same_count (plan_of setting others) begun 0 old.standings state.standings reopened ∙ was.count;
      placed = subst (λ (now : Record). ArePlaced now.sent now.delivered) (sym empty) (λ arrival there. elim there [ ]);
      deals = laws.both_deal (owns setting.game.players others) (owned_in setting.game.players (latest ∷ before)) (laws.source_deals setting.game.players others)
          (subst (λ (ss : List Source). OwnsDeals (own_of setting ss before)) (sym same) was.deals);
      behind = λ now_unforged. opened_behind laws setting before sources old latest begun others state same (ended_as laws setting n before sources old latest begun was ends same unforged) reopened empty;
    }

pub runs_show_one_list : Given → IsOneDealer → IsOneChoice → ChosenAreDealtOrSaid → RunsShowOneList
runs_show_one_list laws one_dealer one_choice dealt setting n before sources state run unforged =
    let was = run_keeps laws setting n before sources state run in
    subst (λ m. OneList (dealer_in setting (era_of sources state.now ∷ before)) m (era_of sources state.now ∷ before)) was.count
    (one_list_of (IsNode setting sources before) setting state.standings (era_of sources state.now) before one_dealer one_choice dealt was.deals (was.behind unforged))

-- ---- what was said is backed

-- the law on stores that nodes of the world may leave
abbrev pub StoresBack : Type 0
StoresBack = (dealer : Dealer) (n i : ℕ) (world : World) (store : Store) (message : Message)
    → Reached dealer n world → IsLeft i (world.nodes i) store → In message world.ever → sender_of message ≡ i → IsAcceptedToo world.ever message → Backs store message

accepted_too : (sent : List Frame) (ever : List Message) (message : Message) → ((m : Message) → In m (said sent) → In m ever)
    → ((ballot : Ballot) (slot : ℕ) (command : Command) → In (Accept ballot slot command) (said sent) → In (Accepted ballot.node ballot slot command) (said sent))
    → In message (said sent) → IsAcceptedToo ever message
accepted_too sent ever (Prepare ballot slot) carried accepts there = tt
accepted_too sent ever (Promise sender ballot slot told) carried accepts there = tt
accepted_too sent ever (Refuse sender ballot slot greater) carried accepts there = tt
accepted_too sent ever (Accept ballot slot command) carried accepts there = carried (Accepted ballot.node ballot slot command) (accepts ballot slot command there)
accepted_too sent ever (Accepted sender ballot slot command) carried accepts there = tt
accepted_too sent ever (Chosen sender slot command) carried accepts there = tt
accepted_too sent ever (Ask sender slot) carried accepts there = tt
accepted_too sent ever (Forward sender command) carried accepts there = tt
accepted_too sent ever (Said sender command) carried accepts there = tt

pub each_from : {Node : Type 0} (IsSo : ℕ → Node → Type 0) (k : ℕ) (nodes : List Node) (d : Node) → ((i : ℕ) → i < length nodes → IsSo (k + i) (get_or nodes i d)) → EachNode IsSo k nodes
each_from IsSo k [] d each = tt
each_from IsSo k (node ∷ nodes) d each =
    let e : k + 0 ≡ k = omega arith in (
      subst (λ j. IsSo j node) e (each 0 (omega arith)),
      each_from IsSo (k + 1) nodes d (λ i less. let f : k + suc i ≡ (k + 1) + i = omega arith in subst (λ j. IsSo j (get_or nodes i d)) f (each (suc i) (omega arith))),
    )

backed_at : (setting : Setting) (sources : List Source) (before : List Era) (state : State) → StoresBack → (b : BehindRules setting sources before state) → (i : ℕ) (s : Standing) (log : List ℕ)
    → IsNode setting sources before i s (b.world.nodes i) log → IsBacked state.now.sent i s
backed_at setting sources before state law b i s log of frame message sent from says =
    let dealer = dealer_of setting (own_of setting sources before) in
    let here = in_said frame state.now.sent message sent says in
    let ever = b.carried message (in_later (said_in before) (said state.now.sent) message here) in
    let own : sender_of message ≡ i = (b.own frame sent).own message says ∙ from in
    let too = accepted_too state.now.sent b.world.ever message (λ m h. b.carried m (in_later (said_in before) (said state.now.sent) m h)) b.accepts here in (
      by_up s.up refl ever own too,
      by_begun s.up refl (by_up s.up refl ever own too) ever own too,
    )
  where
    by_begun : (up : Bool) → s.up ≡ up → Backs s.store message → In message b.world.ever → sender_of message ≡ i → IsAcceptedToo b.world.ever message → Backs s.begun message
    by_begun true up back ever own too = subst (λ (store : Store). Backs store message) (sym (of.of.runs up).unbegun) back
    by_begun false down back ever own too =
        law (dealer_of setting (own_of setting sources before)) (length state.standings) i b.world s.begun message b.reached (inr (of.of.up ∙ down, inr (sym of.of.begun))) ever own too

    by_up : (up : Bool) → s.up ≡ up → In message b.world.ever → sender_of message ≡ i → IsAcceptedToo b.world.ever message → Backs s.store message
    by_up true up ever own too =
        law (dealer_of setting (own_of setting sources before)) (length state.standings) i b.world s.store message b.reached (inl (of.of.up ∙ up, unchanged_append s.store (sym of.of.store))) ever own too
    by_up false down ever own too =
        law (dealer_of setting (own_of setting sources before)) (length state.standings) i b.world s.store message b.reached (inr (of.of.up ∙ down, inl (sym of.of.store))) ever own too

pub runs_are_backed : Given → StoresBack → RunsAreBacked
runs_are_backed laws back setting n before sources state run unforged =
    let was = run_keeps laws setting n before sources state run in
    let b = was.behind unforged in
    let d : Standing = stopped (place_of (plan_of setting sources) 0) empty_store empty_store in
    let IsSo : ℕ → Standing → Type 0 = λ i k. IsNode setting sources before i k (b.world.nodes i) (log_of state.now.shown i (last_start state.now.starts i)) in
    each_from (IsBacked state.now.sent) 0 state.standings d (λ i less.
    let e : 0 + i ≡ i = omega arith in
    subst (λ j. IsBacked state.now.sent j (get_or state.standings i d)) (sym e)
    (backed_at setting sources before state back b i (get_or state.standings i d) (log_of state.now.shown i (last_start state.now.starts i)) (each_here IsSo i state.standings d less b.are_of)))
