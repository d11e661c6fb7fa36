-- The tables that nodes had are tables of one match: what was done up to some moment is a run too.
use Rattle.std.proofs.Common.{◌≡◌, ℕ, ◌+◌, ◌≤◌, inl, inr, Bool, if◌then◌else◌, List, [], ◌∷◌, ◌++◌, append_assoc, length, map, drop, IsTrue, refl, ap, sym, ◌∙◌, subst, arith}
use Rattle.std.proofs.Math.Logic.{∥∥₁_map, ∥∥₁_elim}
use Rattle.std.proofs.lemmas.Bool.{cases_lt}
use Rattle.std.proofs.lemmas.Bool.Decides.{eqb_tells}
use Rattle.std.proofs.lemmas.List.{length-append, take-append-le}
use Rattle.std.specs.List.{AllByRecursion}
use Rattle.promise_store.specs.declared.disk.Disk.{Ghosts}
use Rattle.slot_log.specs.Beginnings.{IsBeginning}
use Rattle.slot_log.specs.Hand.{Match}
use Rattle.slot_log.specs.declared.command.Command.{Command}
use Rattle.protocol_model.specs.Sets.{In}
use Rattle.protocol_model.specs.Messages.{Message, Accepted}
use Rattle.protocol_model.specs.Quorums.{AreChosen}
use Rattle.protocol_model.proofs.Sets.{in_first, in_later, in_split}
use Rattle.dealer_kind.specs.Kind.{Setting}
use Rattle.dealer_kind.specs.declared.source.Source.{Source}
use Rattle.node_rules.specs.Standings.{Place, Standing, place_of, applied}
use Rattle.dealer_node.specs.Scenes.{IsTableOf}
use Rattle.dealer_node.specs.Seeing.{begun_of}
use Rattle.dealer_world.specs.Records.{Frame, Arrived, Arrival, said, said_by}
use Rattle.dealer_world.specs.RuleRuns.{plan_of}
use Rattle.dealer_world.specs.Unforged.{IsAmong, IsUnforged, ArePlaced}
use Rattle.dealer_world.specs.Views.{placed_at}
use Rattle.stations.specs.Deeds.{Deed, Did, new_at, Doing, deeds_of, record_of}
use Rattle.stations.specs.Moments.{MakesTable}
use Rattle.stations.specs.Joining.{DidAt, AreProcesses, ProcessesApplyTheChosen, ProcessesChooseOneList}
use Rattle.stations.specs.Stations.{known_place, LeavesFile}
use Rattle.stations.specs.Tables.{ShowsBeginning, WasTable, TablesAreOfOneMatch}
use Rattle.stations.proofs.OwnTables.{beginning_on, had_done}

-- ---- what was done up to some moment

rest_of : {A : Type 0} (x y : A) (xs ys : List A) → x ∷ xs ≡ y ∷ ys → xs ≡ ys
rest_of x y xs ys e = ap (λ (l : List _). drop 1 l) e

-- the moment at which a node had done so much
pub record Cut (i : ℕ) (all : List Doing) (done : List Deed) : Type 0 where
  newer : List Doing
  earlier : List Doing
  whole : all ≡ newer ++ earlier
  here : deeds_of earlier i ≡ done

cut_at : (i : ℕ) (all : List Doing) (since done : List Deed) → deeds_of all i ≡ since ++ done → Cut i all done
cut_at i all [] done is = record { newer = []; earlier = all; whole = refl; here = is }
cut_at i [] (deed ∷ since) done is = absurd cc
cut_at i (doing ∷ before) (deed ∷ since) done is = elim (eqb_tells doing.node i) as (λ _. Cut i (doing ∷ before) done) [
  | inl same ↦
      let e : doing.deed ∷ deeds_of before i ≡ deed ∷ (since ++ done) = sym (ap (λ (b : Bool). if b then doing.deed ∷ deeds_of before i else deeds_of before i) same.0) ∙ is in
      let cut = cut_at i before since done (rest_of doing.deed deed (deeds_of before i) (since ++ done) e) in
      record { newer = doing ∷ cut.newer; earlier = cut.earlier; whole = ap (λ (ds : List Doing). doing ∷ ds) cut.whole; here = cut.here }
  | inr other ↦
      let e : deeds_of before i ≡ (deed ∷ since) ++ done = sym (ap (λ (b : Bool). if b then doing.deed ∷ deeds_of before i else deeds_of before i) other.0) ∙ is in
      let cut = cut_at i before (deed ∷ since) done e in
      record { newer = doing ∷ cut.newer; earlier = cut.earlier; whole = ap (λ (ds : List Doing). doing ∷ ds) cut.whole; here = cut.here }
]

deeds_both : (newer earlier : List Doing) (i : ℕ) → deeds_of (newer ++ earlier) i ≡ deeds_of newer i ++ deeds_of earlier i
deeds_both [] earlier i = refl
deeds_both (doing ∷ newer) earlier i = elim (eqb_tells doing.node i) as (λ _. deeds_of ((doing ∷ newer) ++ earlier) i ≡ deeds_of (doing ∷ newer) i ++ deeds_of earlier i) [
  | inl same ↦
      ap (λ (b : Bool). if b then doing.deed ∷ deeds_of (newer ++ earlier) i else deeds_of (newer ++ earlier) i) same.0
      ∙ (ap (λ (ds : List Deed). doing.deed ∷ ds) (deeds_both newer earlier i)
      ∙ sym (ap (λ (b : Bool). (if b then doing.deed ∷ deeds_of newer i else deeds_of newer i) ++ deeds_of earlier i) same.0))
  | inr other ↦
      ap (λ (b : Bool). if b then doing.deed ∷ deeds_of (newer ++ earlier) i else deeds_of (newer ++ earlier) i) other.0
      ∙ (deeds_both newer earlier i ∙ sym (ap (λ (b : Bool). (if b then doing.deed ∷ deeds_of newer i else deeds_of newer i) ++ deeds_of earlier i) other.0))
]

did_before : (place : Place) (first : Standing) (newer earlier : List Deed) (s : Standing) → Did place first (newer ++ earlier) s → (t : Standing) × Did place first earlier t
did_before place first [] earlier s did = (s, did)
did_before place first (deed ∷ newer) earlier s did = did_before place first newer earlier did.0 did.1

-- ---- frames

in_placed : (count : ℕ) (arrived : List Arrived) (arrival : Arrival) → In arrival (map (placed_at count) arrived) → arrival.sent_before ≡ count
in_placed count [] arrival h = absurd h
in_placed count (what ∷ more) arrival (inl e) = ap (λ (a : Arrival). a.sent_before) e
in_placed count (what ∷ more) arrival (inr h) = in_placed count more arrival h

placed_all : (all : List Doing) → ArePlaced (record_of all).sent (record_of all).delivered
placed_all [] arrival h = absurd h
placed_all (doing ∷ before) arrival h =
    let sent = (record_of before).sent in
    let count : length (sent ++ doing.deed.made.frames) ≡ length sent + length doing.deed.made.frames = length-append sent doing.deed.made.frames in
    elim (in_split (record_of before).delivered (map (placed_at (length sent)) doing.deed.arrived) arrival h) as (λ _. arrival.sent_before ≤ length (sent ++ doing.deed.made.frames)) [
      | inl old ↦ let least = placed_all before arrival old in omega (arith, least, count)
      | inr new ↦ let is = in_placed (length sent) doing.deed.arrived arrival new in omega (arith, is, count)
    ]

unforged_before : (newer earlier : List Doing) → IsUnforged (record_of (newer ++ earlier)).sent (record_of (newer ++ earlier)).delivered → IsUnforged (record_of earlier).sent (record_of earlier).delivered
unforged_before [] earlier unforged = unforged
unforged_before (doing ∷ newer) earlier unforged =
    let was = record_of (newer ++ earlier) in
    unforged_before newer earlier (λ arrival h.
    subst (λ (frames : List Frame). IsAmong frames arrival.what) (take-append-le arrival.sent_before was.sent doing.deed.made.frames (placed_all (newer ++ earlier) arrival h))
    (unforged arrival (in_first was.delivered (map (placed_at (length was.sent)) doing.deed.arrived) arrival h)))

said_both : (xs ys : List Frame) → said (xs ++ ys) ≡ said xs ++ said ys
said_both [] ys = refl
said_both (x ∷ xs) ys = ap (λ (ms : List Message). said_by x ++ ms) (said_both xs ys) ∙ sym (append_assoc (said_by x) (said xs) (said ys))

said_before : (newer earlier : List Doing) (message : Message) → In message (said (record_of earlier).sent) → In message (said (record_of (newer ++ earlier)).sent)
said_before [] earlier message h = h
said_before (doing ∷ newer) earlier message h =
    let was = record_of (newer ++ earlier) in
    subst (λ (ms : List Message). In message ms) (sym (said_both was.sent doing.deed.made.frames)) (in_first (said was.sent) (said doing.deed.made.frames) message (said_before newer earlier message h))

said_since : (all newer earlier : List Doing) → all ≡ newer ++ earlier → (message : Message) → In message (said (record_of earlier).sent) → In message (said (record_of all).sent)
said_since all newer earlier whole message h = subst (λ (ds : List Doing). In message (said (record_of ds).sent)) (sym whole) (said_before newer earlier message h)

chosen_more : (n : ℕ) (old new : List Message) → ((message : Message) → In message old → In message new) → (commands : List Command) → AreChosen n old commands → AreChosen n new commands
chosen_more n old new more [] are = tt
chosen_more n old new more (command ∷ commands) ((ballot, (quorum, is, all)), are) =
    ((ballot, (quorum, is, λ node less q. more (Accepted node ballot (length commands) command) (all node less q))), chosen_more n old new more commands are)

-- ---- it is a run too

earlier_are_processes : (setting : Setting) (sources : List Source) (histories : ℕ → List Deed) (all newer earlier : List Doing) → all ≡ newer ++ earlier → AreProcesses setting sources histories all
    → AreProcesses setting sources (deeds_of earlier) earlier
earlier_are_processes setting sources histories all newer earlier whole processes = record {
  plan = processes.plan;
  did = λ i less.
      let is : histories i ≡ deeds_of newer i ++ deeds_of earlier i = sym (processes.order.order.each i less) ∙ (ap (λ (ds : List Doing). deeds_of ds i) whole ∙ deeds_both newer earlier i) in
      ∥∥₁_map (processes.did i less) (λ held.
      did_before (place_of (plan_of setting sources) i) (new_at (place_of (plan_of setting sources) i)) (deeds_of newer i) (deeds_of earlier i) held.0
      (subst (λ (ds : List Deed). DidAt (plan_of setting sources) i ds held.0) is held.1));
  order = record {
    order = record {
      nodes = λ doing h. processes.order.order.nodes doing (subst (λ (ds : List Doing). In doing ds) (sym whole) (in_later newer earlier doing h));
      each = λ i less. refl;
    };
    unforged = unforged_before newer earlier (subst (λ (ds : List Doing). IsUnforged (record_of ds).sent (record_of ds).delivered) whole processes.order.unforged);
  };
}

-- ---- tables

shows_more : (setting : Setting) (commands more : List Command) → IsBeginning commands more → (tables : List Match) → AllByRecursion (ShowsBeginning setting commands) tables → AllByRecursion (ShowsBeginning setting more) tables
shows_more setting commands more is [] are = tt
shows_more setting commands more is (table ∷ tables) are =
    (record { earlier = are.0.earlier; is_beginning = beginning_on are.0.earlier commands more are.0.is_beginning is; table_is = are.0.table_is }, shows_more setting commands more is tables are.1)

-- the list that a table shows
pub record Shows (setting : Setting) (n : ℕ) (messages : List Message) (table : Match) : Type 0 where
  commands : List Command
  chosen : AreChosen n messages commands
  table_is : IsTableOf setting commands table

module _ {D : Type 0} (g : Ghosts D) where
  one_table : ProcessesApplyTheChosen → (setting : Setting) (sources : List Source) (histories : ℕ → List Deed) (all : List Doing) → AreProcesses setting sources histories all → IsTrue g.is_honest → (table : Match)
      → WasTable g (plan_of setting sources) histories table → ∥ Shows setting (length sources) (said (record_of all).sent) table ∥₁
  one_table law setting sources histories all processes honest table was =
      let i = was.node in
      let look = was.look in
      let moment = was.had.moment in
      let before = was.was.before in
      let place = place_of (plan_of setting sources) i in
      let done = moment.deeds ++ before in
      let left : ∥ LeavesFile (known_place look) (begun_of g look.node) before ∥₁ = subst (λ (p : Place). ∥ LeavesFile p (begun_of g look.node) before ∥₁) (sym was.was.at) was.was.left in
      let makes : ∥ MakesTable place done moment.table ∥₁ =
      subst (λ (p : Place). ∥ MakesTable p done moment.table ∥₁) was.was.at (was.was.has.tables before left honest moment was.had.was) in
      ∥∥₁_elim makes (hlevel) (λ made.
      ∥∥₁_elim (had_done g (known_place look) (begun_of g look.node) look was.was.has.works moment was.had.was) (hlevel) (λ since.
      let deeds_are : histories i ≡ (was.was.since ++ since.0) ++ done =
      was.was.deeds_are
      ∙ (ap (λ (ds : List Deed). was.was.since ++ (ds ++ before)) since.1
      ∙ (ap (λ (ds : List Deed). was.was.since ++ ds) (append_assoc since.0 moment.deeds before) ∙ sym (append_assoc was.was.since since.0 done))) in
      let cut = cut_at i all (was.was.since ++ since.0) done (processes.order.order.each i was.is_node ∙ deeds_are) in
      let then_are = earlier_are_processes setting sources histories all cut.newer cut.earlier cut.whole processes in
      let more = said_since all cut.newer cut.earlier cut.whole in
      let s = made.s in
      let did : DidAt (plan_of setting sources) i (deeds_of cut.earlier i) s = subst (λ (ds : List Deed). Did place (new_at place) ds s) (sym cut.here) made.did in
      let table_is : IsTableOf setting (applied s) table = subst (λ (t : Match). IsTableOf setting (applied s) t) was.had.table_is made.table_is in
      elim made.runs as (λ _. ∥ Shows setting (length sources) (said (record_of all).sent) table ∥₁) [
        | inl up ↦
            ∥∥₁_map (law setting sources (deeds_of cut.earlier) cut.earlier then_are i s was.is_node did up) (λ chosen.
            record { commands = applied s; chosen = chosen_more (length sources) (said (record_of cut.earlier).sent) (said (record_of all).sent) more (applied s) chosen; table_is = table_is })
        | inr none ↦ ∣ record { commands = []; chosen = tt; table_is = subst (λ (commands : List Command). IsTableOf setting commands table) none table_is } ∣₁
      ]))

  pub tables_are_of_one_match : ProcessesApplyTheChosen → ProcessesChooseOneList → TablesAreOfOneMatch g
  tables_are_of_one_match law choose setting sources histories all processes honest [] are = ∣ ([], (tt, tt)) ∣₁
  tables_are_of_one_match law choose setting sources histories all processes honest (table ∷ tables) are =
      ∥∥₁_elim (one_table law setting sources histories all processes honest table are.0) (hlevel) (λ one.
      ∥∥₁_elim (tables_are_of_one_match law choose setting sources histories all processes honest tables are.1) (hlevel) (λ rest.
      elim (cases_lt (length rest.0) (length one.commands)) as (λ _. ∥ ((commands : List Command) × (AreChosen (length sources) (said (record_of all).sent) commands × AllByRecursion (ShowsBeginning setting commands) (table ∷ tables))) ∥₁) [
        | inl less ↦
            ∥∥₁_map (choose setting sources histories all processes rest.0 one.commands rest.1.0 one.chosen (omega (arith, less))) (λ is.
            (one.commands, (one.chosen, (record { earlier = one.commands; is_beginning = ([], refl); table_is = one.table_is }, shows_more setting rest.0 one.commands is tables rest.1.1))))
        | inr not_less ↦
            ∥∥₁_map (choose setting sources histories all processes one.commands rest.0 one.chosen rest.1.0 not_less) (λ is.
            (rest.0, (rest.1.0, (record { earlier = one.commands; is_beginning = is; table_is = one.table_is }, rest.1.1))))
      ]))
