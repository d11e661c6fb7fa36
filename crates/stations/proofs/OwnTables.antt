-- What a node's tables are.
use Rattle.std.proofs.Common.{◌≡◌, ◌∙◌, ◌++◌, ◌∷◌, ◌⊎◌, inl, inr, true, ℕ, List, [], Option, Some, None, Result, ap, sym, subst, append_assoc, drop}
use Rattle.std.proofs.Math.Logic.{∥∥₁_map, ∥∥₁_elim}
use Rattle.promise_store.specs.declared.disk.Disk.{Ghosts}
use Rattle.slot_log.specs.Beginnings.{IsBeginning}
use Rattle.slot_log.specs.Hand.{Match}
use Rattle.slot_log.specs.declared.command.Command.{Command}
use Rattle.protocol_model.specs.Sets.{In}
use Rattle.dealer_kind.specs.Kind.{Setting}
use Rattle.node_rules.specs.Standings.{Place, Standing, applied}
use Rattle.dealer_node.specs.Nodes.{Node}
use Rattle.dealer_node.specs.declared.fault.NodeFault.{NodeFault}
use Rattle.dealer_node.specs.declared.up.Up.{Up}
use Rattle.dealer_node.specs.Members.{Membership, place_at}
use Rattle.dealer_node.specs.Outs.{Told}
use Rattle.dealer_node.specs.Scenes.{IsTableOf}
use Rattle.dealer_node.specs.Seeing.{member_in, IsSeen, IsSeenBy, runs, front_in, table_by, table_in, begun_of}
use Rattle.dealer_world.specs.declared.event.Event.{Event}
use Rattle.stations.specs.Deeds.{Deed}
use Rattle.stations.specs.Moments.{Moment, moment_now, EndNow, MakesTable}
use Rattle.stations.specs.Stations.{deed_by, Look, GainsDeed, nothing, call, LeavesFile, HoldsAfter, IsTrueTo, AreTrueTo, Acts, Works, opened, acted}

-- a beginning of a beginning
pub beginning_on : {A : Type 0} (a b c : List A) → IsBeginning a b → IsBeginning b c → IsBeginning a c
beginning_on a b c one two = (two.0 ++ one.0, two.1 ∙ (ap (λ (l : List _). two.0 ++ l) one.1 ∙ sym (append_assoc two.0 one.0 a)))

-- what was done, and one call more
gains_more : (up : _) (front : ℕ) (e : Event) (told : Told) (answer : Result (Unit {0}) NodeFault) (old new : List Deed) → GainsDeed up front e told answer old new → IsBeginning old new
gains_more up front e told answer old new (nothing none same) = ([], same)
gains_more up front e told answer old new (call ample is) = (deed_by up front e told answer ∷ [], is)

module _ {D : Type 0} where
  -- a table that was put in front is the node's
  pub put_first : (node : Node D) (table : Match) (deeds : List Deed) (earlier moments : List Moment) → table ≡ table_in node → moments ≡ record { table = table; deeds = deeds } ∷ earlier
      → moments ≡ moment_now node deeds ∷ earlier
  put_first node table deeds earlier moments same is = is ∙ ap (λ (t : Match). (record { table = t; deeds = deeds }) ∷ earlier) same

  -- what was put in front is now
  pub put_now : (node : Node D) (deeds : List Deed) (earlier moments : List Moment) → moments ≡ moment_now node deeds ∷ earlier → EndNow node deeds moments
  put_now node deeds earlier moments is = is ∙ ap (λ (ms : List Moment). moment_now node deeds ∷ drop 1 ms) (sym is)

module _ {D : Type 0} (g : Ghosts D) where
  table_seen_by : (member : Membership) (up : Option (Up D)) (disk : Option D) (blank : Match) (s : Standing) → IsSeenBy g member up disk s → IsTableOf member.setting [] blank
      → IsTableOf member.setting (applied s) (table_by up blank)
  table_seen_by member (Some up) disk blank s seen none = seen.running.hands
  table_seen_by member None (Some disk) blank s down none = subst (λ (commands : List Command). IsTableOf member.setting commands blank) (sym (ap applied down.stopped)) none
  table_seen_by member None None blank s seen none = absurd seen

  -- a node that is seen as a standing has its table
  pub has_its_table : (node : Node D) (s : Standing) → IsSeen g node s → IsTableOf (member_in node).setting (applied s) (table_in node)
  has_its_table node s seen = table_seen_by (member_in node) node.up node.disk node.blank s seen.by seen.blank

  -- a node that is down applied nothing
  pub runs_or_knows_nothing : (member : Membership) (up : Option (Up D)) (disk : Option D) (s : Standing) → IsSeenBy g member up disk s → (s.up ≡ true) ⊎ (applied s ≡ [])
  runs_or_knows_nothing member (Some up) disk s seen = inl seen.running.up
  runs_or_knows_nothing member None (Some disk) s down = inr (ap applied down.stopped)
  runs_or_knows_nothing member None None s none = absurd none

  makes_its_table : (place : Place) (node : Node D) (deeds : List Deed) → place_at (member_in node) ≡ place → HoldsAfter g place node deeds → MakesTable place deeds (table_in node)
  makes_its_table place node deeds placed at = record {
    s = at.s;
    did = at.did;
    runs = runs_or_knows_nothing (member_in node) node.up node.disk at.s at.seen.by;
    table_is = subst (λ (setting : Setting). IsTableOf setting (applied at.s) (table_in node)) (ap (λ (p : Place). p.setting) placed) (has_its_table node at.s at.seen);
  }

  -- what is said of the tables of a station goes on holding, and holds of one more moment
  pub tables_now : (place : Place) (node : Node D) (deeds : List Deed) (moments : List Moment) → ∥ (place_at (member_in node) ≡ place) ∥₁ → IsTrueTo g place node deeds
      → AreTrueTo g place node moments → AreTrueTo g place node (moment_now node deeds ∷ moments)
  tables_now place node deeds moments at_place true_to tables before left honest moment (inl now) =
      subst (λ (m : Moment). ∥ MakesTable place (m.deeds ++ before) m.table ∥₁) (sym now)
      (∥∥₁_elim at_place (hlevel) (λ placed. ∥∥₁_map (true_to before left honest) (makes_its_table place node (deeds ++ before) placed)))
  tables_now place node deeds moments at_place true_to tables before left honest moment (inr earlier) = tables before left honest moment earlier

  pub tables_still : (place : Place) (old new : Node D) (moments : List Moment) → begun_of g new ≡ begun_of g old → AreTrueTo g place old moments → AreTrueTo g place new moments
  tables_still place old new moments same tables before left =
      tables before (subst (λ (file : List ℕ). ∥ LeavesFile place file before ∥₁) same left)

  -- so it is behind a call
  pub tables_then : (place : Place) (e : Event) (told : Told) (answer : Result (Unit {0}) NodeFault) (old new : Look (Node D)) → Acts g e told answer old new
      → ∥ (place_at (member_in new.node) ≡ place) ∥₁ → IsTrueTo g place new.node new.deeds → AreTrueTo g place old.node old.moments → AreTrueTo g place new.node new.moments
  tables_then place e told answer old new acts at_place true_to tables =
      subst (AreTrueTo g place new.node) (sym acts.moments)
      (tables_now place new.node new.deeds old.moments at_place true_to (tables_still place old.node new.node old.moments acts.given.stays.begun tables))

  pub no_tables : (place : Place) (node : Node D) → AreTrueTo g place node []
  no_tables place node before left honest moment none = absurd none

  -- what a node had done at a moment it has done
  done_then : (place : Place) (file : List ℕ) (look : Look (Node D)) → Works g place file look → (moment : Moment) → In moment look.moments → IsBeginning moment.deeds look.deeds
  done_then place file _ (opened look placed begun none first) moment there =
      elim (subst (λ (moments : List Moment). In moment moments) first there) as (λ _. IsBeginning moment.deeds look.deeds) [
        | inl is ↦ ([], none ∙ sym (ap (λ (m : Moment). m.deeds) is))
        | inr more ↦ absurd more
      ]
  done_then place file _ (acted old new e told answer before here is_for acts) moment there =
      elim (subst (λ (moments : List Moment). In moment moments) acts.moments there) as (λ _. IsBeginning moment.deeds new.deeds) [
        | inl is ↦ ([], sym (ap (λ (m : Moment). m.deeds) is))
        | inr earlier ↦
            let was = done_then place file old before moment earlier in
            let more = gains_more (runs old.node) (front_in old.node) e told answer old.deeds new.deeds acts.gains in
            beginning_on moment.deeds old.deeds new.deeds was more
      ]

  pub had_done : (place : Place) (file : List ℕ) (look : Look (Node D)) → ∥ Works g place file look ∥₁ → (moment : Moment) → In moment look.moments → ∥ IsBeginning moment.deeds look.deeds ∥₁
  had_done place file look works moment there = ∥∥₁_map works (λ did. done_then place file look did moment there)
