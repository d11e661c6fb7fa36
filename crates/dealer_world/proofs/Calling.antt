-- An event that was given to a node is a call of it by the rules.
use Rattle.std.proofs.Common.{◌≡◌, ◌∙◌, inr, [], Bool, Result, Err, refl, ap, sym, subst}
use Rattle.promise_store.specs.declared.disk.Disk.{Ghosts}
use Rattle.node_rules.specs.Standings.{Place, Standing, front_of}
use Rattle.node_rules.specs.Calls.{Call}
use Rattle.node_rules.specs.Called.{Ends, failed}
use Rattle.node_rules.specs.Rules.{standing_after}
use Rattle.dealer_node.specs.Nodes.{Node}
use Rattle.dealer_node.specs.declared.fault.NodeFault.{NodeFault}
use Rattle.dealer_node.specs.declared.fault.NodeFault.TheVariants as fault
use Rattle.dealer_node.specs.Outs.{Told, nothing_told}
use Rattle.dealer_node.specs.Members.{place_at}
use Rattle.dealer_node.specs.Seeing.{member_in, runs, front_in, IsSeen}
use Rattle.dealer_node.specs.Taking.{Answered, Takes}
use Rattle.dealer_world.specs.Events.{node_of, call_of, brought_by}
use Rattle.dealer_world.specs.Runs.{arrived_by, arrived_at}
use Rattle.dealer_world.specs.Calling.{EventsAreCalls, VainEventsAreNone, FrontsAreSeen, ConflictsAreRefusals, BrokenEventsAreCalls}
use Rattle.dealer_world.proofs.Ruled.{ruled_by, front_seen, seated, brought, arrives, same_after}
use Rattle.dealer_world.proofs.Answering.{TellsUp, refused_so}

module _ {D : Type 0} (g : Ghosts D) where
  -- how a call of the node at this place ended, and what it answered
  pub ended_at : (place : Place) (called : Call) (s : Standing) (old new : Node D) (earlier later : Told) (answer : Result (Unit {0}) NodeFault)
      (takes : Takes g called s old new earlier later answer) → place_at (member_in old) ≡ place
      → (ends : Ends place s called takes.after takes.frames takes.shown) × Answered place s called takes.after takes.frames takes.shown ends takes.faults answer
  ended_at place called s old new earlier later answer takes placed =
      subst (λ (p : Place). (ends : Ends p s called takes.after takes.frames takes.shown) × Answered p s called takes.after takes.frames takes.shown ends takes.faults answer)
      placed (takes.ends, takes.answered)

  pub events_are_calls : TellsUp g → EventsAreCalls g
  events_are_calls tells place e s old new told answer placed here is_for honest seen given ample =
      let t = given.taken s honest seen in
      let takes = t.1 in
      let called = call_of t.0 e in
      let ended = ended_at place called s old new nothing_told told answer takes placed in
      record {
        called = called;
        after = takes.after;
        now = takes.now;
        ruled = ruled_by place s e t.0 takes.after takes.frames takes.shown takes.faults answer told (runs old) (front_in old) (sym here) (tells old s seen) (front_seen g old s seen) ample
            (seated place.nodes place.setting.game.players e t.0 is_for) ended.0 ended.1 takes.told takes.fits;
      }

  pub conflicts_are_refusals : TellsUp g → ConflictsAreRefusals g
  conflicts_are_refusals tells place e s old new told placed here is_for honest seen given =
      let t = given.taken s honest seen in
      let takes = t.1 in
      let called = call_of t.0 e in
      let ended = ended_at place called s old new nothing_told told (Err fault.Conflict) takes placed in
      let refusal = refused_so place s called takes.after takes.frames takes.shown takes.faults (Err fault.Conflict) refl ended.0 ended.1 in
      record {
        found = t.0;
        store = refusal.0;
        turn = refusal.1;
        seated = seated place.nodes place.setting.game.players e t.0 is_for;
        arrived = arrives (runs old) (front_in old) e t.0
            ∙ (ap (λ u. arrived_at u (node_of e) (front_in old) called) (tells old s seen)
            ∙ (ap (λ i. arrived_at s.up i (front_in old) called) here ∙ ap (λ n. arrived_at s.up place.node n called) (front_seen g old s seen)));
      }

  pub vain_events_are_none : VainEventsAreNone g
  vain_events_are_none e s old new told answer honest seen given none =
      let t = given.taken s honest seen in
      let takes = t.1 in
      subst (λ (after : Standing). IsSeen g new after)
      (same_after (place_at (member_in old)) s (call_of t.0 e) takes.after takes.frames takes.shown takes.faults answer none takes.ends takes.answered) takes.now

  pub fronts_are_seen : FrontsAreSeen g
  fronts_are_seen = front_seen g

pub broken_events_are_calls : BrokenEventsAreCalls
broken_events_are_calls place e s found outcome here is_for up turn = record {
  frames = [];
  shown = [];
  ends = failed outcome (standing_after place s outcome).begun up turn (inr refl) refl refl refl;
  seated = seated place.nodes place.setting.game.players e found is_for;
  written = tt;
  texts = refl;
  keeps = (
    subst (λ (b : Bool). brought_by (front_of s) e ≡ arrived_at b place.node (front_of s) (call_of found e)) (sym up)
        (brought (front_of s) e found ∙ ap (λ i. arrived_by i (front_of s) (call_of found e)) here),
    refl,
  );
}
