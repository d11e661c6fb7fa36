use Rattle.std.proofs.Common.{◌≡◌, ◌∙◌, List, [], Err, subst, sym, refl, rules}
use Rattle.std.proofs.lemmas.List.{take_all}
use Rattle.dealer_kind.specs.Plans.{Plan}
use Rattle.dealer_node.specs.declared.fault.NodeFault.TheVariants as fault
use Rattle.dealer_world.specs.declared.event.Event.{Event}
use Rattle.dealer_world.specs.Stepping.{Ran, none}
use Rattle.dealer_world.specs.Promise.{IsForMatch}
use Rattle.dealer_world.specs.Viewing.{view_of}
use Rattle.dealer_world.proofs.Promising.{promised_new, promised, backed, ran_more}
use Rattle.dealer_world.proofs.Answering.{addressed}
use Rattle.dealer_world.proofs.Reached.{none_conflicts}
use Rattle.dealer_world.proofs.CalmCluster.{moves_on}
use Rattle.dealer_world.proofs.cluster.Cluster.run.Goals as goal

pub step-requires : goal.step-requires
step-requires g c = subst (λ (plan : Plan). IsForMatch plan c.index-events-at.result) (sym c.loop-at.invariant.same_config)
    (subst (IsForMatch c.args.self.now.config) (sym c.index-events-at.is) (c.requires c.loop-at.at c.index-events-at.result c.loop-at-test.true))

pub loop-at-init : goal.loop-at-init
loop-at-init g c = record { same_config = refl; begun = refl; ran = none [] _ refl refl }

pub loop-at-preserved : goal.loop-at-preserved
loop-at-preserved g c =
    let ample : c.step.result ≡ Err fault.OutOfMemory → ⊥ = search rules in
    record {
      same_config = c.step.ensures.stepped.same_config ∙ c.loop-at.invariant.same_config;
      begun = c.step.ensures.begun ∙ c.loop-at.invariant.begun;
      ran = ran_more g.D.Disk (view_of c.args.self.now) (view_of c.loop-at.self) (view_of c.step.new.self) c.args.events.now c.loop-at.at c.index-events-at.result c.step.result
          c.loop-at-test.true c.index-events-at.is c.loop-at.invariant.ran c.step.ensures.stepped ample;
    }

pub returns-clause-promised : goal.returns-clause-promised
returns-clause-promised g c = promised g.D.Disk (view_of c.loop-at.self) c.runs_show_one_list.ensures c.loop-at.self.behind

pub returns-clause-backed : goal.returns-clause-backed
returns-clause-backed g c = backed g.D.Disk (view_of c.loop-at.self) c.runs_are_backed.ensures c.images_are_seen.ensures c.loop-at.self.at_places c.loop-at.self.behind

pub returns-clause-promised_new : goal.returns-clause-promised_new
returns-clause-promised_new g c = promised_new g.D.Disk (view_of c.loop-at.self) (promised g.D.Disk (view_of c.loop-at.self) c.runs_show_one_list.ensures c.loop-at.self.behind)

pub returns-clause-addressed : goal.returns-clause-addressed
returns-clause-addressed g c = addressed g.D.Disk (view_of c.loop-at.self) c.runs_send_to_nodes.ensures c.loop-at.self.behind

pub returns-clause-moves_on : goal.returns-clause-moves_on
returns-clause-moves_on g c =
    moves_on g.D.Disk (view_of c.args.self.now) (view_of c.loop-at.self) c.args.events.now c.no_dead_end.ensures c.seen_as_one.ensures.one c.seen_as_one.ensures.up c.args.self.now.at_places
    c.args.self.now.count c.args.self.now.behind
    (subst (λ (l : List Event). Ran g.D.Disk (view_of c.args.self.now) l (view_of c.loop-at.self)) (take_all c.loop-at.at c.args.events.now c.loop-at-test.false) c.loop-at.invariant.ran)

pub returns-then-is_out_of_memory-clause-stopped :
    goal.returns-then-is_out_of_memory-clause-stopped
returns-then-is_out_of_memory-clause-stopped g c = search rules

pub returns-clause-conflict : goal.returns-clause-conflict
returns-clause-conflict g c =
    none_conflicts g.D.Disk (view_of c.args.self.now) c.runs_never_conflict.ensures c.seen_as_one.ensures.up
    (record { count = c.args.self.now.count; at_places = c.args.self.now.at_places; behind = c.args.self.now.behind })

pub returns-then-is_out_of_memory-clause-conflict : goal.returns-then-is_out_of_memory-clause-conflict
returns-then-is_out_of_memory-clause-conflict g c =
    none_conflicts g.D.Disk (view_of c.args.self.now) c.runs_never_conflict.ensures c.seen_as_one.ensures.up
    (record { count = c.args.self.now.count; at_places = c.args.self.now.at_places; behind = c.args.self.now.behind })
