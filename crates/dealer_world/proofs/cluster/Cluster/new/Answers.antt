use Rattle.std.proofs.Common.{◌≡◌, Err, IsTrue, sym, subst, rules}
use Rattle.dealer_node.specs.declared.fault.NodeFault.{NodeFault}
use Rattle.dealer_world.specs.Beginning.{IsWant}
use Rattle.dealer_world.specs.Ruling.{AreSeen}
use Rattle.dealer_world.specs.Viewing.{view_of}
use Rattle.dealer_world.proofs.Founding.{created_at_places, created_behind}
use Rattle.protocol_model.specs.Stores.{empty_store}
use Rattle.dealer_world.proofs.Started.{all_started, created_wait}
use Rattle.dealer_world.proofs.Wanting.{created_are_seen, on_fault}
use Rattle.dealer_world.proofs.Promising.{promised_new, promised}
use Rattle.dealer_world.proofs.cluster.Cluster.new.Goals as goal

pub down-cluster-requires-clause-at_places : goal.down-cluster-requires-clause-at_places
down-cluster-requires-clause-at_places g c = created_at_places g.D.Disk c.args.config c.in_ok-nodes.nodes.items c.in_ok-nodes.ensures.each

pub down-cluster-requires-clause-behind : goal.down-cluster-requires-clause-behind
down-cluster-requires-clause-behind g c = created_behind g.D.Disk c.args.config c.in_ok-nodes.nodes.items c.limits.ensures c.in_ok-nodes.ensures.count c.in_ok-nodes.ensures.each

pub returns-clause-promised : goal.returns-clause-promised
returns-clause-promised g c = promised g.D.Disk (view_of c.start_all.new.self) c.runs_show_one_list.ensures c.start_all.new.self.behind

pub returns-clause-started : goal.returns-clause-started
returns-clause-started g c = λ honest.
    let first = view_of c.down-cluster.result in let last = view_of c.start_all.new.self in
    all_started g.D.Disk (λ i. empty_store) first last honest c.down-cluster.ensures.all c.down-cluster.result.count
    (created_wait g.D.Disk c.args.config c.in_ok-nodes.nodes.items first c.down-cluster.ensures.config c.down-cluster.ensures.nodes c.in_ok-nodes.ensures.each) c.in_ok-start_all.ensures.started

pub returns-clause-promised_new : goal.returns-clause-promised_new
returns-clause-promised_new g c = promised_new g.D.Disk (view_of c.start_all.new.self) (promised g.D.Disk (view_of c.start_all.new.self) c.runs_show_one_list.ensures c.start_all.new.self.behind)

pub returns-in_err-start_all-clause-failed : goal.returns-in_err-start_all-clause-failed
returns-in_err-start_all-clause-failed g c =
    let why = c.in_err-start_all.field-0.0 in
    let answer = c.from_residual-in_err-start_all.result in
    let same : answer ≡ Err why = search rules in
    on_fault answer why (λ (w : NodeFault). IsTrue g.D.Disk.is_honest → IsWant w) same (λ honest.
    let first = created_are_seen g.D.Disk c.args.config c.in_ok-nodes.nodes.items c.in_ok-nodes.ensures.each in
    c.in_err-start_all.ensures.failed first.0 honest (subst (λ nodes. AreSeen g.D.Disk nodes first.0) (sym c.down-cluster.ensures.nodes) first.1))
