use Rattle.dealer_world.specs.Viewing.{view_of}
use Rattle.dealer_world.proofs.Founding.{reopened_at_places, reopened_behind}
use Rattle.dealer_world.proofs.Started.{all_started, reopened_wait}
use Rattle.dealer_world.proofs.Opened.{AreDown, IsRefusedStart, opened_over, begun_are, begun_since, found_keeps, found_again, found_within, found_resumes, files_have, unopened}
use Rattle.dealer_world.proofs.Again.{goes_on_again}
use Rattle.dealer_world.proofs.Wanting.{on_fault}
use Rattle.dealer_world.proofs.Promising.{promised}
use Rattle.dealer_world.proofs.Reached.{reached_keeps}
use Rattle.dealer_world.proofs.Leaving.{goes_on, goes_on_fresh}
use Rattle.dealer_kind.specs.Plans.{Plan}
use Rattle.dealer_node.specs.Seeing.{begun_of}
use Rattle.dealer_node.specs.declared.fault.NodeFault.{NodeFault}
use Rattle.dealer_world.specs.Ruling.{GoesOn}
use Rattle.dealer_world.specs.Beginning.{AreImages, AreImagesDuring, HasStore, AreEach, IsUnopened}
use Rattle.dealer_world.specs.Events.{node_of}
use Rattle.dealer_world.proofs.Stopping.{goes_on_inside}
use Rattle.std.specs.Prelude.{map}
use Rattle.std.proofs.Common.{◌≡◌, ◌∙◌, ℕ, Bool, List, length, true, Err, IsTrue, sym, subst, rules}
use Rattle.std.proofs.lemmas.List.{length-map}
use Rattle.dealer_world.proofs.cluster.Cluster.open.Goals as goal

pub down-cluster-requires-clause-at_places : goal.down-cluster-requires-clause-at_places
down-cluster-requires-clause-at_places g c = reopened_at_places g.D.Disk c.args.config c.in_ok-nodes.nodes.items c.in_ok-nodes.ensures.each

pub down-cluster-requires-clause-behind : goal.down-cluster-requires-clause-behind
down-cluster-requires-clause-behind g c = reopened_behind g.D.Disk c.args.config c.in_ok-nodes.nodes.items c.limits.ensures c.in_ok-nodes.ensures.count c.in_ok-nodes.ensures.each

pub returns-clause-promised : goal.returns-clause-promised
returns-clause-promised g c = promised g.D.Disk (view_of c.start_all.new.self) c.runs_show_one_list.ensures c.start_all.new.self.behind

pub returns-clause-fresh : goal.returns-clause-fresh
returns-clause-fresh g c = λ have.
    let now = view_of c.start_all.new.self in
    let files = begun_since g.D.Disk c.args.disks.items c.in_ok-nodes.nodes.items (view_of c.down-cluster.result).nodes now.nodes c.in_ok-nodes.ensures.over c.down-cluster.ensures.nodes c.start_all.ensures.opens in
    let is_open : now.opened ≡ true = search rules in
    let same : now.config ≡ c.args.config = search rules in
    let count : length c.args.disks.items ≡ length c.args.config.sources = c.requires in
    goes_on_fresh g.D.Disk now (map g.D.Disk.seen c.args.disks.items) c.args.config is_open same files (length-map c.args.disks.items g.D.Disk.seen ∙ count) have

pub returns-clause-goes_on : goal.returns-clause-goes_on
returns-clause-goes_on g c = λ first before eras reached same images goes honest unforged.
    let now = view_of c.start_all.new.self in
    let files = begun_since g.D.Disk c.args.disks.items c.in_ok-nodes.nodes.items (view_of c.down-cluster.result).nodes now.nodes c.in_ok-nodes.ensures.over c.down-cluster.ensures.nodes c.start_all.ensures.opens in
    let is_open : now.opened ≡ true = search rules in
    let there = (reached_keeps g.D.Disk (view_of first) before c.seen_as_one.ensures.up (record { count = first.count; at_places = first.at_places; behind = first.behind }) reached).kept in
    goes_on g.D.Disk before now eras c.images_are_seen.ensures there.at_places there.behind is_open same.setting same.count
    (subst (AreImages g.D.Disk before.nodes) (sym files) images) goes honest unforged

pub returns-clause-goes_on_inside : goal.returns-clause-goes_on_inside
returns-clause-goes_on_inside g c = λ first before after event answer eras reached same stepped is_for images goes honest unforged brought.
    let now = view_of c.start_all.new.self in
    let files = begun_since g.D.Disk c.args.disks.items c.in_ok-nodes.nodes.items (view_of c.down-cluster.result).nodes now.nodes c.in_ok-nodes.ensures.over c.down-cluster.ensures.nodes c.start_all.ensures.opens in
    let is_open : now.opened ≡ true = search rules in
    let there = (reached_keeps g.D.Disk (view_of first) before c.seen_as_one.ensures.up (record { count = first.count; at_places = first.at_places; behind = first.behind }) reached).kept in
    goes_on_inside g.D.Disk before after now event answer eras c.images_are_seen.ensures c.moments_pass.ensures there.at_places there.behind there.count is_open same.setting same.count stepped is_for
    (subst (AreImagesDuring g.D.Disk (node_of event) stepped.before stepped.after before.nodes) (sym files) images) goes honest unforged brought

pub returns-clause-stands : goal.returns-clause-stands
returns-clause-stands g c = λ honest.
    let nodes = c.in_ok-nodes.nodes.items in
    let first = view_of c.down-cluster.result in let last = view_of c.start_all.new.self in
    let over = c.in_ok-nodes.ensures.over in
    let each = c.in_ok-nodes.ensures.each in
    let same = c.down-cluster.ensures.nodes in
    let down = subst (λ ns. AreDown g.D.Disk ns) (sym same) (λ i d less. (each i d less).down) in
    let found = files_have g.D.Disk c.args.config c.args.disks.items nodes c.requires each over
    (subst (λ ns. AreEach (λ i. HasStore g.D.Disk) ns) same (c.in_ok-start_all.ensures.stores honest down)) in (
      found.0,
      found.1,
      all_started g.D.Disk found.0 first last honest c.down-cluster.ensures.all c.down-cluster.result.count
          (reopened_wait g.D.Disk c.args.config nodes first (map g.D.Disk.seen c.args.disks.items) found.0 c.down-cluster.ensures.config same each
          (begun_are g.D.Disk c.args.disks.items nodes over) found.1) c.in_ok-start_all.ensures.started,
    )

pub returns-clause-over : goal.returns-clause-over
returns-clause-over g c =
    opened_over g.D.Disk c.args.config c.args.disks.items c.in_ok-nodes.nodes.items (view_of c.down-cluster.result).nodes (view_of c.start_all.new.self).nodes c.requires c.in_ok-nodes.ensures.count
    c.in_ok-nodes.ensures.each c.in_ok-nodes.ensures.over c.down-cluster.ensures.nodes c.start_all.ensures.opens c.in_ok-start_all.ensures.marks

pub returns-clause-keeps : goal.returns-clause-keeps
returns-clause-keeps g c = λ stores files honest have found.
    let now = (view_of c.start_all.new.self).nodes in
    let over = opened_over g.D.Disk c.args.config c.args.disks.items c.in_ok-nodes.nodes.items (view_of c.down-cluster.result).nodes now c.requires c.in_ok-nodes.ensures.count
    c.in_ok-nodes.ensures.each c.in_ok-nodes.ensures.over c.down-cluster.ensures.nodes c.start_all.ensures.opens c.in_ok-start_all.ensures.marks in
    found_keeps g.D.Disk (length c.args.config.sources) c.args.disks.items now files stores g.met.D.Disk.only_now over honest have found

pub returns-clause-again : goal.returns-clause-again
returns-clause-again g c = λ eras files honest rest found goes.
    let made = view_of c.start_all.new.self in
    let given = c.args.disks.items in
    let n = length c.args.config.sources in
    let over = opened_over g.D.Disk c.args.config given c.in_ok-nodes.nodes.items (view_of c.down-cluster.result).nodes made.nodes c.requires c.in_ok-nodes.ensures.count
    c.in_ok-nodes.ensures.each c.in_ok-nodes.ensures.over c.down-cluster.ensures.nodes c.start_all.ensures.opens c.in_ok-start_all.ensures.marks in
    let begun = begun_since g.D.Disk given c.in_ok-nodes.nodes.items (view_of c.down-cluster.result).nodes made.nodes c.in_ok-nodes.ensures.over c.down-cluster.ensures.nodes c.start_all.ensures.opens in
    let is_open : made.opened ≡ true = search rules in
    let same : made.config ≡ c.args.config = search rules in
    let from : GoesOn true made.config.setting n eras (map g.D.Disk.seen given) =
    subst (λ (plan : Plan). GoesOn true made.config.setting (length plan.sources) eras (map g.D.Disk.seen given)) same
    (subst (λ (files : List (List ℕ)). GoesOn true made.config.setting (length made.config.sources) eras files) begun
    (subst (λ (o : Bool). GoesOn o made.config.setting (length made.config.sources) eras (map (begun_of g.D.Disk) made.nodes)) is_open goes)) in
    goes_on_again made.config.setting n eras (map g.D.Disk.seen given) files (found.count ∙ (sym over.count ∙ sym (length-map given g.D.Disk.seen)))
    (found_again g.D.Disk n given made.nodes files g.met.D.Disk.only_now over honest rest found) from

pub returns-clause-within : goal.returns-clause-within
returns-clause-within g c = λ files honest goes_on found.
    let now = (view_of c.start_all.new.self).nodes in
    let over = opened_over g.D.Disk c.args.config c.args.disks.items c.in_ok-nodes.nodes.items (view_of c.down-cluster.result).nodes now c.requires c.in_ok-nodes.ensures.count
    c.in_ok-nodes.ensures.each c.in_ok-nodes.ensures.over c.down-cluster.ensures.nodes c.start_all.ensures.opens c.in_ok-start_all.ensures.marks in
    found_within g.D.Disk (length c.args.config.sources) c.args.disks.items now files g.met.D.Disk.only_now over honest goes_on found

pub returns-clause-resumes : goal.returns-clause-resumes
returns-clause-resumes g c = λ before files honest goes_on leave found.
    let now = (view_of c.start_all.new.self).nodes in
    let over = opened_over g.D.Disk c.args.config c.args.disks.items c.in_ok-nodes.nodes.items (view_of c.down-cluster.result).nodes now c.requires c.in_ok-nodes.ensures.count
    c.in_ok-nodes.ensures.each c.in_ok-nodes.ensures.over c.down-cluster.ensures.nodes c.start_all.ensures.opens c.in_ok-start_all.ensures.marks in
    found_resumes g.D.Disk (length c.args.config.sources) c.args.disks.items now before.nodes files g.met.D.Disk.only_now over honest goes_on leave found

pub returns-in_err-start_all-clause-first : goal.returns-in_err-start_all-clause-first
returns-in_err-start_all-clause-first g c =
    let why = c.in_err-start_all.field-0.0 in
    let answer = c.from_residual-in_err-start_all.result in
    let given = c.args.disks.items in
    let each = c.in_ok-nodes.ensures.each in
    let nodes_are = c.down-cluster.ensures.nodes in
    let same : answer ≡ Err why = search rules in
    on_fault answer why (λ (w : NodeFault). IsTrue g.D.Disk.is_honest → IsUnopened (length c.args.config.sources) (map g.D.Disk.seen given) w) same (λ honest.
    let down = subst (λ ns. AreDown g.D.Disk ns) (sym nodes_are) (λ i d less. (each i d less).down) in
    unopened g.D.Disk c.args.config given c.in_ok-nodes.nodes.items why c.requires each c.in_ok-nodes.ensures.over
    (subst (λ ns. IsRefusedStart g.D.Disk ns why) nodes_are (c.in_err-start_all.ensures.refused honest down)))
