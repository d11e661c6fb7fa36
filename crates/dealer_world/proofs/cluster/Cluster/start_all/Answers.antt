use Rattle.std.proofs.Common.{◌≡◌, ◌∙◌, ◌+◌, ◌<◌, suc, List, length, Ok, Err, Result, IsTrue, refl, ap, sym, subst, arith, rules}
use Rattle.node_rules.specs.Standings.{Standing}
use Rattle.dealer_node.specs.declared.fault.NodeFault.{NodeFault}
use Rattle.dealer_node.specs.Outs.{Told}
use Rattle.dealer_world.specs.declared.event.Event.TheVariants as event
use Rattle.dealer_world.specs.Records.{Record}
use Rattle.dealer_world.specs.Stepping.{Stepped}
use Rattle.dealer_world.specs.Beginning.{Starts, IsWant, IsOpenedSince, MarkFirst, none, more}
use Rattle.dealer_world.specs.Ruling.{AreSeen}
use Rattle.dealer_world.specs.Viewing.{view_of}
use Rattle.dealer_world.proofs.Opened.{AreDown, IsRefusedStart, all_zip_itself, opened_itself, step_opens, step_marks, step_waits, step_finds, step_have, step_refused}
use Rattle.dealer_world.proofs.Wanting.{seen_on, start_wants, on_fault}
use Rattle.dealer_world.proofs.cluster.Cluster.start_all.Goals as goal

pub loop-node-init : goal.loop-node-init
loop-node-init g c = record {
  same_config = refl;
  same_opened = refl;
  started = none 0 _ refl refl;
  seen = λ standings honest are. (standings, are);
  opens = all_zip_itself (IsOpenedSince g.D.Disk) (opened_itself g.D.Disk) _;
  marks = λ honest down i d less. absurd (omega (arith, less));
  waits = λ i d most. refl;
  stores = λ honest down i d less. absurd (omega (arith, less));
}

pub loop-node-preserved : goal.loop-node-preserved
loop-node-preserved g c =
    let went : c.advance.result ≡ Ok tt = search rules in
    let k = c.loop-node.node in
    let one : k + 1 ≡ suc k = omega arith in
    let first = c.args.self.now.nodes.items in
    let below : k < length c.args.self.now.config.sources = search rules in
    let within : k < length first = omega (arith, below, c.args.self.now.count) in
    record {
      same_config = c.advance.ensures.stepped.same_config ∙ c.loop-node.invariant.same_config;
      same_opened = c.advance.ensures.stepped.same_opened ∙ c.loop-node.invariant.same_opened;
      started = more k (k + 1) (view_of c.loop-node.self) (view_of c.advance.new.self) c.loop-node.invariant.started
          (subst (λ (answer : Result (Unit {0}) NodeFault). Stepped g.D.Disk (view_of c.loop-node.self) (event.Start k) answer (view_of c.advance.new.self)) went c.advance.ensures.stepped) one;
      seen = λ standings honest are.
          let now = c.loop-node.invariant.seen standings honest are in
          seen_on g.D.Disk (view_of c.loop-node.self) (view_of c.advance.new.self) (event.Start k) c.advance.result now.0 c.advance.ensures.stepped honest now.1;
      opens = step_opens g.D.Disk first (view_of c.loop-node.self) (view_of c.advance.new.self) k c.advance.result c.advance.ensures.stepped c.loop-node.invariant.opens;
      marks = λ honest down. step_marks g.D.Disk first (view_of c.loop-node.self) (view_of c.advance.new.self) k c.advance.result c.advance.ensures.stepped went honest down
          c.loop-node.invariant.waits within (c.loop-node.invariant.marks honest down);
      waits = step_waits g.D.Disk first (view_of c.loop-node.self) (view_of c.advance.new.self) k c.advance.result c.advance.ensures.stepped c.loop-node.invariant.waits;
      stores = λ honest down. step_have g.D.Disk first k (c.loop-node.invariant.stores honest down)
          (step_finds g.D.Disk first (view_of c.loop-node.self) (view_of c.advance.new.self) k c.advance.result c.advance.ensures.stepped went honest down c.loop-node.invariant.waits within);
    }

pub returns-clause-started : goal.returns-clause-started
returns-clause-started g c =
    let v = view_of c.loop-node.self in
    let now = c.forget_last.new.self in
    let all : now.all ≡ v.all = c.forget_last.ensures.all in
    let end : c.loop-node.node ≡ length c.args.self.now.config.sources = search rules in
    record {
      between = v;
      starts = subst (λ n. Starts g.D.Disk (view_of c.args.self.now) n v) end c.loop-node.invariant.started;
      forgets = ap (λ (a : Record). record v { all = a; last = now.last }) all ∙ ap (λ (l : Told). record v { last = l }) c.in_ok-forget_last.ensures.last;
    }

pub returns-in_err-advance-clause-failed : goal.returns-in_err-advance-clause-failed
returns-in_err-advance-clause-failed g c =
    let why = c.in_err-advance.field-0.0 in
    let went : c.advance.result ≡ Err why = search rules in
    let same : c.from_residual.result ≡ Err why = search rules in
    on_fault c.from_residual.result why (λ (w : NodeFault). (standings : List Standing) → IsTrue g.D.Disk.is_honest → AreSeen g.D.Disk (view_of c.args.self.now).nodes standings → IsWant w) same (λ standings honest are.
    let now = c.loop-node.invariant.seen standings honest are in
    start_wants g.D.Disk (view_of c.loop-node.self) (view_of c.advance.new.self) c.loop-node.node c.advance.result why now.0 c.advance.ensures.stepped honest now.1 went)

pub returns-clause-opens : goal.returns-clause-opens
returns-clause-opens g c = c.loop-node.invariant.opens

pub returns-clause-marks : goal.returns-clause-marks
returns-clause-marks g c = λ honest down.
    let end : c.loop-node.node ≡ length c.args.self.now.config.sources = search rules in
    subst (λ n. MarkFirst g.D.Disk c.args.self.now.nodes.items n c.loop-node.self.nodes.items) (end ∙ sym c.args.self.now.count) (c.loop-node.invariant.marks honest down)

pub returns-clause-stores : goal.returns-clause-stores
returns-clause-stores g c = λ honest down i d less.
    let end : c.loop-node.node ≡ length c.args.self.now.config.sources = search rules in
    c.loop-node.invariant.stores honest down i d (omega (arith, less, end, c.args.self.now.count))

pub returns-in_err-advance-clause-refused : goal.returns-in_err-advance-clause-refused
returns-in_err-advance-clause-refused g c =
    let why = c.in_err-advance.field-0.0 in
    let failed : c.advance.result ≡ Err why = search rules in
    let same : c.from_residual.result ≡ Err why = search rules in
    let first = c.args.self.now.nodes.items in
    let below : c.loop-node.node < length c.args.self.now.config.sources = search rules in
    let within : c.loop-node.node < length first = omega (arith, below, c.args.self.now.count) in
    on_fault c.from_residual.result why (λ (w : NodeFault). IsTrue g.D.Disk.is_honest → AreDown g.D.Disk first → IsRefusedStart g.D.Disk first w) same (λ honest down.
    step_refused g.D.Disk first (view_of c.loop-node.self) (view_of c.advance.new.self) c.loop-node.node c.advance.result why c.advance.ensures.stepped failed honest c.loop-node.invariant.waits
    within (c.loop-node.invariant.stores honest down))

pub returns-in_err-advance-clause-opens : goal.returns-in_err-advance-clause-opens
returns-in_err-advance-clause-opens g c =
    step_opens g.D.Disk c.args.self.now.nodes.items (view_of c.loop-node.self) (view_of c.advance.new.self) c.loop-node.node c.advance.result c.advance.ensures.stepped c.loop-node.invariant.opens
