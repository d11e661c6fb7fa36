use Rattle.std.proofs.Common.{◌≡◌, ℕ, List, inl, inr, ap, sym, subst, ◌∙◌}
use Rattle.promise_store.specs.Journals.{header}
use Rattle.promise_store.specs.Holding.{StandsFor}
use Rattle.promise_store.specs.Settled.{OnlyReads}
use Rattle.promise_store.specs.Keeping.{disk_of, Keeps, Leaves, Reopens}
use Rattle.promise_store.specs.declared.store.Store.{Store as Journal}
use Rattle.promise_store.specs.Refusals.{Refuses}
use Rattle.promise_store.specs.declared.fault.StoreFault.{StoreFault}
use Rattle.acceptor.specs.Stored.{store_of}
use Rattle.dealer_node.specs.Members.{Membership}
use Rattle.dealer_node.specs.Working.{head_of}
use Rattle.dealer_node.specs.Starting.{GoesOnNew, MarksJournal}
use Rattle.dealer_node.proofs.Started.{opened_at}
use Rattle.dealer_node.proofs.starting.open_store.Goals as goal

heads : (member : Membership) (node nodes : ℕ) → node ≡ member.node → nodes ≡ member.nodes → header node nodes ≡ head_of member
heads member node nodes own many = ap (λ n. header n nodes) own ∙ ap (λ n. header member.node n) many

pub returns-in-Ok-clause-opened : goal.returns-in-Ok-clause-opened
returns-in-Ok-clause-opened g c = λ old new honest leaves.
    let same = heads c.args.member.now c.node.result c.nodes.result c.node.ensures.value c.nodes.ensures.value in
    let L : List ℕ → Type 0 = λ h. Leaves g.D.Disk h old new c.args.disk in
    opened_at g.D.Disk (header c.node.result c.nodes.result) (head_of c.args.member.now) old new c.in-Ok.store (store_of c.new.result) same c.new.ensures
    (c.in-Ok.ensures.either old new honest (subst L (sym same) leaves))

pub returns-in-Ok-clause-stands : goal.returns-in-Ok-clause-stands
returns-in-Ok-clause-stands g c = λ honest.
    let same = heads c.args.member.now c.node.result c.nodes.result c.node.ensures.value c.nodes.ensures.value in
    let opened = c.in-Ok.ensures.opened in
    let S : List ℕ → Type 0 = λ h. StandsFor h (g.D.Disk.seen c.args.disk) opened.held in
    let K : List ℕ → Type 0 = λ h. Keeps g.D.Disk h opened.held (store_of c.new.result) in
    let J : Journal g.row.D.Denot → Type 0 = λ st. Keeps g.D.Disk (header c.node.result c.nodes.result) opened.held st in
    (opened.held, subst S same (opened.stands honest), subst K same (subst J (sym c.new.ensures) opened.keeps))

pub returns-in-Err-clause-refused : goal.returns-in-Err-clause-refused
returns-in-Err-clause-refused g c = λ old new honest leaves.
    let same = heads c.args.member.now c.node.result c.nodes.result c.node.ensures.value c.nodes.ensures.value in
    let L : List ℕ → Type 0 = λ h. Leaves g.D.Disk h old new c.args.disk in
    elim (c.in-Err.ensures.sound old new honest (subst L (sym same) leaves)) [
      | inl failed ↦ inr (c.fault_of.ensures.disk failed)
      | inr memory ↦ inl (c.fault_of.ensures.memory memory)
    ]

pub returns-in-Ok-clause-reopens : goal.returns-in-Ok-clause-reopens
returns-in-Ok-clause-reopens g c =
    let same = heads c.args.member.now c.node.result c.nodes.result c.node.ensures.value c.nodes.ensures.value in
    let R : List ℕ → Type 0 = λ h. Reopens g.D.Disk h c.args.disk (disk_of (store_of c.new.result)) in
    let J : Journal g.row.D.Denot → Type 0 = λ st. Reopens g.D.Disk (header c.node.result c.nodes.result) c.args.disk (disk_of st) in
    subst R same (subst J (sym c.new.ensures) c.in-Ok.ensures.settles)

pub returns-in-Err-clause-reopens_err : goal.returns-in-Err-clause-reopens_err
returns-in-Err-clause-reopens_err g c =
    let same = heads c.args.member.now c.node.result c.nodes.result c.node.ensures.value c.nodes.ensures.value in
    subst (λ (h : List ℕ). Reopens g.D.Disk h c.args.disk c.in-Err.disk) same c.in-Err.ensures.settles_err

pub returns-in-Ok-clause-marks : goal.returns-in-Ok-clause-marks
returns-in-Ok-clause-marks g c = record {
  marks = λ honest.
      let same = heads c.args.member.now c.node.result c.nodes.result c.node.ensures.value c.nodes.ensures.value in
      let M : List ℕ → Type 0 = λ h. MarksJournal h (g.D.Disk.seen c.args.disk) (g.D.Disk.seen (disk_of (store_of c.new.result))) in
      let J : Journal g.row.D.Denot → Type 0 = λ st. MarksJournal (header c.node.result c.nodes.result) (g.D.Disk.seen c.args.disk) (g.D.Disk.seen (disk_of st)) in
      subst M same (subst J (sym c.new.ensures) (c.in-Ok.ensures.marks honest));
  quiet = λ honest goes_on.
      let same = heads c.args.member.now c.node.result c.nodes.result c.node.ensures.value c.nodes.ensures.value in
      let there = subst (λ (h : List ℕ). GoesOnNew h (g.D.Disk.seen c.args.disk)) (sym same) goes_on in
      let J : Journal g.row.D.Denot → Type 0 = λ st. OnlyReads g.D.Disk c.args.disk (disk_of st) in
      subst J (sym c.new.ensures) (c.in-Ok.ensures.quiet honest there.0 there.1 there.2);
}

pub returns-in-Err-clause-refuses : goal.returns-in-Err-clause-refuses
returns-in-Err-clause-refuses g c = record {
  of_start = c.fault_of.ensures.of_start;
  finds = λ honest why is.
      let same = heads c.args.member.now c.node.result c.nodes.result c.node.ensures.value c.nodes.ensures.value in
      let R : List ℕ → Type 0 = λ h. Refuses h (g.D.Disk.seen c.args.disk) why in
      let F : StoreFault → Type 0 = λ f. Refuses (header c.node.result c.nodes.result) (g.D.Disk.seen c.args.disk) f in
      subst R same (subst F (c.fault_of.ensures.only why is) (c.in-Err.ensures.refused honest));
  unwritten = λ other. c.in-Err.ensures.unwritten (λ failed. other (c.fault_of.ensures.disk failed));
  quiet = λ honest goes_on.
      let same = heads c.args.member.now c.node.result c.nodes.result c.node.ensures.value c.nodes.ensures.value in
      let there = subst (λ (h : List ℕ). GoesOnNew h (g.D.Disk.seen c.args.disk)) (sym same) goes_on in
      c.in-Err.ensures.quiet_err honest there.0 there.1 there.2;
}
