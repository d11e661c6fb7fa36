use Rattle.std.proofs.Common.{◌≡◌, ◌⊎◌, ◌≤◌, ℕ, inl, inr, List, Err, refl, sym, ◌∙◌, ap, subst, arith}
use Rattle.promise_store.specs.declared.stage.Stage.{Stage}
use Rattle.promise_store.specs.declared.stage.Stage.TheVariants.{Old, New}
use Rattle.promise_store.specs.declared.fault.StoreFault.{StoreFault}
use Rattle.promise_store.specs.declared.fault.StoreFault.TheVariants.{Disk, Closed, OutOfMemory}
use Rattle.protocol_model.specs.Stores as model
use Rattle.promise_store.specs.Disks.{Rose}
use Rattle.promise_store.specs.Stages.{marked}
use Rattle.promise_store.specs.Settled.{IsSettled}
use Rattle.promise_store.specs.Keeping.{disk_of, KeepsAt, Leaves, LeavesDuring}
use Rattle.promise_store.proofs.store.Store.mark.Goals as goal

only_so : {P : Type 0} (fault : StoreFault) → (fault ≡ Closed → P) → (fault ≡ OutOfMemory → ⊥) → (fault ≡ Disk) ⊎ ((fault ≡ Closed) ⊎ (fault ≡ OutOfMemory)) → (fault ≡ Disk) ⊎ P
only_so fault closed memory (inl disk) = inl disk
only_so fault closed memory (inr (inl is)) = inr (closed is)
only_so fault closed memory (inr (inr is)) = absurd (memory is)

IsNew : Stage → Type 0
IsNew Old = ⊥
IsNew New = Unit {0}

old_is_not_new : (stage : Stage) → stage ≡ Old → stage ≡ New → ⊥
unfolding IsNew
old_is_not_new stage old new = subst IsNew (sym new ∙ old) tt

pub returns-in-New : goal.returns-in-New
returns-in-New g c =
    let is_new = c.in-New.is in
    let same = λ (head : List ℕ) (held : model.Store) (keeps : KeepsAt g.D.Disk c.args.stage head held c.args.self). subst (λ (s : Stage). KeepsAt g.D.Disk s head held c.args.self) is_new keeps in
    record {
      keeps = same;
      leaves = λ head held keeps. c.what_is_kept_is_left.ensures head held c.args.self (same head held keeps);
      during = λ head held keeps t image is. inl is;
      marks = λ first head records settled. subst (λ (s : Stage). IsSettled g.D.Disk first New head (marked s records) c.args.self.gate c.args.self.disk) (sym is_new) (subst (λ (s : Stage). IsSettled g.D.Disk first s head records c.args.self.gate c.args.self.disk) is_new settled);
      quiet = λ new. refl;
      failed = tt;
      only = tt;
      begun = refl;
      counts = omega arith;
    }

pub returns-in-Ok : goal.returns-in-Ok
returns-in-Ok g c =
    let appended = c.in-Ok.ensures.appended Old New refl in
    let is_old = λ (head : List ℕ) (held : model.Store) (keeps : KeepsAt g.D.Disk c.args.stage head held c.args.self). subst (λ (s : Stage). KeepsAt g.D.Disk s head held c.args.self) c.in-Old.is keeps in
    record {
      keeps = λ head held keeps. appended.ok head held (is_old head held keeps);
      leaves = λ head held keeps. appended.leaves head held (is_old head held keeps);
      during = λ head held keeps. appended.any_moment head held (is_old head held keeps);
      marks = λ first head records settled.
          subst (λ (s : Stage). IsSettled g.D.Disk first New head (marked s records) c.append.new.self.gate c.append.new.self.disk) (sym c.in-Old.is)
          (c.in-Ok.ensures.settled first Old New head records refl (subst (λ (s : Stage). IsSettled g.D.Disk first s head records c.args.self.gate c.args.self.disk) c.in-Old.is settled));
      quiet = λ new. absurd (old_is_not_new c.args.stage c.in-Old.is new);
      failed = tt;
      only = tt;
      begun = appended.begun;
      counts = appended.counts;
    }

pub returns-in-Err : goal.returns-in-Err
returns-in-Err g c =
    let appended = c.in-Err.ensures.appended Old New refl in
    let is_old = λ (head : List ℕ) (held : model.Store) (keeps : KeepsAt g.D.Disk c.args.stage head held c.args.self). subst (λ (s : Stage). KeepsAt g.D.Disk s head held c.args.self) c.in-Old.is keeps in
    record {
      keeps = λ head held keeps. tt;
      leaves = λ head held keeps. subst (Leaves g.D.Disk head held held) (sym c.close.ensures) (appended.leaves head held (is_old head held keeps));
      during = λ head held keeps. subst (LeavesDuring g.D.Disk head held held (disk_of c.args.self)) (sym c.close.ensures) (appended.any_moment head held (is_old head held keeps));
      marks = λ first head records settled. tt;
      quiet = λ new. absurd (old_is_not_new c.args.stage c.in-Old.is new);
      failed = λ is. subst (λ d. Rose (g.D.Disk.count (disk_of c.args.self)) (g.D.Disk.count d)) (sym c.close.ensures) (appended.failed (ap Err is)).0;
      only = only_so c.in-Err.fault (λ is. appended.closed.0 (ap Err is)) (λ is. c.in-Err.ensures.memory (ap Err is)) appended.only;
      begun = subst (λ d. g.D.Disk.begun d ≡ g.D.Disk.begun (disk_of c.args.self)) (sym c.close.ensures) appended.begun;
      counts = subst (λ d. g.D.Disk.count (disk_of c.args.self) ≤ g.D.Disk.count d) (sym c.close.ensures) appended.counts;
    }
