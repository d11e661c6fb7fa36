use Rattle.std.proofs.Common.{inl, inr, List, ℕ, Err, false, subst, refl, sym, ap, ◌∙◌}
use Rattle.std.specs.Prelude.{IsTrue}
use Rattle.promise_store.specs.declared.store.Store.{Store}
use Rattle.protocol_model.specs.Stores as model
use Rattle.promise_store.specs.Stages.{head_of}
use Rattle.promise_store.specs.Journals.{header, IsJournalOf, gate_behind}
use Rattle.promise_store.specs.Holding.{holding, store_of, StandsFor}
use Rattle.promise_store.specs.Keeping.{KeepsAt}
use Rattle.promise_store.proofs.Opening.{no_refusal}
use Rattle.promise_store.proofs.Journals.{same_stages}
use Rattle.promise_store.proofs.store.Store.read_from.Goals as goal

pub returns-in-Ok : goal.returns-in-Ok
returns-in-Ok g c =
    let head = header c.args.node c.args.nodes in
    let file = g.D.Disk.seen c.args.disk in
    let read = c.in-Ok.ensures.found in
    let seen = c.in-Ok.ensures.reads.seen in
    let held = store_of (holding head read.records) in
    let store : Store g.row.D.Denot = record { disk = c.read_journal.new.disk; gate = c.in-Ok.gate; closed = false; held = c.in-Ok.held } in
    let keeps : KeepsAt g.D.Disk c.in-Ok.stage head held store = record { first = read.first; records = read.records; is_open = refl; settled = read.settled; is = refl; indexes = λ honest. read.indexes } in
    let journal : IsTrue g.D.Disk.is_honest → IsJournalOf read.first c.in-Ok.stage head file read.records = λ honest. subst (λ (l : List ℕ). IsJournalOf read.first c.in-Ok.stage head l read.records) seen (read.settled.journal honest) in
    let stands : IsTrue g.D.Disk.is_honest → StandsFor head file held = λ honest. record { records = read.records; journal = (read.first, c.in-Ok.stage, journal honest); is = refl } in
    record {
      opened = record { held = held; keeps = keeps; stands = stands };
      is_open = refl;
      read = λ honest first last records is.
          let same = same_stages c.args.node c.args.nodes file read.first c.in-Ok.stage first last read.records records (journal honest) is in (
            same.1,
            record {
              journal = λ honest. subst (λ (l : List ℕ). IsJournalOf first last head l records) (sym seen) is;
              at_gate = λ honest. read.settled.at_gate honest ∙ (λ i. gate_behind (head_of (same.0 i) head) (same.2 i));
              durable = read.settled.durable;
            },
          );
      either = λ old new honest leaves. elim (leaves file (g.met.D.Disk.seen_may_stay c.args.disk honest)) [
        | inl was ↦ inl (subst (λ (s : model.Store). KeepsAt g.D.Disk c.in-Ok.stage head s store) (c.journals_have_one_reading.ensures.stores head file held old (stands honest) was) keeps)
        | inr is ↦ inr (subst (λ (s : model.Store). KeepsAt g.D.Disk c.in-Ok.stage head s store) (c.journals_have_one_reading.ensures.stores head file held new (stands honest) is) keeps)
      ];
      sound = λ old new honest leaves. tt;
      refused = λ honest. tt;
      failed = tt;
      reads = c.in-Ok.ensures.reads;
      reads_err = tt;
    }

pub returns-in-Err : goal.returns-in-Err
returns-in-Err g c =
    let head = header c.args.node c.args.nodes in
    let file = g.D.Disk.seen c.args.disk in
    record {
      opened = tt;
      is_open = tt;
      read = λ honest first last records is. tt;
      either = λ old new honest leaves. tt;
      sound = λ old new honest leaves. elim (leaves file (g.met.D.Disk.seen_may_stay c.args.disk honest)) [
        | inl was ↦ no_refusal head file old c.in-Err.fault was (c.in-Err.ensures.refused honest)
        | inr is ↦ no_refusal head file new c.in-Err.fault is (c.in-Err.ensures.refused honest)
      ];
      refused = c.in-Err.ensures.refused;
      failed = λ is. c.in-Err.ensures.failed (ap Err is);
      reads = tt;
      reads_err = c.in-Err.ensures.reads;
    }
