-- A call that stores a record, behind one that changes nothing; and reading a journal.
use Rattle.std.proofs.Common.{◌≡◌, ◌⊎◌, inl, inr, ℕ, ◌≤◌, sym, ◌∙◌, ap, subst, List, [], ◌∷◌, ◌++◌, length, take, true, Bool, arith}
use Rattle.std.specs.Prelude.{Result, Ok, Err, IfOk, IfErr, IsErrOf, ◌↔◌}
use Rattle.promise_store.specs.declared.disk.Disk.{Ghosts}
use Rattle.promise_store.specs.declared.records.Record.{Record}
use Rattle.promise_store.specs.declared.store.Store.{Store}
use Rattle.promise_store.specs.declared.fault.StoreFault.{StoreFault}
use Rattle.promise_store.specs.declared.fault.StoreFault.TheVariants.{Disk, BadRecord, Closed, OutOfMemory}
use Rattle.promise_store.specs.Journals.{IsJournal, IsJournalOf}
use Rattle.promise_store.specs.Refusals.{HasHead, Refuses}
use Rattle.promise_store.specs.Disks.{Rose}
use Rattle.promise_store.specs.Holding.{stored}
use Rattle.promise_store.specs.Settled.{OnlyReads, LeavesRecordsDuring}
use Rattle.promise_store.specs.Keeping.{disk_of, is_closed, held_of, LeavesDuring}
use Rattle.promise_store.specs.Room.{ShowSame}
use Rattle.promise_store.specs.declared.stage.Stage.TheVariants.{New}
use Rattle.promise_store.specs.Appended.{IsAsBefore, Appended}

pub on_both : {T E : Type 0} (result : Result T E) (P Q R : T → Type 0) (H : Type 0) → ((x : T) → P x → (H → Q x) → R x) → IfOk result P → (H → IfOk result Q) → IfOk result R
on_both (Ok x) P Q R H f p q = f x p q
on_both (Err e) P Q R H f p q = tt

-- what reading the records of a file with a head answers
pub refused_by : {T : Type 0} (result : Result T StoreFault) (head file : List ℕ) → HasHead head file → IfErr result (λ fault. (fault ≡ Disk) ⊎ ((fault ≡ BadRecord) ⊎ (fault ≡ OutOfMemory)))
    → (IsErrOf result BadRecord → (records : List Record) → IsJournal head file records → ⊥) → IfErr result (λ fault. Refuses head file fault)
refused_by (Ok x) head file has only none = tt
refused_by (Err fault) head file has (inl is) none = subst (λ (f : StoreFault). Refuses head file f) (sym is) tt
refused_by (Err fault) head file has (inr (inl is)) none = subst (λ (f : StoreFault). Refuses head file f) (sym is) (has, none (ap (λ (f : StoreFault). Err f) is))
refused_by (Err fault) head file has (inr (inr is)) none = subst (λ (f : StoreFault). Refuses head file f) (sym is) tt

-- a buffer that was filled from a place on
pub fills : (old new rest : List ℕ) (count : ℕ) → new ≡ take (length old) rest → length old ≡ count → new ≡ take count rest
fills old new rest count is long = is ∙ ap (λ (k : ℕ). take k rest) long

module _ {D : Type 0} (g : Ghosts D) where
  pub shows_on : (first before after : Store D) (result : Result (Unit {0}) StoreFault) → ShowSame (held_of first) (held_of before) → IfErr result (λ fault. ShowSame (held_of before) (held_of after))
      → IfErr result (λ fault. ShowSame (held_of first) (held_of after))
  shows_on first before after (Ok x) one two = tt
  shows_on first before after (Err fault) one two = record { promise = two.promise ∙ one.promise; entries = λ slot. two.entries slot ∙ one.entries slot }

  pub appended_behind : (r : Record) (first before after : Store D) (result : Result (Unit {0}) StoreFault) → IsAsBefore g first before → ShowSame (held_of first) (held_of before)
      → Appended g r before after result → Appended g r first after result
  appended_behind r first before after result same shown appended = record {
    ok = λ head held keeps. appended.ok head held (same.keeps head held keeps);
    any_moment = λ head held keeps. subst (λ (d : D). LeavesDuring g head held (stored held r) d (disk_of after)) same.disk (appended.any_moment head held (same.keeps head held keeps));
    leaves = λ head held keeps. appended.leaves head held (same.keeps head held keeps);
    journal = λ head held keeps honest stage records is. appended.journal head held (same.keeps head held keeps) honest stage records (subst (λ (d : D). IsJournalOf stage New head (g.seen d) records) (sym same.disk) is);
    steps = λ head held keeps honest stage records is.
        subst (λ (d : D). LeavesRecordsDuring g head records (records ++ r ∷ []) d (disk_of after)) same.disk
        (appended.steps head held (same.keeps head held keeps) honest stage records (subst (λ (d : D). IsJournalOf stage New head (g.seen d) records) (sym same.disk) is));
    shows = shows_on first before after result shown appended.shows;
    failed = λ is. subst (λ (d : D). Rose (g.count d) (g.count (disk_of after)) × (is_closed after ≡ true)) same.disk (appended.failed is);
    closed = subst (λ (b : Bool). IsErrOf result Closed ↔ (b ≡ true)) same.closed appended.closed;
    unchanged = λ is. let later = appended.unchanged is in record { disk = later.disk ∙ same.disk; closed = later.closed ∙ same.closed; keeps = λ head held keeps. later.keeps head held (same.keeps head held keeps) };
    only = appended.only;
    begun = appended.begun ∙ ap g.begun same.disk;
    counts = subst (λ (d : D). g.count d ≤ g.count (disk_of after)) same.disk appended.counts;
  }

  -- from one reading to the next
  pub reads_on : (a b c : D) → OnlyReads g a b → OnlyReads g b c → OnlyReads g a c
  reads_on a b c one two = record {
    seen = two.seen ∙ one.seen;
    begun = two.begun ∙ one.begun;
    images = λ image left. one.images image (two.images image left);
    during = λ t image left. elim (two.during t image left) [ inl was ↦ one.during t image was | inr now ↦ inr (one.images image now) ];
    counts = omega (arith, one.counts, two.counts);
  }
