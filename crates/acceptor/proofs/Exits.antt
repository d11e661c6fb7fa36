-- How a call of an acceptor ends, by the calls of its store that it makes.
use Rattle.std.proofs.Common.{ℕ, ◌≡◌, ◌≤◌, ◌⊎◌, inl, inr, true, List, [], ◌∷◌, ◌++◌, Result, Ok, Err, refl, sym, ◌∙◌, ap, subst, arith, IsTrue}
use Rattle.protocol_model.specs.Stores as model
use Rattle.promise_store.specs.declared.disk.Disk.{Ghosts}
use Rattle.promise_store.specs.declared.records.Record.{Record}
use Rattle.promise_store.specs.declared.store.Store.{Store}
use Rattle.promise_store.specs.declared.fault.StoreFault.{StoreFault}
use Rattle.promise_store.specs.declared.fault.StoreFault.TheVariants.{Disk, Closed, OutOfMemory}
use Rattle.promise_store.specs.Disks.{Rose}
use Rattle.promise_store.specs.Holding.{stored, StandsFor}
use Rattle.promise_store.specs.declared.stage.Stage.{Stage}
use Rattle.promise_store.specs.declared.stage.Stage.TheVariants.{New}
use Rattle.promise_store.specs.Journals.{IsJournalOf}
use Rattle.promise_store.specs.Settled.{OnlyReads, LeavesRecordsDuring}
use Rattle.promise_store.specs.Keeping.{disk_of, is_closed, Keeps, Leaves, LeavesDuring}
use Rattle.promise_store.specs.Appended.{IsAsBefore, Appended}
use Rattle.promise_store.proofs.Storing.{reads_on}
use Rattle.acceptor.specs.Taken.{Taken, Read, AppendsOne}

rose_from : (a b c : ℕ) → a ≤ b → Rose b c → Rose a c
rose_from a b c h r = let x = r in omega arith

module _ {D : Type 0} (g : Ghosts D) where
  -- what a store keeps is all that its disk leaves
  abbrev pub KeptIsLeft : Type 0
  KeptIsLeft = (head : List ℕ) (held : model.Store) (store : Store D) → Keeps g head held store → Leaves g head held held (disk_of store)

  abbrev Both : List ℕ → model.Store → model.Store → List ℕ → Type 0
  Both head old new image = StandsFor head image old ⊎ StandsFor head image new

  the_one : (head : List ℕ) (old new : model.Store) (image : List ℕ) → StandsFor head image old ⊎ StandsFor head image old → Both head old new image
  the_one head old new image (inl s) = inl s
  the_one head old new image (inr s) = inl s

  -- ---- reading on

  pub reads_nothing : (a : D) → OnlyReads g a a
  reads_nothing a = record { seen = refl; begun = refl; images = λ image left. left; during = λ t image left. inl left; counts = omega arith }

  -- what the store's index shows
  pub read_seen : {T : Type 0} (answer : model.Store → T) (store : Store D) (given : T)
      → ((head : List ℕ) (held : model.Store) → Keeps g head held store → IsTrue g.is_honest → given ≡ answer held) → Read g answer store store (Ok given)
  read_seen answer store given is = record {
    ok = λ head held keeps honest. (is head held keeps honest, keeps);
    reads = reads_nothing (disk_of store);
    held = refl;
    failed = λ e. absurd (cc);
    memory = λ e. absurd (cc);
    only = λ head held keeps honest. tt;
    closed = λ e. absurd (cc);
    stays = refl;
    faults = tt;
  }

  -- one more was read
  pub read_on : {T U V : Type 0} (first : model.Store → T) (then : model.Store → U) (answer : model.Store → V) (before between after : Store D) (x : T) (y : U) (z : V)
      → Read g first before between (Ok x) → Read g then between after (Ok y) → ((held : model.Store) → x ≡ first held → y ≡ then held → z ≡ answer held)
      → Read g answer before after (Ok z)
  read_on first then answer before between after x y z h k is = record {
    ok = λ head held keeps honest. let a = h.ok head held keeps honest in let b = k.ok head held a.1 honest in (is held a.0 b.0, b.1);
    reads = reads_on g (disk_of before) (disk_of between) (disk_of after) h.reads k.reads;
    held = k.held ∙ h.held;
    failed = λ e. absurd (cc);
    memory = λ e. absurd (cc);
    only = λ head held keeps honest. tt;
    closed = λ e. absurd (cc);
    stays = k.stays ∙ h.stays;
    faults = tt;
  }

  fault_is : {T U : Type 0} (x y : StoreFault) → ◌≡◌ {A = Result T StoreFault} (Err x) (Err y) → ◌≡◌ {A = Result U StoreFault} (Err x) (Err y)
  fault_is x y e = let same : x ≡ y = cc in ap Err same

  -- or wasn't
  pub read_failed : {T U V : Type 0} (first : model.Store → T) (then : model.Store → U) (answer : model.Store → V) (before between after : Store D) (x : T) (fault : StoreFault)
      → Read g first before between (Ok x) → Read g then between after (Err fault) → (is_closed before ≡ true → between ≡ before) → Read g answer before after (Err fault)
  read_failed first then answer before between after x fault h k same = record {
    ok = λ head held keeps honest. tt;
    reads = reads_on g (disk_of before) (disk_of between) (disk_of after) h.reads k.reads;
    held = k.held ∙ h.held;
    failed = λ e. let f = k.failed (fault_is fault Disk e) in (rose_from _ _ _ h.reads.counts f.0, f.1);
    memory = λ e. k.memory (fault_is fault OutOfMemory e);
    only = λ head held keeps honest. k.only head held (h.ok head held keeps honest).1 honest;
    closed = λ e.
        let c = k.closed (fault_is fault Closed e) in
        let was : is_closed before ≡ true = sym h.stays ∙ c.0 in (was, subst (λ (s : Store D). IsAsBefore g s after) (same was) c.1);
    stays = tt;
    faults = k.faults;
  }

  -- ---- ends

  -- an answer after reading alone
  pub answered : {T U : Type 0} (read : model.Store → U) (answer : model.Store → T) (next : model.Store → model.Store) (before after : Store D) (got : U) (given : T)
      → KeptIsLeft → Read g read before after (Ok got)
      → ((head : List ℕ) (held : model.Store) → Keeps g head held before → IsTrue g.is_honest → got ≡ read held → (given ≡ answer held) × (next held ≡ held))
      → Taken g answer next before after (Ok given)
  answered read answer next before after got given left h is = record {
    ok = λ head held keeps honest.
        let k = h.ok head held keeps honest in
        let s = is head held keeps honest k.0 in (s.0, subst (λ (x : model.Store). Keeps g head x after) (sym s.1) k.1);
    any_moment = λ head held keeps honest t image now. elim (h.reads.during t image now) [
      | inl was ↦ inl was
      | inr old ↦ inr (the_one head held (next held) image (left head held before keeps image old))
    ];
    leaves = λ head held keeps honest image now. the_one head held (next held) image (left head held before keeps image (h.reads.images image now));
    writes = λ head held keeps honest first records is. inl h.reads;
    failed = λ e. absurd (cc);
    unchanged = λ e. absurd (cc);
    only = λ head held keeps honest. tt;
    begun = h.reads.begun;
    counts = h.reads.counts;
  }

  -- a read failed
  pub not_read : {T U : Type 0} (read : model.Store → U) (answer : model.Store → T) (next : model.Store → model.Store) (before after : Store D) (fault : StoreFault)
      → KeptIsLeft → Read g read before after (Err fault) → Taken g answer next before after (Err fault)
  not_read read answer next before after fault left h = record {
    ok = λ head held keeps honest. tt;
    any_moment = λ head held keeps honest t image now. elim (h.reads.during t image now) [
      | inl was ↦ inl was
      | inr old ↦ inr (the_one head held (next held) image (left head held before keeps image old))
    ];
    leaves = λ head held keeps honest image now. the_one head held (next held) image (left head held before keeps image (h.reads.images image now));
    writes = λ head held keeps honest first records is. inl h.reads;
    failed = λ e. h.failed (fault_is fault Disk e);
    unchanged = λ e. absurd (h.memory (fault_is fault OutOfMemory e));
    only = λ head held keeps honest. inl (h.only head held keeps honest);
    begun = h.reads.begun;
    counts = h.reads.counts;
  }

  module _ {T U : Type 0} (read : model.Store → U) (answer : model.Store → T) (next : model.Store → model.Store) (r : Record)
      (before between after : Store D) (got : U) (left : KeptIsLeft) (h : Read g read before between (Ok got))
      (is : (head : List ℕ) (held : model.Store) → Keeps g head held before → IsTrue g.is_honest → next held ≡ stored held r) where
    moments : (result : Result (Unit {0}) StoreFault) → Appended g r between after result
        → (head : List ℕ) (held : model.Store) → Keeps g head held before → IsTrue g.is_honest → LeavesDuring g head held (next held) (disk_of before) (disk_of after)
    moments result a head held keeps honest t image now =
        let k = (h.ok head held keeps honest).1 in
        elim (a.any_moment head held k t image now) [
          | inl was ↦ elim (h.reads.during t image was) [ inl past ↦ inl past | inr old ↦ inr (the_one head held (next held) image (left head held before keeps image old)) ]
          | inr either ↦ inr (subst (λ (x : model.Store). Both head held x image) (sym (is head held keeps honest)) either)
        ]

    leaving : (result : Result (Unit {0}) StoreFault) → Appended g r between after result
        → (head : List ℕ) (held : model.Store) → Keeps g head held before → IsTrue g.is_honest → Leaves g head held (next held) (disk_of after)
    leaving result a head held keeps honest image now =
        subst (λ (x : model.Store). Both head held x image) (sym (is head held keeps honest)) (a.leaves head held (h.ok head held keeps honest).1 image now)

    -- what was read before the append left each image as it was
    stepping : (result : Result (Unit {0}) StoreFault) → Appended g r between after result
        → (head : List ℕ) (held : model.Store) → Keeps g head held before → IsTrue g.is_honest
        → (first : Stage) (records : List Record) → IsJournalOf first New head (g.seen (disk_of before)) records
        → LeavesRecordsDuring g head records (records ++ r ∷ []) (disk_of before) (disk_of after)
    stepping result a head held keeps honest first records is t image now =
        let was_there : IsJournalOf first New head (g.seen (disk_of between)) records = subst (λ (l : List ℕ). IsJournalOf first New head l records) (sym h.reads.seen) is in
        elim (a.steps head held (h.ok head held keeps honest).1 honest first records was_there t image now) [
          | inl was ↦ elim (h.reads.during t image was) [
            | inl past ↦ inl past
            | inr old ↦ inr (inl (first, New, subst (λ (l : List ℕ). IsJournalOf first New head l records) (sym (keeps.settled.durable image old)) is))
          ]
          | inr either ↦ inr either
        ]

    counting : (result : Result (Unit {0}) StoreFault) → Appended g r between after result → g.count (disk_of before) ≤ g.count (disk_of after)
    counting result a = let x = h.reads.counts in let y = a.counts in omega arith

    -- an answer after the append
    pub appended : (done : Unit {0}) (given : T) → Appended g r between after (Ok done)
        → ((head : List ℕ) (held : model.Store) → Keeps g head held before → IsTrue g.is_honest → got ≡ read held → given ≡ answer held)
        → Taken g answer next before after (Ok given)
    appended done given a told = record {
      ok = λ head held keeps honest.
          let k = h.ok head held keeps honest in (
            told head held keeps honest k.0,
            subst (λ (x : model.Store). Keeps g head x after) (sym (is head held keeps honest)) (a.ok head held k.1),
          );
      any_moment = moments (Ok done) a;
      leaves = leaving (Ok done) a;
      writes = λ head held keeps honest first records is. inr (record {
        addition = r;
        steps = stepping (Ok done) a head held keeps honest first records is;
        journal = a.journal head held (h.ok head held keeps honest).1 honest first records (subst (λ (l : List ℕ). IsJournalOf first New head l records) (sym h.reads.seen) is);
      });
      failed = λ e. absurd (cc);
      unchanged = λ e. absurd (cc);
      only = λ head held keeps honest. tt;
      begun = a.begun ∙ h.reads.begun;
      counts = counting (Ok done) a;
    }

    only_so : (fault : StoreFault) → (fault ≡ OutOfMemory → ⊥) → (fault ≡ Closed → ⊥) → (fault ≡ Disk) ⊎ ((fault ≡ Closed) ⊎ (fault ≡ OutOfMemory)) → (fault ≡ Disk) ⊎ (fault ≡ OutOfMemory)
    only_so fault no_memory no_closed (inl disk) = inl disk
    only_so fault no_memory no_closed (inr (inl closed)) = absurd (no_closed closed)
    only_so fault no_memory no_closed (inr (inr memory)) = inr memory

    open_is : (head : List ℕ) (held : model.Store) (store : Store D) → Keeps g head held store → is_closed store ≡ true → ⊥
    open_is head held store keeps closed = let opened = keeps.is_open in absurd (cc)

    -- or the append failed
    pub not_appended : (fault : StoreFault) → Appended g r between after (Err fault) → (fault ≡ OutOfMemory → ⊥) → Taken g answer next before after (Err fault)
    not_appended fault a no_memory = record {
      ok = λ head held keeps honest. tt;
      any_moment = moments (Err fault) a;
      leaves = leaving (Err fault) a;
      writes = λ head held keeps honest first records is. inr (record { addition = r; steps = stepping (Err fault) a head held keeps honest first records is; journal = tt });
      failed = λ e. let f = a.failed (fault_is fault Disk e) in (rose_from _ _ _ h.reads.counts f.0, f.1);
      unchanged = λ e. absurd (no_memory (let same : fault ≡ OutOfMemory = cc in same));
      only = λ head held keeps honest. only_so fault no_memory (λ closed. open_is head held between (h.ok head held keeps honest).1 (a.closed.0 (ap Err closed))) a.only;
      begun = a.begun ∙ h.reads.begun;
      counts = counting (Err fault) a;
    }

  -- ---- the same store, with more room

  pub reads_behind : (before between after : Store D) → IsAsBefore g before between → OnlyReads g (disk_of between) (disk_of after) → OnlyReads g (disk_of before) (disk_of after)
  reads_behind before between after same reads = subst (λ (d : D). OnlyReads g d (disk_of after)) same.disk reads

  pub after_room : {T : Type 0} (answer : model.Store → T) (next : model.Store → model.Store) (before between after : Store D) (result : Result T StoreFault)
      → IsAsBefore g before between → Taken g answer next between after result → Taken g answer next before after result
  after_room answer next before between after result same t = record {
    ok = λ head held keeps honest. t.ok head held (same.keeps head held keeps) honest;
    any_moment = λ head held keeps honest.
        subst (λ (d : D). LeavesDuring g head held (next held) d (disk_of after)) same.disk (t.any_moment head held (same.keeps head held keeps) honest);
    leaves = λ head held keeps honest. t.leaves head held (same.keeps head held keeps) honest;
    writes = λ head held keeps honest first records is.
        subst (λ (d : D). OnlyReads g d (disk_of after) ⊎ AppendsOne g first head records d (disk_of after) result) same.disk
        (t.writes head held (same.keeps head held keeps) honest first records (subst (λ (d : D). IsJournalOf first New head (g.seen d) records) (sym same.disk) is));
    failed = λ e. subst (λ (d : D). Rose (g.count d) (g.count (disk_of after)) × (is_closed after ≡ true)) same.disk (t.failed e);
    unchanged = λ e.
        let u = t.unchanged e in record {
          disk = u.disk ∙ same.disk;
          closed = u.closed ∙ same.closed;
          keeps = λ head held keeps. u.keeps head held (same.keeps head held keeps);
        };
    only = λ head held keeps honest. t.only head held (same.keeps head held keeps) honest;
    begun = subst (λ (d : D). g.begun (disk_of after) ≡ g.begun d) same.disk t.begun;
    counts = subst (λ (d : D). g.count d ≤ g.count (disk_of after)) same.disk t.counts;
  }
