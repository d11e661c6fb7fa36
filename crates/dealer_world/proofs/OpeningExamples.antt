-- Disks over which a cluster is opened, of stores of either version: what is so of them, and what isn't.
use Rattle.std.proofs.Common.{◌≡◌, ◌⊎◌, ℕ, zero, suc, ◌<◌, inl, inr, List, [], ◌∷◌, ◌++◌, length, get_or, refl, ap, sym, ◌∙◌, subst, arith, length-append}
use Rattle.promise_store.specs.declared.records.Record.{Record}
use Rattle.promise_store.specs.declared.records.Record.TheVariants.{Opened}
use Rattle.promise_store.specs.declared.stage.Stage.{Stage}
use Rattle.promise_store.specs.declared.stage.Stage.TheVariants.{Old, New}
use Rattle.promise_store.specs.Records.{record_text}
use Rattle.promise_store.specs.Stages.{head_of, marked}
use Rattle.promise_store.specs.Journals.{header, gated, IsJournalOf, IsJournal}
use Rattle.promise_store.specs.Holding.{holding, store_of, StandsFor}
use Rattle.promise_store.proofs.Journals.{one_journal, same_stages}
use Rattle.promise_store.proofs.Stages.{head_long}
use Rattle.protocol_model.specs.Stores.{Store, empty_store}
use Rattle.dealer_node.specs.Nodes.{Node}
use Rattle.dealer_node.specs.Starting.{GoesOnNew, MarksJournal}
use Rattle.dealer_world.specs.Beginning.{LeavesIn, IsOpenedSince, MarkFirst, IsOpenedOver, AreOpenedOver, KeepStores, AreAtRest, GoOnNew}
use Rattle.dealer_world.proofs.LeftExamples.{next, with_promise, created, stands_created, stands_promised, no_promise}
use Rattle.dealer_world.proofs.DiskExamples.{Paper, Left, Since, paper, settled, written, down}

-- ---- files

-- a store of version 1 as it was made, in the midst of its opening, and behind it
abbrev old_file : List ℕ
old_file = 72 ∷ 68 ∷ 74 ∷ 49 ∷ 0 ∷ 3 ∷ 0 ∷ 0 ∷ 0 ∷ []

abbrev torn_file : List ℕ
torn_file = 72 ∷ 68 ∷ 74 ∷ 49 ∷ 0 ∷ 3 ∷ 0 ∷ 0 ∷ 0 ∷ 0 ∷ 1 ∷ []

abbrev opened_file : List ℕ
opened_file = 72 ∷ 68 ∷ 74 ∷ 49 ∷ 0 ∷ 3 ∷ 0 ∷ 0 ∷ 1 ∷ 0 ∷ 1 ∷ 3 ∷ 0 ∷ []

old_journal : IsJournalOf Old Old (header 0 3) old_file []
old_journal = record { gate = 0; rest = []; stands = refl; shut = λ e. omega (arith, e); each = tt; text = refl }

torn_journal : IsJournalOf Old Old (header 0 3) torn_file []
torn_journal = record { gate = 0; rest = 0 ∷ 1 ∷ []; stands = refl; shut = λ e. omega (arith, e); each = tt; text = refl }

opened_journal : IsJournalOf Old New (header 0 3) opened_file (Opened ∷ [])
opened_journal = record { gate = 0; rest = []; stands = refl; shut = λ e. omega (arith, e); each = (tt, tt); text = refl }

is_marked : MarksJournal (header 0 3) old_file opened_file
is_marked first last records is =
    let same = same_stages 0 3 old_file first last Old Old records [] is old_journal in
    subst (λ (f : Stage). IsJournalOf f New (header 0 3) opened_file (marked last records)) (sym same.0)
    (subst (λ (l : Stage). IsJournalOf Old New (header 0 3) opened_file (marked l records)) (sym same.1)
    (subst (λ (rs : List Record). IsJournalOf Old New (header 0 3) opened_file (marked Old rs)) (sym same.2) opened_journal))

-- left as it was it isn't, nor is another one made
left_unmarked : MarksJournal (header 0 3) old_file old_file → ⊥
left_unmarked marks =
    let same = same_stages 0 3 old_file Old New Old Old (Opened ∷ []) [] (marks Old Old [] old_journal) old_journal in
    omega (arith, ap (λ (records : List Record). length records) same.2)

made_anew : MarksJournal (header 0 3) old_file (created 0) → ⊥
made_anew marks = let version : 50 ≡ 49 = ap (λ (l : List ℕ). get_or l 3 9) (marks Old Old [] old_journal).text in omega (arith, version)

-- which of them go on with version 2
new_goes_on : (node : ℕ) → GoesOnNew (header node 3) (created node)
new_goes_on node = (New, [], record { gate = 0; rest = []; stands = refl; shut = λ e. omega (arith, e); each = tt; text = refl })

opened_goes_on : GoesOnNew (header 0 3) opened_file
opened_goes_on = (Old, Opened ∷ [], opened_journal)

old_goes_on : GoesOnNew (header 0 3) old_file → ⊥
old_goes_on (first, records, is) =
    let same = same_stages 0 3 old_file first New Old Old records [] is old_journal in
    let stage : ◌≡◌ {A = Stage} New Old = same.1 in
    cc

all_go_on : GoOnNew 3 (created 0 ∷ created 1 ∷ created 2 ∷ [])
all_go_on zero less = new_goes_on 0
all_go_on (suc zero) less = new_goes_on 1
all_go_on (suc (suc zero)) less = new_goes_on 2
all_go_on (suc (suc (suc i))) less = absurd (omega (arith, less))

one_is_old : GoOnNew 3 (old_file ∷ created 1 ∷ created 2 ∷ []) → ⊥
one_is_old all = old_goes_on (all 0 (omega arith))

-- ---- what the files stand for

old_stands : StandsFor (header 0 3) old_file empty_store
old_stands = record { records = []; journal = (Old, Old, old_journal); is = refl }

torn_stands : StandsFor (header 0 3) torn_file empty_store
torn_stands = record { records = []; journal = (Old, Old, torn_journal); is = refl }

opened_stands : StandsFor (header 0 3) opened_file empty_store
opened_stands = record { records = Opened ∷ []; journal = (Old, New, opened_journal); is = refl }

-- what the store of version 1 stands for, another file of the empty store does
stands_as_well : (file : List ℕ) (store : Store) → StandsFor (header 0 3) file empty_store → StandsFor (header 0 3) old_file store → StandsFor (header 0 3) file store
stands_as_well file store here old =
    let none : old.records ≡ [] = one_journal (header 0 3) old_file old.records [] old.journal (Old, Old, old_journal) in
    subst (StandsFor (header 0 3) file) (sym (old.is ∙ ap (λ (records : List Record). store_of (holding (header 0 3) records)) none)) here

-- a gate that was opened, and nothing behind it
abbrev gate_alone : List ℕ
gate_alone = 72 ∷ 68 ∷ 74 ∷ 49 ∷ 0 ∷ 3 ∷ 0 ∷ 0 ∷ 1 ∷ []

no_store : (store : Store) → StandsFor (header 0 3) gate_alone store → ⊥
no_store store stands = by_records stands.records stands.journal
  where
    by_records : (records : List Record) → IsJournal (header 0 3) gate_alone records → ⊥
    by_records [] (Old, last, is) = is.shut (let gate : 1 ≡ is.gate = ap (λ (l : List ℕ). get_or l 8 9) is.text in sym gate)
    by_records [] (New, last, is) = let version : 49 ≡ 50 = ap (λ (l : List ℕ). get_or l 3 9) is.text in omega (arith, version)
    by_records (r ∷ records) (first, last, is) =
        let whole = ap length is.text in
        omega (
          arith,
          whole,
          head_long first (header 0 3),
          length-append (head_of first (header 0 3) ++ gated (r ∷ records)) (is.gate ∷ is.rest),
          length-append (head_of first (header 0 3)) (gated (r ∷ records)),
          length-append (record_text r) (gated records),
        )

-- ---- a disk that is opened

-- the store of version 1 was opened on it, and what a crash left in the midst of that was this file
abbrev opened_by_way_of : List ℕ → Paper
opened_by_way_of file = record (settled opened_file) { earlier = file; begun = old_file }

-- each image stands for what the store of version 1 stood for
during_the_opening : (store : Store) → StandsFor (header 0 3) old_file store → (t : ℕ) (image : List ℕ) → Since (opened_by_way_of torn_file) t image → StandsFor (header 0 3) image store
during_the_opening store old t image (inl (inl shown)) = subst (λ (f : List ℕ). StandsFor (header 0 3) f store) (sym shown) (stands_as_well opened_file store opened_stands old)
during_the_opening store old t image (inl (inr synced)) = subst (λ (f : List ℕ). StandsFor (header 0 3) f store) (sym synced) (stands_as_well opened_file store opened_stands old)
during_the_opening store old t image (inr past) = subst (λ (f : List ℕ). StandsFor (header 0 3) f store) (sym past.1) (stands_as_well torn_file store torn_stands old)

disk_opened : IsOpenedOver paper (header 0 3) (settled old_file) (down (opened_by_way_of torn_file))
disk_opened = record {
  begun = refl;
  counts = omega arith;
  during = λ store honest old t image left. inr (inr (during_the_opening store old t image left));
  marks = λ honest. is_marked;
  quiet = λ honest goes_on. absurd (old_goes_on goes_on);
}

either : (store begun : Store) (t : ℕ) (image : List ℕ) → StandsFor (header 0 3) old_file store ⊎ StandsFor (header 0 3) old_file begun → Since (opened_by_way_of torn_file) t image
    → StandsFor (header 0 3) image store ⊎ StandsFor (header 0 3) image begun
either store begun t image (inl old) left = inl (during_the_opening store old t image left)
either store begun t image (inr old) left = inr (during_the_opening begun old t image left)

opened_since : IsOpenedSince paper (down (settled old_file)) (down (opened_by_way_of torn_file))
opened_since = record {
  member = refl;
  begun = refl;
  counts = omega arith;
  leaves = λ store begun honest leaves image left. either store begun 1 image (leaves old_file (inl refl)) (inl left);
  during = λ store begun honest leaves t image left. inr (either store begun t image (leaves old_file (inl refl)) left);
  quiet = λ honest goes_on. absurd (old_goes_on goes_on);
}

first_marked : MarkFirst paper (down (settled old_file) ∷ []) 1 (down (opened_by_way_of torn_file) ∷ [])
first_marked zero d less = is_marked
first_marked (suc i) d less = absurd (omega (arith, less))

disks_opened : AreOpenedOver paper 3 (settled old_file ∷ []) (down (opened_by_way_of torn_file) ∷ [])
disks_opened = record { count = refl; each = each }
  where
    each : (i : ℕ) (d : Node Paper) (e : Paper) → i < 1 → IsOpenedOver paper (header i 3) (get_or (settled old_file ∷ []) i e) (get_or (down (opened_by_way_of torn_file) ∷ []) i d)
    each zero d e less = disk_opened
    each (suc i) d e less = absurd (omega (arith, less))

-- it was only read
only_read : IsOpenedOver paper (header 0 3) (settled old_file) (down (settled old_file)) → ⊥
only_read over = left_unmarked (over.marks refl)

none_marked : MarkFirst paper (down (settled old_file) ∷ []) 1 (down (settled old_file) ∷ []) → ⊥
none_marked marks = left_unmarked (marks 0 (down (settled old_file)) (omega arith))

-- it wasn't begun anew
not_begun : AreOpenedOver paper 3 (settled old_file ∷ []) (down (record (opened_by_way_of torn_file) { begun = [] }) ∷ []) → ⊥
not_begun over = let long = ap length (over.each 0 (down (settled old_file)) (settled old_file) (omega arith)).begun in omega (arith, long)

-- in the midst of it a crash left a gate that was opened before the record was there
not_before : Since (settled old_file) 0 gate_alone → ⊥
not_before (inl (inl shown)) = let gate : 1 ≡ 0 = ap (λ (l : List ℕ). get_or l 8 9) shown in omega (arith, gate)
not_before (inl (inr synced)) = let gate : 1 ≡ 0 = ap (λ (l : List ℕ). get_or l 8 9) synced in omega (arith, gate)
not_before (inr past) = let long = ap length past.1 in omega (arith, long)

leaves_nothing : (image : List ℕ) → Left (settled old_file) image → StandsFor (header 0 3) image empty_store ⊎ StandsFor (header 0 3) image empty_store
leaves_nothing image (inl shown) = inl (subst (λ (f : List ℕ). StandsFor (header 0 3) f empty_store) (sym shown) old_stands)
leaves_nothing image (inr synced) = inl (subst (λ (f : List ℕ). StandsFor (header 0 3) f empty_store) (sym synced) old_stands)

by_way_of_no_store : IsOpenedOver paper (header 0 3) (settled old_file) (down (opened_by_way_of gate_alone)) → ⊥
by_way_of_no_store over = elim (over.during empty_store refl old_stands 0 gate_alone (inr (refl, refl))) [
  | inl before ↦ not_before before
  | inr now ↦ elim now [ inl image ↦ not_before (inl image) | inr stands ↦ no_store empty_store stands ]
]

since_by_way_of_no_store : IsOpenedSince paper (down (settled old_file)) (down (opened_by_way_of gate_alone)) → ⊥
since_by_way_of_no_store opened = elim (opened.during empty_store empty_store refl leaves_nothing 0 gate_alone (inr (refl, refl))) [
  | inl before ↦ not_before before
  | inr stands ↦ elim stands [ inl one ↦ no_store empty_store one | inr other ↦ no_store empty_store other ]
]

-- a store of version 2 was marked as if it were of version 1
abbrev marked_anew : Paper
marked_anew = record (settled (72 ∷ 68 ∷ 74 ∷ 50 ∷ 0 ∷ 3 ∷ 0 ∷ 0 ∷ 1 ∷ 0 ∷ 1 ∷ 3 ∷ 0 ∷ [])) { begun = created 0 }

version_2_marked : IsOpenedOver paper (header 0 3) (settled (created 0)) (down marked_anew) → ⊥
version_2_marked over = let long = ap length (over.quiet refl (new_goes_on 0)).bytes in omega (arith, long)

since_version_2_marked : IsOpenedSince paper (down (settled (created 0))) (down marked_anew) → ⊥
since_version_2_marked opened = let long = ap length (opened.quiet refl (new_goes_on 0)).bytes in omega (arith, long)

-- a store that was opened before was opened once more
abbrev opened_again : Paper
opened_again = record (settled (72 ∷ 68 ∷ 74 ∷ 49 ∷ 0 ∷ 3 ∷ 0 ∷ 0 ∷ 1 ∷ 0 ∷ 1 ∷ 3 ∷ 1 ∷ 0 ∷ 1 ∷ 3 ∷ 0 ∷ [])) { begun = opened_file }

opened_twice : IsOpenedOver paper (header 0 3) (settled opened_file) (down opened_again) → ⊥
opened_twice over = let long = ap length (over.quiet refl opened_goes_on).bytes in omega (arith, long)

-- ---- what is found of disks, and what they leave

-- a promise was written on a new store, and not yet synced
keep_stores : KeepStores paper 3 (λ i. empty_store) (written ∷ settled old_file ∷ []) (with_promise ∷ created 1 ∷ [])
keep_stores = record { count = refl; each = each }
  where
    each : (i : ℕ) (e : Paper) → i < 2 → Left (get_or (written ∷ settled old_file ∷ []) i e) (get_or (with_promise ∷ created 1 ∷ []) i []) ⊎ StandsFor (header i 3) (get_or (with_promise ∷ created 1 ∷ []) i []) empty_store
    each zero e less = inl (inl refl)
    each (suc zero) e less = inr (stands_created 1)
    each (suc (suc i)) e less = absurd (omega (arith, less))

-- what no crash left of a disk, and stands for more than it has
promise_found : KeepStores paper 3 (λ i. empty_store) (settled (created 0) ∷ []) (with_promise ∷ []) → ⊥
promise_found keep = elim (keep.each 0 written (omega arith)) [
  | inl image ↦ elim image [ inl shown ↦ longer shown | inr synced ↦ longer synced ]
  | inr stands ↦ no_promise stands
]
  where
    longer : with_promise ≡ created 0 → ⊥
    longer same = omega (arith, ap length same)

at_rest : AreAtRest paper (settled (created 0) ∷ [])
at_rest zero e less image (inl shown) = shown
at_rest zero e less image (inr synced) = synced
at_rest (suc i) e less image left = absurd (omega (arith, less))

not_at_rest : AreAtRest paper (written ∷ []) → ⊥
not_at_rest rest = let same = ap length (rest 0 written (omega arith) (created 0) (inr refl)) in omega (arith, same)

-- each of them stands for one of two stores
node_leaves : LeavesIn paper (header 0 3) empty_store next (down written)
node_leaves image (inl shown) = inr (subst (λ (f : List ℕ). StandsFor (header 0 3) f next) (sym shown) stands_promised)
node_leaves image (inr synced) = inl (subst (λ (f : List ℕ). StandsFor (header 0 3) f empty_store) (sym synced) (stands_created 0))

node_forgets : LeavesIn paper (header 0 3) empty_store empty_store (down written) → ⊥
node_forgets leaves = elim (leaves with_promise (inl refl)) [ inl stands ↦ no_promise stands | inr stands ↦ no_promise stands ]
