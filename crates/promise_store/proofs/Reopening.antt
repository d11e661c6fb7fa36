-- An opening that appends what changes nothing.
use Rattle.std.proofs.Common.{◌≡◌, ◌⊎◌, inl, inr, ℕ, ◌≤◌, List, ◌∙◌, subst, arith}
use Rattle.std.specs.Prelude.{◌↔◌, IsTrue, Result, Ok, Err, IfOk, IfErr}
use Rattle.promise_store.specs.declared.disk.Disk.{Ghosts}
use Rattle.promise_store.specs.declared.store.Store.{Store}
use Rattle.promise_store.specs.declared.stage.Stage.{Stage}
use Rattle.promise_store.specs.declared.fault.StoreFault.{StoreFault}
use Rattle.protocol_model.specs.Stores as model
use Rattle.promise_store.specs.Holding.{StandsFor}
use Rattle.promise_store.specs.Settled.{OnlyReads, IsSettled}
use Rattle.promise_store.specs.declared.records.Record.{Record}
use Rattle.promise_store.specs.declared.stage.Stage.TheVariants.{New}
use Rattle.promise_store.specs.Stages.{marked}
use Rattle.promise_store.specs.Journals.{IsJournalOf}
use Rattle.promise_store.specs.Opening.{disk_behind, IsMarked}
use Rattle.promise_store.specs.Keeping.{disk_of, KeepsAt, Keeps, Leaves, LeavesDuring, IsOpenedAt, IsOpened, Reopens}

-- what is said of the disk behind an opening is said of the store's, and of the one that is handed back
pub behind_each : {D : Type 0} (This : D → Type 0) (result : Result (Store D) (D × StoreFault)) → This (disk_behind result) ↔ IfOk result (λ store. This (disk_of store)) × IfErr result (λ refused. This refused.0)
behind_each This (Ok store) = (λ this. (this, tt), λ both. both.0)
behind_each This (Err refused) = (λ this. (tt, this), λ both. both.1)

-- a disk that was only read stands for what it stood for
pub only_read : {D : Type 0} (g : Ghosts D) (head : List ℕ) (before after : D) → OnlyReads g before after → Reopens g head before after
only_read g head before after reads = record {
  begun = reads.begun;
  counts = reads.counts;
  leaves = λ old new honest left image is. left image (reads.images image is);
  during = λ old new honest left t image is. elim (reads.during t image is) [ inl was ↦ inl was | inr now ↦ inr (left image now) ];
}

module _ {D : Type 0} (g : Ghosts D) (head : List ℕ) (stage : Stage) (a : D) (b : Store D) (reads : OnlyReads g a (disk_of b))
    (either : (old new : model.Store) → IsTrue g.is_honest → Leaves g head old new a → KeepsAt g stage head old b ⊎ KeepsAt g stage head new b) where
  -- from the disk that was opened, by way of the store that was read, to what an append left
  module _ (z : D) (leaves : (held : model.Store) → KeepsAt g stage head held b → Leaves g head held held z)
      (during : (held : model.Store) → KeepsAt g stage head held b → LeavesDuring g head held held (disk_of b) z)
      (begun : g.begun z ≡ g.begun (disk_of b)) (counts : g.count (disk_of b) ≤ g.count z) where
    first_of : (old new : model.Store) (image : List ℕ) → StandsFor head image old ⊎ StandsFor head image old → StandsFor head image old ⊎ StandsFor head image new
    first_of old new image (inl s) = inl s
    first_of old new image (inr s) = inl s

    second_of : (old new : model.Store) (image : List ℕ) → StandsFor head image new ⊎ StandsFor head image new → StandsFor head image old ⊎ StandsFor head image new
    second_of old new image (inl s) = inr s
    second_of old new image (inr s) = inr s

    earlier : (old new : model.Store) → Leaves g head old new a → (t : ℕ) (image : List ℕ) → g.since (disk_of b) t image → g.since a t image ⊎ (StandsFor head image old ⊎ StandsFor head image new)
    earlier old new left t image is = elim (reads.during t image is) [ inl was ↦ inl was | inr now ↦ inr (left image now) ]

    reopens_by : Reopens g head a z
    reopens_by = record {
      begun = begun ∙ reads.begun;
      counts = omega (arith, reads.counts, counts);
      leaves = λ old new honest left image is. elim (either old new honest left) [
        | inl keeps ↦ first_of old new image (leaves old keeps image is)
        | inr keeps ↦ second_of old new image (leaves new keeps image is)
      ];
      during = λ old new honest left t image is. elim (either old new honest left) [
        | inl keeps ↦ elim (during old keeps t image is) [ inl was ↦ earlier old new left t image was | inr now ↦ inr (first_of old new image now) ]
        | inr keeps ↦ elim (during new keeps t image is) [ inl was ↦ earlier old new left t image was | inr now ↦ inr (second_of old new image now) ]
      ];
    }

  pub on_ok : (result : Result (Store D) (D × StoreFault)) → IsMarked g stage b result → IfOk result (λ after. Reopens g head a (disk_of after))
  on_ok (Ok after) is_marked = reopens_by (disk_of after) (is_marked.leaves head) (is_marked.during head) is_marked.begun is_marked.counts
  on_ok (Err x) is_marked = tt

  pub on_err : (result : Result (Store D) (D × StoreFault)) → IsMarked g stage b result → IfErr result (λ x. Reopens g head a x.0)
  on_err (Ok after) is_marked = tt
  on_err (Err x) is_marked = reopens_by x.0 (is_marked.leaves head) (is_marked.during head) is_marked.begun is_marked.counts

  pub keeps_either : (result : Result (Store D) (D × StoreFault)) (old new : model.Store) → IsTrue g.is_honest → Leaves g head old new a → IsMarked g stage b result
      → IfOk result (λ after. Keeps g head old after ⊎ Keeps g head new after)
  keeps_either (Ok after) old new honest left is_marked = elim (either old new honest left) [ inl k ↦ inl (is_marked.keeps head old k) | inr k ↦ inr (is_marked.keeps head new k) ]
  keeps_either (Err x) old new honest left is_marked = tt

  pub opened_by : (result : Result (Store D) (D × StoreFault)) → IsOpenedAt g stage head a b → IsMarked g stage b result → IfOk result (λ after. IsOpened g head a after)
  opened_by (Ok after) opened is_marked = record { held = opened.held; keeps = is_marked.keeps head opened.held opened.keeps; stands = opened.stands }
  opened_by (Err x) opened is_marked = tt

-- the journal that an opening leaves
pub marked_journal : {D : Type 0} (g : Ghosts D) (first stage last : Stage) (head : List ℕ) (records : List Record) (result : Result (Store D) (D × StoreFault)) → IsTrue g.is_honest → stage ≡ last
    → IfOk result (λ after. IsSettled g first New head (marked stage records) after.gate after.disk) → IfOk result (λ after. IsJournalOf first New head (g.seen (disk_of after)) (marked last records))
marked_journal g first stage last head records (Ok after) honest same settled = subst (λ (s : Stage). IsJournalOf first New head (g.seen (disk_of after)) (marked s records)) same (settled.journal honest)
marked_journal g first stage last head records (Err x) honest same settled = tt
