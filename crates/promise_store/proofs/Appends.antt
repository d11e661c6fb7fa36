-- The two writes of an append, each had on the disk before the next call.
use Rattle.std.proofs.Common.{◌≡◌, inl, inr, ⊎_elim, ℕ, ◌+◌, ◌≤◌, List, [], ◌∷◌, ◌++◌, length, sym, ◌∙◌, ap, subst, arith}
use Rattle.std.specs.Prelude.{◌↔◌, IsTrue, Some, Result, Ok, Err, OnOk}
use Rattle.promise_store.specs.declared.disk.Disk.{Ghosts}
use Rattle.promise_store.specs.Disks.{Torn, Holds, Only, During, TornFrom}
use Rattle.promise_store.specs.declared.records.Record.{Record}
use Rattle.promise_store.specs.Records.{IsRecord, record_text}
use Rattle.promise_store.specs.declared.stage.Stage.{Stage}
use Rattle.promise_store.specs.Stages.{head_of, stage_after}
use Rattle.promise_store.specs.Journals.{IsJournal, IsJournalOf, gate_behind, IsEither}
use Rattle.promise_store.specs.Settled.{IsSettled, IsAddition}
use Rattle.promise_store.proofs.Journals.{one_journal}
use Rattle.promise_store.proofs.Stages.{same_gate}
use Rattle.promise_store.proofs.Writes.{within, torn_behind, IsStaged, staged_by, staged_long, gate_torn, gate_written, place_push}

-- from one disk to the next, and on
pub goes_on : (past between since : ℕ → List ℕ → Type 0) (P Q R : List ℕ → Type 0) → During past between P → During between since Q
    → ((image : List ℕ) → P image → R image) → ((image : List ℕ) → Q image → R image) → During past since R
goes_on past between since P Q R first second p q t image left =
    ⊎_elim (λ earlier. ⊎_elim (λ was. inl was) (λ now. inr (p image now)) (first t image earlier)) (λ now. inr (q image now)) (second t image left)

-- what is said of an addition is said of its four parts, one by one
pub addition_by_parts : {D : Type 0} (g : Ghosts D) (first last next : Stage) (head : List ℕ) (records : List Record) (r : Record) (gate : ℕ) (text : List ℕ) (disk : D) (This : Type 0)
    → (IsAddition g first last next head records r gate text disk → This) ↔ (IsSettled g first last head records gate disk → stage_after last r ≡ Some next → IsRecord r → text ≡ record_text r ++ 0 ∷ [] → This)
addition_by_parts g first last next head records r gate text disk This = (
  λ of settled follows is_record text_is. of (record { settled = settled; follows = follows; is_record = is_record; text_is = text_is }),
  λ of is. of is.settled is.follows is.is_record is.text_is,
)

module _ {D : Type 0} (g : Ghosts D) (honest : (disk : D) (image : List ℕ) → g.images disk image → IsTrue g.is_honest)
    (first last next : Stage) (head : List ℕ) (records : List Record) (r : Record) (follows : stage_after last r ≡ Some next) (fits : IsRecord r)
    (gate : ℕ) (before : D) (settled : IsSettled g first last head records gate before) where
  pub inside : IsTrue g.is_honest → gate + 1 ≤ length (g.seen before)
  inside true_disk = omega (arith, settled.at_gate true_disk, within first last next head records r follows fits (g.seen before) (settled.journal true_disk))

  -- behind the gate
  pub stage_leaves : (at n : ℕ) → (IsTrue g.is_honest → at ≡ gate + 1) → (image : List ℕ) → TornFrom at n (g.images before) image → IsJournal head image records
  stage_leaves at n is image (old, left, torn) =
      let true_disk = honest before old left in
      let same : at ≡ gate_behind (head_of first head) records + 1 = is true_disk ∙ ap (λ (k : ℕ). k + 1) (settled.at_gate true_disk) in (
        first,
        last,
        torn_behind first last next head records r follows fits (g.seen before) (settled.journal true_disk) n image
            (subst (λ (k : ℕ). Torn k n (g.seen before) image) same (subst (λ (l : List ℕ). Torn at n l image) (settled.durable old left) torn)),
      )

  module _ (at : ℕ) (is : IsTrue g.is_honest → at ≡ gate + 1) (between : D)
      (written : IsTrue g.is_honest → Holds (g.seen before) at (record_text r ++ 0 ∷ []) (g.seen between)) (only : Only (g.seen between) (g.images between)) where
    pub staged : IsTrue g.is_honest → IsStaged first last head records r (g.seen between)
    staged true_disk =
        let same : at ≡ gate_behind (head_of first head) records + 1 = is true_disk ∙ ap (λ (k : ℕ). k + 1) (settled.at_gate true_disk) in
        staged_by first last next head records r follows fits (g.seen before) (settled.journal true_disk) (g.seen between)
        (subst (λ (k : ℕ). Holds (g.seen before) k (record_text r ++ 0 ∷ []) (g.seen between)) same (written true_disk))

    pub still_inside : IsTrue g.is_honest → gate ≤ length (g.seen between)
    still_inside true_disk = omega (arith, settled.at_gate true_disk, staged_long first last next head records r follows fits (g.seen between) (staged true_disk))

    -- the gate
    pub gate_leaves : (image : List ℕ) → TornFrom gate 1 (g.images between) image → IsEither head records (records ++ r ∷ []) image
    gate_leaves image (old, left, torn) =
        gate_torn first last next head records r follows fits (g.seen between) (staged (honest between old left)) image
        (subst (λ (k : ℕ). Torn k 1 (g.seen between) image) (settled.at_gate (honest between old left)) (subst (λ (l : List ℕ). Torn gate 1 l image) (only old left) torn))

    pub settles : (after : D) (end : ℕ) → end ≡ gate + length (record_text r ++ 0 ∷ []) → (IsTrue g.is_honest → Holds (g.seen between) gate (1 ∷ []) (g.seen after)) → Only (g.seen after) (g.images after)
        → IsSettled g first next head (records ++ r ∷ []) end after
    settles after end ends holds durable = record {
      journal = λ true_disk. gate_written first last next head records r follows fits (g.seen between) (staged true_disk) (g.seen after) (subst (λ (k : ℕ). Holds (g.seen between) k (1 ∷ []) (g.seen after)) (settled.at_gate true_disk) (holds true_disk));
      at_gate = λ true_disk. ends ∙ ap (λ (k : ℕ). k + length (record_text r ++ 0 ∷ [])) (settled.at_gate true_disk) ∙ sym (place_push first last next head records r follows fits);
      durable = durable;
    }

-- what follows at an Ok from two facts, the first of which is known under a premise
pub on_ok_two : {T E : Type 0} (result : Result T E) (H P Q R : Type 0) → ((H → P) → Q → R) → (H → OnOk result P) → OnOk result Q → OnOk result R
on_ok_two (Ok x) H P Q R f p q = f p q
on_ok_two (Err e) H P Q R f p q = q

-- a journal that is on the disk is the one that was settled there
pub settled_anew : {D : Type 0} (g : Ghosts D) (a first last : Stage) (head : List ℕ) (ps records : List Record) (gate : ℕ) (disk : D) → IsTrue g.is_honest
    → IsSettled g a last head ps gate disk → IsJournalOf first last head (g.seen disk) records → IsSettled g first last head records gate disk
settled_anew g a first last head ps records gate disk true_disk settled journal =
    let same : ps ≡ records = one_journal head (g.seen disk) ps records (a, last, settled.journal true_disk) (first, last, journal) in
    record {
      journal = λ honest. journal;
      at_gate = λ honest. settled.at_gate honest ∙ same_gate a head ps ∙ ap (gate_behind head) same ∙ sym (same_gate first head records);
      durable = settled.durable;
    }

pub settled_at : {D : Type 0} (g : Ghosts D) (first last : Stage) (head : List ℕ) (records : List Record) (gate place_now : ℕ) (disk : D) → IsSettled g first last head records gate disk → (IsTrue g.is_honest → place_now ≡ gate) → IsSettled g first last head records place_now disk
settled_at g first last head records gate place_now disk settled is = record { journal = settled.journal; at_gate = λ true_disk. is true_disk ∙ settled.at_gate true_disk; durable = settled.durable }
