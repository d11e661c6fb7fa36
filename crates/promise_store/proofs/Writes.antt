-- What the two writes of an append make of a journal, and what a crash may leave of them.
use Rattle.std.proofs.Common.{◌≡◌, inl, inr, ℕ, suc, ◌+◌, ◌≤◌, min, List, [], ◌∷◌, ◌++◌, length, take, drop, get_or, refl, sym, ◌∙◌, ap, subst, arith, length-append, append_assoc, take-append-drop}
use Rattle.std.specs.Prelude.{Some}
use Rattle.std.proofs.lemmas.Bool.{cases_eq}
use Rattle.std.proofs.lemmas.List.{take_at, drop_more}
use Rattle.std.proofs.Math.Seq.{drop-append-add}
use Rattle.std.proofs.SliceLists.{all_by_recursion_push}
use Rattle.promise_store.specs.Disks.{Torn, Holds}
use Rattle.promise_store.specs.declared.records.Record.{Record}
use Rattle.promise_store.specs.Records.{payload, IsRecord, record_text}
use Rattle.promise_store.specs.declared.stage.Stage.{Stage}
use Rattle.promise_store.specs.Stages.{head_of, stage_after}
use Rattle.promise_store.specs.Journals.{gated, IsJournalOf, gate_behind, IsEither}
use Rattle.promise_store.proofs.Gated.{gated_push}
use Rattle.promise_store.proofs.Stages.{stage_more}

module _ (first last next : Stage) (head : List ℕ) (records : List Record) (r : Record) (after : stage_after last r ≡ Some next) (fits : IsRecord r) where
  -- what the journal begins with, by its first stage
  abbrev start : List ℕ
  start = head_of first head

  abbrev front : List ℕ
  front = start ++ gated records

  front_push : (rest : List ℕ) → (start ++ gated (records ++ r ∷ [])) ++ rest ≡ front ++ 1 ∷ (record_text r ++ rest)
  front_push rest =
      append_assoc start (gated (records ++ r ∷ [])) rest ∙ ap (λ (l : List ℕ). start ++ l) (gated_push records r rest)
      ∙ sym (append_assoc start (gated records) (1 ∷ (record_text r ++ rest)))

  pub place_push : gate_behind start (records ++ r ∷ []) ≡ gate_behind start records + length (record_text r ++ 0 ∷ [])
  place_push =
      let both : length ((start ++ gated (records ++ r ∷ [])) ++ 0 ∷ []) ≡ length (front ++ 1 ∷ (record_text r ++ 0 ∷ [])) = ap length (front_push (0 ∷ [])) in
      omega (arith, both, length-append (start ++ gated (records ++ r ∷ [])) (0 ∷ []), length-append front (1 ∷ (record_text r ++ 0 ∷ [])))

  module _ (file : List ℕ) (opens : IsJournalOf first last head file records) where
    long : length file ≡ length front + suc (length opens.rest)
    long = ap length opens.text ∙ length-append front (opens.gate ∷ opens.rest)

    pub within : gate_behind start records + 1 ≤ length file
    within = omega (arith, long)

    split : file ≡ (front ++ opens.gate ∷ []) ++ opens.rest
    split = opens.text ∙ sym (append_assoc front (opens.gate ∷ []) opens.rest)

    size : length (front ++ opens.gate ∷ []) ≡ length front + 1
    size = length-append front (opens.gate ∷ [])

    -- behind the closed gate anything may stand
    pub torn_behind : (n : ℕ) (image : List ℕ) → Torn (gate_behind start records + 1) n file image → IsJournalOf first last head image records
    torn_behind n image torn =
        let at = gate_behind start records + 1 in
        let same : min at (length file) ≡ at = omega (arith, within) in
        let kept : take at image ≡ front ++ opens.gate ∷ [] =
        ap (λ (k : ℕ). take k image) (sym same) ∙ torn.before ∙ ap (λ (l : List ℕ). take at l) split ∙ take_at (front ++ opens.gate ∷ []) opens.rest at size in
        record {
          gate = opens.gate;
          rest = drop at image;
          shut = opens.shut;
          stands = opens.stands;
          each = opens.each;
          text = sym (take-append-drop at image) ∙ ap (λ (l : List ℕ). l ++ drop at image) kept ∙ append_assoc front (opens.gate ∷ []) (drop at image);
        }

    abbrev behind : List ℕ
    behind = record_text r ++ 0 ∷ drop (length (record_text r ++ 0 ∷ [])) opens.rest

    pub written_behind : (new : List ℕ) → Holds file (gate_behind start records + 1) (record_text r ++ 0 ∷ []) new → new ≡ front ++ opens.gate ∷ behind
    written_behind new holds =
        let at = gate_behind start records + 1 in
        let text = record_text r ++ 0 ∷ [] in
        let kept : take at file ≡ front ++ opens.gate ∷ [] = ap (λ (l : List ℕ). take at l) split ∙ take_at (front ++ opens.gate ∷ []) opens.rest at size in
        let left : drop (at + length text) file ≡ drop (length text) opens.rest =
        ap (λ (l : List ℕ). drop (at + length text) l) split
        ∙ (let far : at + length text ≡ length (front ++ opens.gate ∷ []) + length text = omega (arith, size) in ap (λ (k : ℕ). drop k ((front ++ opens.gate ∷ []) ++ opens.rest)) far)
        ∙ drop-append-add (front ++ opens.gate ∷ []) opens.rest (length text) in
        holds ∙ ap (λ (l : List ℕ). l ++ text ++ drop (at + length text) file) kept ∙ ap (λ (l : List ℕ). (front ++ opens.gate ∷ []) ++ text ++ l) left ∙ simp append_assoc

  -- the gate may be torn, and the record stands whole
  module _ (gate : ℕ) (rest : List ℕ) (opens : IsJournalOf first last head (front ++ gate ∷ (record_text r ++ 0 ∷ rest)) records) where
    abbrev staged : List ℕ
    staged = front ++ gate ∷ (record_text r ++ 0 ∷ rest)

    pub opened : IsJournalOf first next head (front ++ 1 ∷ (record_text r ++ 0 ∷ rest)) (records ++ r ∷ [])
    opened = record {
      gate = 0;
      rest = rest;
      shut = λ e. omega (arith, e);
      each = all_by_recursion_push IsRecord records r opens.each fits;
      stands = stage_more first last next records r opens.stands after;
      text = sym (front_push (0 ∷ rest));
    }

    any_gate : (g : ℕ) → IsEither head records (records ++ r ∷ []) (front ++ g ∷ (record_text r ++ 0 ∷ rest))
    any_gate g = elim (cases_eq g 1) [
      | inl is ↦ inr (first, next, subst (λ (k : ℕ). IsJournalOf first next head (front ++ k ∷ (record_text r ++ 0 ∷ rest)) (records ++ r ∷ [])) (sym is) opened)
      | inr not_open ↦ inl (first, last, record { gate = g; rest = record_text r ++ 0 ∷ rest; stands = opens.stands; shut = not_open; each = opens.each; text = refl })
    ]

    pub torn_gate : (image : List ℕ) → Torn (gate_behind start records) 1 staged image → IsEither head records (records ++ r ∷ []) image
    torn_gate image torn =
        let at = gate_behind start records in
        let long : length staged ≡ length front + suc (length (record_text r ++ 0 ∷ rest)) = length-append front (gate ∷ (record_text r ++ 0 ∷ rest)) in
        let same : min at (length staged) ≡ at = omega (arith, long) in
        let kept : take at image ≡ front = ap (λ (k : ℕ). take k image) (sym same) ∙ torn.before ∙ take_at front (gate ∷ (record_text r ++ 0 ∷ rest)) at refl in
        let back : drop (at + 1) image ≡ record_text r ++ 0 ∷ rest = torn.after ∙ drop-append-add front (gate ∷ (record_text r ++ 0 ∷ rest)) 1 in
        let g = get_or image at 0 in
        let whole : image ≡ front ++ g ∷ (record_text r ++ 0 ∷ rest) =
        sym (take-append-drop at image) ∙ ap (λ (l : List ℕ). l ++ drop at image) kept
        ∙ ap (λ (l : List ℕ). front ++ l) (drop_more image at 0 (omega (arith, torn.no_shorter, long)) ∙ ap (λ (l : List ℕ). g ∷ l) back) in
        subst (IsEither head records (records ++ r ∷ [])) (sym whole) (any_gate g)

    pub written_gate : (new : List ℕ) → Holds staged (gate_behind start records) (1 ∷ []) new → IsJournalOf first next head new (records ++ r ∷ [])
    written_gate new holds =
        let at = gate_behind start records in
        let whole : new ≡ front ++ 1 ∷ (record_text r ++ 0 ∷ rest) =
        holds ∙ ap (λ (l : List ℕ). l ++ (1 ∷ []) ++ drop (at + 1) staged) (take_at front (gate ∷ (record_text r ++ 0 ∷ rest)) at refl)
        ∙ ap (λ (l : List ℕ). front ++ (1 ∷ []) ++ l) (drop-append-add front (gate ∷ (record_text r ++ 0 ∷ rest)) 1)
        ∙ append_assoc front (1 ∷ []) (record_text r ++ 0 ∷ rest) in
        subst (λ (l : List ℕ). IsJournalOf first next head l (records ++ r ∷ [])) (sym whole) opened

-- a journal with the record whole behind a closed gate
pub record IsStaged (first last : Stage) (head : List ℕ) (records : List Record) (r : Record) (file : List ℕ) : Type 0 where
  pub gate : ℕ
  pub rest : List ℕ
  pub opens : IsJournalOf first last head ((head_of first head ++ gated records) ++ gate ∷ (record_text r ++ 0 ∷ rest)) records
  pub text : file ≡ (head_of first head ++ gated records) ++ gate ∷ (record_text r ++ 0 ∷ rest)

module _ (first last next : Stage) (head : List ℕ) (records : List Record) (r : Record) (after : stage_after last r ≡ Some next) (fits : IsRecord r) (file : List ℕ) where
  pub staged_by : IsJournalOf first last head file records → (new : List ℕ) → Holds file (gate_behind (head_of first head) records + 1) (record_text r ++ 0 ∷ []) new → IsStaged first last head records r new
  staged_by opens new holds =
      let rest = drop (length (record_text r ++ 0 ∷ [])) opens.rest in
      record {
        gate = opens.gate;
        rest = rest;
        opens = record { gate = opens.gate; rest = record_text r ++ 0 ∷ rest; shut = opens.shut; each = opens.each; stands = opens.stands; text = refl };
        text = written_behind first last next head records r after fits file opens new holds;
      }

  module _ (staged : IsStaged first last head records r file) where
    pub staged_long : gate_behind (head_of first head) records + 1 + length (record_text r ++ 0 ∷ []) ≤ length file
    staged_long =
        let long = ap length staged.text ∙ length-append (head_of first head ++ gated records) (staged.gate ∷ (record_text r ++ 0 ∷ staged.rest)) in
        omega (arith, long, length-append (payload r) (0 ∷ staged.rest), length-append (payload r) (0 ∷ []))

    pub gate_torn : (image : List ℕ) → Torn (gate_behind (head_of first head) records) 1 file image → IsEither head records (records ++ r ∷ []) image
    gate_torn image torn =
        torn_gate first last next head records r after fits staged.gate staged.rest staged.opens image (subst (λ (l : List ℕ). Torn (gate_behind (head_of first head) records) 1 l image) staged.text torn)

    pub gate_written : (new : List ℕ) → Holds file (gate_behind (head_of first head) records) (1 ∷ []) new → IsJournalOf first next head new (records ++ r ∷ [])
    gate_written new holds =
        written_gate first last next head records r after fits staged.gate staged.rest staged.opens new (subst (λ (l : List ℕ). Holds l (gate_behind (head_of first head) records) (1 ∷ []) new) staged.text holds)
