-- A journal stands for one list of records, and what a window on it tells.
use Rattle.std.proofs.Common.{◌≡◌, inl, inr, ℕ, ◌+◌, ◌<◌, ◌≤◌, List, [], ◌∷◌, ◌++◌, length, take, drop, get_or, refl, sym, ◌∙◌, ap, subst, arith, length-append, append_assoc, take-append-drop}
use Rattle.std.specs.Prelude.{◌-◌, ◌*◌, ◌/◌, ◌%◌, Some, None}
use Rattle.std.proofs.lemmas.Option.{same_Some}
use Rattle.std.specs.List.{AllByRecursion}
use Rattle.std.proofs.lemmas.List.{take_all, length-take-le, drop_at, drop_more, drop-drop, drop-take, append-nil}
use Rattle.std.proofs.Math.Seq.{take-append-add}
use Rattle.promise_store.specs.declared.records.Record.{Record}
use Rattle.promise_store.specs.declared.reading.Step.TheVariants.{Found, Broken}
use Rattle.promise_store.specs.declared.stage.Stage.{Stage}
use Rattle.promise_store.specs.Records.{payload, IsRecord, record_text}
use Rattle.promise_store.specs.Stages.{head_of, stage_after, stage_behind}
use Rattle.promise_store.specs.Journals.{header, gated, IsJournalOf, IsJournal, OpensFrom, BeginsWith, IsShut, IsEnough, IsStep}
use Rattle.promise_store.proofs.Gated.{same_records, gated_push, payload_most}
use Rattle.promise_store.proofs.Stages.{head_long, stage_ends, same_first}

opens_one : (bytes : List ℕ) (p : Record) (ps : List Record) → OpensFrom bytes (p ∷ ps) → (rest : List ℕ) × (bytes ≡ 1 ∷ (record_text p ++ rest)) × OpensFrom rest ps
opens_one bytes p ps opens = (
  gated ps ++ opens.gate ∷ opens.rest,
  opens.text ∙ ap (λ (l : List ℕ). 1 ∷ l) (append_assoc (record_text p) (gated ps) (opens.gate ∷ opens.rest)),
  record { gate = opens.gate; rest = opens.rest; shut = opens.shut; each = opens.each.1; text = refl },
)

-- what stands behind the records read so far
pub behind : (front : List Record) (tail : List ℕ) (records : List Record) → AllByRecursion IsRecord front → OpensFrom (gated front ++ tail) records → (more : List Record) × (records ≡ front ++ more) × OpensFrom tail more
behind [] tail records fits opens = (records, refl, opens)
behind (p ∷ front) tail [] fits opens = absurd (opens.shut (sym (first opens.text)))
  where
    first : 1 ∷ (record_text p ++ gated front) ++ tail ≡ opens.gate ∷ opens.rest → 1 ≡ opens.gate
    first same = cc
behind (p ∷ front) tail (q ∷ records) fits opens =
    let one = opens_one (gated (p ∷ front) ++ tail) q records opens in
    let both : record_text p ++ (gated front ++ tail) ≡ record_text q ++ one.0 = sym (append_assoc (record_text p) (gated front) tail) ∙ tails one.1 in
    let same = same_records p q (gated front ++ tail) one.0 fits.0 opens.each.0 both in
    let rest = behind front tail records fits.1 (subst (λ (l : List ℕ). OpensFrom l records) (sym same.1) one.2) in
    (rest.0, (λ i. sym same.0 i ∷ rest.1 i), rest.2)
  where
    tails : {x y : List ℕ} → 1 ∷ x ≡ 1 ∷ y → x ≡ y
    tails e = cc

-- a journal stands for one list of records
pub one_reading : (bytes : List ℕ) (ps qs : List Record) → OpensFrom bytes ps → OpensFrom bytes qs → ps ≡ qs
one_reading bytes ps qs one two =
    let rest = behind ps (one.gate ∷ one.rest) qs one.each (subst (λ (l : List ℕ). OpensFrom l qs) one.text two) in
    sym (rest.1 ∙ ap (λ (l : List Record). ps ++ l) (none rest.0 rest.2) ∙ append-nil ps)
  where
    none : (more : List Record) → OpensFrom (one.gate ∷ one.rest) more → more ≡ []
    none [] opens = refl
    none (q ∷ more) opens = absurd (one.shut (let e = opens.text in cc))

module _ (tail : List ℕ) (count : ℕ) where
  whole : tail ≡ take count tail ++ drop count tail
  whole = sym (take-append-drop count tail)

  pub begins_further : (r : Record) → BeginsWith (take count tail) r → BeginsWith tail r
  begins_further r (next, rest, fits, is) =
      (next, rest ++ drop count tail, fits, whole ∙ ap (λ (l : List ℕ). l ++ drop count tail) is ∙ ap (λ (l : List ℕ). 1 ∷ l) (append_assoc (record_text r) (next ∷ rest) (drop count tail)))

  pub shut_further : IsShut (take count tail) → IsShut tail
  shut_further (gate, rest, shut, is) = (gate, rest ++ drop count tail, shut, whole ∙ ap (λ (l : List ℕ). l ++ drop count tail) is)

-- the first bytes of a list that begins with others
take_front : (front rest : List ℕ) (count : ℕ) → length front ≤ count → take count (front ++ rest) ≡ front ++ take (count - length front) rest
take_front front rest count fits =
    let same : count ≡ length front + (count - length front) = omega (arith, fits) in
    ap (λ (k : ℕ). take k (front ++ rest)) same ∙ take-append-add front rest (count - length front)

nonempty : (ps : List Record) (gate : ℕ) (rest : List ℕ) → (next : ℕ) × (more : List ℕ) × (gated ps ++ gate ∷ rest ≡ next ∷ more)
nonempty [] gate rest = (gate, rest, refl)
nonempty (p ∷ ps) gate rest = (1, (record_text p ++ gated ps) ++ gate ∷ rest, refl)

-- a window that is enough, and shows neither a shut gate nor a record, is of no journal
pub no_reading : (tail : List ℕ) (count : ℕ) (records : List Record) → IsEnough tail count → (IsShut (take count tail) → ⊥) → ((r : Record) → BeginsWith (take count tail) r → ⊥) → OpensFrom tail records → ⊥
unfolding opens_one nonempty
no_reading tail count [] enough no_gate no_record opens =
    let long = ap length opens.text in
    let fits : 1 ≤ count = elim enough [ inl many ↦ omega (arith, many) | inr all ↦ omega (arith, all, long) ] in
    no_gate (opens.gate, take (count - 1) opens.rest, opens.shut, ap (λ (l : List ℕ). take count l) opens.text ∙ take_front (opens.gate ∷ []) opens.rest count fits)
no_reading tail count (p ∷ ps) enough no_gate no_record opens =
    let one = opens_one tail p ps opens in
    let more = nonempty ps opens.gate opens.rest in
    let front = 1 ∷ (record_text p ++ more.0 ∷ []) in
    let split : tail ≡ front ++ more.1 = one.1 ∙ ap (λ (l : List ℕ). 1 ∷ (record_text p ++ l)) more.2 ∙ ap (λ (l : List ℕ). 1 ∷ l) (sym (append_assoc (record_text p) (more.0 ∷ []) more.1)) in
    let size : length front ≡ length (payload p) + 4 = omega (arith, length-append (payload p) (more.0 ∷ [])) in
    let long = ap length split ∙ length-append front more.1 in
    let few : length (payload p) ≤ 1995 = payload_most p opens.each.0 in
    let fits : length front ≤ count = elim enough [ inl many ↦ omega (arith, many, size, few) | inr all ↦ omega (arith, all, long) ] in
    no_record p (
      more.0,
      take (count - length front) more.1,
      opens.each.0,
      ap (λ (l : List ℕ). take count l) split ∙ take_front front more.1 count fits ∙ ap (λ (l : List ℕ). 1 ∷ l) (append_assoc (record_text p) (more.0 ∷ []) (take (count - length front) more.1)),
    )

-- a part of a window that shows what the file gave, as reads left it
pub part : (window file : List ℕ) {seen : List ℕ} (start filled at : ℕ) → start ≤ at → at ≤ start + filled → take filled window ≡ take filled (drop start seen) → seen ≡ file
    → take (filled - (at - start)) (drop (at - start) window) ≡ take (start + filled - at) (drop at file)
part window file start filled at low high shows same =
    let k = at - start in
    let m = filled - k in
    let all : filled ≡ k + m = omega (arith, low, high) in
    let place : start + k ≡ at = omega (arith, low) in
    let count : m ≡ start + filled - at = omega (arith, low, high) in
    sym (drop-take k m window) ∙ ap (λ (n : ℕ). drop k (take n window)) (sym all) ∙ ap (λ (l : List ℕ). drop k l) (shows ∙ ap (λ (l : List ℕ). take filled (drop start l)) same)
    ∙ ap (λ (n : ℕ). drop k (take n (drop start file))) all
    ∙ drop-take k m (drop start file) ∙ ap (λ (l : List ℕ). take m l) (drop-drop k start file) ∙ (λ i. take (count i) (drop (place i) file))

-- of what begins with a record that is the first
first_record : (tail : List ℕ) (r : Record) (records : List Record) → BeginsWith tail r → OpensFrom tail records → (more : List Record) × (records ≡ r ∷ more)
first_record tail r [] begins opens = absurd (opens.shut (sym (gate (sym begins.3 ∙ opens.text))))
  where
    gate : {x y : List ℕ} → 1 ∷ x ≡ opens.gate ∷ y → 1 ≡ opens.gate
    gate e = cc
first_record tail r (q ∷ more) begins opens =
    let one = opens_one tail q more opens in
    let both : record_text r ++ begins.0 ∷ begins.1 ≡ record_text q ++ one.0 = tails (sym begins.3 ∙ one.1) in
    let same = same_records r q (begins.0 ∷ begins.1) one.0 begins.2 opens.each.0 both in
    (more, (λ i. sym same.0 i ∷ more))
  where
    tails : {x y : List ℕ} → 1 ∷ x ≡ 1 ∷ y → x ≡ y
    tails e = cc

-- a reading that has come so far
module _ (whole_file tail : List ℕ) (front : List Record) (each : AllByRecursion IsRecord front) (so_far : whole_file ≡ gated front ++ tail) (count : ℕ) where
  pub reading_broken : IsEnough tail count → IsStep (take count tail) Broken → (records : List Record) → OpensFrom whole_file records → ⊥
  reading_broken enough neither records opens =
      let rest = behind front tail records each (subst (λ (l : List ℕ). OpensFrom l records) so_far opens) in
      no_reading tail count rest.0 enough neither.0 neither.1 rest.2

  -- a record that may not stand there
  pub reading_not_there : (first stage : Stage) → stage_behind first front ≡ Some stage → (r : Record) (size : ℕ) → IsStep (take count tail) (Found r size) → stage_after stage r ≡ None
      → (last : Stage) (records : List Record) → stage_behind first records ≡ Some last → OpensFrom whole_file records → ⊥
  reading_not_there first stage stands r size found none last records leads opens =
      let rest = behind front tail records each (subst (λ (l : List ℕ). OpensFrom l records) so_far opens) in
      let one = begins_further tail count r found.0 in
      let next = first_record tail r rest.0 one rest.2 in
      stage_ends first stage last front r next.0 stands none
      (ap (λ (l : List Record). stage_behind first l) (ap (λ (l : List Record). front ++ l) (sym next.1) ∙ sym rest.1) ∙ leads)

  -- with one record more
  pub reading_more : (r : Record) (size : ℕ) → IsStep (take count tail) (Found r size) → whole_file ≡ gated (front ++ r ∷ []) ++ drop (size + 3) tail
  reading_more r size found =
      let one = begins_further tail count r found.0 in
      let left : drop (size + 3) tail ≡ one.0 ∷ one.1 = ap (λ (l : List ℕ). drop (size + 3) l) one.3 ∙ drop_at (1 ∷ record_text r) (one.0 ∷ one.1) (size + 3) (omega (arith, found.1)) in
      so_far ∙ ap (λ (l : List ℕ). gated front ++ l) one.3 ∙ sym (gated_push front r (one.0 ∷ one.1)) ∙ ap (λ (l : List ℕ). gated (front ++ r ∷ []) ++ l) (sym left)

-- an open gate, a length, so many bytes that are a record's, and one byte more
begins_with : (high low : ℕ) (rest : List ℕ) (r : Record) → low < 256 → 256 * high + low < length rest → IsRecord r → take (256 * high + low) rest ≡ payload r → BeginsWith (1 ∷ high ∷ low ∷ rest) r × (256 * high + low ≡ length (payload r))
begins_with high low rest r small room is text =
    let size = 256 * high + low in
    let long : length (payload r) ≡ size = ap length (sym text) ∙ length-take-le size rest (omega (arith, room)) in
    let first : high ≡ length (payload r) / 256 = omega (arith, long, small) in
    let second : low ≡ length (payload r) % 256 = omega (arith, long, small) in
    let left : rest ≡ payload r ++ get_or rest size 0 ∷ drop (size + 1) rest = sym (take-append-drop size rest) ∙ ap (λ (l : List ℕ). take size rest ++ l) (drop_more rest size 0 room) ∙ ap (λ (l : List ℕ). l ++ get_or rest size 0 ∷ drop (size + 1) rest) text in
    ((get_or rest size 0, drop (size + 1) rest, is, (λ i. 1 ∷ first i ∷ second i ∷ left i)), sym long)

pub step_at : (bytes : List ℕ) (r : Record) → 3 ≤ length bytes → get_or bytes 0 0 ≡ 1 → get_or bytes 2 0 < 256 → 256 * get_or bytes 1 0 + get_or bytes 2 0 < length (take (length bytes - 3) (drop 3 bytes)) → IsRecord r
    → take (256 * get_or bytes 1 0 + get_or bytes 2 0) (take (length bytes - 3) (drop 3 bytes)) ≡ payload r → BeginsWith bytes r × (256 * get_or bytes 1 0 + get_or bytes 2 0 ≡ length (payload r))
step_at [] r long gate small room is text = absurd (omega arith)
step_at (a ∷ []) r long gate small room is text = absurd (omega arith)
step_at (a ∷ b ∷ []) r long gate small room is text = absurd (omega arith)
step_at (gate ∷ high ∷ low ∷ rest) r long is_open small room is text =
    let all : take (length (gate ∷ high ∷ low ∷ rest) - 3) rest ≡ rest = take_all _ rest (omega arith) in
    subst (λ (k : ℕ). BeginsWith (k ∷ high ∷ low ∷ rest) r × (256 * high + low ≡ length (payload r))) (sym is_open)
    (begins_with high low rest r small (subst (λ (l : List ℕ). 256 * high + low < length l) all room) is (subst (λ (l : List ℕ). take (256 * high + low) l ≡ payload r) all text))

pub begins_long : (bytes : List ℕ) (r : Record) → BeginsWith bytes r → length (payload r) + 4 ≤ length bytes
begins_long bytes r (next, rest, is, text) = omega (arith, ap length text, length-append (payload r) (next ∷ rest))

-- a head, and what stands behind it
module _ (first last : Stage) (head bytes : List ℕ) (records : List Record) where
  apart : IsJournalOf first last head bytes records → (rest : List ℕ) × (bytes ≡ head_of first head ++ rest) × OpensFrom rest records
  apart opens = (
    gated records ++ opens.gate ∷ opens.rest,
    opens.text ∙ append_assoc (head_of first head) (gated records) (opens.gate ∷ opens.rest),
    record { gate = opens.gate; rest = opens.rest; shut = opens.shut; each = opens.each; text = refl },
  )

  pub opens_apart : IsJournalOf first last head bytes records → OpensFrom (drop (length head) bytes) records
  opens_apart opens =
      let parts = apart opens in
      let back : drop (length head) bytes ≡ parts.0 = ap (λ (l : List ℕ). drop (length head) l) parts.1 ∙ drop_at (head_of first head) parts.0 (length head) (head_long first head) in
      subst (λ (l : List ℕ). OpensFrom l records) (sym back) parts.2

  pub opens_together : take (length head) bytes ≡ head_of first head → stage_behind first records ≡ Some last → OpensFrom (drop (length head) bytes) records → IsJournalOf first last head bytes records
  opens_together front stands opens = record {
    gate = opens.gate;
    rest = opens.rest;
    stands = stands;
    shut = opens.shut;
    each = opens.each;
    text = sym (take-append-drop (length head) bytes) ∙ ap (λ (l : List ℕ). l ++ drop (length head) bytes) front ∙ ap (λ (l : List ℕ). head_of first head ++ l) opens.text
        ∙ sym (append_assoc (head_of first head) (gated records) (opens.gate ∷ opens.rest));
  }

-- a journal with this head, of whichever version, stands for one list of records
pub one_journal : (head bytes : List ℕ) (ps qs : List Record) → IsJournal head bytes ps → IsJournal head bytes qs → ps ≡ qs
one_journal head bytes ps qs (a, b, one) (c, d, two) = one_reading (drop (length head) bytes) ps qs (opens_apart a b head bytes ps one) (opens_apart c d head bytes qs two)

-- and is of one first and one last stage
pub same_stages : (node nodes : ℕ) (bytes : List ℕ) (a b c d : Stage) (ps qs : List Record) → IsJournalOf a b (header node nodes) bytes ps → IsJournalOf c d (header node nodes) bytes qs → (a ≡ c) × (b ≡ d) × (ps ≡ qs)
same_stages node nodes bytes a b c d ps qs one two =
    let records = one_journal (header node nodes) bytes ps qs (a, b, one) (c, d, two) in
    let left = apart a b (header node nodes) bytes ps one in
    let right = apart c d (header node nodes) bytes qs two in
    let first = same_first a c node nodes left.0 right.0 (sym left.1 ∙ right.1) in
    (first, same_Some b d (sym one.stands ∙ (λ i. stage_behind (first i) (records i)) ∙ two.stands), records)
