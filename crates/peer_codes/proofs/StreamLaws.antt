-- The record in front of a stream: it is whole just where it is read, and nothing else stands there.
use Rattle.std.proofs.Common.{◌≡◌, ℕ, ◌+◌, ◌≤◌, Bool, true, false, cond, ltb, leb, List, [], ◌∷◌, ◌++◌, length, take, drop, get_or, Option, Some, None, Result, Ok, Err, IfOk, IfErr, refl, sym, ap, subst, ◌∙◌, arith, length-append}
use Rattle.std.proofs.lemmas.Bool.{ltb-false, le-ltb, le-leb}
use Rattle.std.proofs.lemmas.List.{take_at, drop_at, take-append-drop, length-take-le}
use Rattle.byteorder.specs.Endian.{big_bytes}
use Rattle.byteorder.specs.Numbers.{big_number-reads_back, big_from-take}
use Rattle.paxos_wire.proofs.Steps.{IsBytes, IsBytes-drop}
use Rattle.paxos_wire.proofs.Numbers.{IsBytes-take, wide4}
use Rattle.peer_codes.specs.declared.limits.TheConstants.{MOST_LENGTH}
use Rattle.peer_codes.specs.declared.fault.RecordFault.{RecordFault}
use Rattle.peer_codes.specs.declared.fault.RecordFault.TheVariants.{BadLength}
use Rattle.peer_codes.specs.declared.records.Record.{Record}
use Rattle.peer_codes.specs.declared.kind.Kind.{Kind}
use Rattle.peer_codes.specs.Kinds.{kind_byte, kind_told, IsKind}
use Rattle.peer_codes.specs.Fits.{IsRecord}
use Rattle.peer_codes.specs.Spelling.{kind, body, enveloped, record_text}
use Rattle.peer_codes.specs.Reading.{content_of}
use Rattle.peer_codes.specs.Faults.{length_field, is_length, needed, front, IsPartial, kind_or_fault, kind_in, content_read, reading, IsFaulty}
use Rattle.peer_codes.proofs.RecordLaws.{past, same_Ok, told_kind, told_again, IsSaid, content_is, content_again, kind_there, body_most}

-- ---- what was read is a record

kind_found : (o : Option Kind) (k : Kind) → kind_or_fault o ≡ Ok k → o ≡ Some k
kind_found None k e = absurd cc
kind_found (Some found) k e = ap Some (same_Ok found k e)

content_ok : (found : Result Kind RecordFault) (content : List ℕ) (r : Record) → content_read found content ≡ Ok r → (k : Kind) × (found ≡ Ok k) × (content_of k content ≡ Ok r)
content_ok (Err f) content r e = absurd cc
content_ok (Ok k) content r e = (k, refl, e)

-- the five bytes in front of what is said
whole_is : (bytes : List ℕ) (k : Kind) (r : Record) → IsBytes bytes → 5 ≤ length bytes → length bytes ≡ 4 + length_field bytes
    → kind_byte k ≡ get_or bytes 4 0 → IsSaid k (drop 5 bytes) r → bytes ≡ record_text r
unfolding enveloped
whole_is [] k r fits long whole told said = absurd (omega (arith, long))
whole_is (a ∷ []) k r fits long whole told said = absurd (omega (arith, long))
whole_is (a ∷ b ∷ []) k r fits long whole told said = absurd (omega (arith, long))
whole_is (a ∷ b ∷ c ∷ []) k r fits long whole told said = absurd (omega (arith, long))
whole_is (a ∷ b ∷ c ∷ d ∷ []) k r fits long whole told said = absurd (omega (arith, long))
whole_is (a ∷ b ∷ c ∷ d ∷ e ∷ content) k r fits long whole told said =
    let field : length_field (a ∷ b ∷ c ∷ d ∷ e ∷ content) ≡ length (body r) + 1 = omega (arith, whole, ap length said.text) in
    let number : big_bytes 4 (length (body r) + 1) ≡ a ∷ b ∷ c ∷ d ∷ [] = ap (big_bytes 4) (sym field) ∙ wide4.back (a ∷ b ∷ c ∷ d ∷ e ∷ content) (omega (arith, long)) fits in
    let kind_same : e ≡ kind_byte (kind r) = sym told ∙ ap kind_byte (sym said.kind_is) in
    ap (λ (t : List ℕ). t ++ (e ∷ content)) (sym number)
    ∙ ap (λ (n : ℕ). big_bytes 4 (length (body r) + 1) ++ (n ∷ content)) kind_same
    ∙ ap (λ (w : List ℕ). big_bytes 4 (length (body r) + 1) ++ (kind_byte (kind r) ∷ w)) (sym said.text)

-- where there are five bytes in front, they are those of the length and those that it counts
needed_by : (short long : Bool) (n : ℕ) → 5 ≤ cond short 4 (cond long (4 + n) 4) → cond short 4 (cond long (4 + n) 4) ≡ 4 + n
needed_by true long n le = absurd (omega (arith, le))
needed_by false true n le = refl
needed_by false false n le = absurd (omega (arith, le))

needed_whole : (bytes : List ℕ) → 5 ≤ needed bytes → needed bytes ≡ 4 + length_field bytes
unfolding needed
needed_whole bytes le = needed_by (ltb (length bytes) 4) (is_length (length_field bytes)) (length_field bytes) le

-- what was read in front
front_parts : (bytes : List ℕ) (r : Record) → reading bytes ≡ Ok r → (k : Kind) × (5 ≤ length bytes) × (kind_told (get_or bytes 4 0) ≡ Some k) × (content_of k (drop 5 bytes) ≡ Ok r)
unfolding reading kind_in
front_parts bytes r e =
    let p = content_ok (cond (ltb (length bytes) 5) (Err BadLength) (kind_or_fault (kind_told (get_or bytes 4 0)))) (drop 5 bytes) r e in
    let q = past (ltb (length bytes) 5) BadLength (kind_or_fault (kind_told (get_or bytes 4 0))) p.0 p.1 in
    (p.0, ltb-false _ _ q.0, kind_found (kind_told (get_or bytes 4 0)) p.0 q.1, p.2)

front_is : (bytes : List ℕ) (end : ℕ) (r : Record) → IsBytes bytes → end ≡ needed bytes → end ≤ length bytes → reading (take end bytes) ≡ Ok r → IsRecord r × (bytes ≡ record_text r ++ drop end bytes)
front_is bytes end r fits is there e =
    let p = front_parts (take end bytes) r e in
    let long : length (take end bytes) ≡ end = length-take-le end bytes there in
    let five : 5 ≤ end = omega (arith, p.1, long) in
    let whole : needed bytes ≡ 4 + length_field bytes = needed_whole bytes (omega (arith, five, is)) in
    let field : length_field (take end bytes) ≡ length_field bytes = big_from-take 0 4 end bytes (omega (arith, five)) in
    let some = IsBytes-take end bytes fits in
    let found = told_kind _ p.0 p.2 in
    let said = content_is p.0 (drop 5 (take end bytes)) r found.there (IsBytes-drop 5 (take end bytes) some) p.3 in
    let text = whole_is (take end bytes) p.0 r some p.1 (omega (arith, long, is, whole, field)) found.byte_is said in
    (said.fits, sym (take-append-drop end bytes) ∙ ap (λ (w : List ℕ). w ++ drop end bytes) text)

-- ---- what is written is read again

-- a record stands in front
pub record IsInFront (r : Record) (bytes rest : List ℕ) : Type 0 where
  pub whole : needed bytes ≤ length bytes
  pub read : reading (front bytes) ≡ Ok r
  pub behind : drop (needed bytes) bytes ≡ rest

enveloped_length : (k : Kind) (content : List ℕ) → length (enveloped k content) ≡ 5 + length content
unfolding enveloped
enveloped_length k content = omega arith

enveloped_field : (k : Kind) (content rest : List ℕ) → length content + 1 ≤ MOST_LENGTH → length_field (enveloped k content ++ rest) ≡ length content + 1
unfolding enveloped
enveloped_field k content rest most = big_number-reads_back 4 (length content + 1) ((kind_byte k ∷ content) ++ rest) (omega (arith, most))

pub enveloped_needed : (k : Kind) (content rest : List ℕ) → length content + 1 ≤ MOST_LENGTH → needed (enveloped k content ++ rest) ≡ length (enveloped k content)
unfolding needed
enveloped_needed k content rest most =
    let size = enveloped_length k content in
    let long : ltb (length (enveloped k content ++ rest)) 4 ≡ false = le-ltb _ _ (omega (arith, length-append (enveloped k content) rest, size)) in
    let least : leb 1 (length content + 1) ≡ true = le-leb _ _ (omega arith) in
    let fits : leb (length content + 1) MOST_LENGTH ≡ true = le-leb _ _ most in
    rw (long, enveloped_field k content rest most, least, fits) (omega (arith, size))

kind_again : (short : Bool) (k : Kind) → short ≡ false → IsKind k → cond short (Err BadLength) (kind_or_fault (kind_told (kind_byte k))) ≡ Ok k
kind_again short k not_short there = rw (not_short, told_again k there) refl

pub enveloped_kind : (k : Kind) (content : List ℕ) → IsKind k → kind_in (enveloped k content) ≡ Ok k
unfolding kind_in enveloped
enveloped_kind k content there = kind_again (ltb (length (big_bytes 4 (length content + 1) ++ (kind_byte k ∷ content))) 5) k (le-ltb _ _ (omega arith)) there

pub enveloped_content : (k : Kind) (content : List ℕ) → drop 5 (enveloped k content) ≡ content
unfolding enveloped
enveloped_content k content = refl

pub reading_again : (r : Record) → IsRecord r → reading (record_text r) ≡ Ok r
unfolding reading
reading_again r fits = rw (enveloped_kind (kind r) (body r) (kind_there r fits), enveloped_content (kind r) (body r)) (content_again r fits)

pub in_front : (r : Record) (bytes rest : List ℕ) → IsRecord r → bytes ≡ record_text r ++ rest → IsInFront r bytes rest
in_front r bytes rest fits e =
    let n = enveloped_needed (kind r) (body r) rest (omega (arith, body_most r fits)) in
    let whole : IsInFront r (record_text r ++ rest) rest = record {
      whole = omega (arith, n, length-append (record_text r) rest);
      read = ap (λ (k : ℕ). reading (take k (record_text r ++ rest))) n ∙ ap reading (take_at (record_text r) rest (length (record_text r)) refl) ∙ reading_again r fits;
      behind = ap (λ (k : ℕ). drop k (record_text r ++ rest)) n ∙ drop_at (record_text r) rest (length (record_text r)) refl;
    } in
    subst (λ (b : List ℕ). IsInFront r b rest) (sym e) whole

-- ---- the reader

pub found_by : (bytes : List ℕ) (end : ℕ) (r : Result Record RecordFault) → IsBytes bytes → end ≡ needed bytes → end ≤ length bytes → r ≡ reading (take end bytes) → IfOk r (λ m. IsRecord m × (bytes ≡ record_text m ++ drop end bytes))
found_by bytes end (Ok m) fits is there read = front_is bytes end m fits is there (sym read)
found_by bytes end (Err f) fits is there read = tt

pub only_by : (bytes : List ℕ) (end : ℕ) (r : Result Record RecordFault) → end ≡ needed bytes → r ≡ reading (take end bytes) → (m : Record) (rest : List ℕ) → IsRecord m → bytes ≡ record_text m ++ rest → (r ≡ Ok m) × (drop end bytes ≡ rest)
only_by bytes end r is read m rest fits e =
    let f = in_front m bytes rest fits e in
    (read ∙ ap (λ (k : ℕ). reading (take k bytes)) is ∙ f.read, ap (λ (k : ℕ). drop k bytes) is ∙ f.behind)

pub not_partial : (m : Record) (bytes rest : List ℕ) → IsRecord m → bytes ≡ record_text m ++ rest → IsPartial bytes → ⊥
not_partial m bytes rest fits e partial = let is = in_front m bytes rest fits e in absurd (omega (arith, is.whole, partial))

pub faulty_by : (bytes : List ℕ) (end : ℕ) (r : Result Record RecordFault) → end ≡ needed bytes → end ≤ length bytes → r ≡ reading (take end bytes) → IfErr r (λ f. IsFaulty bytes f)
faulty_by bytes end (Ok m) is there read = tt
faulty_by bytes end (Err f) is there read =
    let err : reading (front bytes) ≡ Err f = ap (λ (k : ℕ). reading (take k bytes)) (sym is) ∙ sym read in
    record {
      there = omega (arith, is, there);
      none = λ m rest fits e. absurd (cc (err, (in_front m bytes rest fits e).read));
      first = err;
    }

-- ---- laws

pub told_apart : (r s : Record) (a b : List ℕ) → IsRecord r → IsRecord s → record_text r ++ a ≡ record_text s ++ b → (r ≡ s) × (a ≡ b)
told_apart r s a b fits_r fits_s e =
    let p = in_front r (record_text r ++ a) a fits_r refl in
    let q = in_front s (record_text r ++ a) b fits_s e in
    (same_Ok r s (sym p.read ∙ q.read), sym p.behind ∙ q.behind)
