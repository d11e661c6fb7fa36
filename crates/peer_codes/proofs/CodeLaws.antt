-- Codes and seals: what is coded on a way is read on it, and nothing else is.
use Rattle.std.proofs.Common.{◌≡◌, ℕ, suc, ◌+◌, ◌-◌, ◌<◌, Bool, true, false, cond, ltb, leb, List, [], ◌∷◌, ◌++◌, length, take, drop, bit_xor, Result, Ok, Err, refl, sym, ap, ◌∙◌, arith, length-append}
use Rattle.std.specs.Int.Bits.{xor_assoc, xor_self, xor_zero_r}
use Rattle.std.specs.Str.{bytes_eq}
use Rattle.std.proofs.lemmas.Bool.{le-ltb, lt-leb}
use Rattle.std.proofs.lemmas.List.{take-append-drop, take_at, drop_at}
use Rattle.std.proofs.lemmas.Slice.Eq.{bytes_eq-Decides}
use Rattle.sha2.proofs.Facts256.{length-sha256}
use Rattle.peer_codes.specs.declared.limits.TheConstants.{TAG_BYTES, LAST_NUMBER}
use Rattle.peer_codes.specs.declared.fault.RecordFault.TheVariants.{BadLength}
use Rattle.peer_codes.specs.declared.connection_fault.ConnectionFault.{ConnectionFault}
use Rattle.peer_codes.specs.declared.connection_fault.ConnectionFault.TheVariants as faults
use Rattle.peer_codes.specs.declared.kind.Kind.{Kind}
use Rattle.peer_codes.specs.declared.way.Way.{Way}
use Rattle.peer_codes.specs.Hmac.{hmac}
use Rattle.peer_codes.specs.Codes.{pad, xored, masked, record_tag, covered, sent_in, tag_in, uncovered}

-- ---- bytes with others

pub xored_length : (xs ys : List ℕ) → length (xored xs ys) ≡ length xs
xored_length [] ys = refl
xored_length (x ∷ xs) [] = refl
xored_length (x ∷ xs) (y ∷ ys) = ap suc (xored_length xs ys)

xor_back : (x y : ℕ) → bit_xor (bit_xor x y) y ≡ x
xor_back x y = xor_assoc x y y ∙ ap (λ (z : ℕ). bit_xor x z) (xor_self y) ∙ xor_zero_r x

pub xored_back : (xs ys : List ℕ) → xored (xored xs ys) ys ≡ xs
xored_back [] ys = refl
xored_back (x ∷ xs) [] = refl
xored_back (x ∷ xs) (y ∷ ys) = ap (λ (z : ℕ). z ∷ xored (xored xs ys) ys) (xor_back x y) ∙ ap (λ (zs : List ℕ). x ∷ zs) (xored_back xs ys)

-- ---- seals and codes

pub masked_back : (way : Way) (bytes : List ℕ) → masked way (masked way bytes) ≡ bytes
masked_back way bytes =
    ap (λ (n : ℕ). xored (masked way bytes) (pad n way.seal).0) (xored_length bytes (pad (length bytes) way.seal).0)
    ∙ xored_back bytes (pad (length bytes) way.seal).0

pub hmac_length : (key message : List ℕ) → length (hmac key message) ≡ 32
unfolding hmac
hmac_length key message = length-sha256 _

pub covered_length : (way : Way) (kind : Kind) (body : List ℕ) → length (covered way kind body) ≡ length body + TAG_BYTES
covered_length way kind body =
    let size : length (record_tag way kind (masked way body)) ≡ TAG_BYTES = hmac_length _ _ in
    let sent : length (masked way body) ≡ length body = xored_length body (pad (length body) way.seal).0 in
    omega (arith, length-append (masked way body) (record_tag way kind (masked way body)), size, sent)

tag_split : (sent tag : List ℕ) → length tag ≡ TAG_BYTES → (sent_in (sent ++ tag) ≡ sent) × (tag_in (sent ++ tag) ≡ tag)
tag_split sent tag size =
    let front : length (sent ++ tag) - TAG_BYTES ≡ length sent = omega (arith, length-append sent tag, size) in (
      ap (λ (n : ℕ). take n (sent ++ tag)) front ∙ take_at sent tag (length sent) refl,
      ap (λ (n : ℕ). drop n (sent ++ tag)) front ∙ drop_at sent tag (length sent) refl,
    )

three_tests : (a b c : Bool) (f g h : ConnectionFault) (x : List ℕ) → a ≡ false → b ≡ false → c ≡ true
    → ◌≡◌ {A = Result (List ℕ) ConnectionFault} (cond a (Err f) (cond b (Err g) (cond c (Ok x) (Err h)))) (Ok x)
three_tests a b c f g h x p q r = rw (p, q, r) refl

-- what is coded on a way is read on it
pub covered_again : (way : Way) (kind : Kind) (body : List ℕ) → way.number < LAST_NUMBER → uncovered way kind (covered way kind body) ≡ Ok body
unfolding uncovered
covered_again way kind body fits =
    let sent : List ℕ = masked way body in
    let tag : List ℕ = record_tag way kind sent in
    let size : length tag ≡ TAG_BYTES = hmac_length _ _ in
    let split = tag_split sent tag size in
    let number : leb LAST_NUMBER way.number ≡ false = lt-leb _ _ fits in
    let long : ltb (length (sent ++ tag)) TAG_BYTES ≡ false = le-ltb _ _ (omega (arith, length-append sent tag, size)) in
    let right : tag_in (sent ++ tag) ≡ record_tag way kind (sent_in (sent ++ tag)) = split.1 ∙ ap (λ (s : List ℕ). record_tag way kind s) (sym split.0) in
    let same : bytes_eq (tag_in (sent ++ tag)) (record_tag way kind (sent_in (sent ++ tag))) ≡ true = (bytes_eq-Decides (tag_in (sent ++ tag)) (record_tag way kind (sent_in (sent ++ tag)))).1 right in
    three_tests _ _ _ faults.UnexpectedRecord (faults.Record BadLength) faults.WrongTag (masked way (sent_in (sent ++ tag))) number long same
    ∙ ap (λ (b : List ℕ). let r : Result (List ℕ) ConnectionFault = Ok b in r) (ap (masked way) split.0 ∙ masked_back way body)

refused : (b : Bool) (f : ConnectionFault) (r : Result (List ℕ) ConnectionFault) (y : List ℕ) → cond b (Err f) r ≡ Ok y → (b ≡ false) × (r ≡ Ok y)
refused true f r y e = absurd cc
refused false f r y e = (refl, e)

taken : (b : Bool) (f : ConnectionFault) (x y : List ℕ) → ◌≡◌ {A = Result (List ℕ) ConnectionFault} (cond b (Ok x) (Err f)) (Ok y) → (b ≡ true) × (x ≡ y)
taken true f x y e = (refl, cc)
taken false f x y e = absurd cc

-- and nothing else is
pub covered_is : (way : Way) (kind : Kind) (content body : List ℕ) → uncovered way kind content ≡ Ok body → content ≡ covered way kind body
unfolding uncovered
covered_is way kind content body e =
    let right : Bool = bytes_eq (tag_in content) (record_tag way kind (sent_in content)) in
    let last : Result (List ℕ) ConnectionFault = cond right (Ok (masked way (sent_in content))) (Err faults.WrongTag) in
    let p = refused (leb LAST_NUMBER way.number) faults.UnexpectedRecord (cond (ltb (length content) TAG_BYTES) (Err (faults.Record BadLength)) last) body e in
    let q = refused (ltb (length content) TAG_BYTES) (faults.Record BadLength) last body p.1 in
    let r = taken right faults.WrongTag (masked way (sent_in content)) body q.1 in
    let same : tag_in content ≡ record_tag way kind (sent_in content) = (bytes_eq-Decides (tag_in content) (record_tag way kind (sent_in content))).0 r.0 in
    let sent : sent_in content ≡ masked way body = sym (ap (masked way) (sym r.1) ∙ masked_back way (sent_in content)) in
    sym (take-append-drop (length content - TAG_BYTES) content)
    ∙ ap (λ (c : List ℕ). sent_in content ++ c) same
    ∙ ap (λ (s : List ℕ). s ++ record_tag way kind s) sent
