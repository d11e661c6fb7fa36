-- Records: what is read is what is written, and what is written is read again.
use Rattle.std.proofs.Common.{◌≡◌, ℕ, zero, suc, ◌%◌, ◌^◌, ◌<◌, ◌≤◌, Bool, true, false, not, cond, ltb, leb, eqb, List, [], ◌∷◌, ◌++◌, length, take, drop, get_or, Option, Some, None, IfSome, Result, Ok, Err, refl, sym, ap, subst, ◌∙◌, arith, inl, inr, length-drop}
use Rattle.std.proofs.lemmas.Bool.{ltb-false, leb-true, le-leb, eqb-true, ne_eqb, eq-eqb, and_parts, not-false}
use Rattle.std.proofs.lemmas.List.{take-append-drop, take_all, drop-drop, drop_more}
use Rattle.std.proofs.lemmas.Option.{same_Some}
use Rattle.byteorder.specs.Endian.{big_number, big_bytes}
use Rattle.byteorder.specs.Numbers.{big_number-reads_back, big_from-lt}
use Rattle.paxos_wire.proofs.Steps.{IsBytes, IsBytes-drop, either, then_some}
use Rattle.paxos_wire.proofs.Numbers.{wide2, wide4}
use Rattle.peer_codes.specs.declared.limits.TheConstants.{LIFE_BYTES, TAG_BYTES, BEAT_BYTES, LEAST_FRAME, MOST_FRAME, LEAST_MORE, NO_KIND}
use Rattle.peer_codes.specs.declared.fault.RecordFault.{RecordFault}
use Rattle.peer_codes.specs.declared.fault.RecordFault.TheVariants.{BadLength, BadKind}
use Rattle.peer_codes.specs.declared.hello.Hello.{Hello}
use Rattle.peer_codes.specs.declared.beat.Beat.{Beat}
use Rattle.peer_codes.specs.declared.records.Record.{Record}
use Rattle.peer_codes.specs.declared.records.Record.TheVariants as record_of
use Rattle.peer_codes.specs.declared.kind.Kind.{Kind}
use Rattle.peer_codes.specs.declared.kind.Kind.TheVariants as kind_of
use Rattle.peer_codes.specs.Mores.{is_more}
use Rattle.peer_codes.specs.Kinds.{kind_byte, kind_told, IsKind}
use Rattle.peer_codes.specs.declared.hello.Life.{Life}
use Rattle.peer_codes.specs.Fits.{are_zeros, IsLife, IsBeat, IsRecord, CanBeSaid, IsHeld}
use Rattle.peer_codes.specs.Spelling.{flags_byte, beat_text, kind, body}
use Rattle.peer_codes.specs.Reading.{hello_of, beat_in, beat_of, hello_record, beat_record, is_frame, content_of}
use Rattle.peer_codes.proofs.HelloLaws.{hello_is, hello_again, hello_most}

-- the test didn't refuse it
pub past : {A : Type 0} (b : Bool) (f : RecordFault) (r : Result A RecordFault) (y : A) → cond b (Err f) r ≡ Ok y → (b ≡ false) × (r ≡ Ok y)
past true f r y e = absurd cc
past false f r y e = (refl, e)

passed : {A : Type 0} (b : Bool) (f : RecordFault) (r : Result A RecordFault) (y : A) → cond b r (Err f) ≡ Ok y → (b ≡ true) × (r ≡ Ok y)
passed true f r y e = (refl, e)
passed false f r y e = absurd cc

pub same_Ok : {A : Type 0} (x y : A) → ◌≡◌ {A = Result A RecordFault} (Ok x) (Ok y) → x ≡ y
same_Ok x y e = cc

-- ---- kinds

told : (byte n : ℕ) (k found : Kind) → kind_byte k ≡ n → eqb byte n ≡ true → Some k ≡ Some found → kind_byte found ≡ byte
told byte n k found is same e = subst (λ (x : Kind). kind_byte x ≡ byte) (same_Some k found e) (is ∙ sym (eqb-true byte n same))

-- a kind that there is, told by this byte
pub record IsTold (byte : ℕ) (found : Kind) : Type 0 where
  pub byte_is : kind_byte found ≡ byte
  pub there : IsKind found

named : (byte n : ℕ) (k found : Kind) → kind_byte k ≡ n → IsKind k → eqb byte n ≡ true → Some k ≡ Some found → IsTold byte found
named byte n k found is there same e = record { byte_is = told byte n k found is same e; there = subst (λ (x : Kind). IsKind x) (same_Some k found e) there }

further : (byte : ℕ) (found : Kind) → cond (is_more byte) (Some (kind_of.More byte)) None ≡ Some found → IsTold byte found
further byte found e =
    let p = then_some (is_more byte) (Some (kind_of.More byte)) found e in
    subst (λ (x : Kind). IsTold byte x) (same_Some (kind_of.More byte) found p.1) (record { byte_is = refl; there = p.0 })

pub told_kind : (byte : ℕ) (found : Kind) → kind_told byte ≡ Some found → IsTold byte found
told_kind byte found e =
    let fifth : Option Kind = cond (is_more byte) (Some (kind_of.More byte)) None in
    elim (either (eqb byte 0) (Some kind_of.Hello) (cond (eqb byte 1) (Some kind_of.Proof) (cond (eqb byte 2) (Some kind_of.Frame) (cond (eqb byte 3) (Some kind_of.Beat) fifth))) found e) [
      | inl p ↦ named byte 0 kind_of.Hello found refl tt p.0 p.1
      | inr p ↦
          elim (either (eqb byte 1) (Some kind_of.Proof) (cond (eqb byte 2) (Some kind_of.Frame) (cond (eqb byte 3) (Some kind_of.Beat) fifth)) found p.1) [
            | inl q ↦ named byte 1 kind_of.Proof found refl tt q.0 q.1
            | inr q ↦
                elim (either (eqb byte 2) (Some kind_of.Frame) (cond (eqb byte 3) (Some kind_of.Beat) fifth) found q.1) [
                  | inl r ↦ named byte 2 kind_of.Frame found refl tt r.0 r.1
                  | inr r ↦
                      elim (either (eqb byte 3) (Some kind_of.Beat) fifth found r.1) [
                        | inl s ↦ named byte 3 kind_of.Beat found refl tt s.0 s.1
                        | inr s ↦ further byte found s.1
                      ]
                ]
          ]
    ]

fifth_told : (a b c d e : Bool) (k : Kind) → a ≡ false → b ≡ false → c ≡ false → d ≡ false → e ≡ true
    → cond a (Some kind_of.Hello) (cond b (Some kind_of.Proof) (cond c (Some kind_of.Frame) (cond d (Some kind_of.Beat) (cond e (Some k) None)))) ≡ Some k
fifth_told a b c d e k p q r s t = rw (p, q, r, s, t) refl

pub more_again : (byte : ℕ) → is_more byte ≡ true → kind_told byte ≡ Some (kind_of.More byte)
more_again byte is =
    let least : LEAST_MORE ≤ byte = leb-true _ _ (and_parts (leb LEAST_MORE byte) (not (eqb byte NO_KIND)) is).0 in
    let n0 : eqb byte 0 ≡ false = ne_eqb byte 0 (λ e. absurd (omega (arith, least, e))) in
    let n1 : eqb byte 1 ≡ false = ne_eqb byte 1 (λ e. absurd (omega (arith, least, e))) in
    let n2 : eqb byte 2 ≡ false = ne_eqb byte 2 (λ e. absurd (omega (arith, least, e))) in
    let n3 : eqb byte 3 ≡ false = ne_eqb byte 3 (λ e. absurd (omega (arith, least, e))) in
    fifth_told (eqb byte 0) (eqb byte 1) (eqb byte 2) (eqb byte 3) (is_more byte) (kind_of.More byte) n0 n1 n2 n3 is

pub told_again : (k : Kind) → IsKind k → kind_told (kind_byte k) ≡ Some k
told_again kind_of.Hello is = refl
told_again kind_of.Proof is = refl
told_again kind_of.Frame is = refl
told_again kind_of.Beat is = refl
told_again (kind_of.More byte) is = more_again byte is

-- ---- beats

abbrev beat : ℕ → ℕ → ℕ → Bool → Bool → ℕ → Beat
beat number got front campaigns over seats = record { number = number; got = got; front = front; campaigns = campaigns; over = over; seats = seats }

flags_back : (f : ℕ) → f ≤ 3 → flags_byte (eqb (f % 2) 1) (leb 2 f) ≡ f
flags_back zero le = refl
flags_back (suc zero) le = refl
flags_back (suc (suc zero)) le = refl
flags_back (suc (suc (suc zero))) le = refl
flags_back (suc (suc (suc (suc f)))) le = absurd (omega (arith, le))

pieces : (n0 n4 n8 n13 t0 t4 t8 t13 : List ℕ) (f g : ℕ) → n0 ≡ t0 → n4 ≡ t4 → n8 ≡ t8 → f ≡ g → n13 ≡ t13 → n0 ++ (n4 ++ (n8 ++ (f ∷ n13))) ≡ t0 ++ (t4 ++ (t8 ++ (g ∷ t13)))
pieces n0 n4 n8 n13 t0 t4 t8 t13 f g p q r s t = cc

beat_parts : (bytes : List ℕ) → length bytes ≡ 15 → take 4 bytes ++ (take 4 (drop 4 bytes) ++ (take 4 (drop 8 bytes) ++ (get_or bytes 12 0 ∷ take 2 (drop 13 bytes)))) ≡ bytes
beat_parts bytes len =
    let e13 : take 2 (drop 13 bytes) ≡ drop 13 bytes = take_all 2 (drop 13 bytes) (omega (arith, length-drop 13 bytes, len)) in
    let e12 : get_or bytes 12 0 ∷ take 2 (drop 13 bytes) ≡ drop 12 bytes = ap (λ (w : List ℕ). get_or bytes 12 0 ∷ w) e13 ∙ sym (drop_more bytes 12 0 (omega (arith, len))) in
    let e8 : take 4 (drop 8 bytes) ++ (get_or bytes 12 0 ∷ take 2 (drop 13 bytes)) ≡ drop 8 bytes =
    ap (λ (w : List ℕ). take 4 (drop 8 bytes) ++ w) (e12 ∙ sym (drop-drop 4 8 bytes)) ∙ take-append-drop 4 (drop 8 bytes) in
    let e4 : take 4 (drop 4 bytes) ++ (take 4 (drop 8 bytes) ++ (get_or bytes 12 0 ∷ take 2 (drop 13 bytes))) ≡ drop 4 bytes =
    ap (λ (w : List ℕ). take 4 (drop 4 bytes) ++ w) (e8 ∙ sym (drop-drop 4 4 bytes)) ∙ take-append-drop 4 (drop 4 bytes) in
    ap (λ (w : List ℕ). take 4 bytes ++ w) e4 ∙ take-append-drop 4 bytes

beat_whole : (bytes : List ℕ) → IsBytes bytes → length bytes ≡ 15 → get_or bytes 12 0 ≤ 3 → IsBeat (beat_in bytes) × (beat_text (beat_in bytes) ≡ bytes)
beat_whole bytes fits len most =
    let n0 = wide4.back bytes (omega (arith, len)) fits in
    let n4 = wide4.back (drop 4 bytes) (omega (arith, length-drop 4 bytes, len)) (IsBytes-drop 4 bytes fits) in
    let n8 = wide4.back (drop 8 bytes) (omega (arith, length-drop 8 bytes, len)) (IsBytes-drop 8 bytes fits) in
    let n13 = wide2.back (drop 13 bytes) (omega (arith, length-drop 13 bytes, len)) (IsBytes-drop 13 bytes fits) in (
      record {
        number = big_from-lt 0 4 bytes fits;
        got = big_from-lt 0 4 (drop 4 bytes) (IsBytes-drop 4 bytes fits);
        front = big_from-lt 0 4 (drop 8 bytes) (IsBytes-drop 8 bytes fits);
        seats = big_from-lt 0 2 (drop 13 bytes) (IsBytes-drop 13 bytes fits);
      },
      pieces _ _ _ _ (take 4 bytes) (take 4 (drop 4 bytes)) (take 4 (drop 8 bytes)) (take 2 (drop 13 bytes)) _ (get_or bytes 12 0) n0 n4 n8 (flags_back (get_or bytes 12 0) most) n13 ∙ beat_parts bytes len,
    )

beat_is : (bytes : List ℕ) (b : Beat) → IsBytes bytes → beat_of bytes ≡ Ok b → IsBeat b × (beat_text b ≡ bytes)
unfolding beat_of
beat_is bytes b fits e =
    let p = past (not (eqb (length bytes) BEAT_BYTES)) BadLength (cond (ltb 3 (get_or bytes 12 0)) (Err BadKind) (Ok (beat_in bytes))) b e in
    let q = past (ltb 3 (get_or bytes 12 0)) BadKind (Ok (beat_in bytes)) b p.1 in
    let whole = beat_whole bytes fits (eqb-true _ _ (not-false _ p.0)) (ltb-false _ _ q.0) in
    subst (λ (y : Beat). IsBeat y × (beat_text y ≡ bytes)) (same_Ok (beat_in bytes) b q.1) whole

same_beat : (n m g h f e s t : ℕ) (campaigns over : Bool) → n ≡ m → g ≡ h → f ≡ e → s ≡ t → beat n g f campaigns over s ≡ beat m h e campaigns over t
same_beat n m g h f e s t campaigns over p q r u =
    ap (λ (x : ℕ). beat x g f campaigns over s) p ∙ ap (λ (x : ℕ). beat m x f campaigns over s) q ∙ ap (λ (x : ℕ). beat m h x campaigns over s) r ∙ ap (λ (x : ℕ). beat m h e campaigns over x) u

-- the numbers of a beat are read back, whatever its flags
beat_numbers : (n g f s flags : ℕ) (campaigns over : Bool) → n < 2 ^ 32 → g < 2 ^ 32 → f < 2 ^ 32 → s < 2 ^ 16
    → let text : List ℕ = big_bytes 4 n ++ (big_bytes 4 g ++ (big_bytes 4 f ++ (flags ∷ big_bytes 2 s))) in
    beat (big_number 4 text) (big_number 4 (drop 4 text)) (big_number 4 (drop 8 text)) campaigns over (big_number 2 (drop 13 text)) ≡ beat n g f campaigns over s
beat_numbers n g f s flags campaigns over ln lg lf ls =
    let tail : List ℕ = flags ∷ big_bytes 2 s in
    same_beat _ n _ g _ f _ s campaigns over
    (big_number-reads_back 4 n (big_bytes 4 g ++ (big_bytes 4 f ++ tail)) ln)
    (big_number-reads_back 4 g (big_bytes 4 f ++ tail) lg)
    (big_number-reads_back 4 f tail lf)
    (big_number-reads_back 2 s [] ls)

beat_back : (n g f s : ℕ) (campaigns over : Bool) → n < 2 ^ 32 → g < 2 ^ 32 → f < 2 ^ 32 → s < 2 ^ 16 → beat_of (beat_text (beat n g f campaigns over s)) ≡ Ok (beat n g f campaigns over s)
unfolding beat_of
beat_back n g f s true true ln lg lf ls = ap (λ (b : Beat). let r : Result Beat RecordFault = Ok b in r) (beat_numbers n g f s 3 true true ln lg lf ls)
beat_back n g f s true false ln lg lf ls = ap (λ (b : Beat). let r : Result Beat RecordFault = Ok b in r) (beat_numbers n g f s 1 true false ln lg lf ls)
beat_back n g f s false true ln lg lf ls = ap (λ (b : Beat). let r : Result Beat RecordFault = Ok b in r) (beat_numbers n g f s 2 false true ln lg lf ls)
beat_back n g f s false false ln lg lf ls = ap (λ (b : Beat). let r : Result Beat RecordFault = Ok b in r) (beat_numbers n g f s 0 false false ln lg lf ls)

-- ---- what stands behind a kind

hello_said : (o : Option Hello) (r : Record) → hello_record o ≡ Ok r → (h : Hello) × (o ≡ Some h) × (record_of.Hello h ≡ r)
hello_said None r e = absurd cc
hello_said (Some h) r e = (h, refl, same_Ok (record_of.Hello h) r e)

pub beat_again : (b : Beat) → IsBeat b → beat_of (beat_text b) ≡ Ok b
beat_again b fits = beat_back b.number b.got b.front b.seats b.campaigns b.over fits.number fits.got fits.front fits.seats

beat_said : (o : Result Beat RecordFault) (r : Record) → beat_record o ≡ Ok r → (b : Beat) × (o ≡ Ok b) × (record_of.Beat b ≡ r)
beat_said (Err f) r e = absurd cc
beat_said (Ok b) r e = (b, refl, same_Ok (record_of.Beat b) r e)

-- the record that these bytes behind this kind are
pub record IsSaid (k : Kind) (bytes : List ℕ) (r : Record) : Type 0 where
  pub fits : IsRecord r
  pub kind_is : kind r ≡ k
  pub text : body r ≡ bytes

pub content_is : (k : Kind) (bytes : List ℕ) (r : Record) → IsKind k → IsBytes bytes → content_of k bytes ≡ Ok r → IsSaid k bytes r
unfolding content_of
content_is kind_of.Hello bytes r there fits e =
    let said = hello_said (hello_of bytes) r e in
    let is = hello_is bytes said.0 fits said.1 in
    subst (λ (x : Record). IsSaid kind_of.Hello bytes x) said.2 (record { fits = is.0; kind_is = refl; text = sym is.1 })
content_is kind_of.Proof bytes r there fits e =
    let made : Record = record_of.Proof (record { tag = bytes }) in
    let p = passed (eqb (length bytes) TAG_BYTES) BadLength (Ok made) r e in
    subst (λ (x : Record). IsSaid kind_of.Proof bytes x) (same_Ok made r p.1) (record { fits = eqb-true _ _ p.0; kind_is = refl; text = refl })
content_is kind_of.Frame bytes r there fits e =
    let made : Record = record_of.Frame (record { bytes = record { items = bytes } }) in
    let p = passed (is_frame bytes) BadLength (Ok made) r e in
    let both = and_parts (leb LEAST_FRAME (length bytes)) (leb (length bytes) MOST_FRAME) p.0 in
    subst (λ (x : Record). IsSaid kind_of.Frame bytes x) (same_Ok made r p.1)
    (record { fits = record { least = leb-true _ _ both.0; most = leb-true _ _ both.1 }; kind_is = refl; text = refl })
content_is kind_of.Beat bytes r there fits e =
    let said = beat_said (beat_of bytes) r e in
    let is = beat_is bytes said.0 fits said.1 in
    subst (λ (x : Record). IsSaid kind_of.Beat bytes x) said.2 (record { fits = is.0; kind_is = refl; text = is.1 })
content_is (kind_of.More byte) bytes r there fits e =
    let made : Record = record_of.More (record { kind = byte; bytes = record { items = bytes } }) in
    let p = passed (leb (length bytes) MOST_FRAME) BadLength (Ok made) r e in
    subst (λ (x : Record). IsSaid (kind_of.More byte) bytes x) (same_Ok made r p.1) (record { fits = record { kind = there; most = leb-true _ _ p.0 }; kind_is = refl; text = refl })

pub content_again : (r : Record) → IsRecord r → content_of (kind r) (body r) ≡ Ok r
unfolding content_of
content_again (record_of.Hello h) fits = rw (hello_again h fits) refl
content_again (record_of.Proof p) fits = rw (eq-eqb (length p.tag) TAG_BYTES fits) refl
content_again (record_of.Frame f) fits = rw (le-leb LEAST_FRAME (length f.bytes.items) fits.least, le-leb (length f.bytes.items) MOST_FRAME fits.most) refl
content_again (record_of.Beat b) fits = ap beat_record (beat_back b.number b.got b.front b.seats b.campaigns b.over fits.number fits.got fits.front fits.seats)
content_again (record_of.More m) fits = rw (le-leb (length m.bytes.items) MOST_FRAME fits.most) refl

-- its kind is one that there is
pub kind_there : (r : Record) → IsRecord r → IsKind (kind r)
kind_there (record_of.Hello h) fits = tt
kind_there (record_of.Proof p) fits = tt
kind_there (record_of.Frame f) fits = tt
kind_there (record_of.Beat b) fits = tt
kind_there (record_of.More m) fits = fits.kind

pub body_most : (r : Record) → IsRecord r → length (body r) ≤ MOST_FRAME
body_most (record_of.Hello h) fits = omega (arith, hello_most h fits)
body_most (record_of.Proof p) fits = omega (arith, fits)
body_most (record_of.Frame f) fits = fits.most
body_most (record_of.Beat b) fits = omega arith
body_most (record_of.More m) fits = fits.most

-- ---- what can be said is read

lives_fit : (kept : Option Life) → IfSome kept (λ life. are_zeros life.bytes ≡ false) → IfSome kept (λ life. length life.bytes ≡ LIFE_BYTES) → IfSome kept IsLife
lives_fit None some long = tt
lives_fit (Some life) some long = record { long = long; some = some }

pub is_record : (r : Record) → CanBeSaid r → IsHeld r → IsRecord r
is_record (record_of.Hello h) can held = record {
  ends = can.ends;
  digest = held.digest;
  life = record { long = held.life; some = can.life };
  kept = lives_fit h.kept can.kept held.kept;
  promised = can.promised;
  link = held.link;
}
is_record (record_of.Proof p) can held = held
is_record (record_of.Frame f) can held = record { least = can; most = held }
is_record (record_of.Beat b) can held = held
is_record (record_of.More m) can held = record { kind = can; most = held }
