-- The frame in front of a stream: it is whole just where it is read, and nothing else stands there.
use Rattle.std.proofs.Common.{◌≡◌, ℕ, ◌<◌, ◌≤◌, true, false, ltb, leb, List, [], ◌∷◌, ◌++◌, length, take, drop, Option, Some, None, Result, Ok, Err, IfOk, IfErr, refl, sym, ap, subst, ◌∙◌, arith, length-append, append_assoc, inl, inr}
use Rattle.std.specs.List.{AllByRecursion}
use Rattle.byteorder.specs.Numbers.{big_from-append}
use Rattle.std.proofs.lemmas.Bool.{le-ltb, le-leb, lt-ltb, cases_lt}
use Rattle.std.proofs.lemmas.List.{take_at, drop_at, take-append-drop, take-append-le}
use Rattle.paxos_wire.specs.declared.limits.TheConstants.{LEAST_LENGTH, MOST_LENGTH}
use Rattle.paxos_wire.specs.declared.fault.FrameFault.{FrameFault}
use Rattle.paxos_wire.specs.declared.message.Message.{Message}
use Rattle.paxos_wire.specs.Fits.{IsMessage}
use Rattle.paxos_wire.specs.Spelling.{IsText}
use Rattle.paxos_wire.specs.Faults.{length_field, fault_of, reading}
use Rattle.paxos_wire.specs.Stream.{needed, front, IsPartial, IsInFront, IsFaulty, IsStreamOf, IsRest, Splits}
use Rattle.paxos_wire.proofs.Steps.{IsBytes}
use Rattle.paxos_wire.proofs.Numbers.{IsBytes-take}
use Rattle.paxos_wire.proofs.FrameLaws.{IsFramed, text_framed, frame_is, fault_is}

-- a message's text stands in front, and is read
pub record IsReadInFront (m : Message) (bytes rest : List ℕ) : Type 0 where
  pub whole : needed bytes ≤ length bytes
  pub read : reading (front bytes) ≡ Ok m
  pub behind : drop (needed bytes) bytes ≡ rest
  pub shorter : length rest < length bytes

needed_is : (m : Message) (text rest : List ℕ) → IsFramed m text → needed (text ++ rest) ≡ length text
unfolding needed
needed_is m text rest is =
    let field = is.field rest in
    let long : ltb (length (text ++ rest)) 4 ≡ false = le-ltb _ _ (omega (arith, length-append text rest, is.least)) in
    let least : leb LEAST_LENGTH (length_field (text ++ rest)) ≡ true = le-leb _ _ (omega (arith, field, is.least)) in
    let most : leb (length_field (text ++ rest)) MOST_LENGTH ≡ true = le-leb _ _ (omega (arith, field, is.most)) in
    rw (long, least, most) field

front_of : (m : Message) (text rest : List ℕ) → IsFramed m text → front (text ++ rest) ≡ text
front_of m text rest is = ap (λ (k : ℕ). take k (text ++ rest)) (needed_is m text rest is) ∙ take_at text rest (length text) refl

pub in_front : (m : Message) (bytes rest : List ℕ) → IsMessage m → IsInFront m bytes rest → IsReadInFront m bytes rest
in_front m bytes rest fits there =
    let text = there.text in
    let is = text_framed m text fits there.is in
    let n = needed_is m text rest is in
    let whole : IsReadInFront m (text ++ rest) rest = record {
      whole = omega (arith, n, length-append text rest);
      read = ap reading (front_of m text rest is) ∙ is.read;
      behind = ap (λ (k : ℕ). drop k (text ++ rest)) n ∙ drop_at text rest (length text) refl;
      shorter = omega (arith, length-append text rest, is.least);
    } in
    subst (λ (b : List ℕ). IsReadInFront m b rest) (sym there.whole) whole

pub front_is : (bytes : List ℕ) (m : Message) → IsBytes bytes → reading (front bytes) ≡ Ok m → IsMessage m × IsInFront m bytes (drop (needed bytes) bytes)
front_is bytes m fits e =
    let is = frame_is (front bytes) m (IsBytes-take (needed bytes) bytes fits) e in
    (is.0, record { text = front bytes; is = is.1; whole = sym (take-append-drop (needed bytes) bytes) })

pub not_partial : (m : Message) (bytes rest : List ℕ) → IsMessage m → IsInFront m bytes rest → IsPartial bytes → ⊥
not_partial m bytes rest fits there partial = let is = in_front m bytes rest fits there in absurd (omega (arith, is.whole, partial))

pub faulty_by : (bytes : List ℕ) (end : ℕ) (r : Result Message FrameFault) → end ≡ needed bytes → end ≤ length bytes → r ≡ reading (take end bytes) → IfErr r (λ f. IsFaulty bytes f)
faulty_by bytes end (Ok m) e there read = tt
faulty_by bytes end (Err f) e there read =
    let err : reading (front bytes) ≡ Err f = ap (λ (k : ℕ). reading (take k bytes)) (sym e) ∙ sym read in
    record {
      there = omega (arith, e, there);
      none = λ m rest fits is. absurd (cc (err, (in_front m bytes rest fits is).read));
      first = fault_is (front bytes) f err;
    }

pub found_by : (bytes : List ℕ) (end : ℕ) (r : Result Message FrameFault) → IsBytes bytes → end ≡ needed bytes → r ≡ reading (take end bytes) → IfOk r (λ m. IsMessage m × IsInFront m bytes (drop end bytes))
found_by bytes end (Ok m) fits e read = rw e (front_is bytes m fits (ap (λ (k : ℕ). reading (take k bytes)) (sym e) ∙ sym read))
found_by bytes end (Err f) fits e read = tt

pub only_by : (bytes : List ℕ) (end : ℕ) (r : Result Message FrameFault) → end ≡ needed bytes → r ≡ reading (take end bytes) → (m : Message) (rest : List ℕ) → IsMessage m → IsInFront m bytes rest → (r ≡ Ok m) × (drop end bytes ≡ rest)
only_by bytes end r e read m rest fits is =
    let f = in_front m bytes rest fits is in
    (read ∙ ap (λ (k : ℕ). reading (take k bytes)) e ∙ f.read, ap (λ (k : ℕ). drop k bytes) e ∙ f.behind)

ok_is : (m n : Message) (r : Result Message FrameFault) → r ≡ Ok m → r ≡ Ok n → m ≡ n
ok_is m n r p q = cc

-- what stands in front stands there once
told_once : (m n : Message) (bytes a b : List ℕ) → IsMessage m → IsMessage n → IsInFront m bytes a → IsInFront n bytes b → (m ≡ n) × (a ≡ b)
told_once m n bytes a b fits_m fits_n is_m is_n =
    let p = in_front m bytes a fits_m is_m in
    let q = in_front n bytes b fits_n is_n in
    (ok_is m n (reading (front bytes)) p.read q.read, sym p.behind ∙ q.behind)

pub told_apart : (m n : Message) (x y a b : List ℕ) → IsMessage m → IsMessage n → IsText m x → IsText n y → x ++ a ≡ y ++ b → (m ≡ n) × (a ≡ b)
told_apart m n x y a b fits_m fits_n is_m is_n e = told_once m n (x ++ a) a b fits_m fits_n (record { text = x; is = is_m; whole = refl }) (record { text = y; is = is_n; whole = e })

pub shorter : (m : Message) (bytes rest : List ℕ) → IsMessage m → IsInFront m bytes rest → length rest < length bytes
shorter m bytes rest fits there = (in_front m bytes rest fits there).shorter

-- ---- whole streams

-- a message more, behind the others
pub one_more : (ms : List Message) (m : Message) (bytes rest stream : List ℕ) → IsInFront m bytes rest → IsStreamOf ms bytes stream → IsStreamOf (ms ++ m ∷ []) rest stream
one_more [] m bytes rest stream there is = (rest, subst (λ (b : List ℕ). IsInFront m b rest) (sym is) there, refl)
one_more (n ∷ ms) m bytes rest stream there is = (is.0, is.1, one_more ms m bytes rest is.0 there is.2)

-- a piece more, behind all
pub piece_more : (ms : List Message) (rest piece stream : List ℕ) → IsStreamOf ms rest stream → IsStreamOf ms (rest ++ piece) (stream ++ piece)
piece_more [] rest piece stream is = ap (λ (b : List ℕ). b ++ piece) is
piece_more (m ∷ ms) rest piece stream is =
    let there : IsInFront m (stream ++ piece) (is.0 ++ piece) = record { text = is.1.text; is = is.1.is; whole = ap (λ (b : List ℕ). b ++ piece) is.1.whole ∙ append_assoc is.1.text is.0 piece } in
    (is.0 ++ piece, there, piece_more ms rest piece is.0 is.2)

-- a stream that begins with no frame begins with no message
no_message : (m : Message) (bytes rest : List ℕ) (fault : Option FrameFault) → IsMessage m → IsRest fault bytes → IsInFront m bytes rest → ⊥
no_message m bytes rest None fits ends there = not_partial m bytes rest fits there ends
no_message m bytes rest (Some f) fits ends there = ends.none m rest fits there

rests_alike : (rest : List ℕ) (f g : Option FrameFault) → IsRest f rest → IsRest g rest → f ≡ g
rests_alike rest None None p q = refl
rests_alike rest None (Some g) p q = absurd (omega (arith, p, q.there))
rests_alike rest (Some f) None p q = absurd (omega (arith, q, p.there))
rests_alike rest (Some f) (Some g) p q = ap Some (p.first ∙ sym q.first)

-- two readings of one stream are one
pub one_reading : (ms ns : List Message) (a b stream : List ℕ) (f g : Option FrameFault) → AllByRecursion IsMessage ms → AllByRecursion IsMessage ns → IsRest f a → IsRest g b → IsStreamOf ms a stream → IsStreamOf ns b stream → (ms ≡ ns) × (f ≡ g)
one_reading [] [] a b stream f g each_m each_n p q left right = (refl, rests_alike a f g p (subst (λ (r : List ℕ). IsRest g r) (sym right ∙ left) q))
one_reading [] (n ∷ ns) a b stream f g each_m each_n p q left right = absurd (no_message n a right.0 f each_n.0 p (subst (λ (r : List ℕ). IsInFront n r right.0) left right.1))
one_reading (m ∷ ms) [] a b stream f g each_m each_n p q left right = absurd (no_message m b left.0 g each_m.0 q (subst (λ (r : List ℕ). IsInFront m r left.0) right left.1))
one_reading (m ∷ ms) (n ∷ ns) a b stream f g each_m each_n p q left right =
    let parts = told_once m n stream left.0 right.0 each_m.0 each_n.0 left.1 right.1 in
    let tail = one_reading ms ns a b left.0 f g each_m.1 each_n.1 p q left.2 (subst (λ (r : List ℕ). IsStreamOf ns b r) (sym parts.1) right.2) in
    (cc (parts.0, tail.0), tail.1)

pub one_split : (stream : List ℕ) (ms ns : List Message) (f g : Option FrameFault) → Splits stream ms f → Splits stream ns g → (ms ≡ ns) × (f ≡ g)
one_split stream ms ns f g p q = one_reading ms ns p.rest q.rest stream f g p.each q.each p.ends q.ends p.whole q.whole

-- a fault stays whatever follows
field_stays : (bytes more : List ℕ) → 4 ≤ length bytes → length_field (bytes ++ more) ≡ length_field bytes
field_stays bytes more long = big_from-append 4 bytes more long

needed_stays : (bytes more : List ℕ) → needed bytes ≤ length bytes → needed (bytes ++ more) ≡ needed bytes
unfolding needed
needed_stays bytes more there =
    elim (cases_lt (length bytes) 4) [
      | inl short ↦ absurd (omega (arith, rw (lt-ltb (length bytes) 4 short) at there))
      | inr long ↦
          let all : 4 ≤ length (bytes ++ more) = omega (arith, length-append bytes more) in
          rw (le-ltb (length bytes) 4 long, le-ltb (length (bytes ++ more)) 4 all, field_stays bytes more long) refl
    ]

pub fault_stays : (bytes more : List ℕ) (f : FrameFault) → IsFaulty bytes f → IsFaulty (bytes ++ more) f
fault_stays bytes more f faulty =
    let n = needed_stays bytes more faulty.there in
    let same : front (bytes ++ more) ≡ front bytes = ap (λ (k : ℕ). take k (bytes ++ more)) n ∙ take-append-le (needed bytes) bytes more faulty.there in
    record {
      there = omega (arith, n, faulty.there, length-append bytes more);
      none = λ m rest fits there.
          let is = text_framed m there.text fits there.is in
          let whole : front bytes ≡ there.text = sym same ∙ ap front there.whole ∙ front_of m there.text rest is in
          faulty.none m (drop (needed bytes) bytes) fits (record { text = there.text; is = there.is; whole = sym (take-append-drop (needed bytes) bytes) ∙ ap (λ (w : List ℕ). w ++ drop (needed bytes) bytes) whole });
      first = faulty.first ∙ ap fault_of (sym same);
    }
