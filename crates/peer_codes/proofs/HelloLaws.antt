-- Hellos: what is read is what is written, and what is written is read again.
use Rattle.std.proofs.Common.{◌≡◌, true, ℕ, ◌+◌, ◌^◌, ◌<◌, ◌≤◌, eqb, cond, List, ◌∷◌, ◌++◌, length, Option, Some, None, refl, sym, ap, subst, ◌∙◌, arith, append-nil, length-append, inl, inr}
use Rattle.std.proofs.lemmas.Bool.{eqb-true}
use Rattle.std.proofs.lemmas.List.{nil_from_length}
use Rattle.std.proofs.lemmas.Option.{same_Some}
use Rattle.byteorder.specs.Endian.{big_bytes}
use Rattle.paxos_wire.specs.declared.ballot.Ballot.{Ballot}
use Rattle.paxos_wire.specs.Reading.{◌>>=◌, when, byte_at, number_at, bytes_at}
use Rattle.paxos_wire.proofs.Steps.{IsBytes, bind_some, when_some, either, then_some}
use Rattle.paxos_wire.proofs.Numbers.{wide4, byte_takes, number_takes, number_again}
use Rattle.peer_codes.specs.declared.limits.TheConstants.{FIRST_MAGIC, SECOND_MAGIC, DIGEST_BYTES, LIFE_BYTES, BALLOT_BYTES, PLAIN_HELLO_BYTES, CODED_HELLO_BYTES}
use Rattle.peer_codes.specs.declared.version.Version.{Version}
use Rattle.peer_codes.specs.declared.version.Version.TheVariants.{First, Second}
use Rattle.peer_codes.specs.declared.hello.Ends.{Ends}
use Rattle.peer_codes.specs.declared.hello.Life.{Life}
use Rattle.peer_codes.specs.declared.hello.Link.{Link}
use Rattle.peer_codes.specs.declared.hello.Link.TheVariants.{Plain, Coded}
use Rattle.peer_codes.specs.declared.hello.Hello.{Hello}
use Rattle.peer_codes.specs.Versions.{magic_of, version_told}
use Rattle.peer_codes.specs.Fits.{AreEnds, IsLife, IsLink, IsHello}
use Rattle.peer_codes.specs.Spelling.{link_byte, nonce_text, ends_text, kept_text, promised_text, hello_text}
use Rattle.peer_codes.specs.Reading.{ends_at, life_at, kept_at, promised_at, greeting_at, lives_at, link_at, hello_of}
use Rattle.peer_codes.proofs.FieldLaws.{bytes_take, bytes_again, ends_take, ends_again, life_takes, life_again, MayBeLife, kept_takes, kept_again, promised_takes, promised_again, link_takes, link_alone}

-- ---- versions

told_by : (magic n : ℕ) (v found : Version) → magic_of v ≡ n → eqb magic n ≡ true → Some v ≡ Some found → magic ≡ magic_of found
told_by magic n v found is same e = subst (λ (x : Version). magic ≡ magic_of x) (same_Some v found e) (eqb-true magic n same ∙ sym is)

version_is : (magic : ℕ) (found : Version) → version_told magic ≡ Some found → magic ≡ magic_of found
version_is magic found e =
    elim (either (eqb magic FIRST_MAGIC) (Some First) (cond (eqb magic SECOND_MAGIC) (Some Second) None) found e) [
      | inl p ↦ told_by magic FIRST_MAGIC First found refl p.0 p.1
      | inr p ↦ let q = then_some (eqb magic SECOND_MAGIC) (Some Second) found p.1 in told_by magic SECOND_MAGIC Second found refl q.0 q.1
    ]

version_again : (v : Version) → version_told (magic_of v) ≡ Some v
version_again First = refl
version_again Second = refl

magic_most : (v : Version) → magic_of v < 2 ^ 32
magic_most First = omega arith
magic_most Second = omega arith

-- ---- the parts of a Hello

-- what stands in front of a Hello was taken
record TakesGreeting (bytes : List ℕ) (x : Version × ℕ × Ends × List ℕ) : Type 0 where
  pub parts : bytes ≡ big_bytes 4 (magic_of x.0) ++ (x.1 ∷ (ends_text x.2 ++ x.3))
  pub rest : IsBytes x.3
  pub fits : AreEnds x.2

greeting_takes : (bytes : List ℕ) (x : Version × ℕ × Ends × List ℕ) → IsBytes bytes → greeting_at bytes ≡ Some x → TakesGreeting bytes x
unfolding greeting_at
greeting_takes bytes x fits e =
    let a = bind_some (number_at 4 bytes) (λ magic. byte_at magic.1 >>= λ link. ends_at link.1 >>= λ ends. version_told magic.0 >>= λ version. Some (version, link.0, ends.0, ends.1)) x e in
    let b = bind_some (byte_at a.0.1) (λ link. ends_at link.1 >>= λ ends. version_told a.0.0 >>= λ version. Some (version, link.0, ends.0, ends.1)) x a.2 in
    let c = bind_some (ends_at b.0.1) (λ ends. version_told a.0.0 >>= λ version. Some (version, b.0.0, ends.0, ends.1)) x b.2 in
    let d = bind_some (version_told a.0.0) (λ version. Some (version, b.0.0, c.0.0, c.0.1)) x c.2 in
    let made : Version × ℕ × Ends × List ℕ = (d.0, b.0.0, c.0.0, c.0.1) in
    let t0 = number_takes 4 wide4 bytes a.0 fits a.1 in
    let t1 = byte_takes a.0.1 b.0 t0.rest b.1 in
    let t2 = ends_take b.0.1 c.0 t1.rest c.1 in
    let whole : bytes ≡ big_bytes 4 a.0.0 ++ (b.0.0 ∷ (ends_text c.0.0 ++ c.0.1)) =
    t0.parts ∙ ap (λ (w : List ℕ). big_bytes 4 a.0.0 ++ w) (t1.parts ∙ ap (λ (w : List ℕ). b.0.0 ∷ w) t2.parts) in
    subst (λ (y : Version × ℕ × Ends × List ℕ). TakesGreeting bytes y) (same_Some made x d.2)
    (record { parts = whole ∙ ap (λ (m : ℕ). big_bytes 4 m ++ (b.0.0 ∷ (ends_text c.0.0 ++ c.0.1))) (version_is a.0.0 d.0 d.1); rest = t2.rest; fits = t2.fits })

greeting_read : (m link : ℕ) (v : Version) (ends : Ends) (rest : List ℕ) → m < 2 ^ 32 → AreEnds ends → version_told m ≡ Some v
    → greeting_at (big_bytes 4 m ++ (link ∷ (ends_text ends ++ rest))) ≡ Some (v, link, ends, rest)
unfolding greeting_at
greeting_read m link v ends rest lt fits told = rw (number_again 4 m (link ∷ (ends_text ends ++ rest)) (omega (arith, lt)), ends_again ends rest fits, told) refl

greeting_again : (v : Version) (link : ℕ) (ends : Ends) (rest : List ℕ) → AreEnds ends → greeting_at (big_bytes 4 (magic_of v) ++ (link ∷ (ends_text ends ++ rest))) ≡ Some (v, link, ends, rest)
greeting_again v link ends rest fits = greeting_read (magic_of v) link v ends rest (magic_most v) fits (version_again v)

-- the match and both lives were taken
record TakesLives (bytes : List ℕ) (x : List ℕ × Life × Option Life × List ℕ) : Type 0 where
  pub parts : bytes ≡ x.0 ++ (x.1.bytes ++ (kept_text x.2 ++ x.3))
  pub rest : IsBytes x.3
  pub digest : length x.0 ≡ DIGEST_BYTES
  pub life : IsLife x.1
  pub kept : MayBeLife x.2

lives_take : (bytes : List ℕ) (x : List ℕ × Life × Option Life × List ℕ) → IsBytes bytes → lives_at bytes ≡ Some x → TakesLives bytes x
unfolding lives_at
lives_take bytes x fits e =
    let a = bind_some (bytes_at DIGEST_BYTES bytes) (λ digest. life_at digest.1 >>= λ life. kept_at life.1 >>= λ kept. Some (digest.0, life.0, kept.0, kept.1)) x e in
    let b = bind_some (life_at a.0.1) (λ life. kept_at life.1 >>= λ kept. Some (a.0.0, life.0, kept.0, kept.1)) x a.2 in
    let c = bind_some (kept_at b.0.1) (λ kept. Some (a.0.0, b.0.0, kept.0, kept.1)) x b.2 in
    let made : List ℕ × Life × Option Life × List ℕ = (a.0.0, b.0.0, c.0.0, c.0.1) in
    let t0 = bytes_take DIGEST_BYTES bytes a.0 fits a.1 in
    let t1 = life_takes a.0.1 b.0 t0.rest b.1 in
    let t2 = kept_takes b.0.1 c.0 t1.rest c.1 in
    subst (λ (y : List ℕ × Life × Option Life × List ℕ). TakesLives bytes y) (same_Some made x c.2)
    (record {
      parts = t0.parts ∙ ap (λ (w : List ℕ). a.0.0 ++ w) (t1.parts ∙ ap (λ (w : List ℕ). b.0.0.bytes ++ w) t2.parts);
      rest = t2.rest;
      digest = t0.fits;
      life = t1.fits;
      kept = t2.fits;
    })

lives_again : (digest : List ℕ) (life : Life) (kept : Option Life) (rest : List ℕ) → length digest ≡ DIGEST_BYTES → IsLife life → MayBeLife kept
    → lives_at (digest ++ (life.bytes ++ (kept_text kept ++ rest))) ≡ Some (digest, life, kept, rest)
unfolding lives_at
lives_again digest life kept rest long is may = rw (bytes_again DIGEST_BYTES digest (life.bytes ++ (kept_text kept ++ rest)) long, life_again life (kept_text kept ++ rest) is, kept_again kept rest may) refl

pub hello_is : (bytes : List ℕ) (h : Hello) → IsBytes bytes → hello_of bytes ≡ Some h → IsHello h × (bytes ≡ hello_text h)
unfolding hello_of
hello_is bytes h fits e =
    let a = bind_some (greeting_at bytes) (λ greeting. lives_at greeting.3 >>= λ lives. promised_at lives.3 >>= λ promised. link_at greeting.1 promised.1 >>= λ link. when (eqb (length link.1) 0) (record { version = greeting.0; ends = greeting.2; digest = record { bytes = lives.0 }; life = lives.1; kept = lives.2; promised = promised.0; link = link.0 })) h e in
    let b = bind_some (lives_at a.0.3) (λ lives. promised_at lives.3 >>= λ promised. link_at a.0.1 promised.1 >>= λ link. when (eqb (length link.1) 0) (record { version = a.0.0; ends = a.0.2; digest = record { bytes = lives.0 }; life = lives.1; kept = lives.2; promised = promised.0; link = link.0 })) h a.2 in
    let c = bind_some (promised_at b.0.3) (λ promised. link_at a.0.1 promised.1 >>= λ link. when (eqb (length link.1) 0) (record { version = a.0.0; ends = a.0.2; digest = record { bytes = b.0.0 }; life = b.0.1; kept = b.0.2; promised = promised.0; link = link.0 })) h b.2 in
    let d = bind_some (link_at a.0.1 c.0.1) (λ link. when (eqb (length link.1) 0) (record { version = a.0.0; ends = a.0.2; digest = record { bytes = b.0.0 }; life = b.0.1; kept = b.0.2; promised = c.0.0; link = link.0 })) h c.2 in
    let made : Hello = record { version = a.0.0; ends = a.0.2; digest = record { bytes = b.0.0 }; life = b.0.1; kept = b.0.2; promised = c.0.0; link = d.0.0 } in
    let g = when_some (eqb (length d.0.1) 0) made h d.2 in
    let t0 = greeting_takes bytes a.0 fits a.1 in
    let t1 = lives_take a.0.3 b.0 t0.rest b.1 in
    let t2 = promised_takes b.0.3 c.0 t1.rest c.1 in
    let t3 = link_takes a.0.1 c.0.1 d.0 t2.rest d.1 in
    let nonce : c.0.1 ≡ nonce_text d.0.0 = t3.parts ∙ ap (λ (w : List ℕ). nonce_text d.0.0 ++ w) (nil_from_length d.0.1 (eqb-true _ _ g.0)) ∙ append-nil (nonce_text d.0.0) in
    let tail : a.0.3 ≡ b.0.0 ++ (b.0.1.bytes ++ (kept_text b.0.2 ++ (promised_text c.0.0 ++ nonce_text d.0.0))) =
    t1.parts ∙ ap (λ (w : List ℕ). b.0.0 ++ (b.0.1.bytes ++ (kept_text b.0.2 ++ w))) (t2.parts ∙ ap (λ (w : List ℕ). promised_text c.0.0 ++ w) nonce) in
    let whole : bytes ≡ hello_text made =
    t0.parts ∙ ap (λ (w : List ℕ). big_bytes 4 (magic_of a.0.0) ++ (a.0.1 ∷ (ends_text a.0.2 ++ w))) tail
    ∙ ap (λ (l : ℕ). big_bytes 4 (magic_of a.0.0) ++ (l ∷ (ends_text a.0.2 ++ (b.0.0 ++ (b.0.1.bytes ++ (kept_text b.0.2 ++ (promised_text c.0.0 ++ nonce_text d.0.0))))))) t3.byte_is in
    subst (λ (y : Hello). IsHello y × (bytes ≡ hello_text y)) g.1
    (record { ends = t0.fits; digest = t1.digest; life = t1.life; kept = t1.kept; promised = t2.fits; link = t3.fits }, whole)

pub hello_again : (h : Hello) → IsHello h → hello_of (hello_text h) ≡ Some h
unfolding hello_of
hello_again h fits =
    rw (
      greeting_again h.version (link_byte h.link) h.ends (h.digest.bytes ++ (h.life.bytes ++ (kept_text h.kept ++ (promised_text h.promised ++ nonce_text h.link)))) fits.ends,
      lives_again h.digest.bytes h.life h.kept (promised_text h.promised ++ nonce_text h.link) fits.digest fits.life fits.kept,
      promised_again h.promised (nonce_text h.link) fits.promised,
      link_alone h.link fits.link,
    ) refl

-- ---- how long a Hello is

kept_length : (kept : Option Life) → MayBeLife kept → length (kept_text kept) ≡ LIFE_BYTES
kept_length None fits = refl
kept_length (Some life) fits = fits.long

promised_length : (promised : Option Ballot) → length (promised_text promised) ≡ BALLOT_BYTES
promised_length None = refl
promised_length (Some b) = refl

nonce_most : (l : Link) → IsLink l → PLAIN_HELLO_BYTES + length (nonce_text l) ≤ CODED_HELLO_BYTES
nonce_most Plain fits = omega arith
nonce_most (Coded nonce) fits = omega (arith, fits)

pub hello_length : (h : Hello) → IsHello h → length (hello_text h) ≡ PLAIN_HELLO_BYTES + length (nonce_text h.link)
hello_length h fits =
    let kept = kept_length h.kept fits.kept in
    let promised = promised_length h.promised in
    let l0 = length-append h.digest.bytes (h.life.bytes ++ (kept_text h.kept ++ (promised_text h.promised ++ nonce_text h.link))) in
    let l1 = length-append h.life.bytes (kept_text h.kept ++ (promised_text h.promised ++ nonce_text h.link)) in
    let l2 = length-append (kept_text h.kept) (promised_text h.promised ++ nonce_text h.link) in
    let l3 = length-append (promised_text h.promised) (nonce_text h.link) in
    omega (arith, l0, l1, l2, l3, kept, promised, fits.digest, fits.life.long)

pub hello_most : (h : Hello) → IsHello h → length (hello_text h) ≤ CODED_HELLO_BYTES
hello_most h fits = omega (arith, hello_length h fits, nonce_most h.link fits.link)
