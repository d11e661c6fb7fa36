-- Fields: what is read is what is written, and what is written is read again.
use Rattle.std.proofs.Common.{◌≡◌, ℕ, suc, ◌≤◌, Bool, true, false, not, ◌&&◌, cond, ltb, leb, eqb, List, [], ◌∷◌, ◌++◌, length, replicate, take, drop, Option, Some, None, IfSome, refl, sym, ap, subst, ◌∙◌, arith, inl, inr, ◌⊎◌, length-append}
use Rattle.std.proofs.lemmas.Bool.{ltb-true, ltb-false, lt-ltb, le-ltb, leb-true, le-leb, eqb-true, eqb-false, ne_eqb, and_parts, not-true, false_from_ne_true}
use Rattle.std.proofs.lemmas.List.{take-append-drop, length-take-le, take_at, drop_at, take_all, drop_all}
use Rattle.std.proofs.lemmas.Option.{same_Some}
use Rattle.std.proofs.NetLemmas.Options.{cond_none}
use Rattle.byteorder.specs.Endian.{big_number}
use Rattle.byteorder.specs.Numbers.{big_number-reads_back}
use Rattle.paxos_wire.specs.declared.ballot.Ballot.{Ballot}
use Rattle.paxos_wire.specs.declared.version.Version.TheVariants.{New}
use Rattle.paxos_wire.specs.Fits.{IsBallot}
use Rattle.paxos_wire.specs.Spelling.{ballot_text}
use Rattle.paxos_wire.specs.Reading.{◌>>=◌, when, bytes_at, ballot_at}
use Rattle.paxos_wire.proofs.Steps.{IsBytes, IsBytes-drop, bind_some, when_some, then_some, either, Takes}
use Rattle.paxos_wire.proofs.CommandLaws.{ballot_takes, ballot_again}
use Rattle.peer_codes.specs.declared.limits.TheConstants.{NODES, LIFE_BYTES, NONCE_BYTES, BALLOT_BYTES}
use Rattle.peer_codes.specs.declared.hello.Ends.{Ends}
use Rattle.peer_codes.specs.declared.hello.Life.{Life}
use Rattle.peer_codes.specs.declared.hello.Link.{Link}
use Rattle.peer_codes.specs.declared.hello.Link.TheVariants.{Plain, Coded}
use Rattle.peer_codes.specs.Fits.{are_zeros, AreEnds, IsLife, IsLink}
use Rattle.peer_codes.specs.Spelling.{link_byte, nonce_text, ends_text, kept_text, promised_text}
use Rattle.peer_codes.specs.Reading.{are_ends, ends_at, life_at, kept_of, kept_at, promised_of, promised_at, link_at}

-- ---- so many bytes

abbrev itself : List ℕ → List ℕ
itself bytes = bytes

abbrev pub IsLong : ℕ → List ℕ → Type 0
IsLong n bytes = length bytes ≡ n

pub bytes_take : (n : ℕ) (bytes : List ℕ) (x : List ℕ × List ℕ) → IsBytes bytes → bytes_at n bytes ≡ Some x → Takes itself (IsLong n) bytes x
bytes_take n bytes x fits e =
    let g = cond_none (ltb (length bytes) n) (Some (take n bytes, drop n bytes)) x e in
    let long : n ≤ length bytes = ltb-false _ _ g.0 in
    subst (λ (y : List ℕ × List ℕ). Takes itself (IsLong n) bytes y) (same_Some (take n bytes, drop n bytes) x g.1)
    (record { parts = sym (take-append-drop n bytes); rest = IsBytes-drop n bytes fits; fits = length-take-le n bytes long })

pub bytes_again : (n : ℕ) (b rest : List ℕ) → length b ≡ n → bytes_at n (b ++ rest) ≡ Some (b, rest)
bytes_again n b rest len =
    let long : ltb (length (b ++ rest)) n ≡ false = le-ltb _ _ (omega (arith, length-append b rest, len)) in
    rw (long, take_at b rest n len, drop_at b rest n len) refl

pub bytes_alone : (n : ℕ) (b : List ℕ) → length b ≡ n → bytes_at n b ≡ Some (b, [])
bytes_alone n b len =
    let long : ltb (length b) n ≡ false = le-ltb _ _ (omega (arith, len)) in
    rw (long, take_all n b (omega (arith, len)), drop_all n b (omega (arith, len))) refl

-- what is all zeros is so many of them
pub zeros_are : (b : List ℕ) → are_zeros b ≡ true → b ≡ replicate (length b) 0
zeros_are [] zeros = refl
zeros_are (x ∷ xs) zeros =
    let parts = and_parts (eqb x 0) (are_zeros xs) zeros in
    let first : x ≡ 0 = eqb-true x 0 parts.0 in
    let rest : xs ≡ replicate (length xs) 0 = zeros_are xs parts.1 in
    ap (λ (y : ℕ). y ∷ xs) first ∙ ap (λ (ys : List ℕ). 0 ∷ ys) rest

-- ---- who speaks to whom

ends_are : (from to nodes : ℕ) → are_ends from to nodes ≡ true → AreEnds (record { from = from; to = to; nodes = nodes })
ends_are from to nodes h =
    let p = and_parts (leb nodes NODES) (ltb from nodes && (ltb to nodes && not (eqb from to))) h in
    let q = and_parts (ltb from nodes) (ltb to nodes && not (eqb from to)) p.1 in
    let r = and_parts (ltb to nodes) (not (eqb from to)) q.1 in
    record { most = leb-true _ _ p.0; from = ltb-true _ _ q.0; to = ltb-true _ _ r.0; apart = eqb-false from to (not-true _ r.1) }

pub ends_take : (bytes : List ℕ) (x : Ends × List ℕ) → IsBytes bytes → ends_at bytes ≡ Some x → Takes ends_text AreEnds bytes x
unfolding ends_at
ends_take [] x fits e = absurd cc
ends_take (a ∷ []) x fits e = absurd cc
ends_take (a ∷ b ∷ []) x fits e = absurd cc
ends_take (a ∷ b ∷ c ∷ bytes) x fits e =
    let made : Ends × List ℕ = (record { from = a; to = b; nodes = c }, bytes) in
    let g = when_some (are_ends a b c) made x e in
    subst (λ (y : Ends × List ℕ). Takes ends_text AreEnds (a ∷ b ∷ c ∷ bytes) y) g.1
    (record { parts = refl; rest = λ i. fits (suc (suc (suc i))); fits = ends_are a b c g.0 })

pub ends_again : (e : Ends) (rest : List ℕ) → AreEnds e → ends_at (ends_text e ++ rest) ≡ Some (e, rest)
unfolding ends_at
ends_again e rest fits = rw (le-leb e.nodes NODES fits.most, lt-ltb e.from e.nodes fits.from, lt-ltb e.to e.nodes fits.to, ne_eqb e.from e.to fits.apart) refl

-- ---- lives

abbrev pub life_text : Life → List ℕ
life_text life = life.bytes

pub life_takes : (bytes : List ℕ) (x : Life × List ℕ) → IsBytes bytes → life_at bytes ≡ Some x → Takes life_text IsLife bytes x
unfolding life_at
life_takes bytes x fits e =
    let a = bind_some (bytes_at LIFE_BYTES bytes) (λ life. when (not (are_zeros life.0)) (record { bytes = life.0 }, life.1)) x e in
    let t = bytes_take LIFE_BYTES bytes a.0 fits a.1 in
    let made : Life × List ℕ = (record { bytes = a.0.0 }, a.0.1) in
    let g = when_some (not (are_zeros a.0.0)) made x a.2 in
    subst (λ (y : Life × List ℕ). Takes life_text IsLife bytes y) g.1 (record { parts = t.parts; rest = t.rest; fits = record { long = t.fits; some = not-true _ g.0 } })

pub life_again : (life : Life) (rest : List ℕ) → IsLife life → life_at (life.bytes ++ rest) ≡ Some (life, rest)
unfolding life_at
life_again life rest fits = rw (bytes_again LIFE_BYTES life.bytes rest fits.long, fits.some) refl

abbrev pub MayBeLife : Option Life → Type 0
MayBeLife kept = IfSome kept IsLife

kept_is : (zeros : Bool) (b : List ℕ) → zeros ≡ are_zeros b → length b ≡ LIFE_BYTES
    → (kept_text (cond zeros None (Some (record { bytes = b }))) ≡ b) × MayBeLife (cond zeros None (Some (record { bytes = b })))
kept_is true b is long = (sym (zeros_are b (sym is) ∙ ap (λ (n : ℕ). replicate n 0) long), tt)
kept_is false b is long = (refl, record { long = long; some = sym is })

pub kept_takes : (bytes : List ℕ) (x : Option Life × List ℕ) → IsBytes bytes → kept_at bytes ≡ Some x → Takes kept_text MayBeLife bytes x
unfolding kept_at
kept_takes bytes x fits e =
    let a = bind_some (bytes_at LIFE_BYTES bytes) (λ life. Some (kept_of life.0, life.1)) x e in
    let t = bytes_take LIFE_BYTES bytes a.0 fits a.1 in
    let is = kept_is (are_zeros a.0.0) a.0.0 refl t.fits in
    let made : Option Life × List ℕ = (kept_of a.0.0, a.0.1) in
    subst (λ (y : Option Life × List ℕ). Takes kept_text MayBeLife bytes y) (same_Some made x a.2)
    (record { parts = t.parts ∙ ap (λ (w : List ℕ). w ++ a.0.1) (sym is.0); rest = t.rest; fits = is.1 })

kept_read : (b rest : List ℕ) → length b ≡ LIFE_BYTES → kept_at (b ++ rest) ≡ Some (kept_of b, rest)
unfolding kept_at
kept_read b rest long = rw (bytes_again LIFE_BYTES b rest long) refl

pub kept_again : (kept : Option Life) (rest : List ℕ) → MayBeLife kept → kept_at (kept_text kept ++ rest) ≡ Some (kept, rest)
kept_again None rest fits = kept_read (replicate LIFE_BYTES 0) rest refl
kept_again (Some life) rest fits =
    kept_read life.bytes rest fits.long
    ∙ ap (λ (zeros : Bool). let r : Option (Option Life × List ℕ) = Some (cond zeros None (Some life), rest) in r) fits.some

-- ---- what is promised

abbrev pub MayBeBallot : Option Ballot → Type 0
MayBeBallot promised = IfSome promised IsBallot

-- a ballot's text isn't zeros, since its round isn't 0
ballot_some : (b : Ballot) → IsBallot b → are_zeros (ballot_text b) ≡ false
ballot_some b fits = false_from_ne_true _ (λ zeros.
    let round : big_number 4 (ballot_text b) ≡ b.round = big_number-reads_back 4 b.round (b.node ∷ []) (omega (arith, fits.last)) in
    let none : big_number 4 (ballot_text b) ≡ 0 = ap (big_number 4) (zeros_are (ballot_text b) zeros) in
    absurd (omega (arith, round, none, fits.first)))

-- nothing where they are zeros, else the ballot
promised_cases : (zeros : Bool) (read : Option (Ballot × List ℕ)) (rest : List ℕ) (x : Option Ballot × List ℕ)
    → cond zeros (Some (None, rest)) (promised_of read) ≡ Some x
    → ((zeros ≡ true) × ((None, rest) ≡ x)) ⊎ ((b : Ballot × List ℕ) × (read ≡ Some b) × ((Some b.0, b.1) ≡ x))
promised_cases true read rest x e = let none : Option Ballot × List ℕ = (None, rest) in inl (refl, same_Some none x e)
promised_cases false None rest x e = absurd cc
promised_cases false (Some b) rest x e = let some : Option Ballot × List ℕ = (Some b.0, b.1) in inr (b, refl, same_Some some x e)

pub promised_takes : (bytes : List ℕ) (x : Option Ballot × List ℕ) → IsBytes bytes → promised_at bytes ≡ Some x → Takes promised_text MayBeBallot bytes x
unfolding promised_at
promised_takes bytes x fits e =
    let a = bind_some (bytes_at BALLOT_BYTES bytes) (λ front. cond (are_zeros front.0) (Some (None, front.1)) (promised_of (ballot_at New bytes))) x e in
    let t = bytes_take BALLOT_BYTES bytes a.0 fits a.1 in
    elim (promised_cases (are_zeros a.0.0) (ballot_at New bytes) a.0.1 x a.2) [
      | inl none ↦
          let zeros : a.0.0 ≡ replicate BALLOT_BYTES 0 = zeros_are a.0.0 none.0 ∙ ap (λ (n : ℕ). replicate n 0) t.fits in
          subst (λ (y : Option Ballot × List ℕ). Takes promised_text MayBeBallot bytes y) none.1
          (record { parts = t.parts ∙ ap (λ (w : List ℕ). w ++ a.0.1) zeros; rest = t.rest; fits = tt })
      | inr some ↦
          let b = ballot_takes New bytes some.0 fits some.1 in
          subst (λ (y : Option Ballot × List ℕ). Takes promised_text MayBeBallot bytes y) some.2
          (record { parts = b.parts; rest = b.rest; fits = b.fits.ballot })
    ]

promised_none : (t rest : List ℕ) → length t ≡ BALLOT_BYTES → are_zeros t ≡ true → promised_at (t ++ rest) ≡ Some (None, rest)
unfolding promised_at
promised_none t rest long zeros = rw (bytes_again BALLOT_BYTES t rest long, zeros) refl

promised_some : (t rest : List ℕ) (b : Ballot) → length t ≡ BALLOT_BYTES → are_zeros t ≡ false → ballot_at New (t ++ rest) ≡ Some (b, rest) → promised_at (t ++ rest) ≡ Some (Some b, rest)
unfolding promised_at
promised_some t rest b long some read = rw (bytes_again BALLOT_BYTES t rest long, some, read) refl

pub promised_again : (promised : Option Ballot) (rest : List ℕ) → MayBeBallot promised → promised_at (promised_text promised ++ rest) ≡ Some (promised, rest)
promised_again None rest fits = promised_none (replicate BALLOT_BYTES 0) rest refl refl
promised_again (Some b) rest fits = promised_some (ballot_text b) rest b refl (ballot_some b fits) (ballot_again New b rest fits fits.node)

-- ---- the kind of the connection

-- the kind of connection that the byte tells was taken from the front
pub record TakesLink (byte : ℕ) (bytes : List ℕ) (x : Link × List ℕ) : Type 0 where
  pub byte_is : byte ≡ link_byte x.0
  pub parts : bytes ≡ nonce_text x.0 ++ x.1
  pub fits : IsLink x.0

pub link_takes : (byte : ℕ) (bytes : List ℕ) (x : Link × List ℕ) → IsBytes bytes → link_at byte bytes ≡ Some x → TakesLink byte bytes x
unfolding link_at
link_takes byte bytes x fits e =
    let plain : Link × List ℕ = (Plain, bytes) in
    let coded : Option (Link × List ℕ) = (bytes_at NONCE_BYTES bytes >>= λ nonce. Some (Coded (record { bytes = nonce.0 }), nonce.1)) in
    elim (either (eqb byte 0) (Some plain) (cond (eqb byte 1) coded None) x e) [
      | inl p ↦
          subst (λ (y : Link × List ℕ). TakesLink byte bytes y) (same_Some plain x p.1)
          (record { byte_is = eqb-true byte 0 p.0; parts = refl; fits = tt })
      | inr p ↦
          let q = then_some (eqb byte 1) coded x p.1 in
          let a = bind_some (bytes_at NONCE_BYTES bytes) (λ nonce. Some (Coded (record { bytes = nonce.0 }), nonce.1)) x q.1 in
          let t = bytes_take NONCE_BYTES bytes a.0 fits a.1 in
          let made : Link × List ℕ = (Coded (record { bytes = a.0.0 }), a.0.1) in
          subst (λ (y : Link × List ℕ). TakesLink byte bytes y) (same_Some made x a.2)
          (record { byte_is = eqb-true byte 1 q.0; parts = t.parts; fits = t.fits })
    ]

pub link_alone : (l : Link) → IsLink l → link_at (link_byte l) (nonce_text l) ≡ Some (l, [])
unfolding link_at
link_alone Plain fits = refl
link_alone (Coded nonce) fits = rw (bytes_alone NONCE_BYTES nonce.bytes fits) refl
