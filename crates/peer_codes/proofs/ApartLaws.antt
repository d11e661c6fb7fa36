-- What codes are made from is told apart.
use Rattle.std.proofs.Common.{◌≡◌, ℕ, ◌^◌, ◌<◌, true, false, List, ◌∷◌, length, take, drop, get_or, Option, Some, refl, sym, ap, ◌∙◌, arith}
use Rattle.std.proofs.lemmas.List.{take_at, drop_at}
use Rattle.std.proofs.lemmas.Option.{same_Some}
use Rattle.paxos_wire.specs.Reading.{number_at}
use Rattle.paxos_wire.proofs.Numbers.{number_again}
use Rattle.peer_codes.specs.declared.limits.TheConstants.{CODED_HELLO_BYTES, NO_KIND}
use Rattle.peer_codes.specs.declared.role.Role.{Role}
use Rattle.peer_codes.specs.declared.role.Role.TheVariants.{Caller, Called}
use Rattle.peer_codes.specs.declared.hello.Link.{Link}
use Rattle.peer_codes.specs.declared.hello.Link.TheVariants.{Plain, Coded}
use Rattle.peer_codes.specs.declared.hello.Hello.{Hello}
use Rattle.peer_codes.specs.declared.hellos.Hellos.{Hellos}
use Rattle.peer_codes.specs.declared.kind.Kind.{Kind}
use Rattle.peer_codes.specs.declared.kind.Kind.TheVariants as kind_of
use Rattle.peer_codes.specs.Mores.{is_more}
use Rattle.peer_codes.specs.Kinds.{kind_byte, kind_told, IsKind}
use Rattle.peer_codes.specs.Fits.{IsLink, IsHello}
use Rattle.peer_codes.specs.Spelling.{nonce_text, hello_text}
use Rattle.peer_codes.specs.Reading.{hello_of}
use Rattle.peer_codes.specs.Codes.{role_byte, hellos_text, proof_text, way_text, seal_text, coded_text}
use Rattle.peer_codes.specs.Steps.{is_coded}
use Rattle.peer_codes.specs.Histories.{IsCoded, AreCoded}
use Rattle.peer_codes.proofs.RecordLaws.{told_again}
use Rattle.peer_codes.proofs.HelloLaws.{hello_again, hello_length}

-- ---- records of a way

same_first : (m n : ℕ) (a b : List ℕ) → ◌≡◌ {A = Option (ℕ × List ℕ)} (Some (m, a)) (Some (n, b)) → (m ≡ n) × (a ≡ b)
same_first m n a b e =
    let same = same_Some (m, a) (n, b) e in
    (ap (λ (x : ℕ × List ℕ). x.0) same, ap (λ (x : ℕ × List ℕ). x.1) same)

kind_is : (j k : Kind) (a b : List ℕ) → IsKind j → IsKind k → kind_byte j ∷ a ≡ kind_byte k ∷ b → j ≡ k
kind_is j k a b one other e =
    let byte : kind_byte j ≡ kind_byte k = ap (λ (l : List ℕ). get_or l 0 0) e in
    same_Some j k (sym (told_again j one) ∙ ap kind_told byte ∙ told_again k other)

pub records_apart : (m n : ℕ) (j k : Kind) (a b : List ℕ) → IsKind j → IsKind k → m < 2 ^ 64 → n < 2 ^ 64 → coded_text m j a ≡ coded_text n k b → (m ≡ n) × (j ≡ k) × (a ≡ b)
records_apart m n j k a b one other lm ln e =
    let read = same_first m n (kind_byte j ∷ a) (kind_byte k ∷ b)
    (sym (number_again 8 m (kind_byte j ∷ a) (omega (arith, lm))) ∙ ap (λ (l : List ℕ). number_at 8 l) e ∙ number_again 8 n (kind_byte k ∷ b) (omega (arith, ln))) in
    (read.0, kind_is j k a b one other read.1, ap (λ (l : List ℕ). drop 1 l) read.1)

-- the byte of the seal's text where a record has its kind is the one that tells none
seal_byte : get_or seal_text 8 0 ≡ NO_KIND
seal_byte = refl

no_kind : (k : Kind) → IsKind k → kind_byte k ≡ NO_KIND → ⊥
no_kind kind_of.Hello there e = absurd cc
no_kind kind_of.Proof there e = absurd cc
no_kind kind_of.Frame there e = absurd cc
no_kind kind_of.Beat there e = absurd cc
no_kind (kind_of.More byte) there e =
    let no : false ≡ true = ap is_more (sym e) ∙ there in
    absurd cc

pub seal_apart : (n : ℕ) (k : Kind) (sent : List ℕ) → IsKind k → coded_text n k sent ≡ seal_text → ⊥
seal_apart n k sent there e = no_kind k there (ap (λ (l : List ℕ). get_or l 8 0) e ∙ seal_byte)

-- ---- proofs and ways

pub proof_apart : (r s : Role) (h g : Hellos) → proof_text r h ≡ way_text s g → ⊥
proof_apart r s h g e =
    let byte : ◌≡◌ {A = ℕ} 112 119 = ap (λ (l : List ℕ). get_or l 5 0) e in
    absurd (omega (arith, byte))

role_is : (r s : Role) → role_byte r ≡ role_byte s → r ≡ s
role_is Caller Caller e = refl
role_is Caller Called e = absurd cc
role_is Called Caller e = absurd cc
role_is Called Called e = refl

coded_long : (l : Link) → IsLink l → is_coded l ≡ true → length (nonce_text l) ≡ 32
coded_long Plain fits e = absurd cc
coded_long (Coded nonce) fits e = fits

long : (h : Hello) → IsHello h → IsCoded h → length (hello_text h) ≡ CODED_HELLO_BYTES
long h fits coded = omega (arith, hello_length h fits, coded_long h.link fits.link coded)

same_hello : (h g : Hello) → IsHello h → IsHello g → hello_text h ≡ hello_text g → h ≡ g
same_hello h g fits fit e = same_Some h g (sym (hello_again h fits) ∙ ap hello_of e ∙ hello_again g fit)

abbrev both : Hello → Hello → Hellos
both caller called = record { caller = caller; called = called }

hellos_are : (h g : Hellos) → AreCoded h → AreCoded g → hellos_text h ≡ hellos_text g → h ≡ g
hellos_are h g a b e =
    let m = long h.caller a.caller a.caller_coded in
    let n = long g.caller b.caller b.caller_coded in
    let callers : hello_text h.caller ≡ hello_text g.caller =
    sym (take_at (hello_text h.caller) (hello_text h.called) CODED_HELLO_BYTES m) ∙ ap (λ (l : List ℕ). take CODED_HELLO_BYTES l) e ∙ take_at (hello_text g.caller) (hello_text g.called) CODED_HELLO_BYTES n in
    let called : hello_text h.called ≡ hello_text g.called =
    sym (drop_at (hello_text h.caller) (hello_text h.called) CODED_HELLO_BYTES m) ∙ ap (λ (l : List ℕ). drop CODED_HELLO_BYTES l) e ∙ drop_at (hello_text g.caller) (hello_text g.called) CODED_HELLO_BYTES n in
    ap (λ (x : Hello). both x h.called) (same_hello h.caller g.caller a.caller b.caller callers)
    ∙ ap (λ (x : Hello). both g.caller x) (same_hello h.called g.called a.called b.called called)

pub proofs_apart : (r s : Role) (h g : Hellos) → AreCoded h → AreCoded g → proof_text r h ≡ proof_text s g → (r ≡ s) × (h ≡ g)
proofs_apart r s h g a b e = (role_is r s (ap (λ (l : List ℕ). get_or l 10 0) e), hellos_are h g a b (ap (λ (l : List ℕ). drop 11 l) e))

pub ways_apart : (r s : Role) (h g : Hellos) → AreCoded h → AreCoded g → way_text r h ≡ way_text s g → (r ≡ s) × (h ≡ g)
ways_apart r s h g a b e = (role_is r s (ap (λ (l : List ℕ). get_or l 8 0) e), hellos_are h g a b (ap (λ (l : List ℕ). drop 9 l) e))
