-- What is said behind the line that names the version changes nothing of what was asked.
use Rattle.std.proofs.Common.{◌≡◌, ℕ, true, List, [], ◌∷◌, ◌++◌, refl, sym, ap, ◌∙◌, subst}
use Rattle.std.proofs.lemmas.Bool.{cond-true}
use Rattle.node_seats.specs.Words.{Reading, fresh, with_byte, with_bytes, read_of}
use Rattle.node_seats.specs.declared.words.Asked.TheVariants as asks
use Rattle.node_service.proofs.Bots.{asks_bytes}

bytes_both : (r : Reading) (xs ys : List ℕ) → with_bytes r (xs ++ ys) ≡ with_bytes (with_bytes r xs) ys
bytes_both r [] ys = refl
bytes_both r (x ∷ xs) ys = bytes_both (with_byte r x) xs ys

byte_stays : (r : Reading) (byte : ℕ) → r.is_over ≡ true → with_byte r byte ≡ r
byte_stays r byte over = cond-true r.is_over r _ over

bytes_stay : (r : Reading) (bytes : List ℕ) → r.is_over ≡ true → with_bytes r bytes ≡ r
bytes_stay r [] over = refl
bytes_stay r (byte ∷ more) over =
    let same : with_byte r byte ≡ r = byte_stays r byte over in
    ap (λ (s : Reading). with_bytes s more) same ∙ bytes_stay r more over

pub words_behind : (words : Reading) (came later said : List ℕ) → words ≡ read_of came → said ≡ came ++ later → words.is_over ≡ true → words ≡ read_of said
words_behind words came later said are whole over =
    sym (ap read_of whole ∙ (bytes_both fresh came later ∙ (ap (λ (r : Reading). with_bytes r later) (sym are) ∙ bytes_stay words later over)))

-- nor that it asked
pub asked_behind : (words : Reading) (came later said : List ℕ) → words ≡ read_of came → said ≡ came ++ later → (words.asked ≡ asks.Nothing → ⊥) → (read_of said).asked ≡ asks.Nothing → ⊥
asked_behind words came later said are whole has =
    let same : read_of said ≡ with_bytes words later = ap read_of whole ∙ (bytes_both fresh came later ∙ ap (λ (r : Reading). with_bytes r later) (sym are)) in
    subst (λ (r : Reading). r.asked ≡ asks.Nothing → ⊥) (sym same) (asks_bytes words later has)
