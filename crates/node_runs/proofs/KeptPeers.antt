-- What the text of a file says of a peer's store, written and read back.
use Rattle.std.proofs.Common.{◌≡◌, ℕ, ◌+◌, ◌*◌, ◌<◌, Bool, true, false, List, [], ◌∷◌, ◌++◌, take, drop, length, decimal, refl, sym, ap, subst, ◌∙◌, append_assoc, arith}
use Rattle.std.specs.Prelude.{Option, Some, None, IfSome, IsTrue, ◌↔◌, codes, ◌==◌}
use Rattle.std.specs.List.{IsSplitAt}
use Rattle.std.proofs.lemmas.List.{length-append, take-append-drop}
use Rattle.std.proofs.Math.Seq.{take-append_seam, drop-append_seam}
use Rattle.hex.specs.Hex.{encode_lower, lower_digits}
use Rattle.hex.proofs.HexLemmas.{length-encode_with}
use Rattle.matchstate.specs.Free.{IsFreeOf}
use Rattle.match_log.proofs.Free.{decimal_text_free, free_append}
use Rattle.match_file.specs.Identities.{life_text}
use Rattle.paxos_wire.specs.declared.ballot.Ballot.{Ballot}
use Rattle.node_runs.specs.KeptPeers.{AreSpaces, IsSpaced, IsBallot, IsLine, IsLined, IsPromised, Says, ballot_text}
use Rattle.node_runs.specs.declared.kept_peer.KeptPeer.{KeptPeer}

-- ---- which bytes don't stand in the parts of a line

pub no_dot : (number : ℕ) → IsFreeOf 46 (decimal number)
no_dot number = decimal_text_free 46 refl number

pub no_space : (ballot : Ballot) → IsFreeOf 32 (ballot_text ballot)
no_space ballot =
    free_append 32 (decimal ballot.round) (46 ∷ decimal ballot.node) (decimal_text_free 32 refl ballot.round) ((λ same. omega (arith, same)), decimal_text_free 32 refl ballot.node)

pub no_feed : (spaces : List ℕ) → AreSpaces spaces → IsFreeOf 10 spaces
no_feed [] are = tt
no_feed (byte ∷ spaces) are = ((λ same. let is = are.0 in omega (arith, is, same)), no_feed spaces are.1)

pub one_word : IsFreeOf 32 (codes "promised")
one_word =
    (λ e. omega (arith, e), (λ e. omega (arith, e), (λ e. omega (arith, e), (λ e. omega (arith, e), (λ e. omega (arith, e), (λ e. omega (arith, e), (λ e. omega (arith, e), (λ e. omega (arith, e), tt))))))))

-- ---- spaces

pub spaced : (old new : List ℕ) → IsSpaced new old → IsSpaced (new ++ 32 ∷ []) old
spaced old new so = record {
  spaces = so.spaces ++ 32 ∷ [];
  are = one_more so.spaces so.are;
  form = ap (λ (t : List ℕ). t ++ 32 ∷ []) so.form ∙ append_assoc old so.spaces (32 ∷ []);
}
  where
    one_more : (spaces : List ℕ) → AreSpaces spaces → AreSpaces (spaces ++ 32 ∷ [])
    one_more [] are = (refl, tt)
    one_more (byte ∷ spaces) are = (are.0, one_more spaces are.1)

-- ---- the line of a ballot

pub promised_found : (line word said text behind spaces rest : List ℕ) (result : Option Ballot) → line ≡ word ++ 32 ∷ said → said ≡ text ++ 32 ∷ behind → behind ≡ spaces ++ 10 ∷ rest
    → IsLine word spaces rest → IfSome result (λ ballot. text ≡ ballot_text ballot) → IfSome result (λ ballot. IsPromised line ballot)
promised_found line word said text behind spaces rest None one two three parts is = tt
promised_found line word said text behind spaces rest (Some ballot) one two three parts is = record {
  spaces = spaces;
  are = parts.1.0;
  form = rw (one, two, three, parts.0, parts.1.1, is) refl;
}

-- a line that isn't taken has other parts
pub other_line : (word spaces rest own : List ℕ) (result : Bool) → (IsTrue result ↔ IsLine word spaces rest) → result ≡ false → word ≡ codes "promised" → spaces ≡ own → AreSpaces own → rest ≡ [] → ⊥
other_line word spaces rest own result is fails one two are three =
    let yes : IsTrue result = is.1 (one, (subst (λ (s : List ℕ). AreSpaces s) (sym two) are, three)) in
    let never : false ≡ true = sym fails ∙ yes in cc

-- such a line was put behind a text
pub lined : (old one two new : List ℕ) (ballot : Ballot) → one ≡ old ++ (codes "promised " ++ decimal ballot.round ++ codes "." ++ decimal ballot.node ++ codes " ") → IsSpaced two one → new ≡ two ++ 10 ∷ [] → IsLined new old ballot
lined old one two new ballot first so last = record {
  line = codes "promised" ++ 32 ∷ (ballot_text ballot ++ 32 ∷ (so.spaces ++ 10 ∷ []));
  says = record { spaces = so.spaces; are = so.are; form = refl };
  form = rw (last, so.form, first) (simp append_assoc refl);
}

-- two that are the same with `Some`
pub some_is : {X : Type 0} (one other : X) → Some one ≡ Some other → one ≡ other
some_is one other same = cc

pub ballot_is : (round node : ℕ) (ballot : Ballot) → Some round ≡ Some ballot.round → Some node ≡ Some ballot.node → Some (record { round = round; node = node }) ≡ Some ballot
ballot_is round node ballot one two =
    ap (λ (r : ℕ). Some (record { round = r; node = node })) (some_is round ballot.round one) ∙ ap (λ (n : ℕ). Some (record { round = ballot.round; node = n })) (some_is node ballot.node two)

-- ---- both lines

-- a text that is split behind its first line
pub whole : (text front back life : List ℕ) → IsSplitAt text 38 front back → front ≡ life_text life → text ≡ life_text life ++ back
whole text front back life split is =
    sym (take-append-drop 38 text) ∙ (ap (λ (t : List ℕ). t ++ drop 38 text) (sym split.1 ∙ is) ∙ ap (λ (t : List ℕ). life_text life ++ t) (sym split.2))

pub life_long : (life : List ℕ) → length life ≡ 16 → length (life_text life) ≡ 38
life_long life long =
    let digits : length (encode_lower life) ≡ 2 * length life = length-encode_with lower_digits life in
    let whole : length (encode_lower life ++ 10 ∷ []) ≡ length (encode_lower life) + 1 = length-append (encode_lower life) (10 ∷ []) in
    omega (arith, digits, whole, long)

-- a text of both is taken apart at the end of the first
pub first_is : (text life behind front : List ℕ) → length life ≡ 16 → text ≡ life_text life ++ behind → front ≡ take 38 text → front ≡ life_text life
first_is text life behind front long form is =
    is ∙ (ap (λ (t : List ℕ). take 38 t) form ∙ (ap (λ (n : ℕ). take n (life_text life ++ behind)) (sym (life_long life long)) ∙ take-append_seam (life_text life) behind))

pub second_is : (text life behind back : List ℕ) → length life ≡ 16 → text ≡ life_text life ++ behind → back ≡ drop 38 text → back ≡ behind
second_is text life behind back long form is =
    is ∙ (ap (λ (t : List ℕ). drop 38 t) form ∙ (ap (λ (n : ℕ). drop n (life_text life ++ behind)) (sym (life_long life long)) ∙ drop-append_seam (life_text life) behind))

pub long_enough : (text life behind : List ℕ) → length life ≡ 16 → text ≡ life_text life ++ behind → length text < 38 → ⊥
long_enough text life behind long form short =
    let first = life_long life long in
    let whole : length text ≡ length (life_text life) + length behind = ap length form ∙ length-append (life_text life) behind in
    omega (arith, first, whole, short)

pub empty_is : (text : List ℕ) → (length text == 0) ≡ true → text ≡ []
empty_is [] is = refl
empty_is (byte ∷ text) is = grind arith

-- nothing behind the first line says no ballot, and something says one
pub says_none : (behind : List ℕ) (promised : Option Ballot) → behind ≡ [] → Says behind promised → promised ≡ None
says_none behind None empty says = refl
says_none behind (Some ballot) empty says = let form = sym empty ∙ says.form in cc

pub says_some : (behind : List ℕ) (promised : Option Ballot) → (length behind == 0) ≡ false → IfSome promised IsBallot → Says behind promised → (ballot : Ballot) × ((promised ≡ Some ballot) × (IsBallot ballot × IsPromised behind ballot))
says_some behind None some fits says = let never : true ≡ false = sym (ap (λ (b : List ℕ). length b == 0) says) ∙ some in absurd (cc)
says_some behind (Some ballot) some fits says = (ballot, (refl, (fits, says)))

-- what is kept is its life and its ballot
pub kept_is : (life : List ℕ) (promised : Option Ballot) (kept : KeptPeer) → life ≡ kept.life.bytes → promised ≡ kept.promised → Some (record { life = record { bytes = life }; promised = promised }) ≡ Some kept
kept_is life promised kept one two =
    ap (λ (l : List ℕ). Some (record { life = record { bytes = l }; promised = promised })) one ∙ ap (λ (p : Option Ballot). Some (record { life = record { bytes = kept.life.bytes }; promised = p })) two
