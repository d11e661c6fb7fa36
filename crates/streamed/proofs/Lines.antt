-- A byte more of a script.
use Rattle.std.proofs.Common.{◌≡◌, ◌≢◌, ℕ, zero, suc, List, [], ◌∷◌, ◌++◌, take, reverse, sym, ◌∙◌, ap, refl, append_assoc}
use Rattle.std.specs.List.{flat_map}
use Rattle.std.proofs.lemmas.Grind.{flat_map-append}
use Rattle.std.proofs.lemmas.List.{append-nil, reverse-append}
use Rattle.streamed.specs.Script.{AreLines, HasNoFeed}

no_feed_more : (bytes : List ℕ) (byte : ℕ) → byte ≢ 10 → HasNoFeed bytes → HasNoFeed (bytes ++ byte ∷ [])
no_feed_more [] byte other clear = (other, tt)
no_feed_more (first ∷ bytes) byte other clear = (clear.0, no_feed_more bytes byte other clear.1)

-- no line feed: the line that has begun goes on
pub line_goes_on : (seen : List ℕ) (lines : List (List ℕ)) (rest : List ℕ) (byte : ℕ) → byte ≢ 10 → AreLines seen lines rest → AreLines (seen ++ byte ∷ []) lines (rest ++ byte ∷ [])
line_goes_on seen lines rest byte other are = record {
  joined = ap (λ z. z ++ byte ∷ []) are.joined ∙ append_assoc (flat_map (λ line. line ++ 10 ∷ []) (reverse lines)) rest (byte ∷ []);
  whole = are.whole;
  partial = no_feed_more rest byte other are.partial;
}

-- a line feed: the line is whole
pub line_ends : (seen : List ℕ) (lines : List (List ℕ)) (rest : List ℕ) → AreLines seen lines rest → AreLines (seen ++ 10 ∷ []) (rest ∷ lines) []
line_ends seen lines rest are =
    let ended : List ℕ → List ℕ = λ line. line ++ 10 ∷ [] in
    let before : List ℕ = flat_map ended (reverse lines) in
    let last : flat_map ended (reverse (rest ∷ lines)) ≡ before ++ (rest ++ 10 ∷ []) =
    ap (flat_map ended) (reverse-append (rest ∷ []) lines) ∙ flat_map-append ended (reverse lines) (rest ∷ [])
    ∙ ap (λ z. before ++ z) (append-nil (rest ++ 10 ∷ [])) in
    record {
      joined = ap (λ z. z ++ 10 ∷ []) are.joined ∙ append_assoc before rest (10 ∷ []) ∙ sym last ∙ sym (append-nil (flat_map ended (reverse (rest ∷ lines))));
      whole = (are.partial, are.whole);
      partial = tt;
    }

-- the front of a longer line
pub take_again : (n : ℕ) (xs : List ℕ) (x : ℕ) → take n (take n xs ++ x ∷ []) ≡ take n (xs ++ x ∷ [])
take_again zero xs x = refl
take_again (suc n) [] x = refl
take_again (suc n) (y ∷ ys) x = ap (λ z. y ∷ z) (take_again n ys x)
