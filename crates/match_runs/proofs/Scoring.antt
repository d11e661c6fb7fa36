-- The last line of a text, and what a log got last.
use Rattle.std.proofs.Common.{◌≡◌, ℕ, List, [], ◌∷◌, ◌++◌, inr, refl, sym, ap, ◌∙◌, append_assoc}
use Rattle.streamed.specs.Script.{HasNoFeed}
use Rattle.match_runs.specs.Score.{IsLastLine}

-- a line behind a line feed
pub line_behind : (text body front line : List ℕ) → text ≡ body ++ 10 ∷ [] → body ≡ front ++ 10 ∷ line → HasNoFeed line → IsLastLine text line
line_behind text body front line is parts unbroken = record {
  before = front ++ 10 ∷ [];
  parts = is ∙ ap (λ z. z ++ 10 ∷ []) (parts ∙ sym (append_assoc front (10 ∷ []) line));
  begins = inr (front, refl);
  unbroken = unbroken;
}
