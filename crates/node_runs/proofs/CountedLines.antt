-- Whole lines of a log, one behind another.
use Rattle.std.proofs.Common.{◌≡◌, ℕ, List, [], ◌∷◌, ◌++◌, refl, ap, sym, ◌∙◌}
use Rattle.std.proofs.lemmas.List.{append_assoc}
use Rattle.node_runs.specs.KeptLogs.{IsLogLine, AreLogLines, no_line, one_more}

-- one line more behind others
pub one_behind : (front line : List ℕ) → AreLogLines front → IsLogLine line → AreLogLines (front ++ (line ++ 10 ∷ []))
one_behind front line (no_line _ empty) is = one_more line [] _ is (no_line [] refl) (ap (λ (t : List ℕ). t ++ (line ++ 10 ∷ [])) empty)
one_behind front line (one_more first more _ well rest whole) is =
    one_more first (more ++ (line ++ 10 ∷ [])) _ well (one_behind more line rest is)
    (ap (λ (t : List ℕ). t ++ (line ++ 10 ∷ [])) whole ∙ append_assoc first (10 ∷ more) (line ++ 10 ∷ []))

-- what was in front of a rest, with the line that stands in front of that
pub moved : (kept front line behind more : List ℕ) → kept ≡ front ++ behind → behind ≡ line ++ 10 ∷ more → kept ≡ (front ++ (line ++ 10 ∷ [])) ++ more
moved kept front line behind more whole is =
    whole ∙ (ap (λ (t : List ℕ). front ++ t) (is ∙ sym (append_assoc line (10 ∷ []) more)) ∙ sym (append_assoc front (line ++ 10 ∷ []) more))
