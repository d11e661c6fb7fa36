-- Bytes that are a name.
use Rattle.std.proofs.Common.{◌≡◌, ℕ, ◌≤◌, ◌-◌, ◌++◌, true, List, length, take, drop, replicate, sym, ◌∙◌, ap, subst}
use Rattle.std.specs.List.{list_all}
use Rattle.std.proofs.lemmas.List.Elements.{All-from_recursion, recursion_from_All}
use Rattle.std.proofs.lemmas.List.Sums.{AllPass-from_list_all, list_all-from_AllPass}
use Rattle.std.proofs.lemmas.List.{drop-replicate}
use Rattle.std.proofs.Math.Seq.{take-append_seam}
use Rattle.match_log.specs.Names.{IsName, is_name_byte}
use Rattle.match_log.specs.NameInside.{IsKept}

pub name_from_tests : (bytes : List ℕ) → 1 ≤ length bytes → length bytes ≤ 32 → list_all is_name_byte bytes ≡ true → IsName bytes
name_from_tests bytes least most all = record {
  least = least;
  most = most;
  bytes = recursion_from_All (λ byte. is_name_byte byte ≡ true) bytes (AllPass-from_list_all is_name_byte bytes all);
}

pub tests_from_name : (bytes : List ℕ) → IsName bytes → list_all is_name_byte bytes ≡ true
tests_from_name bytes name = list_all-from_AllPass is_name_byte bytes (All-from_recursion (λ byte. is_name_byte byte ≡ true) bytes name.bytes)

-- a name's bytes with 0 behind them
pub name_kept : (bytes copied : List ℕ) → IsName bytes → copied ≡ bytes → IsKept (record { bytes = copied ++ drop (length bytes) (replicate 32 0); len = length bytes })
name_kept bytes copied name same =
    let front : take (length bytes) (copied ++ drop (length bytes) (replicate 32 0)) ≡ bytes =
    ap (λ (b : List ℕ). take (length bytes) (b ++ drop (length bytes) (replicate 32 0))) same ∙ take-append_seam bytes (drop (length bytes) (replicate 32 0)) in
    record {
      name = subst IsName (sym front) name;
      count = ap length front;
      rest =
          ap (λ (b : List ℕ). copied ++ b) (drop-replicate (length bytes) 32 0)
          ∙ ap (λ (b : List ℕ). b ++ replicate (32 - length bytes) 0) (same ∙ sym front);
    }
