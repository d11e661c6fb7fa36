-- What stands behind a front that is stripped off.
use Rattle.std.proofs.Common.{◌≡◌, ◌≢◌, List, ℕ, ◌++◌, Option, Some, None, MatchOption, IsSomeAnd, IfSome, ap, sym, ◌∙◌}
use Rattle.std.specs.Borrow.{Bor}
use Rattle.std.proofs.lemmas.List.{append_cancel_left}

pub stands : (r : Option (Bor (List ℕ))) (bytes front behind : List ℕ) → MatchOption r ((rest : List ℕ) → bytes ≢ front ++ rest) (λ x. bytes ≡ front ++ x.now) → bytes ≡ front ++ behind → IsSomeAnd r (λ rest. rest.now ≡ behind)
stands None bytes front behind told is = absurd (told behind is)
stands (Some x) bytes front behind told is = append_cancel_left front x.now behind (sym told ∙ is)

-- the front may be spelled otherwise
pub stood : (r : Option (Bor (List ℕ))) (bytes front other : List ℕ) → MatchOption r ((rest : List ℕ) → bytes ≢ front ++ rest) (λ x. bytes ≡ front ++ x.now) → front ≡ other → IfSome r (λ rest. bytes ≡ other ++ rest.now)
stood None bytes front other told same = tt
stood (Some x) bytes front other told same = told ∙ ap (λ s. s ++ x.now) same
