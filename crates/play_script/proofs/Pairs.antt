-- Two numbers of a script, where their text is cut at the space.
use Rattle.std.proofs.Common.{ℕ, ◌≡◌, List, ◌∷◌, ◌++◌, sym, subst}
use Rattle.matchstate.specs.Free.{IsFreeOf}
use Rattle.play_script.specs.Orders.{SaysTwo, Names}
use Rattle.play_script.proofs.Numbers.{number_free}

-- what stands before the first space says the first number, and what stands behind it the second
pub says_cut : (count : ℕ) (Second : List ℕ → ℕ → Type 0) {text here there : List ℕ} (first second : ℕ)
    → ((front behind : List ℕ) → IsFreeOf 32 front → text ≡ front ++ 32 ∷ behind → (here ≡ front) × (there ≡ behind))
    → SaysTwo (Names count) Second text first second → (Names count here first) × Second there second
says_cut count Second first second only says =
    let cut = only says.0 says.1 (number_free says.0 first says.3.0) says.2 in
    (subst (λ (t : List ℕ). Names count t first) (sym cut.0) says.3, subst (λ (t : List ℕ). Second t second) (sym cut.1) says.4)
