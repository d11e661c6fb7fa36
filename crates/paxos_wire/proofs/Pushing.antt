-- One more entry: what stands behind it stays blank.
use Rattle.std.proofs.Common.{◌≡◌, ℕ, ◌+◌, ◌-◌, ◌<◌, List, drop, set, replicate, sym, ap, ◌∙◌, arith}
use Rattle.std.proofs.lemmas.List.{drop-set-lt, drop-drop, drop-replicate}
use Rattle.paxos_wire.specs.declared.limits.TheConstants.{WINDOW}

pub rest_after : {A : Type 0} (xs : List A) (n : ℕ) (x blank : A) → n < WINDOW → drop n xs ≡ replicate (WINDOW - n) blank
    → drop (n + 1) (set xs n x) ≡ replicate (WINDOW - (n + 1)) blank
rest_after xs n x blank lt rest =
    let fewer : WINDOW - n - 1 ≡ WINDOW - (n + 1) = omega arith in
    drop-set-lt (n + 1) xs n x (omega arith) ∙ sym (drop-drop 1 n xs) ∙ ap (drop 1) rest ∙ drop-replicate 1 (WINDOW - n) blank ∙ ap (λ (k : ℕ). replicate k blank) fewer
