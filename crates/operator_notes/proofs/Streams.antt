-- A piece more of the bytes that are written, and a fact that holds whatever a call answers.
use Rattle.std.proofs.Common.{◌≡◌, ℕ, ◌+◌, ◌-◌, ◌≤◌, List, ◌++◌, length, take, drop, sym, ◌∙◌, ap, arith}
use Rattle.std.specs.Prelude.{Result, Ok, Err, OnErr}
use Rattle.std.proofs.lemmas.List.{take_all, length-drop, length-take-le, take-append-drop}
use Rattle.std.proofs.Math.Seq.{take-append-add}

-- a piece more behind a beginning
pub take_part : (n count : ℕ) (xs : List ℕ) → n ≤ length xs → take (n + count) xs ≡ take n xs ++ take count (take (length xs - n) (drop n xs))
take_part n count xs within =
    let left : take (length xs - n) (drop n xs) ≡ drop n xs = take_all (length xs - n) (drop n xs) (omega (arith, length-drop n xs)) in
    let front : length (take n xs) ≡ n = length-take-le n xs within in
    ap (take (n + count)) (sym (take-append-drop n xs)) ∙ ap (λ m. take (m + count) (take n xs ++ drop n xs)) (sym front)
    ∙ take-append-add (take n xs) (drop n xs) count ∙ ap (λ z. take n xs ++ take count z) (sym left)

pub on_err : {T E P : Type 0} (r : Result T E) → P → OnErr r P
on_err (Ok x) p = tt
on_err (Err e) p = p
