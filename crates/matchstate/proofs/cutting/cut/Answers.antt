use Rattle.std.proofs.Common.{◌≡◌, ℕ, ◌-◌, ◌≤◌, List, [], ◌∷◌, ◌++◌, length, take, drop, refl, sym, ap, ◌∙◌, subst, arith}
use Rattle.std.proofs.lemmas.List.{take-append-drop, take_all, length-drop}
use Rattle.matchstate.specs.Free.{IsFreeOf}
use Rattle.matchstate.proofs.Fronts.{free_front, all_free, byte_behind, cut_at}
use Rattle.matchstate.proofs.cutting.cut.Goals as goal

some_rest : (xs : List ℕ) → 1 ≤ length xs → (byte : ℕ) × (xs ≡ byte ∷ take (length xs - 1) (drop 1 xs))
some_rest [] some = absurd (omega arith)
some_rest (x ∷ xs) some = (x, ap (λ r. x ∷ r) (sym (take_all (length (x ∷ xs) - 1) xs (omega arith))))

pub returns-in_default-clause-only : goal.returns-in_default-clause-only
returns-in_default-clause-only c =
    λ field rest whole is.
    let cut = cut_at c.args.byte c.args.bytes.now field rest c.split_at.result.0.now c.split_at.result.1.now c.front_len.result whole is c.front_len.ensures.value c.split_at.ensures.front c.split_at.ensures.back in
    let some = ap length cut.1 in
    let none = c.in_default.len_below in
    omega arith

pub returns-in_default-clause-missing : goal.returns-in_default-clause-missing
returns-in_default-clause-missing c =
    let bytes = c.args.bytes.now in
    let n = c.front_len.result in
    let rest = ap length c.split_at.ensures.back ∙ length-drop n bytes in
    let none = c.in_default.len_below in
    let whole : take n bytes ≡ bytes = take_all n bytes (omega arith) in
    let free = subst (IsFreeOf c.args.byte) (ap (λ k. take k bytes) (sym c.front_len.ensures.value) ∙ whole) (free_front c.args.byte bytes) in
    (λ missing. free, λ there. refl)

pub returns-in-len1-up-clause-missing : goal.returns-in-len1-up-clause-missing
returns-in-len1-up-clause-missing c =
    let bytes = c.args.bytes.now in
    let rest = ap length c.split_at.ensures.back ∙ length-drop c.front_len.result bytes in
    let some = c.in-len1-up.len_at_least in (
      λ missing. cc,
      λ free.
          let all = c.front_len.ensures.value ∙ all_free c.args.byte bytes free in
          absurd (omega arith),
    )

pub returns-in-len1-up-clause-found : goal.returns-in-len1-up-clause-found
returns-in-len1-up-clause-found c =
    let bytes = c.args.bytes.now in
    let behind = c.split_at.result.1.now in
    let told = c.front_len.ensures.value in
    let some = some_rest behind c.in-len1-up.len_at_least in
    let at = ap (λ n. drop n bytes) (sym told) ∙ sym c.split_at.ensures.back ∙ some.1 in
    let colon : some.0 ≡ c.args.byte = byte_behind c.args.byte bytes some.0 (take (length behind - 1) (drop 1 behind)) at in (
      sym (take-append-drop c.front_len.result bytes) ∙ ap (λ f. f ++ drop c.front_len.result bytes) (sym c.split_at.ensures.front)
          ∙ ap (λ r. c.split_at.result.0.now ++ r) (sym c.split_at.ensures.back ∙ some.1 ∙ ap (λ x. x ∷ take (length behind - 1) (drop 1 behind)) colon),
      subst (IsFreeOf c.args.byte) (ap (λ n. take n bytes) (sym told) ∙ sym c.split_at.ensures.front) (free_front c.args.byte bytes),
    )

pub returns-in-len1-up-clause-only : goal.returns-in-len1-up-clause-only
returns-in-len1-up-clause-only c =
    λ field rest whole is.
    let behind = c.split_at.result.1.now in
    let cut = cut_at c.args.byte c.args.bytes.now field rest c.split_at.result.0.now behind c.front_len.result whole is c.front_len.ensures.value c.split_at.ensures.front c.split_at.ensures.back in
    let some = some_rest behind c.in-len1-up.len_at_least in
    let both : some.0 ∷ take (length behind - 1) (drop 1 behind) ≡ c.args.byte ∷ rest = sym some.1 ∙ cut.1 in
    let tail : take (length behind - 1) (drop 1 behind) ≡ rest = cc in
    (cut.0, tail)
