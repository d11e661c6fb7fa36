use Rattle.std.proofs.Common.{List, ℕ, [], length, decimal, refl, ap, ◌∙◌, Some}
use Rattle.std.specs.Prelude.{◌==◌}
use Rattle.std.proofs.lemmas.Bool.{false≢true}
use Rattle.std.proofs.lemmas.Option.{same_Some}
use Rattle.match_log.proofs.Free.{decimal_text_free}
use Rattle.match_file.proofs.NodeLines.{first_on, logs_same}
use Rattle.match_file.proofs.logs_kept.read_logs_kept.Goals as goal

pub returns-in_err-life-clause-only : goal.returns-in_err-life-clause-only
returns-in_err-life-clause-only c = λ kept within is. absurd (c.in_err-life.ensures.only kept.life (first_on kept) within.life_bytes within.life_length is)

pub returns-in_err-number-clause-only : goal.returns-in_err-number-clause-only
returns-in_err-number-clause-only c =
    λ kept within is.
    let life = c.in_ok-life.ensures.only kept.life (first_on kept) within.life_bytes within.life_length is in
    absurd (c.in_err-number.ensures.only (decimal kept.first) [] (decimal_text_free 10 refl kept.first) life.1)

pub returns-in_err-first-clause-only : goal.returns-in_err-first-clause-only
returns-in_err-first-clause-only c =
    λ kept within is.
    let life = c.in_ok-life.ensures.only kept.life (first_on kept) within.life_bytes within.life_length is in
    let number = c.in_ok-number.ensures.only (decimal kept.first) [] (decimal_text_free 10 refl kept.first) life.1 in
    let read = c.in_err-first.ensures.only kept.first within.first number.0 in
    absurd (let e = read in cc)

pub returns-then-is_empty-clause-only : goal.returns-then-is_empty-clause-only
returns-then-is_empty-clause-only c =
    λ kept within is.
    let life = c.in_ok-life.ensures.only kept.life (first_on kept) within.life_bytes within.life_length is in
    let number = c.in_ok-number.ensures.only (decimal kept.first) [] (decimal_text_free 10 refl kept.first) life.1 in
    ap Some (logs_same _ kept life.0 (same_Some _ _ (c.in_ok-first.ensures.only kept.first within.first number.0)))

pub returns-else-is_empty-clause-only : goal.returns-else-is_empty-clause-only
returns-else-is_empty-clause-only c =
    λ kept within is.
    let life = c.in_ok-life.ensures.only kept.life (first_on kept) within.life_bytes within.life_length is in
    let number = c.in_ok-number.ensures.only (decimal kept.first) [] (decimal_text_free 10 refl kept.first) life.1 in
    absurd (false≢true (c.if-is_empty.ensures ∙ ap (λ (t : List ℕ). length t == 0) number.1))
