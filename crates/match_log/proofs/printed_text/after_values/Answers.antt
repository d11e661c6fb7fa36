use Rattle.std.proofs.Common.{◌≤◌, ◌++◌, ℕ, ℤ, pos, w64, suc, ◌+◌, List, get_or, drop, length, sym, ap, ◌∙◌, rules}
use Rattle.std.proofs.lemmas.Int.{to_z-of_z}
use Rattle.std.proofs.lemmas.List.{take_all}
use Rattle.std.specs.Fmt.{signed_decimal}
use Rattle.match_log.proofs.Pieces.{later, next_piece, no_piece}
use Rattle.match_log.proofs.printed_text.after_values.Goals as goal

pub returns-in_err-after_bar-clause-only : goal.returns-in_err-after_bar-clause-only
returns-in_err-after_bar-clause-only c =
    λ behind is.
    absurd (c.in_err-after_bar.ensures.only _ (next_piece signed_decimal c.args.values.now c.loop-place.place (pos 0) c.args.bytes.now c.loop-place.rest.now behind c.loop-place-test.true c.loop-place.invariant is))

pub returns-in_err-rest-clause-only : goal.returns-in_err-rest-clause-only
returns-in_err-rest-clause-only c =
    λ behind is.
    let value : ℤ = get_or c.args.values.now c.loop-place.place (pos 0) in
    let others : List ℕ = later signed_decimal (suc c.loop-place.place) (drop (c.loop-place.place + 1) c.args.values.now) ++ behind in
    let bar = c.in_ok-after_bar.ensures.only (signed_decimal value ++ others) (next_piece signed_decimal c.args.values.now c.loop-place.place (pos 0) c.args.bytes.now c.loop-place.rest.now behind c.loop-place-test.true c.loop-place.invariant is) in
    absurd (c.in_err-rest.ensures.only others (bar ∙ ap (λ z. signed_decimal z ++ others) (sym (to_z-of_z w64 value (search rules)))))

pub returns-clause-only : goal.returns-clause-only
returns-clause-only c =
    λ behind is.
    let all : length c.args.values.now ≤ c.loop-place.place = c.loop-place-test.false in
    no_piece signed_decimal c.args.values.now c.loop-place.place c.args.bytes.now c.loop-place.rest.now behind (take_all c.loop-place.place c.args.values.now all) c.loop-place.invariant is
