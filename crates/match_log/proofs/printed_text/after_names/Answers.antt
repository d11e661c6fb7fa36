use Rattle.std.proofs.Common.{◌≡◌, ◌≤◌, ◌++◌, ℕ, suc, ◌+◌, List, [], get_or, drop, length, sym, ap, ◌∙◌}
use Rattle.std.proofs.lemmas.List.{get_or_default, take_all}
use Rattle.match_log.proofs.Pieces.{later, next_piece, no_piece}
use Rattle.match_log.proofs.printed_text.after_names.Goals as goal

pub returns-in_err-after_bar-clause-only : goal.returns-in_err-after_bar-clause-only
returns-in_err-after_bar-clause-only c =
    λ behind is.
    absurd (c.in_err-after_bar.ensures.only _ (next_piece (λ name. name) c.args.names.now c.loop-place.place [] c.args.bytes.now c.loop-place.rest.now behind c.loop-place-test.true c.loop-place.invariant is))

pub returns-in_err-rest-clause-only : goal.returns-in_err-rest-clause-only
returns-in_err-rest-clause-only c =
    λ behind is.
    let name : List ℕ = get_or c.args.names.now c.loop-place.place [] in
    let read : c.as_bytes.result.now ≡ name = c.as_bytes.ensures.value ∙ (c.index-names-place.is ∙ get_or_default c.args.names.now c.loop-place.place c.index-names-place.result [] c.loop-place-test.true) in
    let others : List ℕ = later (λ other. other) (suc c.loop-place.place) (drop (c.loop-place.place + 1) c.args.names.now) ++ behind in
    let bar = c.in_ok-after_bar.ensures.only (name ++ others) (next_piece (λ other. other) c.args.names.now c.loop-place.place [] c.args.bytes.now c.loop-place.rest.now behind c.loop-place-test.true c.loop-place.invariant is) in
    absurd (c.in_err-rest.ensures.only others (bar ∙ ap (λ (t : List ℕ). t ++ others) (sym read)))

pub returns-clause-only : goal.returns-clause-only
returns-clause-only c =
    λ behind is.
    let all : length c.args.names.now ≤ c.loop-place.place = c.loop-place-test.false in
    no_piece (λ name. name) c.args.names.now c.loop-place.place c.args.bytes.now c.loop-place.rest.now behind (take_all c.loop-place.place c.args.names.now all) c.loop-place.invariant is
