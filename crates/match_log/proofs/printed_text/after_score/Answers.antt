use Rattle.std.proofs.Common.{◌≡◌, ◌++◌, ◌∷◌, ℕ, ℤ, List, codes, sym, ap, ◌∙◌}
use Rattle.std.specs.Borrow.{Bor}
use Rattle.std.proofs.lemmas.Option.{IfSome_then}
use Rattle.match_log.specs.Lines.{values_field, names_field, score_text}
use Rattle.match_log.proofs.Wholes.{score_is}
use Rattle.match_log.proofs.printed_text.after_score.Goals as goal

pub returns-in_err-values-clause-only : goal.returns-in_err-values-clause-only
returns-in_err-values-clause-only c = λ behind is. absurd (c.in_err-values.ensures.only _ (is ∙ score_is c.args.totals.now c.args.names.now behind))

pub returns-in_err-colon-clause-only : goal.returns-in_err-colon-clause-only
returns-in_err-colon-clause-only c =
    λ behind is.
    let values = c.in_ok-values.ensures.only _ (is ∙ score_is c.args.totals.now c.args.names.now behind) in
    absurd (c.in_err-colon.ensures.only _ values)

pub returns-in_err-listed-clause-only : goal.returns-in_err-listed-clause-only
returns-in_err-listed-clause-only c =
    λ behind is.
    let values = c.in_ok-values.ensures.only _ (is ∙ score_is c.args.totals.now c.args.names.now behind) in
    let colon = c.in_ok-colon.ensures.only _ values in
    absurd (c.in_err-listed.ensures.only _ colon)

pub returns-in_err-line_feed-clause-only : goal.returns-in_err-line_feed-clause-only
returns-in_err-line_feed-clause-only c =
    λ behind is.
    let values = c.in_ok-values.ensures.only _ (is ∙ score_is c.args.totals.now c.args.names.now behind) in
    let colon = c.in_ok-colon.ensures.only _ values in
    let listed = c.in_ok-listed.ensures.only _ colon in
    absurd (c.in_err-line_feed.ensures.only _ listed)

pub returns-clause-found : goal.returns-clause-found
returns-clause-found c =
    let totals : List ℤ = c.args.totals.now in
    let names : List (List ℕ) = c.args.names.now in
    IfSome_then c.after-3.result {P = λ (rest : Bor (List ℕ)). c.in_ok-line_feed.line_feed.now ≡ 10 ∷ rest.now} {Q = λ (rest : Bor (List ℕ)). c.args.bytes.now ≡ score_text totals names ++ rest.now}
    c.after-3.ensures.found
    (λ rest line_feed.
    c.in_ok-values.ensures.found
    ∙ ap (λ (t : List ℕ). codes "SCORE:" ++ t) (c.in_ok-colon.ensures.found
    ∙ ap (λ (t : List ℕ). values_field totals ++ t) (c.in_ok-listed.ensures.found
    ∙ ap (λ (t : List ℕ). 58 ∷ t) (c.in_ok-line_feed.ensures.found
    ∙ ap (λ (t : List ℕ). names_field names ++ t) line_feed)))
    ∙ sym (score_is totals names rest.now))

pub returns-clause-only : goal.returns-clause-only
returns-clause-only c =
    λ behind is.
    let values = c.in_ok-values.ensures.only _ (is ∙ score_is c.args.totals.now c.args.names.now behind) in
    let colon = c.in_ok-colon.ensures.only _ values in
    let listed = c.in_ok-listed.ensures.only _ colon in
    let line_feed = c.in_ok-line_feed.ensures.only _ listed in
    c.after-3.ensures.only behind line_feed
