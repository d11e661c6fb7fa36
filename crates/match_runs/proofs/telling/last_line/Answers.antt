use Rattle.std.proofs.Common.{◌≡◌, ◌+◌, [], ◌∷◌, ◌++◌, ℕ, drop, take, sym, subst}
use Rattle.std.proofs.lemmas.List.{take_rest}
use Rattle.match_runs.specs.Score.{IsLastLine}
use Rattle.match_runs.proofs.Scoring.{line_behind}
use Rattle.match_runs.proofs.telling.last_line.Goals as goal

pub returns-in-Some-clause-found : goal.returns-in-Some-clause-found
returns-in-Some-clause-found c =
    let body = c.in_ok-end.body.now in
    let place = c.in-Some.place in
    let found = c.in-Some.ensures.found in
    let text_is : c.args.text.now ≡ body ++ 10 ∷ [] = subst (λ (e : ℕ). c.args.text.now ≡ body ++ e ∷ []) c.if-end-ne10.false c.in_ok-end.ensures.cases.0 in
    subst (IsLastLine c.args.text.now) (sym (take_rest body (place + 1)))
    (line_behind c.args.text.now body (take place body) (drop (place + 1) body) text_is found.1 found.2)
