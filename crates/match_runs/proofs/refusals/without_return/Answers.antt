use Rattle.std.proofs.Common.{◌≡◌, ◌++◌, ◌∷◌, [], ◌∙◌, sym, ap}
use Rattle.seat_session.specs.Lines.{text_of}
use Rattle.seat_session.proofs.LineLemmas.{text_of-return, text_of-other}
use Rattle.match_runs.proofs.refusals.without_return.Goals as goal

pub returns-in-Some : goal.returns-in-Some
returns-in-Some c =
    let text = c.in-Some.text.now in
    let ends : c.args.line.now ≡ text ++ 13 ∷ [] = rw (← c.if-last-eq13.true) c.in-Some.ensures.cases.0 in
    sym (ap text_of ends ∙ text_of-return text)

pub returns-in_default : goal.returns-in_default
returns-in_default c =
    let ends = c.in-Some.ensures.cases.0 in
    rw ends (sym (text_of-other c.in-Some.text.now c.in-Some.last.now c.if-last-eq13.false))
