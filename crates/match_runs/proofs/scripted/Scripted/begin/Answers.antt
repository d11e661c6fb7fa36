use Rattle.std.proofs.Common.{◌≡◌, ◌++◌, ◌∙◌, ap, subst, sym, inl, inr, List, ℕ}
use Rattle.std.proofs.KnownBytes.{Keeps-refl}
use Rattle.playing.specs.Playing.{Begins}
use Rattle.playing.specs.PlayingInside.{scene_of}
use Rattle.slot_log.proofs.Results.{on_err}
use Rattle.match_runs.proofs.Scripting.{headers_written, headers_begun}
use Rattle.match_runs.proofs.scripted.Scripted.begin.Goals as goal

pub returns-in_err-playing-clause-err : goal.returns-in_err-playing-clause-err
returns-in_err-playing-clause-err g c = on_err c.from_residual.result (inl (Keeps-refl _))

pub returns-in_err-send-clause-err : goal.returns-in_err-send-clause-err
returns-in_err-send-clause-err g c =
    let made = c.in_ok-playing.ensures.begun in
    let shown = c.deref.result.now in
    let text_is : shown ≡ made.0 = c.deref.ensures.value ∙ made.1 ∙ ap (λ z. z ++ made.0) c.new-answer.ensures.items in
    let scene = scene_of c.in_ok-playing.playing in
    let begins = subst (λ (t : List ℕ). Begins c.args.config t scene) (sym text_is) made.2 in
    let sent = c.in_err-send.ensures.err in
    on_err c.from_residual-in_err-send.result (inr (headers_begun c.args.config shown sent.0 sent.1 _ _ scene begins c.in_ok-playing.ensures.shows sent.2 sent.3))

pub returns-clause-ok : goal.returns-clause-ok
returns-clause-ok g c =
    let made = c.in_ok-playing.ensures.begun in
    let shown = c.deref.result.now in
    let text_is : shown ≡ made.0 = c.deref.ensures.value ∙ made.1 ∙ ap (λ z. z ++ made.0) c.new-answer.ensures.items in
    let scene = scene_of c.in_ok-playing.playing in
    let begins = subst (λ (t : List ℕ). Begins c.args.config t scene) (sym text_is) made.2 in
    headers_written c.args.config shown _ _ _ begins c.in_ok-playing.ensures.shows c.new-2.ensures.items c.in_ok-send.ensures.ok
