use Rattle.std.proofs.Common.{◌++◌, subst, refl}
use Rattle.std.specs.Prelude.{codes}
use Rattle.std.proofs.lemmas.Result.{on_ok_weaker}
use Rattle.play_script.specs.declared.bounds.Bounds.{Bounds}
use Rattle.play_script.specs.Orders.{Says}
use Rattle.play_script.specs.Shown.{whole_line, bad_script_text}
use Rattle.playing.specs.Playing.{SaysNothing, bad_script, obeyed}
use Rattle.playing.proofs.playing.Playing.answer.Goals as goal

pub returns-in-Ok-clause-answered : goal.returns-in-Ok-clause-answered
returns-in-Ok-clause-answered c =
    let says = subst (λ (b : Bounds). Says b c.args.line.now c.in-Ok.order) c.in_ok-bounds.ensures c.in-Ok.ensures in
    on_ok_weaker c.obey.result (λ done. (done.0, done.1, obeyed c.in-Ok.order says done.2)) c.obey.ensures

pub returns-in-Err-clause-answered : goal.returns-in-Err-clause-answered
returns-in-Err-clause-answered c =
    let none = subst (λ (b : Bounds). SaysNothing b c.args.line.now) c.in_ok-bounds.ensures c.in-Err.ensures in
    on_ok_weaker c.put_bad_script.result (λ shown. (whole_line (codes "E " ++ bad_script_text), shown, bad_script none refl refl)) c.put_bad_script.ensures
