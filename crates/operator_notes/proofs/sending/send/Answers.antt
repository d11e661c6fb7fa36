use Rattle.std.proofs.lemmas.Grind.{common_steps}
use Rattle.std.proofs.Common.{take, drop, sym, subst, arith, List, ℕ}
use Rattle.std.proofs.lemmas.List.{take-append-drop}
use Rattle.std.specs.Io.KnownBytes.{Appends}
use Rattle.std.proofs.KnownBytes.{Appends-kept, Appends-trans}
use Rattle.operator_notes.proofs.Streams.{on_err, take_part}
use Rattle.operator_notes.proofs.sending.send.Goals as goal

pub returns-in_err-sent-clause-err : goal.returns-in_err-sent-clause-err
returns-in_err-sent-clause-err g c =
    on_err c.from_residual.result (
      take c.loop.sent c.args.bytes.now,
      drop c.loop.sent c.args.bytes.now,
      sym (take-append-drop c.loop.sent c.args.bytes.now),
      Appends-kept _ _ _ (take c.loop.sent c.args.bytes.now) c.loop.invariant.1 c.in_err-sent.ensures.err,
    )

pub loop-preserved : goal.loop-preserved
loop-preserved g c =
    let appended : List ℕ → Type 0 = λ z. Appends (g.W.Write.contents c.args.writer.now) (g.W.Write.contents c.write_piece.new.writer) z in (
      omega (arith, c.in_ok-sent.ensures.within),
      subst appended (sym (take_part c.loop.sent _ c.args.bytes.now c.loop.invariant.0)) (Appends-trans _ _ _ _ _ c.loop.invariant.1 c.in_ok-sent.ensures.ok),
    )

pub returns-clause-err : goal.returns-clause-err
returns-clause-err g c =
    (take c.loop.sent c.args.bytes.now, drop c.loop.sent c.args.bytes.now, sym (take-append-drop c.loop.sent c.args.bytes.now), c.loop.invariant.1)

pub returns-then-sent-bytes-clause-ok : goal.returns-then-sent-bytes-clause-ok
returns-then-sent-bytes-clause-ok g c = grind (arith, common_steps)

pub returns-then-sent-bytes-clause-err : goal.returns-then-sent-bytes-clause-err
returns-then-sent-bytes-clause-err g c = grind (arith, common_steps)
