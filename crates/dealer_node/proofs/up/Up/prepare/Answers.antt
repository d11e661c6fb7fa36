use Rattle.std.proofs.Common.{rules, Ok, Err, refl, ap, sym}
use Rattle.acceptor.specs.Stored.{store_of}
use Rattle.dealer_node.specs.Outs.{told_by}
use Rattle.dealer_node.specs.Working.{head_of}
use Rattle.dealer_node.proofs.Stored.{prepare_promised, prepare_refused, prepare_failed, prepare_unread, is_disk, of_store, fails_by}
use Rattle.dealer_node.proofs.up.Up.prepare.Goals as goal

pub returns-then-send_prepare_answer-clause-at : goal.returns-then-send_prepare_answer-clause-at
returns-then-send_prepare_answer-clause-at g c = λ member at. c.turn_idle.ensures.at member at

pub returns-then-send_prepare_answer-clause-works : goal.returns-then-send_prepare_answer-clause-works
returns-then-send_prepare_answer-clause-works g c member s honest is =
    let t = c.in-Ok.ensures.taken in
    let done = t.ok (head_of member) s.store is.keeps honest in
    prepare_promised g.D.Disk member s c.args.from c.args.ballot c.args.slot c.args.self.now _ c.in-Ok.answer (told_by c.args.made.now) c.send_prepare_answer.new.frames.texts is done.0 done.1
    (t.any_moment (head_of member) s.store is.keeps honest) (c.turn_idle.ensures.runs member s is.running) (sym c.if-send_prepare_answer.ensures.promised) c.send_prepare_answer.ensures.texts c.send_prepare_answer.ensures.fits

pub returns-else-send_prepare_answer-clause-works : goal.returns-else-send_prepare_answer-clause-works
returns-else-send_prepare_answer-clause-works g c member s honest is =
    let t = c.in-Ok.ensures.taken in
    let done = t.ok (head_of member) s.store is.keeps honest in
    prepare_refused g.D.Disk member s c.args.from c.args.ballot c.args.slot c.args.self.now _ c.in-Ok.answer (told_by c.args.made.now) c.send_prepare_answer.new.frames.texts is done.0 done.1
    (t.any_moment (head_of member) s.store is.keeps honest) refl (sym c.if-send_prepare_answer.ensures.promised)
    (prepare_unread g.D.Disk c.args.ballot c.args.slot c.promised-promised.result s.store.promise (store_of c.args.self.now.acceptor) (store_of c.on_prepare.new.self) (Ok c.in-Ok.answer)
    c.promised-promised.ensures.value (c.promised-promised.ensures.kept (head_of member) s.store is.keeps honest) c.in-Ok.ensures.needs)
    c.send_prepare_answer.ensures.texts c.send_prepare_answer.ensures.fits

pub returns-in-Err-clause-works : goal.returns-in-Err-clause-works
returns-in-Err-clause-works g c member s honest is =
    let t = c.in-Err.ensures.taken in
    fails_by g.D.Disk member s _ c.args.self.now _ (told_by c.args.made.now) (told_by c.args.made.now) c.in-Err.fault (is_disk g.D.Disk c.in-Err.fault (t.only (head_of member) s.store is.keeps honest) (λ e. c.in-Err.ensures.memory (ap Err e)))
    (prepare_failed g.D.Disk member s c.args.from c.args.ballot c.args.slot c.args.self.now _ is (t.leaves (head_of member) s.store is.keeps honest) (t.any_moment (head_of member) s.store is.keeps honest))

pub returns-in-Err-clause-ends : goal.returns-in-Err-clause-ends
returns-in-Err-clause-ends g c = record {
  goes_on = search rules;
  only = of_store g.D.Disk c.in-Err.fault c.in-Err.ensures.needs.only (λ e. c.in-Err.ensures.memory (ap Err e));
}

pub returns-then-send_prepare_answer-clause-bounded : goal.returns-then-send_prepare_answer-clause-bounded
returns-then-send_prepare_answer-clause-bounded g c = λ most bounded. c.turn_idle.ensures.bounded most
