use Rattle.std.proofs.Common.{◌≡◌, [], ◌∷◌, ℕ, List, ap, subst, sym, rules}
use Rattle.std.specs.Prelude.{slice_get, Some}
use Rattle.std.proofs.lemmas.Result.{on_ok_weaker}
use Rattle.protocol_model.specs.Sets.{In}
use Rattle.dealer_world.specs.Records.{Frame, Delivered}
use Rattle.dealer_world.specs.declared.event.Event.TheVariants as event
use Rattle.dealer_world.specs.Viewing.{view_of}
use Rattle.dealer_world.proofs.Forging.{in_at}
use Rattle.playing.specs.Playing.{Scene, Happens}
use Rattle.playing.specs.PlayingInside.{scene_of}
use Rattle.playing.proofs.Happening.{delivering_is}
use Rattle.playing.proofs.playing.Playing.deliver.Goals as goal

pub happen-requires-clause-sent : goal.happen-requires-clause-sent
happen-requires-clause-sent c =
    let bytes : c.in_ok-to_vec.field-0.items ≡ c.in-Some.frame.bytes.now = search rules in
    let sent = (view_of c.mark_all.new.self.cluster).all.sent in
    let I : List ℕ → Type 0 = λ b. In (record { from = c.in-Some.frame.from; to = c.in-Some.frame.to; bytes = b }) sent in
    (subst I (sym bytes) (in_at sent c.args.number _ c.in-Some.ensures.found), tt)

pub returns : goal.returns
returns c =
    let number = c.args.number in
    let frame : Frame = record { from = c.in-Some.frame.from; to = c.in-Some.frame.to; bytes = c.in-Some.frame.bytes.now } in
    let here = c.mark_all.new.self in
    let old = scene_of c.args.self.now in
    let after = scene_of c.happen.new.self in
    let e = event.Frame c.in-Some.frame.from c.in-Some.frame.to c.in_ok-to_vec.field-0 in
    let bytes : c.in_ok-to_vec.field-0.items ≡ c.in-Some.frame.bytes.now = search rules in
    let marked_one = delivering_is (view_of here.cluster) here.marks c.deliver.new.self number old here.within c.in_ok-mark_all.ensures.all c.deliver.ensures c.in_ok-mark_all.ensures.same in
    on_ok_weaker c.happen.result
    (λ happens. (
      happens.0,
      happens.1,
      record {
        frame = frame;
        sent = subst (λ (s : Scene). slice_get s.cluster.all.sent number ≡ Some frame) c.in_ok-mark_all.ensures.same c.in-Some.ensures.found;
        event = e;
        brings = λ front. ap (λ (b : List ℕ). Delivered (record { from = frame.from; to = frame.to; bytes = b }) ∷ []) bytes;
        happens = subst (λ (s : Scene). Happens s e happens.0 after) marked_one happens.2;
      },
    ))
    c.happen.ensures
