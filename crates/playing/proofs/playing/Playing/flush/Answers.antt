use Rattle.std.proofs.Common.{◌+◌, ◌++◌, ◌∙◌, [], ap, subst, sym, refl, append_assoc}
use Rattle.std.proofs.lemmas.List.{append-nil}
use Rattle.playing.specs.Playing.{Scene, Delivery, none, more}
use Rattle.playing.specs.PlayingInside.{scene_of}
use Rattle.playing.proofs.playing.Playing.flush.Goals as goal

pub loop-count-preserved : goal.loop-count-preserved
loop-count-preserved c =
    let before = c.loop-count.invariant in
    let here = c.in_ok-deliver-in-Some.ensures in
    let missing = rw c.in-Some.is at c.in_ok-number.ensures.missing in
    let number = c.in-Some.number in
    let after = scene_of c.deliver.new.self in
    let delivery : Delivery (scene_of c.loop-count.self) number here.0 after =
    subst (λ (s : Scene). Delivery s number here.0 after) c.in_ok-number.ensures.same here.2 in (
      before.0 ++ here.0,
      here.1 ∙ ap (λ z. z ++ here.0) before.1 ∙ append_assoc c.args.out.now.items before.0 here.0,
      more c.loop-count._count before.0 here.0 (scene_of c.loop-count.self) number (c.loop-count._count + 1) (before.0 ++ here.0) after before.2 missing delivery refl refl,
    )

pub loop-count-init : goal.loop-count-init
loop-count-init c = ([], sym (append-nil c.args.out.now.items), none 0 [] (scene_of c.args.self.now) refl refl refl)
