use Rattle.std.proofs.Common.{◌≡◌, ◌⊎◌, ◌∙◌, inl, inr, List, ℕ, length, ap, sym, subst, arith}
use Rattle.promise_store.specs.Journals.{header}
use Rattle.promise_store.specs.Holding.{StandsFor}
use Rattle.dealer_node.specs.Members.{place_at}
use Rattle.dealer_node.specs.Seeing.{seen_by, count_by, images_by, since_by, begun_of}
use Rattle.dealer_world.proofs.beginning.reopened.Goals as goal

pub returns-in_ok-node-in-Ok-clause-node : goal.returns-in_ok-node-in-Ok-clause-node
returns-in_ok-node-in-Ok-clause-node g c =
    let made = c.in_ok-node-in-Ok.ensures in
    let head = header c.args.number (length c.args.config.now.sources) in
    let begun_is : begun_of g.D.Disk c.begin.new.self ≡ g.D.Disk.seen c.args.disk = c.begin.ensures.begun ∙ (ap (seen_by g.D.Disk) made.disk ∙ c.in-Ok.ensures.seen) in
    record {
      placed = ap place_at c.begin.ensures.member ∙ made.place;
      down = c.begin.ensures.down;
      seen = λ store begun stands. c.begin.ensures.seen _ (made.seen store begun (λ image is.
          subst (λ (file : List ℕ). StandsFor head file store ⊎ StandsFor head file begun) (begun_is ∙ sym (c.in-Ok.ensures.durable image is)) stands));
    }

pub returns-in_ok-node-in-Ok-clause-over : goal.returns-in_ok-node-in-Ok-clause-over
returns-in_ok-node-in-Ok-clause-over g c =
    let made = c.in_ok-node-in-Ok.ensures in
    let sync = c.in-Ok.ensures in
    record {
      bytes = c.begin.ensures.bytes ∙ (ap (seen_by g.D.Disk) made.disk ∙ sync.seen);
      begun = c.begin.ensures.begun ∙ (ap (seen_by g.D.Disk) made.disk ∙ sync.seen);
      counts = omega (arith, c.begin.ensures.failures, ap (count_by g.D.Disk) made.disk, sync.failed);
      settled = λ image is. sync.durable image (subst (λ disk. images_by g.D.Disk disk image) made.disk (c.begin.ensures.images image is));
      images = λ image is. sync.crash image (subst (λ disk. images_by g.D.Disk disk image) made.disk (c.begin.ensures.images image is));
      during = λ t image is. elim (c.begin.ensures.moments t image is) [
        | inl before ↦ elim (sync.time.nothing_else t image (subst (λ disk. since_by g.D.Disk disk t image) made.disk before)) [ inl was ↦ inl was | inr now ↦ inr (sync.crash image now) ]
        | inr now ↦ inr (sync.crash image (subst (λ disk. images_by g.D.Disk disk image) made.disk now))
      ];
    }
