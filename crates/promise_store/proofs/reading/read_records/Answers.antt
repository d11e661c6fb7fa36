use Rattle.std.proofs.Common.{◌≡◌, ◌∙◌, ◌+◌, ◌≤◌, inl, inr, length-drop, drop, take, ap, sym, subst, arith, List, ℕ, [], ◌∷◌, ◌++◌}
use Rattle.std.specs.Prelude.{◌-◌}
use Rattle.std.proofs.lemmas.List.{length-take, drop-drop}
use Rattle.std.proofs.SliceLists.{all_by_recursion_push}
use Rattle.promise_store.specs.declared.reading.Step.TheVariants.{Shut, Found, Broken}
use Rattle.promise_store.specs.Records.{IsRecord}
use Rattle.promise_store.specs.Journals.{gated, IsEnough, IsStep}
use Rattle.promise_store.specs.Holding.{Holding, nothing_held, held_from, with_record, Indexes}
use Rattle.promise_store.proofs.Gated.{length_gated_push}
use Rattle.promise_store.proofs.Holding.{held_push}
use Rattle.promise_store.proofs.Stages.{stage_more}
use Rattle.promise_store.proofs.Journals.{part, reading_broken, reading_not_there, reading_more, shut_further, begins_long}
use Rattle.promise_store.proofs.Storing.{reads_on}
use Rattle.promise_store.proofs.reading.read_records.Goals as goal

pub returns-in-Broken-clause-broken : goal.returns-in-Broken-clause-broken
returns-in-Broken-clause-broken g c honest was last records leads opens =
    let file = g.D.Disk.seen c.args.disk.now in
    let shown = c.in-Ok.shown in
    let at = c.records.at in
    let i = c.records.invariant in
    let s = c.in-Ok.ensures.shows in
    let count = shown.0 + shown.1 - at in
    let window : take (shown.1 - (at - shown.0)) (drop (at - shown.0) c.show.new.window) ≡ take count (drop at file) = part c.show.new.window file shown.0 shown.1 at s.0 s.1 (c.in-Ok.ensures.window honest) i.reads.seen in
    let enough : IsEnough (drop at file) count = elim s.4 [ inl many ↦ inl many | inr all ↦ inr (omega (arith, all, length-drop at file, c.requires.len honest)) ] in
    reading_broken (drop 8 file) (drop at file) i.so_far.records i.so_far.each (i.so_far.text honest) count enough
    (subst (λ (l : List ℕ). IsStep l Broken) window c.in-Broken.ensures) records opens

pub returns-in_default-clause-broken : goal.returns-in_default-clause-broken
returns-in_default-clause-broken g c honest was last records leads opens =
    let file = g.D.Disk.seen c.args.disk.now in
    let shown = c.in-Ok.shown in
    let at = c.records.at in
    let i = c.records.invariant in
    let s = c.in-Ok.ensures.shows in
    let count = shown.0 + shown.1 - at in
    let r = c.in-Found.record in
    let size = c.in-Found.size in
    let window : take (shown.1 - (at - shown.0)) (drop (at - shown.0) c.show.new.window) ≡ take count (drop at file) = part c.show.new.window file shown.0 shown.1 at s.0 s.1 (c.in-Ok.ensures.window honest) i.reads.seen in
    reading_not_there (drop 8 file) (drop at file) i.so_far.records i.so_far.each (i.so_far.text honest) count c.args.first c.records.stage i.so_far.stands r size
    (subst (λ (l : List ℕ). IsStep l (Found r size)) window c.in-Found.ensures) (sym c.in_default.ensures) last records leads opens

pub returns-in-Shut-clause-shut : goal.returns-in-Shut-clause-shut
returns-in-Shut-clause-shut g c honest =
    let file = g.D.Disk.seen c.args.disk.now in
    let shown = c.in-Ok.shown in
    let at = c.records.at in
    let i = c.records.invariant in
    let s = c.in-Ok.ensures.shows in
    let count = shown.0 + shown.1 - at in
    let window : take (shown.1 - (at - shown.0)) (drop (at - shown.0) c.show.new.window) ≡ take count (drop at file) = part c.show.new.window file shown.0 shown.1 at s.0 s.1 (c.in-Ok.ensures.window honest) i.reads.seen in
    shut_further (drop at file) count (subst (λ (l : List ℕ). IsStep l Shut) window c.in-Shut.ensures)

pub records-preserved : goal.records-preserved
records-preserved g c =
    let file = g.D.Disk.seen c.args.disk.now in
    let shown = c.in-Ok.shown in
    let at = c.records.at in
    let i = c.records.invariant in
    let s = c.in-Ok.ensures.shows in
    let count = shown.0 + shown.1 - at in
    let r = c.in-Found.record in
    let size = c.in-Found.size in
    let bytes = take (shown.1 - (at - shown.0)) (drop (at - shown.0) c.show.new.window) in
    let found : IsStep bytes (Found r size) = c.in-Found.ensures in
    let inside : size + 4 ≤ shown.1 - (at - shown.0) = omega (arith, found.1, begins_long bytes r found.0, length-take (shown.1 - (at - shown.0)) (drop (at - shown.0) c.show.new.window)) in
    let before = held_from 8 nothing_held i.so_far.records in
    record {
      low = omega (arith, i.low);
      order = omega (arith, s.0);
      in_window = omega (arith, inside, s.0, s.1);
      few = s.3;
      within = s.2;
      window = λ honest. c.in-Ok.ensures.window honest ∙ ap (λ (l : List ℕ). take shown.1 (drop shown.0 l)) i.reads.seen;
      so_far = record {
        records = i.so_far.records ++ r ∷ [];
        each = all_by_recursion_push IsRecord i.so_far.records r i.so_far.each found.0.2;
        stands = stage_more c.args.first c.records.stage c.in-Some.next i.so_far.records r i.so_far.stands (sym c.in-Some.ensures);
        text = λ honest.
            let window : bytes ≡ take count (drop at file) = part c.show.new.window file shown.0 shown.1 at s.0 s.1 (c.in-Ok.ensures.window honest) i.reads.seen in
            reading_more (drop 8 file) (drop at file) i.so_far.records i.so_far.each (i.so_far.text honest) count r size (subst (λ (l : List ℕ). IsStep l (Found r size)) window found)
            ∙ ap (λ (l : List ℕ). gated (i.so_far.records ++ r ∷ []) ++ l) (drop-drop (size + 3) at file);
        place = omega (arith, i.so_far.place, found.1, length_gated_push i.so_far.records r);
        indexes = subst (λ (h : Holding). Indexes c.take_record.new.self h) (ap (λ (k : ℕ). with_record k before r) i.so_far.place ∙ sym (held_push 8 nothing_held i.so_far.records r))
            (c.in_ok-take_record-in-Found.ensures.held before (omega (arith, inside, s.0, s.1, s.2, c.ranges.len)) i.so_far.indexes);
      };
      reads = reads_on g.D.Disk _ _ _ i.reads c.in-Ok.ensures.reads;
    }
