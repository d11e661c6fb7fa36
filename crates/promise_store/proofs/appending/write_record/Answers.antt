use Rattle.std.proofs.Common.{◌≡◌, inl, inr, ◌++◌, ◌∷◌, [], ℕ, ◌+◌, ◌≤◌, List, length, ap, subst, arith, rules}
use Rattle.std.specs.Prelude.{IsTrue}
use Rattle.promise_store.specs.Disks.{Holds}
use Rattle.promise_store.specs.Journals.{IsEither}
use Rattle.promise_store.specs.Records.{record_text}
use Rattle.promise_store.proofs.Appends.{goes_on, inside, still_inside, stage_leaves, gate_leaves, settles, on_ok_two}
use Rattle.promise_store.proofs.appending.write_record.Goals as goal

pub returns-in_err-write_through-clause-written : goal.returns-in_err-write_through-clause-written
returns-in_err-write_through-clause-written g c first last next head records r is =
    let gate = c.args.gate in
    let disk = c.args.disk.now in
    let small : IsTrue g.D.Disk.is_honest → gate + 1 ≤ length (g.D.Disk.seen disk) = inside g.D.Disk g.met.D.Disk.honest_images first last next head records r is.follows is.is_record gate disk is.settled in
    let behind : IsTrue g.D.Disk.is_honest → c.saturating_add-behind.result ≡ gate + 1 = λ true_disk. omega (arith, small true_disk, g.met.D.Disk.is_small disk true_disk, c.saturating_add-behind.ensures) in
    let stays = stage_leaves g.D.Disk g.met.D.Disk.honest_images first last next head records r is.follows is.is_record gate disk is.settled _ _ behind in
    record {
      ok = search rules;
      any_moment = λ t image left. elim (c.write_through.ensures.time t image left) [
        | inl was ↦ inl was
        | inr torn ↦ inr (inl (stays image torn))
      ];
      leaves = λ image left. inl (stays image (c.write_through.ensures.crash image left));
    }

pub returns-clause-written : goal.returns-clause-written
returns-clause-written g c first last next head records r is =
    let gate = c.args.gate in
    let disk = c.args.disk.now in
    let small : IsTrue g.D.Disk.is_honest → gate + 1 ≤ length (g.D.Disk.seen disk) = inside g.D.Disk g.met.D.Disk.honest_images first last next head records r is.follows is.is_record gate disk is.settled in
    let behind : IsTrue g.D.Disk.is_honest → c.saturating_add-behind.result ≡ gate + 1 = λ true_disk. omega (arith, small true_disk, g.met.D.Disk.is_small disk true_disk, c.saturating_add-behind.ensures) in
    let within : (true_disk : IsTrue g.D.Disk.is_honest) → c.saturating_add-behind.result ≤ length (g.D.Disk.seen disk) = λ true_disk. omega (arith, behind true_disk, small true_disk) in
    let written = λ (true_disk : IsTrue g.D.Disk.is_honest). subst (λ (l : List ℕ). Holds (g.D.Disk.seen disk) c.saturating_add-behind.result l (g.D.Disk.seen c.write_through.new.disk)) is.text_is (c.in_ok-write_through.ensures.written true_disk (within true_disk)) in
    let ends : gate + length c.args.text.now ≡ gate + length (record_text r ++ 0 ∷ []) = ap (λ (l : List ℕ). gate + length l) is.text_is in
    let there = still_inside g.D.Disk g.met.D.Disk.honest_images first last next head records r is.follows is.is_record gate disk is.settled _ behind c.write_through.new.disk written c.in_ok-write_through.ensures.durable in
    let opens = gate_leaves g.D.Disk g.met.D.Disk.honest_images first last next head records r is.follows is.is_record gate disk is.settled _ behind c.write_through.new.disk written c.in_ok-write_through.ensures.durable in
    record {
      ok = on_ok_two c.write_through-2.result (IsTrue g.D.Disk.is_honest) _ _ _
          (λ holds durable. settles g.D.Disk g.met.D.Disk.honest_images first last next head records r is.follows is.is_record gate disk is.settled _ behind c.write_through.new.disk written c.in_ok-write_through.ensures.durable
          c.write_through-2.new.disk (gate + length c.args.text.now) ends holds durable)
          (λ true_disk. c.write_through-2.ensures.written true_disk (there true_disk)) c.write_through-2.ensures.durable;
      any_moment = goes_on _ _ _ _ _ (IsEither head records (records ++ r ∷ [])) c.write_through.ensures.time c.write_through-2.ensures.time
          (λ image torn. inl (stage_leaves g.D.Disk g.met.D.Disk.honest_images first last next head records r is.follows is.is_record gate disk is.settled _ _ behind image torn))
          (λ image torn. opens image torn);
      leaves = λ image left. opens image (c.write_through-2.ensures.crash image left);
    }
