use Rattle.std.proofs.Common.{◌≡◌, refl, inl, inr, ◌∙◌, ◌∷◌, ◌++◌, [], ◌+◌, ◌<◌, ◌≤◌, ℕ, length, length-append, sym, ap, subst, arith, rules}
use Rattle.std.specs.Prelude.{◌^◌, IsTrue}
use Rattle.promise_store.specs.Records.{IsRecord, payload, record_text}
use Rattle.promise_store.specs.Holding.{holding, with_record, Holding, Indexes}
use Rattle.promise_store.proofs.Gated.{payload_most}
use Rattle.promise_store.proofs.Stages.{same_gate}
use Rattle.promise_store.proofs.Holding.{next_is, either_store, holding_push}
use Rattle.promise_store.proofs.Appends.{inside, settled_at, settled_anew}
use Rattle.promise_store.proofs.store.Store.append.Goals as goal

pub returns-in-Ok-clause-settled : goal.returns-in-Ok-clause-settled
returns-in-Ok-clause-settled g c first last next head records follows settled =
    let r = c.args.addition.now in
    let old = c.args.self.now in
    let is_r : IsRecord r = c.put_record.ensures.sure in
    let text : c.deref-text.result.now ≡ record_text r ++ 0 ∷ [] = search rules in
    let long : length c.deref-text.result.now ≤ 1998 = omega (arith, ap length text, length-append (payload r) (0 ∷ []), payload_most r is_r) in
    let small : IsTrue g.D.Disk.is_honest → old.gate < 2 ^ 63 = λ honest. omega (arith, inside g.D.Disk g.met.D.Disk.honest_images first last next head records r follows is_r old.gate old.disk settled honest, g.met.D.Disk.is_small old.disk honest) in
    let end : IsTrue g.D.Disk.is_honest → c.saturating_add-self.result ≡ old.gate + length c.deref-text.result.now = λ honest. omega (arith, small honest, long, c.saturating_add-self.ensures) in
    settled_at g.D.Disk first next head (records ++ r ∷ []) _ _ c.write_record.new.disk ((c.in-Ok.ensures.written first last next head records r (record { settled = settled; follows = follows; is_record = is_r; text_is = text })).ok) end

pub returns-in-Ok-clause-appended : goal.returns-in-Ok-clause-appended
returns-in-Ok-clause-appended g c last next follows =
    let r = c.args.addition.now in
    let old = c.args.self.now in
    let is_r : IsRecord r = c.put_record.ensures.sure in
    let text : c.deref-text.result.now ≡ record_text r ++ 0 ∷ [] = search rules in
    record {
      ok = λ head held keeps.
          let small : IsTrue g.D.Disk.is_honest → old.gate < 2 ^ 63 = λ honest. omega (arith, inside g.D.Disk g.met.D.Disk.honest_images keeps.first last next head keeps.records r follows is_r old.gate old.disk keeps.settled honest, g.met.D.Disk.is_small old.disk honest) in
          record {
            first = keeps.first;
            records = keeps.records ++ r ∷ [];
            is_open = keeps.is_open;
            settled = returns-in-Ok-clause-settled g c keeps.first last next head keeps.records follows keeps.settled;
            is = next_is head keeps.records held keeps.is r;
            indexes = λ honest. subst (λ (h : Holding). Indexes c.note.new.self h)
                (ap (λ (k : ℕ). with_record k (holding head keeps.records) r) (keeps.settled.at_gate honest ∙ same_gate keeps.first head keeps.records) ∙ sym (holding_push head keeps.records r))
                (c.note.ensures.held (holding head keeps.records) (omega (arith, small honest)) (keeps.indexes honest));
          };
      any_moment = λ head held keeps t image left. elim ((c.in-Ok.ensures.written keeps.first last next head keeps.records r (record { settled = keeps.settled; follows = follows; is_record = is_r; text_is = text })).any_moment t image left) [
        | inl was ↦ inl was
        | inr either ↦ inr (either_store head keeps.records held keeps.is r image either)
      ];
      leaves = λ head held keeps image left. either_store head keeps.records held keeps.is r image ((c.in-Ok.ensures.written keeps.first last next head keeps.records r (record { settled = keeps.settled; follows = follows; is_record = is_r; text_is = text })).leaves image left);
      journal = λ head held keeps honest first records is.
          (returns-in-Ok-clause-settled g c first last next head records follows (settled_anew g.D.Disk keeps.first first last head keeps.records records old.gate old.disk honest keeps.settled is)).journal honest;
      steps = λ head held keeps honest first records is.
          (c.in-Ok.ensures.written first last next head records r (record { settled = (settled_anew g.D.Disk keeps.first first last head keeps.records records old.gate old.disk honest keeps.settled is); follows = follows; is_record = is_r; text_is = text })).any_moment;
      shows = tt;
      failed = search rules;
      closed = search rules;
      unchanged = search rules;
      only = search rules;
      begun = c.in-Ok.ensures.begun;
      counts = search rules;
    }

pub returns-in-Err-clause-appended : goal.returns-in-Err-clause-appended
returns-in-Err-clause-appended g c last next follows =
    let r = c.args.addition.now in
    let is_r : IsRecord r = c.put_record.ensures.sure in
    let text : c.deref-text.result.now ≡ record_text r ++ 0 ∷ [] = search rules in
    record {
      ok = search rules;
      any_moment = λ head held keeps t image left. elim ((c.write_record.ensures.written keeps.first last next head keeps.records r (record { settled = keeps.settled; follows = follows; is_record = is_r; text_is = text })).any_moment t image left) [
        | inl was ↦ inl was
        | inr either ↦ inr (either_store head keeps.records held keeps.is r image either)
      ];
      leaves = λ head held keeps image left. either_store head keeps.records held keeps.is r image ((c.write_record.ensures.written keeps.first last next head keeps.records r (record { settled = keeps.settled; follows = follows; is_record = is_r; text_is = text })).leaves image left);
      journal = λ head held keeps honest first records is. tt;
      steps = λ head held keeps honest first records is.
          (c.write_record.ensures.written first last next head records r (record { settled = (settled_anew g.D.Disk keeps.first first last head keeps.records records c.args.self.now.gate c.args.self.now.disk honest keeps.settled is); follows = follows; is_record = is_r; text_is = text })).any_moment;
      shows = record { promise = refl; entries = λ slot. refl };
      failed = search rules;
      closed = search rules;
      unchanged = search rules;
      only = search rules;
      begun = c.write_record.ensures.begun;
      counts = search rules;
    }
