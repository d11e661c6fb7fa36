use Rattle.std.proofs.lemmas.Grind.{common_steps}
use Rattle.std.proofs.Common.{◌≡◌, ◌∙◌, ◌<◌, List, ℕ, length, length-append, drop, take, sym, ap, subst, arith}
use Rattle.std.specs.Prelude.{IsTrue}
use Rattle.promise_store.specs.Stages.{head_of}
use Rattle.promise_store.specs.Journals.{header, gated, IsJournalOf, OpensFrom}
use Rattle.promise_store.proofs.Stages.{head_long}
use Rattle.promise_store.proofs.Opening.{read_whole, front_head, no_journal}
use Rattle.promise_store.proofs.Storing.{on_both, refused_by}
use Rattle.promise_store.proofs.reading.read_journal.Goals as goal

pub returns-clause-found : goal.returns-clause-found
returns-clause-found g c =
    let head = header c.args.node c.args.nodes in
    let first = c.in-Some.first in
    let file = g.D.Disk.seen c.args.disk.now in
    let same : g.D.Disk.seen c.read.new.self ≡ file = c.in-Ok-read.ensures.seen ∙ c.in-Ok-len.ensures.seen ∙ c.in-Ok.ensures.seen in
    let buffer : c.read.new.buffer ≡ head_of first head = c.in-Some.ensures in
    let front : IsTrue g.D.Disk.is_honest → take 8 (g.D.Disk.seen c.read.new.self) ≡ head_of first head = λ honest. ap (λ (l : List ℕ). take 8 l) c.in-Ok-read.ensures.seen ∙ sym (c.in-Ok-read.ensures.bytes honest) ∙ buffer in
    let now = c.read_records.ensures.reads in
    on_both c.read_records.result _ _ _ (IsTrue g.D.Disk.is_honest)
    (λ found read shut. record {
      first = first;
      records = read.records;
      settled = record {
        journal = λ honest. subst (λ (l : List ℕ). IsJournalOf first found.2 head l read.records) (sym now.seen)
            (read_whole first found.2 head (g.D.Disk.seen c.read.new.self) read.records found.0 (front honest) read.each read.stands (read.text honest) (shut honest));
        at_gate = λ honest. omega (arith, read.place, length-append (head_of first head) (gated read.records), head_long first head);
        durable = λ image left. c.in-Ok.ensures.durable image (c.in-Ok-len.ensures.crash image (c.in-Ok-read.ensures.crash image (now.images image left))) ∙ sym (now.seen ∙ same);
      };
      indexes = read.indexes;
    })
    c.read_records.ensures.found c.read_records.ensures.shut

pub returns-clause-refused : goal.returns-clause-refused
returns-clause-refused g c honest =
    let head = header c.args.node c.args.nodes in
    let first = c.in-Some.first in
    let file = g.D.Disk.seen c.args.disk.now in
    let same : g.D.Disk.seen c.read.new.self ≡ file = c.in-Ok-read.ensures.seen ∙ c.in-Ok-len.ensures.seen ∙ c.in-Ok.ensures.seen in
    let buffer : c.read.new.buffer ≡ head_of first head = c.in-Some.ensures in
    let front : take 8 file ≡ head_of first head = ap (λ (l : List ℕ). take 8 l) (sym (c.in-Ok-len.ensures.seen ∙ c.in-Ok.ensures.seen)) ∙ sym (c.in-Ok-read.ensures.bytes honest) ∙ buffer in
    let long : length head < length file = omega (arith, c.if-len-le-HEADER.false, c.in-Ok-len.ensures.len honest, ap length c.in-Ok.ensures.seen) in
    refused_by c.read_records.result head file (front_head first head file front long) c.read_records.ensures.only
    (λ bad. no_journal first c.args.node c.args.nodes file front
    (λ last records stands opens. c.read_records.ensures.broken honest bad last records stands (subst (λ (l : List ℕ). OpensFrom (drop 8 l) records) (sym same) opens)))

pub returns-then-len-eq0-clause-refused : goal.returns-then-len-eq0-clause-refused
returns-then-len-eq0-clause-refused g c = grind (arith, common_steps)
