-- Answers to who would start a node over the same bytes.
use Rattle.std.proofs.Common.{◌≡◌, ◌≢◌, ◌⊎◌, inl, inr, ℕ, refl, sym, ◌∙◌, ap, List, [], ◌∷◌, ◌++◌, length, Ok, Err, arith, append_assoc, length-append, append-nil}
use Rattle.std.specs.Prelude.{Result}
use Rattle.protocol_model.specs.Stores.{Store}
use Rattle.promise_store.specs.declared.records.Record.{Record}
use Rattle.promise_store.specs.declared.fault.StoreFault.{StoreFault}
use Rattle.promise_store.specs.declared.fault.StoreFault.TheVariants.{NoStore, BadHeader, BadRecord, Disk, Closed, OutOfMemory}
use Rattle.promise_store.specs.Stages.{head_of}
use Rattle.promise_store.specs.Journals.{gated, IsJournal}
use Rattle.promise_store.specs.Holding.{StandsFor}
use Rattle.promise_store.specs.Refusals.{HasHead, Refuses}
use Rattle.dealer_node.specs.declared.fault.NodeFault.{NodeFault}
use Rattle.dealer_node.specs.declared.fault.NodeFault.TheVariants as fault
use Rattle.node_runs.specs.Looks.{IsAnswerTo, AreOne}

-- a journal has its head and a gate
has_head : (head bytes : List ℕ) (records : List Record) → IsJournal head bytes records → HasHead head bytes
has_head head bytes [] (first, last, journal) = (first, journal.gate, journal.rest, journal.text ∙ ap (λ (l : List ℕ). l ++ journal.gate ∷ journal.rest) (append-nil (head_of first head)))
has_head head bytes (r ∷ records) (first, last, journal) =
    (first, 1, _, journal.text ∙ append_assoc (head_of first head) (gated (r ∷ records)) (journal.gate ∷ journal.rest))

-- an empty file has no head and no gate
no_head : (head bytes : List ℕ) → bytes ≡ [] → HasHead head bytes → ⊥
no_head head bytes empty (first, gate, rest, text) = omega (arith, ap length (sym empty ∙ text), length-append (head_of first head) (gate ∷ rest))

-- of bytes that stand for a store no fault is told, but of a failed disk
no_refusal : (head bytes : List ℕ) (held : Store) (why : StoreFault) → StandsFor head bytes held → why ≢ OutOfMemory → Refuses head bytes why → why ≡ Disk
no_refusal head bytes held NoStore stands memory refused = absurd (no_head head bytes refused (has_head head bytes stands.records stands.journal))
no_refusal head bytes held BadHeader stands memory refused = absurd (refused.1 (has_head head bytes stands.records stands.journal))
no_refusal head bytes held BadRecord stands memory refused = absurd (refused.1 stands.records stands.journal)
no_refusal head bytes held Disk stands memory refused = refl
no_refusal head bytes held Closed stands memory refused = absurd refused
no_refusal head bytes held OutOfMemory stands memory refused = absurd (memory refl)

-- bytes are told one fault
one_refusal : (head bytes : List ℕ) (one other : StoreFault) → one ≢ OutOfMemory → other ≢ OutOfMemory → Refuses head bytes one → Refuses head bytes other → (one ≡ other) ⊎ ((one ≡ Disk) ⊎ (other ≡ Disk))
one_refusal head bytes NoStore NoStore memory here is there = inl refl
one_refusal head bytes NoStore BadHeader memory here is there = absurd (there.0 is)
one_refusal head bytes NoStore BadRecord memory here is there = absurd (no_head head bytes is there.0)
one_refusal head bytes NoStore Disk memory here is there = inr (inr refl)
one_refusal head bytes NoStore Closed memory here is there = absurd there
one_refusal head bytes NoStore OutOfMemory memory here is there = absurd (here refl)
one_refusal head bytes BadHeader NoStore memory here is there = absurd (is.0 there)
one_refusal head bytes BadHeader BadHeader memory here is there = inl refl
one_refusal head bytes BadHeader BadRecord memory here is there = absurd (is.1 there.0)
one_refusal head bytes BadHeader Disk memory here is there = inr (inr refl)
one_refusal head bytes BadHeader Closed memory here is there = absurd there
one_refusal head bytes BadHeader OutOfMemory memory here is there = absurd (here refl)
one_refusal head bytes BadRecord NoStore memory here is there = absurd (no_head head bytes there is.0)
one_refusal head bytes BadRecord BadHeader memory here is there = absurd (there.1 is.0)
one_refusal head bytes BadRecord BadRecord memory here is there = inl refl
one_refusal head bytes BadRecord Disk memory here is there = inr (inr refl)
one_refusal head bytes BadRecord Closed memory here is there = absurd there
one_refusal head bytes BadRecord OutOfMemory memory here is there = absurd (here refl)
one_refusal head bytes Disk other memory here is there = inr (inl refl)
one_refusal head bytes Closed other memory here is there = absurd is
one_refusal head bytes OutOfMemory other memory here is there = absurd (memory refl)

-- what an answer is
data Seen (head bytes : List ℕ) : Result (Unit {0}) NodeFault → Type 0 where
  stands : (held : Store) → StandsFor head bytes held → Seen head bytes (Ok tt)
  memory : Seen head bytes (Err fault.OutOfMemory)
  refused : (why : StoreFault) → why ≢ OutOfMemory → Refuses head bytes why → Seen head bytes (Err (fault.Store why))

seen : (head bytes : List ℕ) (answer : Result (Unit {0}) NodeFault) → IsAnswerTo head bytes answer → Seen head bytes answer
seen head bytes (Ok done) is = Seen.stands is.found.0 is.found.1
seen head bytes (Err fault.OutOfMemory) is = Seen.memory
seen head bytes (Err (fault.Store why)) is = Seen.refused why is.of_start (is.refused why refl)
seen head bytes (Err fault.Down) is = absurd is.of_start
seen head bytes (Err fault.Spent) is = absurd is.of_start
seen head bytes (Err (fault.BadFrame frame)) is = absurd is.of_start
seen head bytes (Err fault.Conflict) is = absurd is.of_start
seen head bytes (Err fault.NothingToAct) is = absurd is.of_start

both_seen : (head bytes : List ℕ) (one other : Result (Unit {0}) NodeFault) → Seen head bytes one → Seen head bytes other → AreOne one other
both_seen head bytes one other (Seen.stands held is) (Seen.stands same there) = inl refl
both_seen head bytes one other (Seen.stands held is) Seen.memory = inr (inr tt)
both_seen head bytes one other (Seen.stands held is) (Seen.refused why few there) = inr (inr (no_refusal head bytes held why is few there))
both_seen head bytes one other Seen.memory seen_there = inr (inl tt)
both_seen head bytes one other (Seen.refused why few is) (Seen.stands held there) = inr (inl (no_refusal head bytes held why there few is))
both_seen head bytes one other (Seen.refused why few is) Seen.memory = inr (inr tt)
both_seen head bytes one other (Seen.refused why few is) (Seen.refused because less there) = elim (one_refusal head bytes why because few less is there) [
  | inl same ↦ inl (ap (λ (w : StoreFault). Err (fault.Store w)) same)
  | inr (inl is_disk) ↦ inr (inl is_disk)
  | inr (inr is_disk) ↦ inr (inr is_disk)
]

pub are_one : (head bytes : List ℕ) (one other : Result (Unit {0}) NodeFault) → IsAnswerTo head bytes one → IsAnswerTo head bytes other → AreOne one other
are_one head bytes one other is there = both_seen head bytes one other (seen head bytes one is) (seen head bytes other there)
