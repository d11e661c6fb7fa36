-- What a file that is opened shows.
use Rattle.std.proofs.Common.{◌≡◌, ◌⊎◌, inl, inr, ℕ, ◌<◌, refl, sym, ◌∙◌, ap, List, [], ◌∷◌, ◌++◌, length, take, drop, arith, append_assoc, length-append, length-drop, take-append-drop, append-nil}
use Rattle.std.specs.Prelude.{Some}
use Rattle.std.specs.List.{AllByRecursion}
use Rattle.protocol_model.specs.Stores.{Store}
use Rattle.promise_store.specs.declared.records.Record.{Record}
use Rattle.promise_store.specs.declared.fault.StoreFault.{StoreFault}
use Rattle.promise_store.specs.declared.fault.StoreFault.TheVariants.{NoStore, BadHeader, BadRecord, Disk, Closed, OutOfMemory}
use Rattle.promise_store.specs.declared.stage.Stage.{Stage}
use Rattle.promise_store.specs.Stages.{head_of, stage_behind}
use Rattle.promise_store.specs.Journals.{header, gated, IsJournalOf, IsJournal, OpensFrom, IsShut}
use Rattle.promise_store.specs.Holding.{StandsFor}
use Rattle.promise_store.specs.Refusals.{HasHead, Refuses}
use Rattle.promise_store.specs.Records.{IsRecord}
use Rattle.std.proofs.lemmas.List.{take_at}
use Rattle.promise_store.proofs.Stages.{head_long, same_first}
use Rattle.promise_store.proofs.Journals.{opens_apart, opens_together}

-- a journal has its head and a gate
pub has_head : (head bytes : List ℕ) (records : List Record) → IsJournal head bytes records → HasHead head bytes
has_head head bytes [] (first, last, journal) = (first, journal.gate, journal.rest, journal.text ∙ ap (λ (l : List ℕ). l ++ journal.gate ∷ journal.rest) (append-nil (head_of first head)))
has_head head bytes (r ∷ records) (first, last, journal) =
    (first, 1, _, journal.text ∙ append_assoc (head_of first head) (gated (r ∷ records)) (journal.gate ∷ journal.rest))

-- of a file that stands for a store, opening tells no fault of the file
pub no_refusal : (head bytes : List ℕ) (store : Store) (fault : StoreFault) → StandsFor head bytes store → Refuses head bytes fault → (fault ≡ Disk) ⊎ (fault ≡ OutOfMemory)
no_refusal head bytes store NoStore stands empty =
    let first = stands.journal.0 in
    let journal = stands.journal.2 in
    absurd (omega (arith, ap length (sym empty ∙ journal.text), length-append (head_of first head ++ gated stands.records) (journal.gate ∷ journal.rest)))
no_refusal head bytes store BadHeader stands refused = absurd (refused.1 (has_head head bytes stands.records stands.journal))
no_refusal head bytes store BadRecord stands refused = absurd (refused.1 stands.records stands.journal)
no_refusal head bytes store Disk stands refused = inl refl
no_refusal head bytes store Closed stands refused = absurd refused
no_refusal head bytes store OutOfMemory stands refused = inr refl

-- a file with a head is longer than it, and begins with it
pub head_within : (head bytes : List ℕ) → HasHead head bytes → length head < length bytes
head_within head bytes (first, gate, rest, is) = omega (arith, ap length is, length-append (head_of first head) (gate ∷ rest), head_long first head)

-- a file that begins with a head and is longer has the head and a gate
pub front_head : (first : Stage) (head bytes : List ℕ) → take (length head) bytes ≡ head_of first head → length head < length bytes → HasHead head bytes
front_head first head bytes front long = by (drop (length head) bytes) refl
  where
    whole : bytes ≡ head_of first head ++ drop (length head) bytes
    whole = sym (take-append-drop (length head) bytes) ∙ ap (λ (l : List ℕ). l ++ drop (length head) bytes) front

    by : (tail : List ℕ) → drop (length head) bytes ≡ tail → HasHead head bytes
    by [] is = absurd (omega (arith, long, ap length is, length-drop (length head) bytes))
    by (gate ∷ rest) is = (first, gate, rest, whole ∙ ap (λ (l : List ℕ). head_of first head ++ l) is)

-- what a file with a head begins with
pub head_front : (head bytes : List ℕ) → HasHead head bytes → (first : Stage) × (take (length head) bytes ≡ head_of first head)
head_front head bytes (first, gate, rest, is) = (first, ap (λ (l : List ℕ). take (length head) l) is ∙ take_at (head_of first head) (gate ∷ rest) (length head) (head_long first head))

-- records read up to a shut gate are the journal's
pub read_whole : (first last : Stage) (head bytes : List ℕ) (records : List Record) (at : ℕ) → take (length head) bytes ≡ head_of first head → AllByRecursion IsRecord records
    → stage_behind first records ≡ Some last → drop (length head) bytes ≡ gated records ++ drop at bytes → IsShut (drop at bytes) → IsJournalOf first last head bytes records
read_whole first last head bytes records at front each stands text (gate, rest, shut, is) =
    opens_together first last head bytes records front stands
    (record { gate = gate; rest = rest; shut = shut; each = each; text = text ∙ ap (λ (l : List ℕ). gated records ++ l) is })

-- the first stage of a journal is that of the head in front
pub first_is : (first : Stage) (node nodes : ℕ) (file : List ℕ) → take 8 file ≡ head_of first (header node nodes) → (a b : Stage) (records : List Record) → IsJournalOf a b (header node nodes) file records → a ≡ first
first_is first node nodes file front a b records journal =
    same_first a first node nodes (gated records ++ journal.gate ∷ journal.rest) (drop 8 file)
    (sym (journal.text ∙ append_assoc (head_of a (header node nodes)) (gated records) (journal.gate ∷ journal.rest)) ∙ sym (take-append-drop 8 file) ∙ ap (λ (l : List ℕ). l ++ drop 8 file) front)

-- what a reading from a first stage on finds to be none is no journal
pub no_journal : (first : Stage) (node nodes : ℕ) (file : List ℕ) → take 8 file ≡ head_of first (header node nodes)
    → ((last : Stage) (records : List Record) → stage_behind first records ≡ Some last → OpensFrom (drop 8 file) records → ⊥) → (records : List Record) → IsJournal (header node nodes) file records → ⊥
no_journal first node nodes file front none records (a, b, journal) =
    let same = first_is first node nodes file front a b records journal in
    none b records (ap (λ (stage : Stage). stage_behind stage records) (sym same) ∙ journal.stands) (opens_apart a b (header node nodes) file records journal)

-- a file that doesn't begin with either head has none
pub no_head : (node nodes : ℕ) (file : List ℕ) → ((first : Stage) → take 8 file ≡ head_of first (header node nodes) → ⊥) → HasHead (header node nodes) file → ⊥
no_head node nodes file none has = let front = head_front (header node nodes) file has in none front.0 front.1
