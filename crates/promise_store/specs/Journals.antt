-- The grammar of journals, of both versions: which bytes stand for which records.
use Rattle.std.specs.Prelude.{◌≡◌, ◌≢◌, ◌⊎◌, ℕ, ◌≤◌, Some, List, [], ◌∷◌, ◌++◌, length}
use Rattle.std.specs.List.{AllByRecursion}
use Rattle.promise_store.specs.declared.records.Record.{Record}
use Rattle.promise_store.specs.declared.reading.Step.{Step}
use Rattle.promise_store.specs.declared.reading.Step.TheVariants.{Shut, Found, Broken}
use Rattle.promise_store.specs.declared.records.TheConstants.{MOST_GATED}
use Rattle.promise_store.specs.declared.stage.Stage.{Stage}
use Rattle.promise_store.specs.Records.{IsRecord, payload, record_text}
use Rattle.promise_store.specs.Stages.{head_of, stage_behind}

-- HDJ2, the node, the count of nodes, and two zeros
abbrev pub header : ℕ → ℕ → List ℕ
header node nodes = 72 ∷ 68 ∷ 74 ∷ 50 ∷ node ∷ nodes ∷ 0 ∷ 0 ∷ []

-- each record behind an open gate
abbrev pub gated : List Record → List ℕ
gated [] = []
gated (r ∷ records) = 1 ∷ (record_text r ++ gated records)

-- the bytes are the head of this first stage, records behind open gates that may stand there and lead to this last stage, a gate that isn't open, and whatever stands behind it
pub record IsJournalOf (first last : Stage) (head bytes : List ℕ) (records : List Record) : Type 0 where
  pub gate : ℕ
  pub rest : List ℕ
  pub stands : stage_behind first records ≡ Some last
  pub shut : gate ≢ 1
  pub each : AllByRecursion IsRecord records
  pub text : bytes ≡ (head_of first head ++ gated records) ++ gate ∷ rest

-- the bytes are a journal of these records, of either version
abbrev pub IsJournal : List ℕ → List ℕ → List Record → Type 0
IsJournal head bytes records = (first : Stage) × (last : Stage) × IsJournalOf first last head bytes records

-- where the gate behind these records stands
abbrev pub gate_behind : List ℕ → List Record → ℕ
gate_behind head records = length (head ++ gated records)

-- the bytes stand for the one list of records or for the other
abbrev pub IsEither : List ℕ → List Record → List Record → List ℕ → Type 0
IsEither head old new image = IsJournal head image old ⊎ IsJournal head image new

-- bytes from a gate on begin with an open gate, the record, and one byte more
abbrev pub BeginsWith : List ℕ → Record → Type 0
BeginsWith bytes r = (next : ℕ) × (rest : List ℕ) × IsRecord r × (bytes ≡ 1 ∷ (record_text r ++ next ∷ rest))

-- bytes from a gate on begin with a gate that isn't open
abbrev pub IsShut : List ℕ → Type 0
IsShut bytes = (gate : ℕ) × (rest : List ℕ) × (gate ≢ 1) × (bytes ≡ gate ∷ rest)

-- what stands at a gate: it is shut; a record of so many bytes stands behind it, and a next gate; or neither. Whether the record may stand there, its stage tells
abbrev pub IsStep : List ℕ → Step → Type 0
IsStep bytes Shut = IsShut bytes
IsStep bytes (Found r size) = BeginsWith bytes r × (size ≡ length (payload r))
IsStep bytes Broken = (IsShut bytes → ⊥) × ((r : Record) → BeginsWith bytes r → ⊥)

-- a journal from its first gate on; whether its records may stand there, their stages tell
pub record OpensFrom (bytes : List ℕ) (records : List Record) : Type 0 where
  pub gate : ℕ
  pub rest : List ℕ
  pub shut : gate ≢ 1
  pub each : AllByRecursion IsRecord records
  pub text : bytes ≡ gated records ++ gate ∷ rest

-- so many bytes from a gate on are enough to tell what stands there: no record with both its gates is longer, or they are all
abbrev pub IsEnough : List ℕ → ℕ → Type 0
IsEnough tail count = (MOST_GATED ≤ count) ⊎ (length tail ≤ count)
