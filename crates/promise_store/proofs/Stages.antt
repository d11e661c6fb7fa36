-- Heads of both versions, and which records may stand where.
use Rattle.std.proofs.Common.{◌≡◌, ℕ, List, [], ◌∷◌, ◌++◌, length, get_or, refl, sym, ap, ◌∙◌, arith, length-append}
use Rattle.std.specs.Prelude.{Option, Some, None}
use Rattle.std.proofs.lemmas.Option.{none-some}
use Rattle.promise_store.specs.declared.records.Record.{Record}
use Rattle.promise_store.specs.declared.stage.Stage.{Stage}
use Rattle.promise_store.specs.declared.stage.Stage.TheVariants.{Old, New}
use Rattle.promise_store.specs.Journals.{header, gated, gate_behind}
use Rattle.promise_store.specs.Stages.{head_of, stage_after, next_stage, last_stage, stage_behind}

pub head_long : (stage : Stage) (head : List ℕ) → length (head_of stage head) ≡ length head
head_long New head = refl
head_long Old [] = refl
head_long Old (a ∷ []) = refl
head_long Old (a ∷ b ∷ []) = refl
head_long Old (a ∷ b ∷ c ∷ []) = refl
head_long Old (a ∷ b ∷ c ∷ d ∷ rest) = refl

-- a gate stands at the same place behind either head
pub same_gate : (stage : Stage) (head : List ℕ) (records : List Record) → gate_behind (head_of stage head) records ≡ gate_behind head records
same_gate stage head records = omega (arith, length-append (head_of stage head) (gated records), length-append head (gated records), head_long stage head)

stage_through : (stage : Option Stage) (front more : List Record) → last_stage stage (front ++ more) ≡ last_stage (last_stage stage front) more
stage_through stage [] more = refl
stage_through stage (r ∷ front) more = stage_through (next_stage stage r) front more

-- the stage behind more records
pub stage_joins : (first last : Stage) (front more : List Record) → stage_behind first front ≡ Some last → stage_behind first (front ++ more) ≡ stage_behind last more
stage_joins first last front more stands = stage_through (Some first) front more ∙ ap (λ (s : Option Stage). last_stage s more) stands

-- a record that may stand behind these
pub stage_more : (first last next : Stage) (records : List Record) (r : Record) → stage_behind first records ≡ Some last → stage_after last r ≡ Some next
    → stage_behind first (records ++ r ∷ []) ≡ Some next
stage_more first last next records r stands after = stage_joins first last records (r ∷ []) stands ∙ after

-- from nothing on no stage comes
none_stays : (records : List Record) → last_stage None records ≡ None
none_stays [] = refl
none_stays (r ∷ records) = none_stays records

-- a record that may not stand behind these
pub stage_ends : (first last end : Stage) (records : List Record) (r : Record) (more : List Record) → stage_behind first records ≡ Some last → stage_after last r ≡ None
    → stage_behind first (records ++ r ∷ more) ≡ Some end → ⊥
stage_ends first last end records r more stands after whole =
    none-some end (sym (none_stays more) ∙ ap (λ (s : Option Stage). last_stage s more) (sym after) ∙ sym (stage_joins first last records (r ∷ more) stands) ∙ whole)

-- the first stage of a journal, by its fourth byte
pub same_first : (a b : Stage) (node nodes : ℕ) (x y : List ℕ) → head_of a (header node nodes) ++ x ≡ head_of b (header node nodes) ++ y → a ≡ b
same_first Old Old node nodes x y same = refl
same_first New New node nodes x y same = refl
same_first Old New node nodes x y same = absurd (let byte = ap (λ (l : List ℕ). get_or l 3 0) same in omega (arith, byte))
same_first New Old node nodes x y same = absurd (let byte = ap (λ (l : List ℕ). get_or l 3 0) same in omega (arith, byte))
