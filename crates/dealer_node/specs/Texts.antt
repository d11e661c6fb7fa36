-- Texts, each with a mark, one behind another.
use Rattle.std.specs.Prelude.{ℕ, ◌+◌, List, [], ◌∷◌, length, take, drop}
use Rattle.dealer_node.specs.declared.texts.Run.{Run}

-- a text and its mark
pub record Marked (T : Type 0) : Type 0 where
  pub mark : T
  pub text : List ℕ

-- texts in order, and for how many more texts and bytes there is room
pub record Written (T : Type 0) : Type 0 where
  pub texts : List (Marked T)
  pub text_room : ℕ
  pub byte_room : ℕ

-- how many bytes the runs have
abbrev pub run_total : {T : Type 0} → List (Run T) → ℕ
run_total [] = 0
run_total (run ∷ runs) = run.len + run_total runs

-- the bytes, cut into the texts of the runs
abbrev pub cut : {T : Type 0} → List (Run T) → List ℕ → List (Marked T)
cut [] bytes = []
cut {T} (run ∷ runs) bytes = let first : Marked T = record { mark = run.mark; text = take run.len bytes } in first ∷ cut runs (drop run.len bytes)

-- how many bytes the texts have
abbrev pub byte_total : {T : Type 0} → List (Marked T) → ℕ
byte_total [] = 0
byte_total (one ∷ others) = length one.text + byte_total others
