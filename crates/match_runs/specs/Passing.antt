-- What passed over the links of a match while it was served.
use Rattle.std.specs.Prelude.{◌≡◌, ◌⊎◌, ℕ, ◌≤◌, List, [], ◌∷◌, ◌++◌, length, take, drop}
use Rattle.std.specs.List.{flat_map}
use Rattle.dealer_world.specs.Records.{Piece}
use Rattle.match_links.specs.Passages.{Passage, Came, Told, Emptied, Logged}
use Rattle.serving.specs.Giving.{given_as}
use Rattle.serving.specs.Served.{Served}

-- of what passed, what was put into logs
abbrev pub put_by : Passage → List Passage
put_by (Came node seat bytes) = []
put_by (Told node seat line) = []
put_by (Emptied node) = []
put_by (Logged node text) = Logged node text ∷ []

-- and what seats were told
abbrev pub told_by : Passage → List Passage
told_by (Came node seat bytes) = []
told_by (Told node seat line) = Told node seat line ∷ []
told_by (Emptied node) = []
told_by (Logged node text) = []

-- some things in their order, of which others are left out
abbrev pub IsPart : {X : Type 0} → List X → List X → Type 0
IsPart some [] = some ≡ []
IsPart {X} some (x ∷ others) = IsPart some others ⊎ ((rest : List X) × (some ≡ x ∷ rest) × IsPart rest others)

-- the pieces of a record from one number to another
abbrev pub pieces_between : List Piece → ℕ → ℕ → List Piece
pieces_between pieces from to = drop from (take to pieces)

-- no more pieces were given than the record has
abbrev pub IsWithin : {N : Type 0} → Served N → Type 0
IsWithin served = served.shown ≤ length served.view.all.shown

-- what was put into logs between two moments is what the record has for them from the first piece that wasn't given yet up to the last
-- one that was, all of it and in order; and what seats were told are lines of these pieces, in order, of which some may be left out
pub record HandsOn {N : Type 0} (old new : Served N) : Type 0 where
  pub passing : List Passage
  pub passed : new.passed ≡ old.passed ++ passing
  pub more : List Piece
  pub grown : new.view.all.shown ≡ old.view.all.shown ++ more
  pub onwards : old.shown ≤ new.shown
  pub within : IsWithin new
  pub logs : flat_map put_by passing ≡ flat_map (λ piece. put_by (given_as piece)) (pieces_between new.view.all.shown old.shown new.shown)
  pub seats : IsPart (flat_map told_by passing) (flat_map (λ piece. told_by (given_as piece)) (pieces_between new.view.all.shown old.shown new.shown))
