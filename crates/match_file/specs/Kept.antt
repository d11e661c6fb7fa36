-- What `match.kept` says, the file beside a match's stores: of which match and how many nodes they are.
use Rattle.std.specs.Prelude.{◌≡◌, ◌≢◌, ℕ, List, ◌∷◌, ◌++◌, length, codes, decimal, Ok}
use Rattle.game_def.specs.WholeFile.{read_game}
use Rattle.match_log.specs.Lines.{names_field}
use Rattle.dealer_kind.specs.Kind.{Setting}
use Rattle.dealer_kind.specs.Plans.{Plan, HasNodes, IsSetting}
use Rattle.match_file.specs.declared.difference.Counts.{Counts}
use Rattle.match_file.specs.declared.difference.Difference.{Difference}
use Rattle.match_file.specs.declared.difference.Difference.TheVariants.{Name, Game, Hands, Names, Nodes, Values, Unread, Node, Command}

-- a match, and how many nodes deal it
pub record Kept : Type 0 where
  pub setting : Setting
  pub nodes : ℕ

-- of a match and its nodes' sources: the sources aren't kept
abbrev pub kept_of : Plan → Kept
kept_of plan = record { setting = plan.setting; nodes = length plan.sources }

-- a line, a word and what it says, and the rest behind it
abbrev pub line : List ℕ → List ℕ → List ℕ → List ℕ
line word value rest = word ++ (value ++ 10 ∷ rest)

-- the lines of a kept match, an empty one, and the rest behind them
abbrev pub lines : List ℕ → List ℕ → List ℕ → List ℕ → List ℕ → List ℕ → List ℕ
lines name game hands names nodes rest =
    codes "# match.kept 1\n"
    ++ line (codes "name ") name (line (codes "game ") game (line (codes "hands ") hands (line (codes "names ") names (line (codes "nodes ") nodes (10 ∷ rest)))))

-- the text of a kept match: its lines, and the bytes of its game file
abbrev pub kept_text : Kept → List ℕ → List ℕ
kept_text kept game =
    lines kept.setting.title.name kept.setting.title.game (decimal kept.setting.title.hands) (names_field kept.setting.names) (decimal kept.nodes) game

-- a text is that of this kept match
pub record Keeps (text : List ℕ) (kept : Kept) : Type 0 where
  pub game : List ℕ
  pub form : text ≡ kept_text kept game
  pub defines : read_game game ≡ Ok kept.setting.game
  pub within : IsSetting kept.setting
  pub count : HasNodes kept.nodes

-- they differ, and are told in this order
abbrev pub Differ : ℕ → ℕ → Counts → Type 0
Differ a b counts = (a ≢ b) × (counts.kept ≡ a) × (counts.expected ≡ b)

-- the first thing in which they aren't the same
abbrev pub IsFirst : Kept → Kept → Difference → Type 0
IsFirst a b Name = a.setting.title.name ≢ b.setting.title.name
IsFirst a b Game = (a.setting.title.name ≡ b.setting.title.name) × (a.setting.title.game ≢ b.setting.title.game)
IsFirst a b (Hands counts) =
    (a.setting.title.name ≡ b.setting.title.name) × (a.setting.title.game ≡ b.setting.title.game) × Differ a.setting.title.hands b.setting.title.hands counts
IsFirst a b Names = (a.setting.title ≡ b.setting.title) × (a.setting.names ≢ b.setting.names)
IsFirst a b (Nodes counts) = (a.setting.title ≡ b.setting.title) × (a.setting.names ≡ b.setting.names) × Differ a.nodes b.nodes counts
IsFirst a b Values =
    (a.setting.title ≡ b.setting.title) × (a.setting.names ≡ b.setting.names) × (a.nodes ≡ b.nodes) × (a.setting.game ≢ b.setting.game)
IsFirst a b Unread = ⊥
IsFirst a b Node = ⊥
IsFirst a b Command = ⊥

-- what a text shows against a match: it is that of no kept match, or of another, and this is the first thing in which that is another
abbrev pub Shows : List ℕ → Kept → Difference → Type 0
Shows text kept Unread = (old : Kept) → ¬ (Keeps text old)
Shows text kept difference = (old : Kept) × Keeps text old × IsFirst old kept difference

-- the kept count, then the expected one
abbrev pub counts_text : Counts → List ℕ
counts_text counts = decimal counts.kept ++ (codes ", not " ++ decimal counts.expected)

-- what a difference prints: the key of the match file, or what else it is, and counts behind it
abbrev pub difference_text : Difference → List ℕ
difference_text Name = codes "name"
difference_text Game = codes "game"
difference_text (Hands counts) = codes "hands " ++ counts_text counts
difference_text Names = codes "names"
difference_text (Nodes counts) = codes "nodes " ++ counts_text counts
difference_text Values = codes "values"
difference_text Unread = codes "match.kept"
difference_text Node = codes "node"
difference_text Command = codes "command"
