-- What a game file is: which texts define which game.
use Rattle.std.specs.Prelude.{◌≡◌, ℕ, ◌+◌, ◌-◌, ◌*◌, ◌≤◌, fold, false, List, [], ◌∷◌, ◌++◌, length, map, replicate, Some, None, IsSome, IsTrue, codes, ◌⊎◌, if◌then◌else◌}
use Rattle.std.specs.List.{IsDistinct, AllByRecursion, AllZip, list_all}
use Rattle.std.specs.Char.{is_ascii_digit}
use Rattle.std.specs.Str.{str_eq_ignore_ascii_case}
use Rattle.game_def.specs.Game.{Game, IsGame, most_chips}
use Rattle.game_def.specs.Text.{lines, words}
use Rattle.game_def.specs.Key.{name_of, same_key, fits, allows}
use Rattle.game_def.specs.Entries.{values_of, values_or, has_nolimit}
use Rattle.game_def.specs.declared.key.Key.TheVariants.{NumPlayers, NumRounds, Stack, Blind, RaiseSize, FirstPlayer, MaxRaises, NumSuits, NumRanks, NumHoleCards, NumBoardCards}
use Rattle.game_def.specs.declared.entry.Entry.{Entry}

-- a word is a name, in capital or small letters
abbrev pub Names : List ℕ → List ℕ → Type 0
Names name word = IsTrue (str_eq_ignore_ascii_case word name)

-- the number that digits write
abbrev pub number_of : List ℕ → ℕ
number_of digits = fold (λ number digit. 10 * number + (digit - 48)) 0 digits

-- one to ten digits write a number
pub record Writes (word : List ℕ) (number : ℕ) : Type 0 where
  pub digits : IsTrue (list_all is_ascii_digit word)
  pub least : 1 ≤ length word
  pub most : length word ≤ 10
  pub value : number ≡ number_of word

-- a line that sets a key: the key's name, a = or none, and the values
pub record Sets (texts : List (List ℕ)) (entry : Entry) : Type 0 where
  pub name : List ℕ
  pub values : List (List ℕ)
  pub form : (texts ≡ name ∷ values) ⊎ (texts ≡ name ∷ codes "=" ∷ values)
  pub named : Names (name_of entry.key) name
  pub written : AllZip Writes values entry.values.items
  pub fitting : IsTrue (list_all (fits entry.key) entry.values.items)
  pub count : IsTrue (allows entry.key (length entry.values.items))

-- the lines behind GAMEDEF and before END GAMEDEF, so many lines standing before them: each is blank or sets a key
abbrev pub AreSettings : ℕ → List (List ℕ) → List Entry → Type 0
AreSettings before [] entries = entries ≡ []
AreSettings before (line ∷ more) entries =
    ((words line ≡ []) × AreSettings (before + 1) more entries)
    ⊎ ((entry : Entry) × (others : List Entry) × (entries ≡ entry ∷ others) × Sets (words line) entry × (entry.line ≡ before + 1) × AreSettings (before + 1) more others)

-- what the keys say of a game; a missing key has its default
pub record Defines (entries : List Entry) (game : Game) : Type 0 where
  pub once : IsDistinct same_key (map (λ entry. entry.key) entries)
  pub players : values_of entries NumPlayers ≡ Some (game.players ∷ [])
  pub rounds : values_of entries NumRounds ≡ Some (4 ∷ [])
  pub suits : values_of entries NumSuits ≡ Some (4 ∷ [])
  pub ranks : values_of entries NumRanks ≡ Some (13 ∷ [])
  pub hole_cards : values_of entries NumHoleCards ≡ Some (2 ∷ [])
  pub board_cards : values_of entries NumBoardCards ≡ Some (0 ∷ 3 ∷ 1 ∷ 1 ∷ [])
  pub stacks : game.stacks ≡ values_or entries Stack (replicate game.players most_chips)
  pub blinds : game.blinds ≡ values_or entries Blind (replicate game.players 0)
  pub four_sizes : length (values_or entries RaiseSize (replicate 4 0)) ≡ 4
  pub raise_sizes : game.raise_sizes ≡ (if has_nolimit entries then None else values_of entries RaiseSize)
  pub sizes_of_limit : has_nolimit entries ≡ false → IsSome (values_of entries RaiseSize)
  pub first_players : game.first_players ≡ map (λ position. position - 1) (values_or entries FirstPlayer (replicate 4 1))
  pub max_raises : game.max_raises ≡ values_or entries MaxRaises (replicate 4 255)
  pub is_game : IsGame game

-- blank lines, GAMEDEF, the settings, END GAMEDEF, and any lines
pub record IsGameFile (text : List ℕ) (game : Game) : Type 0 where
  pub front : List (List ℕ)
  pub head : List ℕ
  pub body : List (List ℕ)
  pub foot : List ℕ
  pub rest : List (List ℕ)
  pub entries : List Entry
  pub form : lines text ≡ front ++ head ∷ (body ++ foot ∷ rest)
  pub blank : AllByRecursion (λ line. words line ≡ []) front
  pub gamedef : AllZip Names (codes "gamedef" ∷ []) (words head)
  pub settings : AreSettings (length front + 1) body entries
  pub end_gamedef : AllZip Names (codes "end" ∷ codes "gamedef" ∷ []) (words foot)
  pub defines : Defines entries game
