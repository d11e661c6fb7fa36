-- The keys of a game file, and what values they may have.
use Rattle.std.specs.Prelude.{ℕ, Bool, true, false, ◌==◌, ◌&&◌, nat_le, List, [], ◌∷◌, Option, codes}
use Rattle.std.specs.List.{find}
use Rattle.std.specs.Str.{str_eq_ignore_ascii_case}
use Rattle.game_def.specs.Game.{most_chips}
use Rattle.game_def.specs.declared.key.Key.{Key}
use Rattle.game_def.specs.declared.key.Key.TheVariants.{Limit, Nolimit, NumPlayers, NumRounds, Stack, Blind, RaiseSize, FirstPlayer, MaxRaises, NumSuits, NumRanks, NumHoleCards, NumBoardCards}

-- the name of a key in small letters
abbrev pub name_of : Key → List ℕ
name_of Limit = codes "limit"
name_of Nolimit = codes "nolimit"
name_of NumPlayers = codes "numplayers"
name_of NumRounds = codes "numrounds"
name_of Stack = codes "stack"
name_of Blind = codes "blind"
name_of RaiseSize = codes "raisesize"
name_of FirstPlayer = codes "firstplayer"
name_of MaxRaises = codes "maxraises"
name_of NumSuits = codes "numsuits"
name_of NumRanks = codes "numranks"
name_of NumHoleCards = codes "numholecards"
name_of NumBoardCards = codes "numboardcards"

-- all keys
abbrev pub keys : List Key
keys = Limit ∷ Nolimit ∷ NumPlayers ∷ NumRounds ∷ Stack ∷ Blind ∷ RaiseSize ∷ FirstPlayer ∷ MaxRaises ∷ NumSuits ∷ NumRanks ∷ NumHoleCards ∷ NumBoardCards ∷ []

-- the key that a word names, in capital or small letters
unfoldable pub key_named : List ℕ → Option Key
key_named word = find (λ key. str_eq_ignore_ascii_case word (name_of key)) keys

-- the place of a key among those that a game file has at most once; limit and nolimit are one
abbrev pub place_of : Key → ℕ
place_of Limit = 0
place_of Nolimit = 0
place_of NumPlayers = 1
place_of NumRounds = 2
place_of Stack = 3
place_of Blind = 4
place_of RaiseSize = 5
place_of FirstPlayer = 6
place_of MaxRaises = 7
place_of NumSuits = 8
place_of NumRanks = 9
place_of NumHoleCards = 10
place_of NumBoardCards = 11

-- whether two keys are one
abbrev pub same_key : Key → Key → Bool
same_key one other = place_of one == place_of other

-- whether a key is nolimit
abbrev pub is_nolimit : Key → Bool
is_nolimit Nolimit = true
is_nolimit _ = false

-- whether a number may be a value of a key: an amount of chips, a position counted from 1, a number of raises
abbrev pub fits : Key → ℕ → Bool
fits Stack number = nat_le number most_chips
fits Blind number = nat_le number most_chips
fits RaiseSize number = nat_le number most_chips
fits FirstPlayer number = nat_le 1 number && nat_le number 10
fits MaxRaises number = nat_le number 255
fits _ number = true

-- whether a line of a key may have so many values: none, one, or one to ten
abbrev pub allows : Key → ℕ → Bool
allows Limit count = count == 0
allows Nolimit count = count == 0
allows NumPlayers count = count == 1
allows NumRounds count = count == 1
allows NumSuits count = count == 1
allows NumRanks count = count == 1
allows NumHoleCards count = count == 1
allows _ count = nat_le 1 count && nat_le count 10
