-- What a match file says, entry by entry. The file is seen as its table's members.
use Rattle.std.specs.Prelude.{◌≡◌, ℕ, ◌≤◌, pos, List, [], length, Option, Some, None, Ok, IsUtf8, option_map}
use Rattle.game_def.specs.Game.{Game}
use Rattle.game_def.specs.WholeFile.{read_game}
use Rattle.match_log.specs.Names.{IsName, IsGameWord, AreNames}
use Rattle.dealer_kind.specs.Plans.{Plan, HasNodes}
use Rattle.dealer_kind.specs.declared.source.Source.{Source}
use Rattle.toml.specs.Data.{Data, Members, string, integer, get_member}
use Rattle.toml.specs.Parse.{parse_document}
use Rattle.match_file.specs.declared.key.Key.{Key}
use Rattle.match_file.specs.declared.key.Key.TheVariants.{Name, Game as GameKey, Hands, Names, Node, Port, Outage as OutageKey}
use Rattle.match_file.specs.declared.outage.Outage.{Outage}
use Rattle.match_file.specs.Keys.{key_text}
use Rattle.match_file.specs.Said.{SaysEach, SaysName, SaysSource, SaysOutage}
use Rattle.match_file.specs.Outages.{LeaveMost}

-- the text is UTF-8, and TOML with these members
pub record HasMembers (text : List ℕ) (table : Members) : Type 0 where
  pub utf8 : IsUtf8 text
  pub toml : parse_document text ≡ Some table

-- what stands at a key
abbrev pub entry_at : Key → Members → Option Data
entry_at key table = get_member (key_text key) table

-- the name of the match
pub record SaysTitle (table : Members) (name : List ℕ) : Type 0 where
  pub text : entry_at Name table ≡ Some (string name)
  pub is_name : IsName name

-- the name of the game's file
pub record SaysGame (table : Members) (word : List ℕ) : Type 0 where
  pub text : entry_at GameKey table ≡ Some (string word)
  pub is_word : IsGameWord word

-- 1 to 10000 hands
pub record SaysHands (table : Members) (hands : ℕ) : Type 0 where
  pub number : entry_at Hands table ≡ Some (integer (pos hands))
  pub least : 1 ≤ hands
  pub most : hands ≤ 10000

-- a name for each seat
pub record SaysNames (players : ℕ) (table : Members) (names : List (List ℕ)) : Type 0 where
  pub texts : SaysEach SaysName (entry_at Names table) names
  pub are_names : AreNames players names

-- three nodes, five or seven
pub record SaysSources (players hands : ℕ) (table : Members) (sources : List Source) : Type 0 where
  pub tables : SaysEach (SaysSource players hands) (entry_at Node table) sources
  pub nodes : HasNodes (length sources)

-- the game file, where it could be read, is that of a game
abbrev pub DefinesGame : Option (List ℕ) → Game → Type 0
DefinesGame bytes game = option_map read_game bytes ≡ Some (Ok game)

-- the match that a match file and its game file say
pub record SaysMatch (bytes : Option (List ℕ)) (table : Members) (plan : Plan) : Type 0 where
  pub title : SaysTitle table plan.setting.title.name
  pub word : SaysGame table plan.setting.title.game
  pub game : DefinesGame bytes plan.setting.game
  pub hands : SaysHands table plan.setting.title.hands
  pub names : SaysNames plan.setting.game.players table plan.setting.names
  pub sources : SaysSources plan.setting.game.players plan.setting.title.hands table plan.sources

-- the folder at a key
abbrev pub SaysFolder : Key → Members → List ℕ → Type 0
SaysFolder key table folder = entry_at key table ≡ Some (string folder)

-- the first of the ports, 1024 to 65000
pub record SaysPort (table : Members) (port : ℕ) : Type 0 where
  pub number : entry_at Port table ≡ Some (integer (pos port))
  pub least : 1024 ≤ port
  pub most : port ≤ 65000

-- the outages, none where there is no entry
abbrev pub ListsOutages : ℕ → Option Data → List Outage → Type 0
ListsOutages nodes None outages = outages ≡ []
ListsOutages nodes (Some entry) outages = SaysEach (SaysOutage nodes) (Some entry) outages

-- and fewer than half the nodes are out at once
pub record SaysOutages (nodes : ℕ) (table : Members) (outages : List Outage) : Type 0 where
  pub listed : ListsOutages nodes (entry_at OutageKey table) outages
  pub most_stay : LeaveMost nodes outages
