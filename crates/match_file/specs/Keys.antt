-- The keys of a match file.
use Rattle.std.specs.Prelude.{ℕ, List, codes}
use Rattle.match_file.specs.declared.key.Key.{Key}
use Rattle.match_file.specs.declared.key.Key.TheVariants.{Name, Game, Hands, Names, Node, Stores, Logs, Port, Outage, Away, KeyFile, Peers, Seats, Status, From, Tokens, Patience, Start}

-- a key as it stands in the file
abbrev pub key_text : Key → List ℕ
key_text Name = codes "name"
key_text Game = codes "game"
key_text Hands = codes "hands"
key_text Names = codes "names"
key_text Node = codes "node"
key_text Stores = codes "stores"
key_text Logs = codes "logs"
key_text Port = codes "port"
key_text Outage = codes "outage"
key_text Away = codes "away"
key_text KeyFile = codes "key"
key_text Peers = codes "peers"
key_text Seats = codes "seats"
key_text Status = codes "status"
key_text From = codes "from"
key_text Tokens = codes "tokens"
key_text Patience = codes "patience"
key_text Start = codes "start"
