-- The settings that a process tells, and what a record of a further kind tells.
use Rattle.std.specs.Prelude.{◌≡◌, ℕ, ◌<◌, ◌^◌, ◌==◌, if◌then◌else◌, List, ◌++◌, length, drop, Result, Ok, Err}
use Rattle.byteorder.specs.Endian.{big_bytes, big_number}
use Rattle.peer_codes.specs.declared.fault.RecordFault.{RecordFault}
use Rattle.peer_codes.specs.declared.fault.RecordFault.TheVariants.{BadLength, BadKind}
use Rattle.peer_codes.specs.declared.version.Version.{Version}
use Rattle.peer_codes.specs.declared.version.Version.TheVariants.{First, Second}
use Rattle.peer_codes.specs.declared.hello.Hello.{Hello}
use Rattle.peer_codes.specs.declared.more.More.{More}
use Rattle.paxos_wire.specs.declared.ballot.Ballot.{Ballot}
use Rattle.node_links.specs.declared.limits.TheConstants.{LIVES, SETTINGS, PROMISED, SETTINGS_BYTES, TOKENS_BYTES}
use Rattle.node_links.specs.declared.lives.Lives.{Lives}
use Rattle.node_links.specs.declared.settings.Settings.{Settings}
use Rattle.node_links.specs.declared.further.Further.{Further}
use Rattle.node_links.specs.declared.further.Further.TheVariants as furthers
use Rattle.node_links.specs.Lives.{lives_of}
use Rattle.node_links.specs.Promising.{promised_of}

-- ---- settings

abbrev pub settings_of : List ℕ → Result Settings RecordFault
settings_of bytes =
    if length bytes == SETTINGS_BYTES then Ok (record { patience = big_number 4 bytes; start = big_number 4 (drop 4 bytes); away = big_number 4 (drop 8 bytes); tokens = drop 12 bytes }) else Err BadLength

abbrev pub settings_text : Settings → List ℕ
settings_text s = big_bytes 4 s.patience ++ (big_bytes 4 s.start ++ (big_bytes 4 s.away ++ s.tokens))

abbrev pub settings_more : Settings → More
settings_more s = record { kind = SETTINGS; bytes = record { items = settings_text s } }

-- settings whose numbers have a text
pub record AreSettings (s : Settings) : Type 0 where
  pub patience : s.patience < 2 ^ 32
  pub start : s.start < 2 ^ 32
  pub away : s.away < 2 ^ 32
  pub tokens : length s.tokens ≡ TOKENS_BYTES

abbrev pub SettingsReadBack : Type 0
SettingsReadBack = (s : Settings) → AreSettings s → settings_of (settings_text s) ≡ Ok s

-- ---- records of further kinds

abbrev pub more_in : ℕ → List ℕ → More
more_in kind bytes = record { kind = kind; bytes = record { items = bytes } }

abbrev pub lives_further : Result Lives RecordFault → Result Further RecordFault
lives_further (Ok lives) = Ok (furthers.Lives lives)
lives_further (Err fault) = Err fault

abbrev pub settings_further : Result Settings RecordFault → Result Further RecordFault
settings_further (Ok settings) = Ok (furthers.Settings settings)
settings_further (Err fault) = Err fault

abbrev pub promised_further : Result Ballot RecordFault → Result Further RecordFault
promised_further (Ok ballot) = Ok (furthers.Promised ballot)
promised_further (Err fault) = Err fault

-- lives, settings and a ballot are read, and what isn't known is passed over
abbrev pub further_of : ℕ → More → Result Further RecordFault
further_of nodes more =
    if more.kind == LIVES then lives_further (lives_of nodes more.bytes.items)
    else (if more.kind == SETTINGS then settings_further (settings_of more.bytes.items)
    else (if more.kind == PROMISED then promised_further (promised_of more.bytes.items)
    else Ok furthers.Unknown))

-- behind Hellos of the first version none comes
abbrev pub read_by : Version → ℕ → More → Result Further RecordFault
read_by First nodes more = Err BadKind
read_by Second nodes more = further_of nodes more

abbrev pub read_behind : Hello → More → Result Further RecordFault
read_behind hello more = read_by hello.version hello.ends.nodes more

-- it tells something
abbrev pub IsRead : Result Further RecordFault → Type 0
IsRead (Ok further) = Unit {0}
IsRead (Err fault) = ⊥
