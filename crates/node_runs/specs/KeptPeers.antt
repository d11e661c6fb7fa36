-- What a file says of a peer's store: its life, and the greatest ballot that it is known to have promised.
use Rattle.std.specs.Prelude.{◌≡◌, ◌<◌, ◌^◌, ℕ, List, [], ◌∷◌, ◌++◌, Option, Some, None, IfSome, length, codes, decimal}
use Rattle.std.specs.List.{AllByRecursion}
use Rattle.hex.specs.Hex.{IsBytes}
use Rattle.paxos_wire.specs.declared.ballot.Ballot.{Ballot}
use Rattle.match_file.specs.Identities.{life_text}
use Rattle.node_runs.specs.declared.kept_peer.KeptPeer.{KeptPeer}

-- spaces alone
abbrev pub AreSpaces : List ℕ → Type 0
AreSpaces text = AllByRecursion (λ byte. byte ≡ 32) text

-- spaces were put behind a text
pub record IsSpaced (new old : List ℕ) : Type 0 where
  pub spaces : List ℕ
  pub are : AreSpaces spaces
  pub form : new ≡ old ++ spaces

-- a ballot as its round and its node
abbrev pub ballot_text : Ballot → List ℕ
ballot_text ballot = decimal ballot.round ++ 46 ∷ decimal ballot.node

-- a line that says a ballot, filled up with spaces
pub record IsPromised (line : List ℕ) (ballot : Ballot) : Type 0 where
  pub spaces : List ℕ
  pub are : AreSpaces spaces
  pub form : line ≡ codes "promised" ++ 32 ∷ (ballot_text ballot ++ 32 ∷ (spaces ++ 10 ∷ []))

-- spaces alone stand before its end, and nothing behind it
abbrev pub IsEnd : (spaces rest : List ℕ) → Type 0
IsEnd spaces rest = AreSpaces spaces × (rest ≡ [])

-- what its parts are but for the ballot
abbrev pub IsLine : (word spaces rest : List ℕ) → Type 0
IsLine word spaces rest = (word ≡ codes "promised") × IsEnd spaces rest

-- such a line was put behind a text
pub record IsLined (new old : List ℕ) (ballot : Ballot) : Type 0 where
  pub line : List ℕ
  pub says : IsPromised line ballot
  pub form : new ≡ old ++ line

-- what stands behind the first line: nothing, or the ballot
abbrev pub Says : List ℕ → Option Ballot → Type 0
Says behind None = behind ≡ []
Says behind (Some ballot) = IsPromised behind ballot

-- a text says this of a peer's store
pub record IsKeptPeer (text : List ℕ) (kept : KeptPeer) : Type 0 where
  pub behind : List ℕ
  pub form : text ≡ life_text kept.life.bytes ++ behind
  pub says : Says behind kept.promised

-- a ballot whose parts are no larger than they may be
pub record IsBallot (ballot : Ballot) : Type 0 where
  pub round : ballot.round < 2 ^ 32
  pub node : ballot.node < 256

-- bytes, as many as there must be, and such a ballot, if one is known
pub record IsKept (kept : KeptPeer) : Type 0 where
  pub life_bytes : IsBytes kept.life.bytes
  pub life_length : length kept.life.bytes ≡ 16
  pub promised : IfSome kept.promised IsBallot
