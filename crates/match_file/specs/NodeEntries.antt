-- What a node reads that runs in a process of its own, and why a match file is refused to it.
use Rattle.std.specs.Prelude.{◌≡◌, ℕ, List, Option}
use Rattle.std.specs.declared.net.socket_addr.SocketAddr.{SocketAddr}
use Rattle.toml.specs.Data.{Members, string}
use Rattle.match_file.specs.declared.key.Key.TheVariants.{Stores, Logs, Away, KeyFile, Peers, Seats, Tokens, Patience, Start}
use Rattle.match_file.specs.declared.match_fault.MatchFault.{MatchFault}
use Rattle.match_file.specs.declared.match_fault.MatchFault.TheVariants.{BadEntry, OutOfMemory}
use Rattle.match_file.specs.Said.{IsAbsent, IsThere, SaysIfThere}
use Rattle.match_file.specs.Matches.{entry_at, SaysFolder}
use Rattle.match_file.specs.Absences.{SaysAway}
use Rattle.match_file.specs.Hosts.{SaysFroms}
use Rattle.match_file.specs.Addresses.{SaysAddresses, SaysStatuses, IsUnreached}
use Rattle.match_file.specs.Tokens.{SaysTokens}
use Rattle.match_file.specs.Times.{SaysTime}

-- the file of the nodes' key, where they share one
abbrev pub SaysKey : Members → Option (List ℕ) → Type 0
SaysKey table path = SaysIfThere (λ entry text. entry ≡ string text) (entry_at KeyFile table) path

-- both folders are right
abbrev pub HasFolders : Members → Type 0
HasFolders table = IsThere (SaysFolder Stores table) × IsThere (SaysFolder Logs table)

-- and so is all in front of the tokens; the seats are reached here
pub record IsReached (players : ℕ) (table : Members) (seats : List SocketAddr) : Type 0 where
  pub folders : HasFolders table
  pub away : IsThere (SaysAway table)
  pub key : IsThere (SaysKey table)
  pub peers : IsThere (SaysAddresses Peers 1 table)
  pub seats_of : SaysAddresses Seats players table seats
  pub status : IsThere (SaysStatuses table)
  pub from : IsThere (SaysFroms table)

-- of the folders, what is done about absent seats, the key, where nodes and seats are reached, the tokens and the times,
-- for so many players; or memory was refused
abbrev pub IsUnrun : ℕ → Members → MatchFault → Type 0
IsUnrun players table (BadEntry Stores) = IsAbsent (SaysFolder Stores table)
IsUnrun players table (BadEntry Logs) = IsThere (SaysFolder Stores table) × IsAbsent (SaysFolder Logs table)
IsUnrun players table (BadEntry Away) = HasFolders table × IsAbsent (SaysAway table)
IsUnrun players table (BadEntry KeyFile) = HasFolders table × IsThere (SaysAway table) × IsAbsent (SaysKey table)
IsUnrun players table (BadEntry Tokens) = (seats : List SocketAddr) × IsReached players table seats × IsAbsent (SaysTokens players seats table)
IsUnrun players table (BadEntry Patience) =
    (seats : List SocketAddr) × IsReached players table seats × IsThere (SaysTokens players seats table) × IsAbsent (SaysTime Patience table)
IsUnrun players table (BadEntry Start) =
    (seats : List SocketAddr) × IsReached players table seats × IsThere (SaysTokens players seats table) × IsThere (SaysTime Patience table)
    × IsAbsent (SaysTime Start table)
IsUnrun players table OutOfMemory = Unit {0}
IsUnrun players table fault = HasFolders table × IsThere (SaysAway table) × IsThere (SaysKey table) × IsUnreached players table fault
