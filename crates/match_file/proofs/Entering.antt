-- What is told to a node of the first entry that is wrong.
use Rattle.std.proofs.Common.{ℕ, sym, subst}
use Rattle.toml.specs.Data.{Members}
use Rattle.match_file.specs.declared.key.Key.{Key}
use Rattle.match_file.specs.declared.key.Key.TheVariants.{Name, Game as GameKey, Hands, Names, Node, Stores, Logs, Port, Outage, Away, KeyFile, Peers, Seats, Status, From, Tokens, Patience, Start}
use Rattle.match_file.specs.declared.match_fault.MatchFault.{MatchFault}
use Rattle.match_file.specs.declared.match_fault.MatchFault.TheVariants.{NotToml, BadEntry, Game, Unreadable, OutOfMemory}
use Rattle.match_file.specs.Said.{IsThere}
use Rattle.match_file.specs.Refusals.{IsToldOf}
use Rattle.match_file.specs.Absences.{SaysAway}
use Rattle.match_file.specs.Addresses.{IsUnreached}
use Rattle.match_file.specs.NodeEntries.{SaysKey, HasFolders, IsUnrun}

-- of where nodes are reached, to one whose folders, entry of absent seats and key are right
pub unrun : (players : ℕ) (entries : Members) (fault : MatchFault) → HasFolders entries → IsThere (SaysAway entries) → IsThere (SaysKey entries) → IsUnreached players entries fault → IsUnrun players entries fault
unrun players entries NotToml folders away key told = absurd told
unrun players entries (BadEntry Name) folders away key told = absurd told
unrun players entries (BadEntry GameKey) folders away key told = absurd told
unrun players entries (BadEntry Hands) folders away key told = absurd told
unrun players entries (BadEntry Names) folders away key told = absurd told
unrun players entries (BadEntry Node) folders away key told = absurd told
unrun players entries (BadEntry Stores) folders away key told = absurd told
unrun players entries (BadEntry Logs) folders away key told = absurd told
unrun players entries (BadEntry Port) folders away key told = absurd told
unrun players entries (BadEntry Outage) folders away key told = absurd told
unrun players entries (BadEntry Away) folders away key told = absurd told
unrun players entries (BadEntry KeyFile) folders away key told = absurd told
unrun players entries (BadEntry Peers) folders away key told = (folders, away, key, told)
unrun players entries (BadEntry Seats) folders away key told = (folders, away, key, told)
unrun players entries (BadEntry Status) folders away key told = (folders, away, key, told)
unrun players entries (BadEntry From) folders away key told = (folders, away, key, told)
unrun players entries (BadEntry Tokens) folders away key told = absurd told
unrun players entries (BadEntry Patience) folders away key told = absurd told
unrun players entries (BadEntry Start) folders away key told = absurd told
unrun players entries (Game fault) folders away key told = absurd told
unrun players entries Unreadable folders away key told = absurd told
unrun players entries OutOfMemory folders away key told = tt

-- of one entry, in front of which all is right
pub unrun_by : (key : Key) (Wrong : Type 0) (players : ℕ) (entries : Members) (fault : MatchFault) → (Wrong → IsUnrun players entries (BadEntry key)) → IsToldOf key Wrong fault → IsUnrun players entries fault
unrun_by key Wrong players entries NotToml is told = absurd told
unrun_by key Wrong players entries (BadEntry other) is told = subst (λ (k : Key). IsUnrun players entries (BadEntry k)) (sym told.0) (is told.1)
unrun_by key Wrong players entries (Game fault) is told = absurd told
unrun_by key Wrong players entries Unreadable is told = absurd told
unrun_by key Wrong players entries OutOfMemory is told = tt
