-- The peers of a process, and what it has to tell of them.
use Rattle.std.specs.Prelude.{◌≡◌, ◌⊎◌, ℕ, Bool, true, false, List, [], ◌∷◌, ◌++◌, Option, Some, None}
use Rattle.std.specs.declared.net.ip_addr.IpAddr.{IpAddr}
use Rattle.peer_codes.specs.declared.hello.Life.{Life}
use Rattle.node_links.specs.declared.peer_fault.PeerFault.TheVariants as faults
use Rattle.node_links.specs.declared.peer_fault.Whose.TheVariants.{Own}
use Rattle.node_wires.specs.Passages.{Passage}
use Rattle.node_links.specs.declared.own.Own.{Own as OwnNode}
use Rattle.node_peers.specs.declared.notice.Notice.{Notice}
use Rattle.node_peers.specs.declared.notice.Notice.TheVariants as notices
use Rattle.node_peers.specs.declared.peers.Peers.{Peers}
use Rattle.node_peers.specs.Hearing.{AreTold}
use Rattle.node_peers.specs.Peering.{own_of, passed_of}
use Rattle.node_service.specs.declared.server_notice.ServerNotice.{ServerNotice}
use Rattle.node_service.specs.declared.server_notice.ServerNotice.TheVariants as tells

-- ---- nodes that are told to be there

-- the notice of the peers that is behind what is told, where a node is told to be there
abbrev pub joined_by : ServerNotice → List Notice
joined_by (tells.Joined peer life) = notices.Joined peer life ∷ []
joined_by other = []

abbrev pub joined_in : List ServerNotice → List Notice
joined_in [] = []
joined_in (thing ∷ more) = joined_by thing ++ joined_in more

-- where a node is told to be there the peers tell so: it opened a connection by its Hello, and a life that is told with it is the one of that Hello
abbrev pub IsShown : OwnNode → List Passage → ServerNotice → Type 0
IsShown own lines thing = AreTold own lines (joined_by thing)

abbrev pub AreShown : OwnNode → List Passage → List ServerNotice → Type 0
AreShown own lines told = AreTold own lines (joined_in told)

-- ---- what ends a process

-- the peers told that a connection was closed since its peer keeps another life of this node's store
abbrev pub TellsReplaced : Option Notice → Type 0
TellsReplaced told = (peer : ℕ) × ((source : Option IpAddr) × (told ≡ Some (notices.Refused peer (faults.StoreReplaced Own) source)))

-- the peers told that this node's store is an older copy: one has heard of a greater ballot that it had promised
abbrev pub TellsOlder : Option Notice → Type 0
TellsOlder told = (peer : ℕ) × ((source : Option IpAddr) × (told ≡ Some (notices.Refused peer (faults.StoreOlder Own) source)))

-- a life that was to be kept isn't told
abbrev pub LosesLife : (lost_before lost_after : Bool) → (told_before told_after : List ServerNotice) → ServerNotice → Type 0
LosesLife lost_before lost_after before after thing =
    (lost_after ≡ lost_before) ⊎ ((after ≡ before) × ((peer : ℕ) × ((life : Life) × (thing ≡ tells.Joined peer (Some life)))))

-- this is told behind the rest; where it can't be, and it is a life that is to be kept, that is noted
abbrev pub TellsOrLoses : (is_told : Bool) → (told_before told_after : List ServerNotice) → ServerNotice → (lost : Bool) → Type 0
TellsOrLoses true before after thing lost = after ≡ before ++ thing ∷ []
TellsOrLoses false before after thing lost = (peer : ℕ) → (life : Life) → thing ≡ tells.Joined peer (Some life) → lost ≡ true

-- a life that is to be kept is told, or that it couldn't be is noted
abbrev pub TellsLife : ℕ → Option Life → (told_before told_after : List ServerNotice) → (lost : Bool) → Type 0
TellsLife peer None before after lost = Unit {0}
TellsLife peer (Some life) before after lost = (after ≡ before ++ tells.Joined peer (Some life) ∷ []) ⊎ (lost ≡ true)

-- ---- peers

-- they are peers of the same node, and what had passed over their lines has, maybe with more behind it
pub record Hears (own_old own_new : OwnNode) (old new : List Passage) : Type 0 where
  pub own : own_new ≡ own_old
  pub more : List Passage
  pub lines : new ≡ old ++ more

abbrev pub HearsOn : Peers → Peers → Type 0
HearsOn old new = Hears (own_of old) (own_of new) (passed_of old) (passed_of new)

-- ---- a law

-- what is shown stays so, also while more passes, and so it is with one thing more behind it that is shown
pub record ShownStays : Type 0 where
  pub on : (own_old own_new : OwnNode) (old new : List Passage) (told : List ServerNotice) → Hears own_old own_new old new → AreShown own_old old told → AreShown own_new new told
  pub and_one : (own : OwnNode) (lines : List Passage) (told : List ServerNotice) (thing : ServerNotice) → AreShown own lines told → IsShown own lines thing → AreShown own lines (told ++ thing ∷ [])
