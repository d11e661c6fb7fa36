-- Which lives and settings wait for peers once they are told.
use Rattle.std.specs.Prelude.{◌≡◌, ℕ, ◌<◌, ◌≤◌, ◌&&◌, Bool, true, false, List, length, get_or, Option, Some, None, is_some}
use Rattle.node_links.specs.declared.limits.TheConstants.{NODES}
use Rattle.node_links.specs.declared.lives.Lives.{Lives}
use Rattle.node_links.specs.declared.settings.Settings.{Settings}
use Rattle.node_peers.specs.declared.peer.Peer.{Peer}
use Rattle.node_peers.specs.Handing.{GoBack}

-- lives go over an open connection of the second version
abbrev pub takes_lives : Peer → Bool
takes_lives peer = is_some peer.open && peer.takes_more

-- settings wait where no lives were told over the connection yet
abbrev pub settings_first : Option Lives → Option Settings → Option Settings → Option Settings
settings_first None (Some settings) waiting = Some settings
settings_first None None waiting = waiting
settings_first (Some lives) settings waiting = waiting

-- these lives wait, as the last that were told, and before the first of them these settings
abbrev pub informed : Lives → Option Settings → Peer → Peer
informed lives settings peer = record peer { lives_told = Some lives; outbox = record peer.outbox { lives = Some lives; settings = settings_first peer.lives_told settings peer.outbox.settings } }

pub data IsInformed (lives : Lives) (settings : Option Settings) (old new : Peer) : Type 0 where
  informs : new ≡ informed lives settings old → IsInformed lives settings old new
  -- some were told already
  again : is_some old.lives_told ≡ true → new ≡ old → IsInformed lives settings old new
  never : takes_lives old ≡ false → new ≡ old → IsInformed lives settings old new

-- the same of the first so many peers, and of the others nothing changed
pub record Informed (count : ℕ) (lives : Lives) (settings : Option Settings) (old new : List Peer) : Type 0 where
  pub size : length new ≡ length old
  pub told : (number : ℕ) (nobody : Peer) → number < count → number < length old → IsInformed lives settings (get_or old number nobody) (get_or new number nobody)
  pub others : (number : ℕ) (nobody : Peer) → count ≤ number → get_or new number nobody ≡ get_or old number nobody

-- first it is told how this node is, and then these lives
abbrev pub AreInformed : Lives → Option Settings → List Peer → List Peer → Type 0
AreInformed lives settings old new = (between : List Peer) × (GoBack old between × Informed NODES lives settings between new)
