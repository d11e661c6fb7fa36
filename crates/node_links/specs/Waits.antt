-- What waits for a peer.
use Rattle.std.specs.Prelude.{List, Option}
use Rattle.paxos_wire.specs.declared.ballot.Ballot.{Ballot}
use Rattle.peer_codes.specs.declared.beat.Beat.{Beat}
use Rattle.peer_codes.specs.declared.frame.Frame.{Frame}
use Rattle.node_links.specs.declared.lives.Lives.{Lives}
use Rattle.node_links.specs.declared.settings.Settings.{Settings}

-- the newest beat, the newest lives, the settings, a ballot that the peer promised, and frames, the oldest first
pub record Waits : Type 0 where
  pub beat : Option Beat
  pub lives : Option Lives
  pub settings : Option Settings
  pub promised : Option Ballot
  pub frames : List Frame
