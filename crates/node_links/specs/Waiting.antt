-- What waits for a peer, what of it stays, and what goes next.
use Rattle.std.specs.Prelude.{◌≡◌, ◌⊎◌, ℕ, ◌-◌, ◌==◌, ◌||◌, not, Bool, false, if◌then◌else◌, List, [], ◌∷◌, ◌++◌, length, drop, Option, Some, None, is_some}
use Rattle.paxos_wire.specs.declared.ballot.Ballot.{Ballot}
use Rattle.peer_codes.specs.declared.beat.Beat.{Beat}
use Rattle.peer_codes.specs.declared.frame.Frame.{Frame}
use Rattle.peer_codes.specs.declared.more.More.{More}
use Rattle.peer_codes.specs.declared.version.Version.{Version}
use Rattle.peer_codes.specs.declared.version.Version.TheVariants.{First, Second}
use Rattle.peer_codes.specs.declared.records.Record.{Record}
use Rattle.peer_codes.specs.declared.records.Record.TheVariants as record_of
use Rattle.node_links.specs.declared.lives.Lives.{Lives}
use Rattle.node_links.specs.declared.settings.Settings.{Settings}
use Rattle.node_links.specs.Lives.{lives_more}
use Rattle.node_links.specs.Promising.{promised_more}
use Rattle.node_links.specs.Telling.{settings_more}
use Rattle.node_links.specs.Waits.{Waits}

-- the last so many of these
abbrev pub newest : {A : Type 0} → ℕ → List A → List A
newest most all = drop (length all - most) all

-- a frame waits behind the newest of the others, so that no more than so many wait; without memory it is dropped
abbrev pub Puts : Frame → ℕ → Waits → Bool → Waits → Type 0
Puts frame most old there new = new ≡ record old { frames = newest (most - 1) old.frames ++ (if there then frame ∷ [] else []) }

-- a record of a further kind waits that may be said on a connection of this version
abbrev pub has_more : Version → Waits → Bool
has_more First w = false
has_more Second w = is_some w.lives || is_some w.settings || is_some w.promised

-- something waits that may
abbrev pub has_next : Version → Waits → Bool
has_next version w = is_some w.beat || (has_more version w || not (length w.frames == 0))

abbrev pub first_of : List Frame → Option Frame
first_of [] = None
first_of (frame ∷ more) = Some frame

abbrev pub first_frame : List Frame → Option Record
first_frame [] = None
first_frame (frame ∷ more) = Some (record_of.Frame frame)

-- the lives go before the settings, and those before the ballot
abbrev pub further_by : Option Lives → Option Settings → Option Ballot → Option More
further_by (Some lives) settings promised = Some (lives_more lives)
further_by None (Some settings) promised = Some (settings_more settings)
further_by None None (Some ballot) = Some (promised_more ballot)
further_by None None None = None

-- behind Hellos of the first version none goes
abbrev pub more_of : Version → Waits → Option More
more_of First w = None
more_of Second w = further_by w.lives w.settings w.promised

abbrev pub more_record : Option More → Option Record
more_record None = None
more_record (Some more) = Some (record_of.More more)

abbrev pub without_further : Option Lives → Option Settings → Waits → Waits
without_further (Some lives) settings w = record w { lives = None }
without_further None (Some settings) w = record w { settings = None }
without_further None None w = record w { promised = None }

abbrev pub without_more : Version → Waits → Waits
without_more First w = w
without_more Second w = without_further w.lives w.settings w

abbrev pub next_behind : Option More → List Frame → Option Record
next_behind (Some more) frames = Some (record_of.More more)
next_behind None frames = first_frame frames

abbrev pub rest_behind : Option More → Version → Waits → Waits
rest_behind (Some more) version w = without_more version w
rest_behind None version w = record w { frames = drop 1 w.frames }

abbrev pub next_by : Option Beat → Version → Waits → Option Record
next_by (Some beat) version w = Some (record_of.Beat beat)
next_by None version w = next_behind (more_of version w) w.frames

abbrev pub rest_by : Option Beat → Version → Waits → Waits
rest_by (Some beat) version w = record w { beat = None }
rest_by None version w = rest_behind (more_of version w) version w

-- the beat goes first, then lives, settings and the ballot, and then the oldest frame
abbrev pub next_of : Version → Waits → Option Record
next_of version w = next_by w.beat version w

-- what waits behind it
abbrev pub rest_of : Version → Waits → Waits
rest_of version w = rest_by w.beat version w

-- what waits once a record could be begun: all that did, or what waits behind the next
abbrev pub IsBegun : Waits → Waits → Type 0
IsBegun old new = (new ≡ old) ⊎ ((version : Version) × (new ≡ rest_of version old))
