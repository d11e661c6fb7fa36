-- What becomes of frames that wait to be told: why one is left out, and which are set aside.
use Rattle.std.specs.Prelude.{◌≡◌, ◌≢◌, ◌⊎◌, ◌<◌, ℕ, Bool, true, false, List, [], ◌∷◌, ◌++◌, set, get_or, slice_get, Option, Some, None, IfSome}
use Rattle.peer_codes.specs.declared.beat.Beat.{Beat}
use Rattle.peer_codes.specs.declared.frame.Frame.{Frame}
use Rattle.node_links.specs.declared.limits.TheConstants.{NODES}
use Rattle.node_links.specs.declared.owed.Question.{Question}
use Rattle.node_links.specs.declared.owed.Subject.{Subject}
use Rattle.node_links.specs.declared.own.Known.TheVariants.{Two}
use Rattle.node_links.specs.declared.own.Own.{Own}
use Rattle.node_links.specs.Owing.{question_in}
use Rattle.node_peers.specs.declared.asking.Fate.{Fate}
use Rattle.node_peers.specs.declared.asking.Fate.TheVariants as fates
use Rattle.node_peers.specs.declared.asking.Ready.{Ready}
use Rattle.node_peers.specs.declared.link.Link.{Link}
use Rattle.node_peers.specs.declared.notice.Notice.{Notice}
use Rattle.node_peers.specs.declared.notice.Notice.TheVariants as notices
use Rattle.node_peers.specs.declared.peer.Peer.{Peer}
use Rattle.node_peers.specs.declared.peers.Peers.{Peers}
use Rattle.node_peers.specs.Asking.{IsDue, is_outdated, is_needless, question_at, unread_in}
use Rattle.node_peers.specs.Knowing.{known_of}

-- ---- what waits

abbrev pub waits_of : Peers → List Notice
waits_of peers = peers.lines.notices.items

-- the frame that is set aside of each peer, by its number
abbrev pub aside_of : Peers → List (Option Frame)
aside_of peers = peers.lines.aside.frames.items

-- the newest Prepare or Accept that was read of each
abbrev pub newest_of : Peers → List (Option Subject)
newest_of peers = peers.lines.aside.newest

abbrev pub listed : Option Notice → List Notice
listed None = []
listed (Some notice) = notice ∷ []

-- ---- what is taken of it

-- a frame of a node of which two lives are known, or a Prepare or an Accept of a peer of which a newer one was read
pub data IsLeftOut (own : Own) (peers : List Peer) (newest : List (Option Subject)) (from : ℕ) (frame : Frame) : Type 0 where
  of_two : known_of own from peers ≡ Two → IsLeftOut own peers newest from frame
  outdated : (question : Question) → question_in frame.bytes.items ≡ Some question → is_outdated (get_or newest from None) question ≡ true → IsLeftOut own peers newest from frame

-- a Prepare or an Accept of a peer, of which no newer one was read
pub record IsNewest (newest : List (Option Subject)) (from : ℕ) (frame : Frame) : Type 0 where
  pub question : Question
  pub asks : question_in frame.bytes.items ≡ Some question
  pub newest_is : is_outdated (get_or newest from None) question ≡ false
  pub within : from < NODES

-- a frame isn't an Accept for a slot above this front
abbrev pub IsInTime : ℕ → ℕ → Frame → Type 0
IsInTime front from frame = (question : Question) → question_in frame.bytes.items ≡ Some question → from < NODES → IsDue front question

-- what becomes of a frame is what may become of it
abbrev pub FateIs : Fate → Own → List Peer → List (Option Subject) → ℕ → ℕ → Frame → Type 0
FateIs fates.Told own peers newest front from frame = (known_of own from peers ≢ Two) × IsInTime front from frame
FateIs fates.LeftOut own peers newest front from frame = IsLeftOut own peers newest from frame
FateIs fates.SetAside own peers newest front from frame = IsNewest newest from frame

-- the peers, what waits and what was read stay
pub record KeepsAll (old new : Peers) : Type 0 where
  pub peers : new.peers ≡ old.peers
  pub waits : waits_of new ≡ waits_of old
  pub newest : newest_of new ≡ newest_of old
  pub front : new.own_front ≡ old.own_front

abbrev pub IsNoticeInTime : ℕ → Notice → Type 0
IsNoticeInTime front (notices.Frame from frame) = IsInTime front from frame
IsNoticeInTime front (notices.Joined peer life) = Unit {0}
IsNoticeInTime front (notices.Gone peer) = Unit {0}
IsNoticeInTime front (notices.Refused peer fault source) = Unit {0}
IsNoticeInTime front (notices.Unreached peer refuses) = Unit {0}
IsNoticeInTime front (notices.Strangers peer count fault) = Unit {0}
IsNoticeInTime front (notices.Settings peer settings) = Unit {0}

-- a notice whose turn has come is told, but no Accept above the front; or it is left out, or set aside in place of an older one
pub data PassesOne (own : Own) (peers : List Peer) (newest : List (Option Subject)) (front : ℕ) (notice : Notice) (told : Option Notice) (old new : List (Option Frame)) : Type 0 where
  is_told : told ≡ Some notice → IsNoticeInTime front notice → new ≡ old → PassesOne own peers newest front notice told old new
  is_left_out : (from : ℕ) (frame : Frame) → notice ≡ notices.Frame from frame → IsLeftOut own peers newest from frame → told ≡ None → new ≡ old → PassesOne own peers newest front notice told old new
  is_set_aside : (from : ℕ) (frame : Frame) → notice ≡ notices.Frame from frame → IsNewest newest from frame → told ≡ None → new ≡ set old from (Some frame) → PassesOne own peers newest front notice told old new

-- of all that waited so much passed, none of which was told
pub data PassesOver (own : Own) (peers : List Peer) (newest : List (Option Subject)) (front : ℕ) (all : List Notice) (first : List (Option Frame)) : List Notice → List (Option Frame) → Type 0 where
  none : PassesOver own peers newest front all first all first
  one_more : (notice : Notice) (rest : List Notice) (old new : List (Option Frame)) → PassesOver own peers newest front all first (notice ∷ rest) old → PassesOne own peers newest front notice None old new → PassesOver own peers newest front all first rest new

-- and then one notice, where it is told
pub record Passes (own : Own) (peers : List Peer) (newest : List (Option Subject)) (front : ℕ) (all : List Notice) (first : List (Option Frame)) (told : Option Notice) (rest : List Notice) (last : List (Option Frame)) : Type 0 where
  pub over : PassesOver own peers newest front all first (listed told ++ rest) last
  pub in_time : IfSome told (IsNoticeInTime front)

-- ---- what is taken of those that are set aside

-- a frame is set aside there, of a node of which not two lives are known
abbrev pub MayBeTold : Own → List Peer → List (Option Frame) → Ready → Type 0
MayBeTold own peers frames ready = (get_or frames ready.from None ≢ None) × (known_of own ready.from peers ≢ Two)

-- one is told, and isn't set aside any more, or none is told
abbrev pub TakesAside : Option Notice → List (Option Frame) → List (Option Frame) → Type 0
TakesAside None old new = new ≡ old
TakesAside (Some (notices.Frame from frame)) old new = (get_or old from None ≡ Some frame) × (new ≡ set old from None)
TakesAside (Some (notices.Joined peer life)) old new = ⊥
TakesAside (Some (notices.Gone peer)) old new = ⊥
TakesAside (Some (notices.Refused peer fault source)) old new = ⊥
TakesAside (Some (notices.Unreached peer refuses)) old new = ⊥
TakesAside (Some (notices.Strangers peer count fault)) old new = ⊥
TakesAside (Some (notices.Settings peer settings)) old new = ⊥

abbrev pub beat_in : Option Peer → Option Beat
beat_in None = None
beat_in (Some peer) = peer.beat

-- a newer one was read, or its peer has told that it knows all for which it asks, or two lives of the peer are known
abbrev pub NeedsNoAnswer : Own → List Peer → List (Option Subject) → ℕ → Question → Type 0
NeedsNoAnswer own peers newest from question = (is_outdated (get_or newest from None) question ≡ true) ⊎ ((is_needless (beat_in (slice_get peers from)) question ≡ true) ⊎ (known_of own from peers ≡ Two))

abbrev pub NoneIsNeeded : Own → List Peer → List (Option Subject) → List (Option Frame) → Type 0
NoneIsNeeded own peers newest frames = (number : ℕ) → number < NODES → (question : Question) → question_at frames number ≡ Some question → NeedsNoAnswer own peers newest number question

-- nothing waits, and nothing may be there to be read
pub record IsQuiet (waits : List Notice) (links : List (Option Link)) : Type 0 where
  pub told : waits ≡ []
  pub read : (place : ℕ) → unread_in (get_or links place None) ≡ false
