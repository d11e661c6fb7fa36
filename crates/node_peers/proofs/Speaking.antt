-- What calls of a connection leave of what is written over its line.
use Rattle.std.proofs.Common.{◌≡◌, ◌⊎◌, inl, inr, ℕ, true, false, List, [], ◌∷◌, ◌++◌, take, append_assoc, append-nil, Option, Some, None, refl, sym, ap, subst, ◌∙◌}
use Rattle.std.proofs.Math.Logic.{∥∥₁_map}
use Rattle.peer_codes.specs.declared.frame.Frame.{Frame}
use Rattle.peer_codes.specs.declared.hello.Hello.{Hello}
use Rattle.node_links.specs.declared.connection.Connection.{Connection}
use Rattle.node_links.specs.declared.own.Own.{Own}
use Rattle.node_links.specs.Going.{unwritten_of, peer_of}
use Rattle.node_links.specs.Speaking.{Given, OwnHello, FrameFor, frames_for, Spoke, SpeaksOn, SpeaksOnWith, SpeaksOnWritten, SpeaksAs, SpeaksOf}
use Rattle.node_links.specs.Talks.{Talk}
use Rattle.node_wires.specs.declared.line.Line.TheVariants.{Peer as ToPeer}
use Rattle.node_wires.specs.Passages.{Passage, Wrote}
use Rattle.node_peers.specs.declared.link.Link.{Link}
use Rattle.node_peers.specs.Greeting.{IsOurs}
use Rattle.node_peers.specs.Handing.{Among, Is, AreFor}
use Rattle.node_peers.specs.Speaking.{AreAllowed, IsUnspoken, SpeaksBy, Speaks, SpokenBy, IsSpoken}

-- ---- what may be said

allowed_more : (own : Own) (sent more : List Passage) (still : (one : Passage) → Is one sent → Is one (sent ++ more)) (given : List Given) → AreAllowed own sent given → AreAllowed own (sent ++ more) given
allowed_more own sent more still [] are = tt
allowed_more own sent more still (OwnHello hello ∷ given) are = (are.0, allowed_more own sent more still given are.1)
allowed_more own sent more still (FrameFor to bytes ∷ given) are = (∥∥₁_map are.0 (λ is. still (Wrote (ToPeer to) bytes) is), allowed_more own sent more still given are.1)

is_still : (sent more : List Passage) (one : Passage) → Is one sent → Is one (sent ++ more)
is_still [] more one is = absurd is
is_still (first ∷ sent) more one (inl here) = inl here
is_still (first ∷ sent) more one (inr there) = inr (is_still sent more one there)

-- frames that were handed to the node at the other end
handed_allowed : (own : Own) (sent : List Passage) (to : ℕ) (frames : List Frame) (given : List Given) → ((bytes : List ℕ) → Among bytes frames → ∥ Is (Wrote (ToPeer to) bytes) sent ∥₁) → AreAllowed own sent given
    → AreAllowed own sent (frames_for (Some to) frames given)
handed_allowed own sent to [] given handed are = are
handed_allowed own sent to (frame ∷ more) given handed are = (handed frame.bytes.items (inl refl), handed_allowed own sent to more given (λ bytes among. handed bytes (inr among)) are)

frames_allowed : (own : Own) (sent : List Passage) (peer : Option ℕ) (frames : List Frame) (given : List Given) → AreFor peer sent frames → AreAllowed own sent given → AreAllowed own sent (frames_for peer frames given)
frames_allowed own sent None frames given for are = are
frames_allowed own sent (Some to) frames given for are = handed_allowed own sent to frames given (λ bytes among. for.handed to bytes refl among) are

-- ---- by one call

-- more was handed over, and the connection spoke on by it
by_more : (own : Own) (sent : List Passage) (talk talk_new : Talk) (old new : Link) (by : SpeaksBy own sent talk old) (given : List Given) (lost : List ℕ) (heard : List ℕ) → AreAllowed own sent given → talk_new.came ≡ heard ++ lost → (new.is_lost ≡ false → lost ≡ [])
    → Spoke given own (record talk_new { came = heard }) new.connection → SpeaksBy own sent talk_new new
by_more own sent talk talk_new old new by given lost heard allowed came whole spoke = record { given = given; allowed = allowed; heard = heard; lost = lost; came = came; whole = whole; spoke = spoke }

pub speaks_on : (old new : Link) → new.is_lost ≡ old.is_lost → SpeaksOn old.connection new.connection → (own : Own) (sent : List Passage) (talk : Talk) → Speaks own sent talk (Some old) → Speaks own sent talk (Some new)
speaks_on old new lost speaks own sent talk is =
    ∥∥₁_map is (λ by. by_more own sent talk talk old new by by.given by.lost by.heard by.allowed by.came (λ e. by.whole (sym lost ∙ e)) (speaks by.given own (record talk { came = by.heard }) by.spoke))

pub speaks_still : (old new : Connection) → new ≡ old → SpeaksOn old new
speaks_still old new e given own talk spoke = subst (λ (c : Connection). Spoke given own talk c) (sym e) spoke

pub speaks_as : (old new : Link) (mine : Hello) → new.is_lost ≡ old.is_lost → SpeaksAs old.connection new.connection mine → (own : Own) (sent : List Passage) (talk : Talk) → IsOurs own mine → Speaks own sent talk (Some old) → Speaks own sent talk (Some new)
speaks_as old new mine lost speaks own sent talk ours is =
    ∥∥₁_map is (λ by. by_more own sent talk talk old new by (OwnHello mine ∷ by.given) by.lost by.heard (ours, by.allowed) by.came (λ e. by.whole (sym lost ∙ e)) (speaks by.given own (record talk { came = by.heard }) by.spoke))

pub speaks_of : (old new : Link) (frames : List Frame) → new.is_lost ≡ old.is_lost → SpeaksOf old.connection new.connection (peer_of old.connection) frames → (own : Own) (sent : List Passage) (talk : Talk) → AreFor (peer_of old.connection) sent frames
    → Speaks own sent talk (Some old) → Speaks own sent talk (Some new)
speaks_of old new frames lost speaks own sent talk are is =
    ∥∥₁_map is (λ by. by_more own sent talk talk old new by (frames_for (peer_of old.connection) frames by.given) by.lost by.heard (frames_allowed own sent (peer_of old.connection) frames by.given are by.allowed) by.came
    (λ e. by.whole (sym lost ∙ e)) (speaks by.given own (record talk { came = by.heard }) by.spoke))

pub speaks_written : (old new : Link) (count : ℕ) → new.is_lost ≡ old.is_lost → SpeaksOnWritten old.connection new.connection count → (own : Own) (sent : List Passage) (talk : Talk) → Speaks own sent talk (Some old)
    → Speaks own sent (record talk { wrote = talk.wrote ++ take count (unwritten_of old.connection) }) (Some new)
speaks_written old new count lost speaks own sent talk is =
    ∥∥₁_map is (λ by. by_more own sent talk (record talk { wrote = talk.wrote ++ take count (unwritten_of old.connection) }) old new by by.given by.lost by.heard by.allowed by.came (λ e. by.whole (sym lost ∙ e))
    (speaks by.given own (record talk { came = by.heard }) by.spoke))

-- a piece was lost
pub speaks_lost : (old new : Link) (piece : List ℕ) → new.is_lost ≡ true → new.connection ≡ old.connection → (own : Own) (sent : List Passage) (talk : Talk) → Speaks own sent talk (Some old) → Speaks own sent (record talk { came = talk.came ++ piece }) (Some new)
speaks_lost old new piece lost same own sent talk is =
    ∥∥₁_map is (λ by. by_more own sent talk (record talk { came = talk.came ++ piece }) old new by by.given (by.lost ++ piece) by.heard by.allowed (ap (λ (t : List ℕ). t ++ piece) by.came ∙ append_assoc by.heard by.lost piece)
    (λ e. let no : true ≡ false = sym lost ∙ e in absurd cc) (subst (λ (c : Connection). Spoke by.given own (record talk { came = by.heard }) c) (sym same) by.spoke))

-- or taken in
pub speaks_taken : (old new : Link) (piece : List ℕ) → old.is_lost ≡ false → SpeaksOnWith old.connection new.connection piece → (own : Own) (sent : List Passage) (talk : Talk) → Speaks own sent talk (Some old)
    → Speaks own sent (record talk { came = talk.came ++ piece }) (Some new)
speaks_taken old new piece whole speaks own sent talk is =
    ∥∥₁_map is (λ by. by_more own sent talk (record talk { came = talk.came ++ piece }) old new by by.given [] (by.heard ++ piece) by.allowed
    (ap (λ (t : List ℕ). t ++ piece) (by.came ∙ (ap (λ (t : List ℕ). by.heard ++ t) (by.whole whole) ∙ append-nil by.heard)) ∙ sym (append-nil (by.heard ++ piece))) (λ e. refl)
    (speaks by.given own (record talk { came = by.heard }) by.spoke))

pub speaks_fresh : (own : Own) (sent : List Passage) (talk : Talk) (link : Link) → IsUnspoken own talk link.connection → Speaks own sent talk (Some link)
speaks_fresh own sent talk link is = ∣ (record { given = is.0; allowed = is.1 sent; heard = talk.came; lost = []; came = sym (append-nil talk.came); whole = λ e. refl; spoke = is.2 }) ∣₁

by_sent : (own : Own) (sent more : List Passage) (talk : Talk) (link : Link) → SpeaksBy own sent talk link → SpeaksBy own (sent ++ more) talk link
by_sent own sent more talk link by = record { given = by.given; allowed = allowed_more own sent more (is_still sent more) by.given by.allowed; heard = by.heard; lost = by.lost; came = by.came; whole = by.whole; spoke = by.spoke }

pub speaks_more : (own : Own) (sent more : List Passage) (talk : Talk) (link : Option Link) → Speaks own sent talk link → Speaks own (sent ++ more) talk link
speaks_more own sent more talk (Some link) is = ∥∥₁_map is (λ by. by_sent own sent more talk link by)
speaks_more own sent more talk None is = ∥∥₁_map is (λ either. elim either as (λ _. (talk.wrote ≡ []) ⊎ ((link : Link) × SpeaksBy own (sent ++ more) talk link)) [
  | inl none ↦ inl none
  | inr (link, by) ↦ inr (link, by_sent own sent more talk link by)
])

-- ---- without the connection that is there

spoken_by : (own : Own) (sent : List Passage) (talk : Talk) (link : Link) → SpeaksBy own sent talk link → SpokenBy own sent talk
spoken_by own sent talk link by = record { given = by.given; allowed = by.allowed; heard = by.heard; lost = by.lost; came = by.came; connection = link.connection; spoke = by.spoke }

pub is_spoken : (own : Own) (sent : List Passage) (talk : Talk) (link : Option Link) → Speaks own sent talk link → IsSpoken own sent talk
is_spoken own sent talk (Some link) is = ∥∥₁_map is (λ by. inr (spoken_by own sent talk link by))
is_spoken own sent talk None is = ∥∥₁_map is (λ either. elim either as (λ _. (talk.wrote ≡ []) ⊎ SpokenBy own sent talk) [
  | inl none ↦ inl none
  | inr (link, by) ↦ inr (spoken_by own sent talk link by)
])
