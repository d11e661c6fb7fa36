-- What a frame that is sent leaves of what waits.
use Rattle.std.proofs.Common.{◌≡◌, ℕ, ◌-◌, ◌<◌, Bool, true, false, if◌then◌else◌, List, [], ◌∷◌, ◌++◌, append-nil, get_or, set, length, refl, ap, sym, subst, ◌∙◌}
use Rattle.std.proofs.lemmas.List.{get_or-set_same, get_or-set_other, get_or_default}
use Rattle.peer_codes.specs.declared.frame.Frame.{Frame}
use Rattle.node_links.specs.Waits.{Waits}
use Rattle.node_links.specs.Waiting.{newest, Puts}
use Rattle.node_peers.specs.declared.peer.Peer.{Peer}
use Rattle.node_peers.specs.Sending.{IsSent, waits, unkept, dropped, Sends}

put_by : (there : Bool) (frame : Frame) (most : ℕ) (bytes : List ℕ) (old new : List Frame) → frame.bytes.items ≡ bytes → new ≡ newest most old ++ (if there then frame ∷ [] else []) → IsSent bytes old new
put_by true frame most bytes old new is e = waits frame most is e
put_by false frame most bytes old new is e = unkept most (e ∙ append-nil (newest most old))

pub put_sent : (there : Bool) (frame : Frame) (most : ℕ) (bytes : List ℕ) (old new : Waits) → frame.bytes.items ≡ bytes → Puts frame most old there new → IsSent bytes old.frames new.frames
put_sent there frame most bytes old new is puts = put_by there frame (most - 1) bytes old.frames new.frames is (ap (λ (w : Waits). w.frames) puts)

pub sent_at : (number : ℕ) (bytes : List ℕ) (peers : List Peer) (old new : Peer) → number < length peers → old ≡ get_or peers number old → IsSent bytes old.outbox.frames new.outbox.frames
    → Sends number bytes peers (set peers number new)
sent_at number bytes peers old new within at sent = record {
  sent = λ nobody.
      subst (λ (p : Peer). IsSent bytes (get_or peers number nobody).outbox.frames p.outbox.frames) (sym (get_or-set_same peers number new nobody within))
      (subst (λ (p : Peer). IsSent bytes p.outbox.frames new.outbox.frames) (at ∙ get_or_default peers number old nobody within) sent);
  others = λ nobody other differs. get_or-set_other peers number other new nobody differs;
}

pub nobody_sent : (number : ℕ) (bytes : List ℕ) (peers : List Peer) → Sends number bytes peers peers
nobody_sent number bytes peers = record { sent = λ nobody. dropped refl; others = λ nobody other differs. refl }
