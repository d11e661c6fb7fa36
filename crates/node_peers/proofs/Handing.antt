-- What calls leave of the frames that may go to peers.
use Rattle.std.proofs.Common.{◌≡◌, ◌⊎◌, inl, inr, ℕ, zero, suc, ◌-◌, ◌<◌, Bool, true, false, if◌then◌else◌, List, [], ◌∷◌, ◌++◌, append-nil, get_or, set, length, drop, Option, Some, None, refl, ap, sym, subst, ◌∙◌, arith}
use Rattle.std.proofs.Math.Logic.{∥∥₁_map}
use Rattle.std.proofs.lemmas.Bool.Decides.{eqb_tells}
use Rattle.std.proofs.lemmas.List.{get_or-set_same, get_or-set_other, get_or_default, length-set}
use Rattle.peer_codes.specs.declared.beat.Beat.{Beat}
use Rattle.peer_codes.specs.declared.frame.Frame.{Frame}
use Rattle.peer_codes.specs.declared.more.More.{More}
use Rattle.peer_codes.specs.declared.version.Version.{Version}
use Rattle.peer_codes.specs.declared.version.Version.TheVariants.{First, Second}
use Rattle.node_wires.specs.declared.line.Line.TheVariants.{Peer as ToPeer}
use Rattle.node_wires.specs.declared.passages.Passages.{Passages}
use Rattle.node_wires.specs.Passages.{Passage, Wrote}
use Rattle.node_links.specs.declared.accepted.LastAccepted.{LastAccepted}
use Rattle.node_links.specs.declared.accepted.Accepted.{Accepted}
use Rattle.node_links.specs.declared.forwarded.Forwarded.{Forwarded}
use Rattle.node_links.specs.Repeating.{kept_after, copy_of}
use Rattle.node_links.specs.Forwarding.{forwarded_after}
use Rattle.node_links.specs.Waits.{Waits}
use Rattle.node_links.specs.declared.lives.Lives.{Lives}
use Rattle.node_links.specs.declared.settings.Settings.{Settings}
use Rattle.node_links.specs.Promising.{higher}
use Rattle.paxos_wire.specs.declared.ballot.Ballot.{Ballot}
use Rattle.node_links.specs.Waiting.{newest, without_further, without_more, more_of, rest_behind, rest_by, rest_of, Puts, IsBegun}
use Rattle.node_peers.specs.declared.peer.Peer.{Peer}
use Rattle.node_peers.specs.declared.lines.Lines.{Lines}
use Rattle.node_peers.specs.Growing.{Grew, Stays}
use Rattle.node_peers.proofs.Promises.{less_self, less_on, same_promise, risen_promise}
use Rattle.node_peers.specs.Handing.{accepted_in, forwarded_in, frames_for, Among, GoesBack, GoesWith, GoBack, Is, IsHanded, AreHanded, AreFor}

-- ---- among frames

among_parts : (bytes : List ℕ) (xs ys : List Frame) → Among bytes (xs ++ ys) → Among bytes xs ⊎ Among bytes ys
among_parts bytes [] ys among = inr among
among_parts bytes (x ∷ xs) ys (inl here) = inl (inl here)
among_parts bytes (x ∷ xs) ys (inr there) = elim (among_parts bytes xs ys there) as (λ _. Among bytes (x ∷ xs) ⊎ Among bytes ys) [
  | inl front ↦ inl (inr front)
  | inr back ↦ inr back
]

in_front : (bytes : List ℕ) (xs ys : List Frame) → Among bytes xs → Among bytes (xs ++ ys)
in_front bytes [] ys among = absurd among
in_front bytes (x ∷ xs) ys (inl here) = inl here
in_front bytes (x ∷ xs) ys (inr there) = inr (in_front bytes xs ys there)

behind : (bytes : List ℕ) (xs ys : List Frame) → Among bytes ys → Among bytes (xs ++ ys)
behind bytes [] ys among = among
behind bytes (x ∷ xs) ys among = inr (behind bytes xs ys among)

dropped_among : (bytes : List ℕ) (count : ℕ) (xs : List Frame) → Among bytes (drop count xs) → Among bytes xs
dropped_among bytes zero xs among = among
dropped_among bytes (suc count) [] among = among
dropped_among bytes (suc count) (x ∷ xs) among = inr (dropped_among bytes count xs among)

-- ---- of one peer

-- what waits and what goes again, each from what there was
abbrev From : List ℕ → List Frame → List Frame → Type 0
From bytes old new = Among bytes new → Among bytes old

by_parts : (bytes : List ℕ) (waits accepted forwarded : List Frame) (all : List Frame) → From bytes all waits → From bytes all accepted → From bytes all forwarded → From bytes all (waits ++ (accepted ++ forwarded))
by_parts bytes waits accepted forwarded all one two three among = elim (among_parts bytes waits (accepted ++ forwarded) among) as (λ _. Among bytes all) [
  | inl front ↦ one front
  | inr back ↦ elim (among_parts bytes accepted forwarded back) as (λ _. Among bytes all) [
    | inl middle ↦ two middle
    | inr last ↦ three last
  ]
]

waits_of : (bytes : List ℕ) (peer : Peer) → From bytes (frames_for peer) peer.outbox.frames
waits_of bytes peer among = in_front bytes peer.outbox.frames (accepted_in peer.accepted.last ++ forwarded_in peer.forwarded.last) among

accepted_of : (bytes : List ℕ) (peer : Peer) → From bytes (frames_for peer) (accepted_in peer.accepted.last)
accepted_of bytes peer among = behind bytes peer.outbox.frames (accepted_in peer.accepted.last ++ forwarded_in peer.forwarded.last) (in_front bytes (accepted_in peer.accepted.last) (forwarded_in peer.forwarded.last) among)

forwarded_of : (bytes : List ℕ) (peer : Peer) → From bytes (frames_for peer) (forwarded_in peer.forwarded.last)
forwarded_of bytes peer among = behind bytes peer.outbox.frames (accepted_in peer.accepted.last ++ forwarded_in peer.forwarded.last) (behind bytes (accepted_in peer.accepted.last) (forwarded_in peer.forwarded.last) among)

pub goes_same : (old new : Peer) → new.outbox.frames ≡ old.outbox.frames → new.accepted.last ≡ old.accepted.last → new.forwarded.last ≡ old.forwarded.last → new.kept ≡ old.kept → new.promised ≡ old.promised → GoesBack old new
goes_same old new waits accepted forwarded kept promised = record {
  back = λ bytes among.
      by_parts bytes new.outbox.frames (accepted_in new.accepted.last) (forwarded_in new.forwarded.last) (frames_for old)
      (λ a. waits_of bytes old (subst (λ (fs : List Frame). Among bytes fs) waits a))
      (λ a. accepted_of bytes old (subst (λ (l : Option LastAccepted). Among bytes (accepted_in l)) accepted a))
      (λ a. forwarded_of bytes old (subst (λ (l : Option Frame). Among bytes (forwarded_in l)) forwarded a))
      among;
  kept = λ life is. kept ∙ is;
  promised = same_promise old.promised new.promised promised;
}

-- what it is known to have promised rises
pub goes_risen : (old new : Peer) (shown : Option Ballot) → new.outbox.frames ≡ old.outbox.frames → new.accepted.last ≡ old.accepted.last → new.forwarded.last ≡ old.forwarded.last → new.kept ≡ old.kept → new.promised ≡ higher old.promised shown → GoesBack old new
goes_risen old new shown waits accepted forwarded kept risen = record {
  back = λ bytes among.
      by_parts bytes new.outbox.frames (accepted_in new.accepted.last) (forwarded_in new.forwarded.last) (frames_for old)
      (λ a. waits_of bytes old (subst (λ (fs : List Frame). Among bytes fs) waits a))
      (λ a. accepted_of bytes old (subst (λ (l : Option LastAccepted). Among bytes (accepted_in l)) accepted a))
      (λ a. forwarded_of bytes old (subst (λ (l : Option Frame). Among bytes (forwarded_in l)) forwarded a))
      among;
  kept = λ life is. kept ∙ is;
  promised = risen_promise old.promised new.promised shown risen;
}

goes_nowhere : (peer : Peer) → GoesBack peer peer
goes_nowhere peer = record { back = λ bytes among. among; kept = λ life is. is; promised = less_self peer.promised }

-- a first life is kept
pub goes_kept : (old new : Peer) → new.outbox.frames ≡ old.outbox.frames → new.accepted.last ≡ old.accepted.last → new.forwarded.last ≡ old.forwarded.last → old.kept ≡ None → new.promised ≡ old.promised → GoesBack old new
goes_kept old new waits accepted forwarded none promised = record {
  back = λ bytes among.
      by_parts bytes new.outbox.frames (accepted_in new.accepted.last) (forwarded_in new.forwarded.last) (frames_for old)
      (λ a. waits_of bytes old (subst (λ (fs : List Frame). Among bytes fs) waits a))
      (λ a. accepted_of bytes old (subst (λ (l : Option LastAccepted). Among bytes (accepted_in l)) accepted a))
      (λ a. forwarded_of bytes old (subst (λ (l : Option Frame). Among bytes (forwarded_in l)) forwarded a))
      among;
  kept = λ life is. absurd (let never : None ≡ Some life = sym none ∙ is in cc);
  promised = same_promise old.promised new.promised promised;
}

pub goes_on : (a b c : Peer) → GoesBack a b → GoesBack b c → GoesBack a c
goes_on a b c one two = record {
  back = λ bytes among. one.back bytes (two.back bytes among);
  kept = λ life is. two.kept life (one.kept life is);
  promised = less_on a.promised b.promised c.promised one.promised two.promised;
}

-- the newest of what waits stays
pub goes_newest : (old new : Peer) (most : ℕ) → new.outbox.frames ≡ newest most old.outbox.frames → new.accepted.last ≡ old.accepted.last → new.forwarded.last ≡ old.forwarded.last → new.kept ≡ old.kept → new.promised ≡ old.promised → GoesBack old new
goes_newest old new most waits accepted forwarded kept promised = record {
  back = λ bytes among.
      by_parts bytes new.outbox.frames (accepted_in new.accepted.last) (forwarded_in new.forwarded.last) (frames_for old)
      (λ a. waits_of bytes old (dropped_among bytes (length old.outbox.frames - most) old.outbox.frames (subst (λ (fs : List Frame). Among bytes fs) waits a)))
      (λ a. accepted_of bytes old (subst (λ (l : Option LastAccepted). Among bytes (accepted_in l)) accepted a))
      (λ a. forwarded_of bytes old (subst (λ (l : Option Frame). Among bytes (forwarded_in l)) forwarded a))
      among;
  kept = λ life is. kept ∙ is;
  promised = same_promise old.promised new.promised promised;
}

-- the last act that went on needn't go again
pub goes_forgotten : (old new : Peer) → new.outbox.frames ≡ old.outbox.frames → new.accepted.last ≡ old.accepted.last → new.forwarded.last ≡ None → new.kept ≡ old.kept → new.promised ≡ old.promised → GoesBack old new
goes_forgotten old new waits accepted forwarded kept promised = record {
  back = λ bytes among.
      by_parts bytes new.outbox.frames (accepted_in new.accepted.last) (forwarded_in new.forwarded.last) (frames_for old)
      (λ a. waits_of bytes old (subst (λ (fs : List Frame). Among bytes fs) waits a))
      (λ a. accepted_of bytes old (subst (λ (l : Option LastAccepted). Among bytes (accepted_in l)) accepted a))
      (λ a. absurd (subst (λ (l : Option Frame). Among bytes (forwarded_in l)) forwarded a))
      among;
  kept = λ life is. kept ∙ is;
  promised = same_promise old.promised new.promised promised;
}

-- what is put behind the newest of the others, or isn't for want of memory
put_among : (bytes : List ℕ) (frame : Frame) (there : Bool) (count : ℕ) (old : List Frame) → Among bytes (drop count old ++ (if there then frame ∷ [] else [])) → (frame.bytes.items ≡ bytes) ⊎ Among bytes old
put_among bytes frame true count old among = elim (among_parts bytes (drop count old) (frame ∷ []) among) as (λ _. (frame.bytes.items ≡ bytes) ⊎ Among bytes old) [
  | inl front ↦ inr (dropped_among bytes count old front)
  | inr (inl here) ↦ inl here
  | inr (inr never) ↦ absurd never
]
put_among bytes frame false count old among = inr (dropped_among bytes count old (subst (λ (fs : List Frame). Among bytes fs) (append-nil (drop count old)) among))

-- one that goes again is put there
goes_put : (old new : Peer) (frame : Frame) (most : ℕ) (there : Bool) → ((bytes : List ℕ) → frame.bytes.items ≡ bytes → Among bytes (frames_for old)) → Puts frame most old.outbox there new.outbox → new.accepted.last ≡ old.accepted.last → new.forwarded.last ≡ old.forwarded.last
    → new.kept ≡ old.kept → new.promised ≡ old.promised → GoesBack old new
goes_put old new frame most there is puts accepted forwarded kept promised = record {
  back = λ bytes among.
      by_parts bytes new.outbox.frames (accepted_in new.accepted.last) (forwarded_in new.forwarded.last) (frames_for old)
      (λ a. elim (put_among bytes frame there (length old.outbox.frames - (most - 1)) old.outbox.frames (subst (λ (fs : List Frame). Among bytes fs) (ap (λ (w : Waits). w.frames) puts) a)) as (λ _. Among bytes (frames_for old)) [
        | inl same ↦ is bytes same
        | inr other ↦ waits_of bytes old other
      ])
      (λ a. accepted_of bytes old (subst (λ (l : Option LastAccepted). Among bytes (accepted_in l)) accepted a))
      (λ a. forwarded_of bytes old (subst (λ (l : Option Frame). Among bytes (forwarded_in l)) forwarded a))
      among;
  kept = λ life is. kept ∙ is;
  promised = same_promise old.promised new.promised promised;
}

accepted_again : (bytes : List ℕ) (last : Option LastAccepted) (frame : Frame) → Some frame ≡ copy_of last → frame.bytes.items ≡ bytes → Among bytes (accepted_in last)
accepted_again bytes None frame copied is = absurd cc
accepted_again bytes (Some last) frame copied is = let same : frame ≡ last.frame = cc in inl (ap (λ (f : Frame). f.bytes.items) (sym same) ∙ is)

pub goes_repeated : (old new : Peer) (frame : Frame) (most : ℕ) (there : Bool) → Some frame ≡ copy_of old.accepted.last → Puts frame most old.outbox there new.outbox → new.accepted.last ≡ old.accepted.last → new.forwarded.last ≡ old.forwarded.last → new.kept ≡ old.kept → new.promised ≡ old.promised → GoesBack old new
goes_repeated old new frame most there copied = goes_put old new frame most there (λ bytes is. accepted_of bytes old (accepted_again bytes old.accepted.last frame copied is))

forwarded_again : (bytes : List ℕ) (last : Option Frame) (frame : Frame) → Some frame ≡ last → frame.bytes.items ≡ bytes → Among bytes (forwarded_in last)
forwarded_again bytes None frame copied is = absurd cc
forwarded_again bytes (Some last) frame copied is = let same : frame ≡ last = cc in inl (ap (λ (f : Frame). f.bytes.items) (sym same) ∙ is)

pub goes_forwarded : (old new : Peer) (frame : Frame) (most : ℕ) (there : Bool) → Some frame ≡ old.forwarded.last → Puts frame most old.outbox there new.outbox → new.accepted.last ≡ old.accepted.last → new.forwarded.last ≡ old.forwarded.last → new.kept ≡ old.kept → new.promised ≡ old.promised → GoesBack old new
goes_forwarded old new frame most there copied = goes_put old new frame most there (λ bytes is. forwarded_of bytes old (forwarded_again bytes old.forwarded.last frame copied is))

-- the next of what waits is begun
pub not_begun : (old new : Waits) → new ≡ old → IsBegun old new
not_begun old new e = inl e

further_frames : (lives : Option Lives) (settings : Option Settings) (w : Waits) → (without_further lives settings w).frames ≡ w.frames
further_frames (Some lives) settings w = refl
further_frames None (Some settings) w = refl
further_frames None None w = refl

more_frames : (version : Version) (w : Waits) → (without_more version w).frames ≡ w.frames
more_frames First w = refl
more_frames Second w = further_frames w.lives w.settings w

behind_among : (bytes : List ℕ) (more : Option More) (version : Version) (w : Waits) → Among bytes (rest_behind more version w).frames → Among bytes w.frames
behind_among bytes (Some more) version w among = subst (λ (fs : List Frame). Among bytes fs) (more_frames version w) among
behind_among bytes None version w among = dropped_among bytes 1 w.frames among

by_beat : (bytes : List ℕ) (beat : Option Beat) (version : Version) (w : Waits) → Among bytes (rest_by beat version w).frames → Among bytes w.frames
by_beat bytes (Some beat) version w among = among
by_beat bytes None version w among = behind_among bytes (more_of version w) version w among

rest_among : (bytes : List ℕ) (version : Version) (w : Waits) → Among bytes (rest_of version w).frames → Among bytes w.frames
rest_among bytes version w among = by_beat bytes w.beat version w among

pub goes_begun : (old new : Peer) → IsBegun old.outbox new.outbox → new.accepted.last ≡ old.accepted.last → new.forwarded.last ≡ old.forwarded.last → new.kept ≡ old.kept → new.promised ≡ old.promised → GoesBack old new
goes_begun old new (inl same) accepted forwarded kept promised = goes_same old new (ap (λ (w : Waits). w.frames) same) accepted forwarded kept promised
goes_begun old new (inr (version, rest)) accepted forwarded kept promised = record {
  back = λ bytes among.
      by_parts bytes new.outbox.frames (accepted_in new.accepted.last) (forwarded_in new.forwarded.last) (frames_for old)
      (λ a. waits_of bytes old (rest_among bytes version old.outbox (subst (λ (fs : List Frame). Among bytes fs) (ap (λ (w : Waits). w.frames) rest) a)))
      (λ a. accepted_of bytes old (subst (λ (l : Option LastAccepted). Among bytes (accepted_in l)) accepted a))
      (λ a. forwarded_of bytes old (subst (λ (l : Option Frame). Among bytes (forwarded_in l)) forwarded a))
      among;
  kept = λ life is. kept ∙ is;
  promised = same_promise old.promised new.promised promised;
}

-- ---- a frame is sent

kept_among : (bytes : List ℕ) (slot : Option ℕ) (frame : Frame) (now : ℕ) (old : Accepted) → Among bytes (accepted_in (kept_after slot frame now old).last) → (frame.bytes.items ≡ bytes) ⊎ Among bytes (accepted_in old.last)
kept_among bytes None frame now old among = inr among
kept_among bytes (Some slot) frame now old (inl here) = inl here
kept_among bytes (Some slot) frame now old (inr never) = absurd never

went_among : (bytes : List ℕ) (is : Bool) (frame : Frame) (now : ℕ) (old : Forwarded) → Among bytes (forwarded_in (forwarded_after is frame now old).last) → (frame.bytes.items ≡ bytes) ⊎ Among bytes (forwarded_in old.last)
went_among bytes false frame now old among = inr among
went_among bytes true frame now old (inl here) = inl here
went_among bytes true frame now old (inr never) = absurd never

-- from what there was, or it is the frame that is sent
or_from : (bytes sent : List ℕ) (frame : Frame) (all : List Frame) (A : Type 0) → frame.bytes.items ≡ sent → (A → Among bytes all) → (frame.bytes.items ≡ bytes) ⊎ A → (sent ≡ bytes) ⊎ Among bytes all
or_from bytes sent frame all A is from (inl here) = inl (sym is ∙ here)
or_from bytes sent frame all A is from (inr there) = inr (from there)

pub goes_sent : (sent : List ℕ) (frame : Frame) (most now : ℕ) (there : Bool) (slot : Option ℕ) (is_forward : Bool) (old new : Peer) → frame.bytes.items ≡ sent → Puts frame most old.outbox there new.outbox
    → new.accepted ≡ kept_after slot frame now old.accepted → new.forwarded ≡ forwarded_after is_forward frame now old.forwarded → GoesWith sent old new
goes_sent sent frame most now there slot is_forward old new is puts accepted forwarded = record {
  back = λ bytes among.
      elim (among_parts bytes new.outbox.frames (accepted_in new.accepted.last ++ forwarded_in new.forwarded.last) among) as (λ _. (sent ≡ bytes) ⊎ Among bytes (frames_for old)) [
        | inl front ↦
            or_from bytes sent frame (frames_for old) (Among bytes old.outbox.frames) is (waits_of bytes old)
            (put_among bytes frame there (length old.outbox.frames - (most - 1)) old.outbox.frames (subst (λ (fs : List Frame). Among bytes fs) (ap (λ (w : Waits). w.frames) puts) front))
        | inr back ↦ elim (among_parts bytes (accepted_in new.accepted.last) (forwarded_in new.forwarded.last) back) as (λ _. (sent ≡ bytes) ⊎ Among bytes (frames_for old)) [
          | inl middle ↦
              or_from bytes sent frame (frames_for old) (Among bytes (accepted_in old.accepted.last)) is (accepted_of bytes old)
              (kept_among bytes slot frame now old.accepted (subst (λ (a : Accepted). Among bytes (accepted_in a.last)) accepted middle))
          | inr last ↦
              or_from bytes sent frame (frames_for old) (Among bytes (forwarded_in old.forwarded.last)) is (forwarded_of bytes old)
              (went_among bytes is_forward frame now old.forwarded (subst (λ (f : Forwarded). Among bytes (forwarded_in f.last)) forwarded last))
        ]
      ];
}

pub goes_unsent : (sent : List ℕ) (old new : Peer) → GoesBack old new → GoesWith sent old new
goes_unsent sent old new back = record { back = λ bytes among. inr (back.back bytes among) }

-- ---- of all peers

pub back_same : (peers : List Peer) → GoBack peers peers
back_same peers = record { count = refl; back = λ number nobody. goes_nowhere (get_or peers number nobody) }

pub back_on : (a b c : List Peer) → GoBack a b → GoBack b c → GoBack a c
back_on a b c one two = record { count = two.count ∙ one.count; back = λ number nobody. goes_on (get_or a number nobody) (get_or b number nobody) (get_or c number nobody) (one.back number nobody) (two.back number nobody) }

at_number : (number other : ℕ) (peers : List Peer) (old new nobody : Peer) → number < length peers → old ≡ get_or peers number old → GoesBack old new → GoesBack (get_or peers other nobody) (get_or (set peers number new) other nobody)
at_number number other peers old new nobody within at back = elim (eqb_tells other number) as (λ _. GoesBack (get_or peers other nobody) (get_or (set peers number new) other nobody)) [
  | inl here ↦
      subst (λ (n : ℕ). GoesBack (get_or peers n nobody) (get_or (set peers number new) n nobody)) (sym here.1)
      (subst (λ (p : Peer). GoesBack (get_or peers number nobody) p) (sym (get_or-set_same peers number new nobody within))
      (subst (λ (p : Peer). GoesBack p new) (at ∙ get_or_default peers number old nobody within) back))
  | inr there ↦ subst (λ (p : Peer). GoesBack (get_or peers other nobody) p) (sym (get_or-set_other peers number other new nobody there.1)) (goes_nowhere (get_or peers other nobody))
]

pub back_at : (number : ℕ) (peers : List Peer) (old new : Peer) → number < length peers → old ≡ get_or peers number old → GoesBack old new → GoBack peers (set peers number new)
back_at number peers old new within at back = record { count = length-set peers number new; back = λ other nobody. at_number number other peers old new nobody within at back }

-- ---- what was handed to them

pub handed_on : (sent : List Passage) (old new : List Peer) → GoBack old new → AreHanded sent old → AreHanded sent new
handed_on sent old new go are number nobody within bytes among = are number nobody (subst (λ (n : ℕ). number < n) go.count within) bytes ((go.back number nobody).back bytes among)

pub handed_so : (old new : Passages) (peers : List Peer) → new ≡ old → AreHanded old.items peers → AreHanded new.items peers
handed_so old new peers same are = subst (λ (p : Passages). AreHanded p.items peers) (sym same) are

pub handed_stays : (old new : Lines) (peers : List Peer) → Stays old new → AreHanded old.sent.items peers → AreHanded new.sent.items peers
handed_stays old new peers stays are = handed_so old.sent new.sent peers stays.1.1.0 are

pub handed_grew : (old new : Lines) (peers : List Peer) (wired_old wired_new : List Passage) → Grew old new wired_old wired_new → AreHanded old.sent.items peers → AreHanded new.sent.items peers
handed_grew old new peers wired_old wired_new grew are = handed_so old.sent new.sent peers grew.1.1.0 are

is_still : (one : Passage) (sent more : List Passage) → Is one sent → Is one (sent ++ more)
is_still one [] more is = absurd is
is_still one (first ∷ sent) more (inl here) = inl here
is_still one (first ∷ sent) more (inr there) = inr (is_still one sent more there)

is_last : (one : Passage) (sent : List Passage) → Is one (sent ++ one ∷ [])
is_last one [] = inl refl
is_last one (first ∷ sent) = inr (is_last one sent)

pub handed_more : (sent more : List Passage) (peers : List Peer) → AreHanded sent peers → AreHanded (sent ++ more) peers
handed_more sent more peers are number nobody within bytes among = ∥∥₁_map (are number nobody within bytes among) (λ is. is_still (Wrote (ToPeer number) bytes) sent more is)

sent_here : (number : ℕ) (sent : List ℕ) (before : List Passage) (old new : Peer) → GoesWith sent old new → IsHanded number before old → IsHanded number (before ++ Wrote (ToPeer number) sent ∷ []) new
sent_here number sent before old new goes is bytes among = elim (goes.back bytes among) as (λ _. ∥ Is (Wrote (ToPeer number) bytes) (before ++ Wrote (ToPeer number) sent ∷ []) ∥₁) [
  | inl same ↦ ∣ subst (λ (b : List ℕ). Is (Wrote (ToPeer number) b) (before ++ Wrote (ToPeer number) sent ∷ [])) same (is_last (Wrote (ToPeer number) sent) before) ∣₁
  | inr earlier ↦ ∥∥₁_map (is bytes earlier) (λ i. is_still (Wrote (ToPeer number) bytes) before (Wrote (ToPeer number) sent ∷ []) i)
]

sent_to : (number other : ℕ) (sent : List ℕ) (before : List Passage) (peers : List Peer) (old new nobody : Peer) → number < length peers → other < length peers → old ≡ get_or peers number old → GoesWith sent old new → AreHanded before peers
    → IsHanded other (before ++ Wrote (ToPeer number) sent ∷ []) (get_or (set peers number new) other nobody)
sent_to number other sent before peers old new nobody within there_is at goes are = elim (eqb_tells other number) as (λ _. IsHanded other (before ++ Wrote (ToPeer number) sent ∷ []) (get_or (set peers number new) other nobody)) [
  | inl here ↦
      subst (λ (n : ℕ). IsHanded n (before ++ Wrote (ToPeer number) sent ∷ []) (get_or (set peers number new) n nobody)) (sym here.1)
      (subst (λ (p : Peer). IsHanded number (before ++ Wrote (ToPeer number) sent ∷ []) p) (sym (get_or-set_same peers number new nobody within))
      (sent_here number sent before old new goes (subst (λ (p : Peer). IsHanded number before p) (sym (at ∙ get_or_default peers number old nobody within)) (are number nobody within))))
  | inr there ↦
      subst (λ (p : Peer). IsHanded other (before ++ Wrote (ToPeer number) sent ∷ []) p) (sym (get_or-set_other peers number other new nobody there.1))
      (handed_more before (Wrote (ToPeer number) sent ∷ []) peers are other nobody there_is)
]

pub handed_sent : (number : ℕ) (sent : List ℕ) (before after : List Passage) (peers : List Peer) (old new : Peer) → number < length peers → old ≡ get_or peers number old → GoesWith sent old new → after ≡ before ++ Wrote (ToPeer number) sent ∷ []
    → AreHanded before peers → AreHanded after (set peers number new)
handed_sent number sent before after peers old new within at goes is are =
    subst (λ (ps : List Passage). AreHanded ps (set peers number new)) (sym is)
    (λ other nobody there_is. sent_to number other sent before peers old new nobody within (subst (λ (n : ℕ). other < n) (length-set peers number new) there_is) at goes are)

pub handed_to_nobody : (one : Passage) (before after : List Passage) (peers : List Peer) → after ≡ before ++ one ∷ [] → AreHanded before peers → AreHanded after peers
handed_to_nobody one before after peers is are = subst (λ (ps : List Passage). AreHanded ps peers) (sym is) (handed_more before (one ∷ []) peers are)

-- ---- nothing was

pub none_for_one : (number : ℕ) (peers : List Peer) (one : Peer) → frames_for one ≡ [] → ((other : ℕ) (nobody : Peer) → other < length peers → frames_for (get_or peers other nobody) ≡ []) → (nobody : Peer) → number < length (peers ++ one ∷ []) → frames_for (get_or (peers ++ one ∷ []) number nobody) ≡ []
none_for_one zero [] one none all nobody within = none
none_for_one (suc number) [] one none all nobody within = absurd (omega (arith, within))
none_for_one zero (first ∷ peers) one none all nobody within = all zero nobody (omega arith)
none_for_one (suc number) (first ∷ peers) one none all nobody within = none_for_one number peers one none (λ other n is. all (suc other) n (omega (arith, is))) nobody (omega (arith, within))

pub none_handed : (sent : List Passage) (peers : List Peer) → ((number : ℕ) (nobody : Peer) → number < length peers → frames_for (get_or peers number nobody) ≡ []) → AreHanded sent peers
none_handed sent peers none number nobody within bytes among = absurd (subst (λ (fs : List Frame). Among bytes fs) (none number nobody within) among)

-- ---- what a connection is given to say

pub none_for : (peer : Option ℕ) (sent : List Passage) (frames : List Frame) → frames ≡ [] → AreFor peer sent frames
none_for peer sent frames none = record { handed = λ number bytes is among. absurd (subst (λ (fs : List Frame). Among bytes fs) none among) }

same_number : (a b : ℕ) → Some a ≡ Some b → a ≡ b
same_number a b e = cc

pub for_joined : (number : ℕ) (there : Option ℕ) (sent : List Passage) (peers : List Peer) (peer : Peer) → there ≡ Some number → number < length peers → peer ≡ get_or peers number peer → AreHanded sent peers → AreFor there sent peer.outbox.frames
for_joined number there sent peers peer is within at are = record {
  handed = λ other bytes is_other among.
      subst (λ (n : ℕ). ∥ Is (Wrote (ToPeer n) bytes) sent ∥₁) (same_number number other (sym is ∙ is_other))
      (are number peer within bytes (waits_of bytes (get_or peers number peer) (subst (λ (p : Peer). Among bytes p.outbox.frames) at among)));
}
