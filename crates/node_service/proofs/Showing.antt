-- What becomes of what is shown to a log.
use Rattle.std.proofs.Common.{◌≡◌, ℕ, Bool, true, false, List, [], ◌∷◌, ◌++◌, refl, sym, ◌∙◌, ap, append_assoc}
use Rattle.std.proofs.lemmas.List.{append-nil}
use Rattle.stations.specs.Deeds.{Deed}
use Rattle.node_wires.specs.Passages.{Passage, Began, Came, Logged, logged_in, of_seat, seats_in}
use Rattle.node_service.specs.Showing.{shown_log, LogGains}
use Rattle.node_wires.specs.declared.line.Line.TheVariants.{Peer}
use Rattle.node_service.specs.Handed.{frames_by}
use Rattle.node_service.specs.Arriving.{Incoming, OfSeat, OfPeer, OfJoined, seats_of, peers_of, came_by}

-- ---- what deeds showed and what came by them, those of earlier deeds first

pub shown_by_both : (later earlier : List Deed) → shown_log (later ++ earlier) ≡ shown_log earlier ++ shown_log later
shown_by_both [] earlier = sym (append-nil (shown_log earlier))
shown_by_both (deed ∷ later) earlier = simp (shown_by_both later earlier, append_assoc)

pub came_by_both : (later earlier : List Deed) → came_by (later ++ earlier) ≡ came_by earlier ++ came_by later
came_by_both [] earlier = sym (append-nil (came_by earlier))
came_by_both (deed ∷ later) earlier = simp (came_by_both later earlier, append_assoc)

pub frames_by_both : (later earlier : List Deed) → frames_by (later ++ earlier) ≡ frames_by earlier ++ frames_by later
frames_by_both [] earlier = sym (append-nil (frames_by earlier))
frames_by_both (deed ∷ later) earlier = simp (frames_by_both later earlier, append_assoc)

pub seats_of_more : (xs ys : List Incoming) → seats_of (xs ++ ys) ≡ seats_of xs ++ seats_of ys
seats_of_more [] ys = refl
seats_of_more (OfSeat passage ∷ xs) ys = ap (λ (m : List Passage). passage ∷ m) (seats_of_more xs ys)
seats_of_more (OfPeer from frame ∷ xs) ys = seats_of_more xs ys
seats_of_more (OfJoined peer ∷ xs) ys = seats_of_more xs ys

pub peers_of_more : (xs ys : List Incoming) → peers_of (xs ++ ys) ≡ peers_of xs ++ peers_of ys
peers_of_more [] ys = refl
peers_of_more (OfSeat passage ∷ xs) ys = peers_of_more xs ys
peers_of_more (OfPeer from frame ∷ xs) ys = ap (λ (m : List Passage). Came (Peer from) frame ∷ m) (peers_of_more xs ys)
peers_of_more (OfJoined peer ∷ xs) ys = ap (λ (m : List Passage). Began (Peer peer) ∷ m) (peers_of_more xs ys)

-- ---- the log

pub nothing_shown : (failed : Bool) (log : List ℕ) → LogGains failed failed [] log log
nothing_shown true log = (refl, refl)
nothing_shown false log = sym (append-nil log)

not_empty : (xs ys : List ℕ) → (xs ≡ [] → ⊥) → xs ++ ys ≡ [] → ⊥
not_empty [] ys some none = some refl
not_empty (x ∷ xs) ys some none = cc

pub shown_on : (first then_on last : Bool) (shown more one two three : List ℕ) → LogGains first then_on shown one two → LogGains then_on last more two three
    → LogGains first last (shown ++ more) one three
shown_on true true last shown more one two three before after = (after.0, after.1 ∙ before.1)
shown_on true false last shown more one two three before after = let never : false ≡ true = before.0 in absurd (cc)
shown_on false true true shown more one two three before after =
    (before.0, before.1 ++ more, ap (λ (m : List ℕ). m ++ more) before.2 ∙ append_assoc before.0 before.1 more, not_empty before.1 more before.3, after.1 ∙ before.4)
shown_on false true false shown more one two three before after = let never : false ≡ true = after.0 in absurd (cc)
shown_on false false true shown more one two three before after =
    (shown ++ after.0, after.1, ap (λ (m : List ℕ). shown ++ m) after.2 ∙ sym (append_assoc shown after.0 after.1), after.3, after.4 ∙ (ap (λ (m : List ℕ). m ++ after.0) before ∙ append_assoc one shown after.0))
shown_on false false false shown more one two three before after = after ∙ (ap (λ (m : List ℕ). m ++ more) before ∙ append_assoc one shown more)

-- ---- what passes over wires

pub log_of_both : (xs ys : List Passage) → logged_in (xs ++ ys) ≡ logged_in xs ++ logged_in ys
log_of_both [] ys = refl
log_of_both (Logged text ∷ xs) ys = ap (λ (m : List ℕ). text ++ m) (log_of_both xs ys) ∙ sym (append_assoc text (logged_in xs) (logged_in ys))
log_of_both (other ∷ xs) ys = log_of_both xs ys

pub seats_of_both : (xs ys : List Passage) → seats_in (xs ++ ys) ≡ seats_in xs ++ seats_in ys
seats_of_both [] ys = refl
seats_of_both (p ∷ xs) ys = ap (λ (m : List Passage). of_seat p ++ m) (seats_of_both xs ys) ∙ sym (append_assoc (of_seat p) (seats_in xs) (seats_in ys))

pub when_logged : (passed new : List Passage) (text : List ℕ) → new ≡ passed ++ Logged text ∷ [] → logged_in new ≡ logged_in passed ++ text
when_logged passed new text is =
    ap logged_in is ∙ (log_of_both passed (Logged text ∷ []) ∙ ap (λ (m : List ℕ). logged_in passed ++ m) (append-nil text))

pub seats_when_logged : (passed new : List Passage) (text : List ℕ) → new ≡ passed ++ Logged text ∷ [] → seats_in new ≡ seats_in passed
seats_when_logged passed new text is = ap seats_in is ∙ (seats_of_both passed (Logged text ∷ []) ∙ append-nil (seats_in passed))

-- ---- one text

pub not_any_more : (failed : Bool) (text log after : List ℕ) → failed ≡ true → after ≡ log → LogGains failed failed text log after
not_any_more true text log after is same = (refl, same)
not_any_more false text log after is same = absurd (cc)

pub fails_now : (failed : Bool) (text log after : List ℕ) → failed ≡ false → (text ≡ [] → ⊥) → after ≡ log → LogGains failed true text log after
fails_now false text log after is some same = ([], text, refl, some, same ∙ sym (append-nil log))
fails_now true text log after is some same = absurd (cc)

-- an empty text is had
pub gains_none : (failed : Bool) (text log : List ℕ) → text ≡ [] → LogGains failed failed text log log
gains_none true text log none = (refl, refl)
gains_none false text log none = sym (ap (λ (m : List ℕ). log ++ m) none ∙ append-nil log)

pub gains_it : (failed : Bool) (text log after : List ℕ) → failed ≡ false → after ≡ log ++ text → LogGains failed failed text log after
gains_it false text log after is gains = gains
gains_it true text log after is gains = absurd (cc)
