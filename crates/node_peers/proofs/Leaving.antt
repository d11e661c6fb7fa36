-- What becomes of frames that wait to be told, one after another.
use Rattle.std.proofs.Common.{◌≡◌, ◌⊎◌, inl, inr, ℕ, ◌+◌, ◌<◌, ◌≤◌, Bool, true, false, List, [], ◌∷◌, ◌++◌, Option, Some, None, IfSome, get_or, refl, sym, ap, subst, ◌∙◌, arith}
use Rattle.node_links.specs.declared.owed.Question.{Question}
use Rattle.node_links.specs.declared.owed.Subject.{Subject}
use Rattle.node_links.specs.declared.own.Own.{Own}
use Rattle.node_peers.specs.declared.link.Link.{Link}
use Rattle.node_peers.specs.declared.notice.Notice.{Notice}
use Rattle.node_peers.specs.declared.peer.Peer.{Peer}
use Rattle.peer_codes.specs.declared.frame.Frame.{Frame}
use Rattle.node_peers.specs.Leaving.{IsQuiet, listed, PassesOne, is_told, is_left_out, is_set_aside, PassesOver, Passes, one_more, IsNoticeInTime, NeedsNoAnswer}
use Rattle.node_peers.specs.Asking.{asked_in, question_at, unread_in}
use Rattle.std.proofs.lemmas.Bool.{cases_lt}

-- something waits
pub not_quiet : (waits : List Notice) (links : List (Option Link)) → (waits ≡ [] → ⊥) → IsQuiet waits links → ⊥
not_quiet waits links some quiet = some quiet.told

-- or something may be there to be read
pub not_read : (waits : List Notice) (links : List (Option Link)) (place : ℕ) → unread_in (get_or links place None) ≡ true → IsQuiet waits links → ⊥
not_read waits links place more quiet = absurd (let none = quiet.read place in let both = sym more ∙ none in cc)

-- ---- one after another

-- what is told is what waited, and nothing is set aside by that
told_one : (own : Own) (peers : List Peer) (newest : List (Option Subject)) (front : ℕ) (waited told : Notice) (old new : List (Option Frame)) → PassesOne own peers newest front waited (Some told) old new
    → (Some told ≡ Some waited) × (IsNoticeInTime front waited × (new ≡ old))
told_one own peers newest front waited told old new (is_told is timely same) = (is, (timely, same))
told_one own peers newest front waited told old new (is_left_out from frame at out none same) = absurd cc
told_one own peers newest front waited told old new (is_set_aside from frame at out none same) = absurd cc

in_time : (front : ℕ) (waited : Notice) (told : Option Notice) → told ≡ Some waited → IsNoticeInTime front waited → IfSome told (IsNoticeInTime front)
in_time front waited told is timely = subst (λ (n : Option Notice). IfSome n (IsNoticeInTime front)) (sym is) timely

-- what a peer's process has stays, as far as it is asked what passes
pub record SameLook (own other : Own) (peers others : List Peer) (newest newer : List (Option Subject)) (front further : ℕ) : Type 0 where
  pub own_is : other ≡ own
  pub peers_are : others ≡ peers
  pub newest_are : newer ≡ newest
  pub front_is : further ≡ front

pub passes_told : (own other : Own) (peers others : List Peer) (newest newer : List (Option Subject)) (front further : ℕ) (all : List Notice) (first : List (Option Frame)) (waits : List Notice) (waited : Notice) (rest left : List Notice) (told : Notice) (old laid new : List (Option Frame))
    → SameLook own other peers others newest newer front further → waits ≡ waited ∷ rest → laid ≡ old → left ≡ rest → PassesOver own peers newest front all first waits old → PassesOne other others newer further waited (Some told) laid new
    → Passes own peers newest front all first (Some told) left new
passes_told own other peers others newest newer front further all first waits waited rest left told old laid new look next lies stays passes one =
    let is = told_one other others newer further waited told laid new one in
    record {
      over =
          subst (λ (f : List (Option Frame)). PassesOver own peers newest front all first (told ∷ left) f) (sym (is.1.1 ∙ lies))
          (subst (λ (r : List Notice). PassesOver own peers newest front all first (told ∷ r) old) (sym stays)
          (subst (λ (n : Option Notice). PassesOver own peers newest front all first (listed n ++ rest) old) (sym is.0) (subst (λ (w : List Notice). PassesOver own peers newest front all first w old) next passes)));
      in_time = subst (λ (f : ℕ). IsNoticeInTime f told) look.front_is (in_time further waited (Some told) is.0 is.1.0);
    }

pub passes_none : (own : Own) (peers : List Peer) (newest : List (Option Subject)) (front : ℕ) (all : List Notice) (first : List (Option Frame)) (waits rest : List Notice) (last end : List (Option Frame))
    → rest ≡ waits → end ≡ last → PassesOver own peers newest front all first waits last → Passes own peers newest front all first None rest end
passes_none own peers newest front all first waits rest last end same stays passes = record {
  over = subst (λ (f : List (Option Frame)). PassesOver own peers newest front all first rest f) (sym stays) (subst (λ (w : List Notice). PassesOver own peers newest front all first w last) (sym same) passes);
  in_time = tt;
}

pub passes_on : (own other : Own) (peers others : List Peer) (newest newer : List (Option Subject)) (front further : ℕ) (all : List Notice) (first : List (Option Frame)) (waits : List Notice) (waited : Notice) (rest left : List Notice) (old laid new : List (Option Frame))
    → SameLook own other peers others newest newer front further → waits ≡ waited ∷ rest → laid ≡ old → left ≡ rest → PassesOver own peers newest front all first waits old → PassesOne other others newer further waited None laid new
    → PassesOver own peers newest front all first left new
passes_on own other peers others newest newer front further all first waits waited rest left old laid new look next lies stays passes one =
    subst (λ (r : List Notice). PassesOver own peers newest front all first r new) (sym stays)
    (one_more waited rest old new (subst (λ (w : List Notice). PassesOver own peers newest front all first w old) next passes)
    (subst (λ (o : Own). PassesOne o peers newest front waited None old new) look.own_is
    (subst (λ (ps : List Peer). PassesOne other ps newest front waited None old new) look.peers_are
    (subst (λ (ns : List (Option Subject)). PassesOne other others ns front waited None old new) look.newest_are
    (subst (λ (f : ℕ). PassesOne other others newer f waited None old new) look.front_is
    (subst (λ (fs : List (Option Frame)). PassesOne other others newer further waited None fs new) lies one))))))

-- ---- those that are set aside

-- of one of both what holds of both holds
pub of_one : {A : Type 0} → (P : A → Type 0) (first next one : Option A) → (one ≡ first) ⊎ (one ≡ next) → IfSome first P → IfSome next P → IfSome one P
of_one P first next one (inl same) holds more = subst (λ (o : Option _). IfSome o P) (sym same) holds
of_one P first next one (inr same) holds more = subst (λ (o : Option _). IfSome o P) (sym same) more

-- a frame that asks something is there
pub is_there : (frame : Option Frame) (question : Question) → asked_in frame ≡ Some question → frame ≡ None → ⊥
is_there None question asks same = absurd cc
is_there (Some frame) question asks same = absurd cc

-- none of so many is needed, and the next isn't
pub none_more : (own : Own) (peers : List Peer) (newest : List (Option Subject)) (frames : List (Option Frame)) (count : ℕ)
    → ((number : ℕ) → number < count → (question : Question) → question_at frames number ≡ Some question → NeedsNoAnswer own peers newest number question)
    → ((question : Question) → question_at frames count ≡ Some question → NeedsNoAnswer own peers newest count question)
    → (number : ℕ) → number < count + 1 → (question : Question) → question_at frames number ≡ Some question → NeedsNoAnswer own peers newest number question
none_more own peers newest frames count before here number within question asks =
    elim (cases_lt number count) [
      | inl below ↦ before number below question asks
      | inr above ↦
          let same : count ≡ number = omega (arith, above, within) in
          subst (λ (n : ℕ). NeedsNoAnswer own peers newest n question) same (here question (subst (λ (n : ℕ). question_at frames n ≡ Some question) (sym same) asks))
    ]
