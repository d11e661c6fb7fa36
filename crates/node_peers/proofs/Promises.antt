-- What a peer is known to have promised only rises.
use Rattle.std.proofs.Common.{◌≡◌, inl, inr, ℕ, zero, suc, ◌<◌, ◌≤◌, ◌==◌, Bool, true, false, cond, if◌then◌else◌, List, [], ◌∷◌, length, get_or, set, slice_get, Option, Some, None, refl, ap, sym, subst, ◌∙◌, arith}
use Rattle.std.specs.Prelude.{◌≢◌}
use Rattle.std.proofs.lemmas.Bool.{eq-eqb}
use Rattle.std.proofs.lemmas.Bool.Decides.{eqb_tells, nat_tests}
use Rattle.paxos_wire.specs.declared.ballot.Ballot.{Ballot}
use Rattle.paxos_wire.specs.Order.{is_below}
use Rattle.node_links.specs.Promising.{promises_less, higher}
use Rattle.node_peers.specs.declared.peer.Peer.{Peer}
use Rattle.node_peers.specs.Showing.{older_than, promised_in, raised_in, shown_in}

-- ---- of ballots

self_by : (b : Ballot) (test : Bool) → is_below b b ≡ test → is_below b b ≡ false
self_by b true is = absurd (let never : ⊥ = grind (arith, nat_tests, is) in never)
self_by b false is = is

pub less_self : (p : Option Ballot) → promises_less p p ≡ false
less_self None = refl
less_self (Some b) = self_by b (is_below b b) refl

on_by : (a b c : Ballot) → is_below b a ≡ false → is_below c b ≡ false → (test : Bool) → is_below c a ≡ test → is_below c a ≡ false
on_by a b c one two true is = absurd (let never : ⊥ = grind (arith, nat_tests, is, one, two) in never)
on_by a b c one two false is = is

pub less_on : (a b c : Option Ballot) → promises_less b a ≡ false → promises_less c b ≡ false → promises_less c a ≡ false
less_on None b c one two = refl
less_on (Some a) None c one two = absurd cc
less_on (Some a) (Some b) None one two = absurd cc
less_on (Some a) (Some b) (Some c) one two = on_by a b c one two (is_below c a) refl

flip_by : (a b : Ballot) → is_below a b ≡ true → (test : Bool) → is_below b a ≡ test → is_below b a ≡ false
flip_by a b below true is = absurd (let never : ⊥ = grind (arith, nat_tests, is, below) in never)
flip_by a b below false is = is

less_flip : (a b : Option Ballot) → promises_less a b ≡ true → promises_less b a ≡ false
less_flip a None less = absurd cc
less_flip None (Some b) less = refl
less_flip (Some a) (Some b) less = flip_by a b less (is_below b a) refl

higher_by : (a b : Option Ballot) (test : Bool) → promises_less a b ≡ test → promises_less (if test then b else a) a ≡ false
higher_by a b true is = less_flip a b is
higher_by a b false is = less_self a

less_higher : (a b : Option Ballot) → promises_less (higher a b) a ≡ false
less_higher a b = higher_by a b (promises_less a b) refl

-- ---- of a peer

pub same_promise : (old new : Option Ballot) → new ≡ old → promises_less new old ≡ false
same_promise old new same = subst (λ (p : Option Ballot). promises_less p old ≡ false) (sym same) (less_self old)

pub risen_promise : (old new shown : Option Ballot) → new ≡ higher old shown → promises_less new old ≡ false
risen_promise old new shown is = subst (λ (p : Option Ballot). promises_less p old ≡ false) (sym is) (less_higher old shown)

older_by : (known promised : Option Ballot) (ballot : Ballot) (test : Bool) → promises_less promised known ≡ test → (if test then known else None) ≡ Some ballot → (promises_less promised known ≡ true) × (known ≡ Some ballot)
older_by known promised ballot true is e = (is, e)
older_by known promised ballot false is e = absurd cc

pub older_shown : (known promised : Option Ballot) (ballot : Ballot) → older_than known promised ≡ Some ballot → (promises_less promised known ≡ true) × (known ≡ Some ballot)
older_shown known promised ballot e = older_by known promised ballot (promises_less promised known) refl e

-- ---- of all peers

get_same : (number : ℕ) (peers : List Peer) (new : Peer) → number < length peers → slice_get (set peers number new) number ≡ Some new
get_same number [] new within = absurd (omega (arith, within))
get_same zero (p ∷ peers) new within = refl
get_same (suc number) (p ∷ peers) new within = get_same number peers new (omega (arith, within))

get_other : (number other : ℕ) (peers : List Peer) (new : Peer) → other ≢ number → slice_get (set peers number new) other ≡ slice_get peers other
get_other number other [] new differs = refl
get_other zero zero (p ∷ peers) new differs = absurd (differs refl)
get_other zero (suc other) (p ∷ peers) new differs = refl
get_other (suc number) zero (p ∷ peers) new differs = refl
get_other (suc number) (suc other) (p ∷ peers) new differs = get_other number other peers new (λ same. differs (ap (λ (n : ℕ). suc n) same))

get_there : (number : ℕ) (peers : List Peer) (old : Peer) → number < length peers → old ≡ get_or peers number old → slice_get peers number ≡ Some old
get_there number [] old within at = absurd (omega (arith, within))
get_there zero (p ∷ peers) old within at = ap (λ (q : Peer). Some q) (sym at)
get_there (suc number) (p ∷ peers) old within at = get_there number peers old (omega (arith, within)) at

get_beyond : (number : ℕ) (peers : List Peer) → length peers ≤ number → slice_get peers number ≡ None
get_beyond number [] beyond = refl
get_beyond zero (p ∷ peers) beyond = absurd (omega (arith, beyond))
get_beyond (suc number) (p ∷ peers) beyond = get_beyond number peers (omega (arith, beyond))

-- of the one that shows this, and of another
shown_here : (number : ℕ) (shown : Option Ballot) (peer : Option Peer) → shown_in number shown number peer ≡ raised_in peer shown
shown_here number shown peer = ap (λ (b : Bool). cond b (raised_in peer shown) (promised_in peer)) (eq-eqb number number refl)

shown_elsewhere : (number other : ℕ) (shown : Option Ballot) (peer : Option Peer) → (other == number) ≡ false → shown_in number shown other peer ≡ promised_in peer
shown_elsewhere number other shown peer differs = ap (λ (b : Bool). cond b (raised_in peer shown) (promised_in peer)) differs

pub shown_at : (number other : ℕ) (peers : List Peer) (old new : Peer) (shown : Option Ballot) → number < length peers → old ≡ get_or peers number old → new.promised ≡ higher old.promised shown
    → promised_in (slice_get (set peers number new) other) ≡ shown_in number shown other (slice_get peers other)
shown_at number other peers old new shown within at is = elim (eqb_tells other number) as (λ _. promised_in (slice_get (set peers number new) other) ≡ shown_in number shown other (slice_get peers other)) [
  | inl here ↦
      subst (λ (n : ℕ). promised_in (slice_get (set peers number new) n) ≡ shown_in number shown n (slice_get peers n)) (sym here.1)
      (ap (λ (p : Option Peer). promised_in p) (get_same number peers new within) ∙ (is ∙ sym (shown_here number shown (slice_get peers number) ∙ ap (λ (p : Option Peer). raised_in p shown) (get_there number peers old within at))))
  | inr there ↦ ap (λ (p : Option Peer). promised_in p) (get_other number other peers new there.1) ∙ sym (shown_elsewhere number other shown (slice_get peers other) there.0)
]

pub shown_beyond : (number other : ℕ) (peers : List Peer) (shown : Option Ballot) → length peers ≤ number → promised_in (slice_get peers other) ≡ shown_in number shown other (slice_get peers other)
shown_beyond number other peers shown beyond = elim (eqb_tells other number) as (λ _. promised_in (slice_get peers other) ≡ shown_in number shown other (slice_get peers other)) [
  | inl here ↦
      subst (λ (n : ℕ). promised_in (slice_get peers n) ≡ shown_in number shown n (slice_get peers n)) (sym here.1)
      (ap (λ (p : Option Peer). promised_in p) (get_beyond number peers beyond) ∙ sym (shown_here number shown (slice_get peers number) ∙ ap (λ (p : Option Peer). raised_in p shown) (get_beyond number peers beyond)))
  | inr there ↦ sym (shown_elsewhere number other shown (slice_get peers other) there.0)
]
