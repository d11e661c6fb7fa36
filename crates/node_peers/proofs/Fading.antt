-- Connections end, and none opens: what is known of the lives of nodes becomes less, and who isn't there doesn't come.
use Rattle.std.proofs.Common.{◌≡◌, ◌≢◌, ◌⊎◌, inl, inr, ℕ, zero, suc, ◌+◌, ◌<◌, ◌≤◌, Bool, true, false, if◌then◌else◌, List, [], ◌∷◌, get_or, set, length, replicate, Option, Some, None, refl, ap, sym, subst, ◌∙◌, arith}
use Rattle.std.specs.Prelude.{bytes_eq}
use Rattle.std.proofs.lemmas.Bool.Decides.{eqb_tells}
use Rattle.std.proofs.lemmas.Slice.Eq.{bytes_eq-Decides}
use Rattle.std.proofs.lemmas.List.{get_or-set_same, get_or-set_other, get_or_default, length-set}
use Rattle.peer_codes.specs.declared.hello.Life.{Life}
use Rattle.node_links.specs.declared.limits.TheConstants.{NODES}
use Rattle.node_links.specs.declared.own.Known.{Known}
use Rattle.node_links.specs.declared.own.Known.TheVariants.{Nothing, One, Two}
use Rattle.node_links.specs.declared.own.Own.{Own}
use Rattle.node_links.specs.Knowing.{with_life, and_life}
use Rattle.node_peers.specs.declared.peer.Peer.{Peer}
use Rattle.node_peers.specs.Knowing.{own_life, kept_life, told_by, known_of}
use Rattle.node_peers.specs.Replacing.{open_at, IsClosed, Fades, AllFade, IsLeft}

-- ---- one peer

pub fades_same : (old new : Peer) → new.open ≡ old.open → new.told ≡ old.told → new.kept ≡ old.kept → Fades old new
fades_same old new there told kept = record { place = inl there; told = λ number. inl (ap (λ (ls : List (Option Life)). get_or ls number None) told); kept = kept }

none_told : (count number : ℕ) → ◌≡◌ {A = Option Life} (get_or (replicate count None) number None) None
none_told zero number = refl
none_told (suc count) zero = refl
none_told (suc count) (suc number) = none_told count number

pub fades_parted : (old new : Peer) → new.open ≡ None → new.told ≡ replicate NODES None → new.kept ≡ old.kept → Fades old new
fades_parted old new gone told kept = record { place = inr gone; told = λ number. inr (ap (λ (ls : List (Option Life)). get_or ls number None) told ∙ none_told NODES number); kept = kept }

-- as before, or nothing
abbrev Less : {A : Type 0} → Option A → Option A → Type 0
Less old new = (new ≡ old) ⊎ (new ≡ None)

less_on : {A : Type 0} (a b c : Option A) → Less a b → Less b c → Less a c
less_on a b c one (inr none) = inr none
less_on a b c (inl same) (inl still) = inl (still ∙ same)
less_on a b c (inr none) (inl still) = inr (still ∙ none)

pub fades_on : (a b c : Peer) → Fades a b → Fades b c → Fades a c
fades_on a b c one two = record {
  place = less_on a.open b.open c.open one.place two.place;
  told = λ number. less_on (get_or a.told number None) (get_or b.told number None) (get_or c.told number None) (one.told number) (two.told number);
  kept = two.kept ∙ one.kept;
}

-- ---- all of them

pub fade_same : (peers : List Peer) → AllFade peers peers
fade_same peers = record { count = refl; fade = λ number nobody. fades_same (get_or peers number nobody) (get_or peers number nobody) refl refl refl }

pub fade_on : (a b c : List Peer) → AllFade a b → AllFade b c → AllFade a c
fade_on a b c one two = record { count = two.count ∙ one.count; fade = λ number nobody. fades_on (get_or a number nobody) (get_or b number nobody) (get_or c number nobody) (one.fade number nobody) (two.fade number nobody) }

fade_there : (number other : ℕ) (peers : List Peer) (old new nobody : Peer) → number < length peers → old ≡ get_or peers number old → Fades old new → Fades (get_or peers other nobody) (get_or (set peers number new) other nobody)
fade_there number other peers old new nobody within at fades = elim (eqb_tells other number) as (λ _. Fades (get_or peers other nobody) (get_or (set peers number new) other nobody)) [
  | inl here ↦
      subst (λ (n : ℕ). Fades (get_or peers n nobody) (get_or (set peers number new) n nobody)) (sym here.1)
      (subst (λ (p : Peer). Fades (get_or peers number nobody) p) (sym (get_or-set_same peers number new nobody within))
      (subst (λ (p : Peer). Fades p new) (at ∙ get_or_default peers number old nobody within) fades))
  | inr there ↦ subst (λ (p : Peer). Fades (get_or peers other nobody) p) (sym (get_or-set_other peers number other new nobody there.1)) (fades_same (get_or peers other nobody) (get_or peers other nobody) refl refl refl)
]

pub fade_at : (number : ℕ) (peers : List Peer) (old new : Peer) → number < length peers → old ≡ get_or peers number old → Fades old new → AllFade peers (set peers number new)
fade_at number peers old new within at fades = record { count = length-set peers number new; fade = λ other nobody. fade_there number other peers old new nobody within at fades }

-- ---- those behind the first

behind_first : (p q : Peer) (old new : List Peer) → AllFade (p ∷ old) (q ∷ new) → AllFade old new
behind_first p q old new all = record { count = omega (arith, all.count); fade = λ number nobody. all.fade (suc number) nobody }

none_for_some : (q : Peer) (new : List Peer) → AllFade [] (q ∷ new) → ⊥
none_for_some q new all = absurd (omega (arith, all.count))

some_for_none : (p : Peer) (old : List Peer) → AllFade (p ∷ old) [] → ⊥
some_for_none p old all = absurd (omega (arith, all.count))

pub open_less : (number : ℕ) (old new : List Peer) → AllFade old new → (open_at new number ≡ open_at old number) ⊎ (open_at new number ≡ None)
open_less number [] [] all = inl refl
open_less number [] (q ∷ new) all = absurd (none_for_some q new all)
open_less number (p ∷ old) [] all = absurd (some_for_none p old all)
open_less zero (p ∷ old) (q ∷ new) all = (all.fade 0 p).place
open_less (suc number) (p ∷ old) (q ∷ new) all = open_less number old new (behind_first p q old new all)

kept_same : (number : ℕ) (old new : List Peer) → AllFade old new → kept_life number new ≡ kept_life number old
kept_same number [] [] all = refl
kept_same number [] (q ∷ new) all = absurd (none_for_some q new all)
kept_same number (p ∷ old) [] all = absurd (some_for_none p old all)
kept_same zero (p ∷ old) (q ∷ new) all = (all.fade 0 p).kept
kept_same (suc number) (p ∷ old) (q ∷ new) all = kept_same number old new (behind_first p q old new all)

-- ---- what is known becomes less

-- no more is known by the first
abbrev Below : Known → Known → Type 0
Below Nothing b = Unit {0}
Below (One x) Nothing = ⊥
Below (One x) (One y) = x.bytes ≡ y.bytes
Below (One x) Two = Unit {0}
Below Two Nothing = ⊥
Below Two (One y) = ⊥
Below Two Two = Unit {0}

below_self : (a : Known) → Below a a
below_self Nothing = tt
below_self (One x) = refl
below_self Two = tt

below_two : (a : Known) → Below a Two
below_two Nothing = tt
below_two (One x) = tt
below_two Two = tt

below_on : (a b c : Known) → Below a b → Below b c → Below a c
below_on Nothing b c one two = tt
below_on (One x) Nothing c one two = absurd one
below_on (One x) (One y) Nothing one two = absurd two
below_on (One x) (One y) (One z) one two = one ∙ two
below_on (One x) (One y) Two one two = tt
below_on (One x) Two Nothing one two = absurd two
below_on (One x) Two (One z) one two = absurd two
below_on (One x) Two Two one two = tt
below_on Two Nothing c one two = absurd one
below_on Two (One y) c one two = absurd one
below_on Two Two Nothing one two = absurd two
below_on Two Two (One z) one two = absurd two
below_on Two Two Two one two = tt

by_one : (t : Bool) (x y : Life) → (t ≡ true → x.bytes ≡ y.bytes) → Below (One x) (if t then One y else Two)
by_one true x y same = same refl
by_one false x y same = tt

by_both : (t u : Bool) (x y : Life) → t ≡ u → x.bytes ≡ y.bytes → Below (if t then One x else Two) (if u then One y else Two)
by_both true true x y e same = same
by_both true false x y e same = absurd cc
by_both false true x y e same = absurd cc
by_both false false x y e same = tt

with_below : (a b : Known) (life : Life) → Below a b → Below (with_life a life) (with_life b life)
with_below Nothing Nothing life less = refl
with_below Nothing (One y) life less = by_one (bytes_eq y.bytes life.bytes) life y (λ is. sym ((bytes_eq-Decides y.bytes life.bytes).0 is))
with_below Nothing Two life less = tt
with_below (One x) Nothing life less = absurd less
with_below (One x) (One y) life less = by_both (bytes_eq x.bytes life.bytes) (bytes_eq y.bytes life.bytes) x y (ap (λ (bs : List ℕ). bytes_eq bs life.bytes) less) less
with_below (One x) Two life less = below_two (with_life (One x) life)
with_below Two Nothing life less = absurd less
with_below Two (One y) life less = absurd less
with_below Two Two life less = tt

with_more : (b : Known) (life : Life) → Below b (with_life b life)
with_more Nothing life = tt
with_more (One y) life = by_one (bytes_eq y.bytes life.bytes) y y (λ _. refl)
with_more Two life = tt

and_below : (a b : Known) (life : Option Life) → Below a b → Below (and_life a life) (and_life b life)
and_below a b None less = less
and_below a b (Some life) less = with_below a b life less

and_more : (b : Known) (life : Option Life) → Below b (and_life b life)
and_more b None = below_self b
and_more b (Some life) = with_more b life

and_less : (a b : Known) (old new : Option Life) → (new ≡ old) ⊎ (new ≡ None) → Below a b → Below (and_life a new) (and_life b old)
and_less a b old new (inl same) less = subst (λ (l : Option Life). Below (and_life a l) (and_life b old)) (sym same) (and_below a b old less)
and_less a b old new (inr none) less = subst (λ (l : Option Life). Below (and_life a l) (and_life b old)) (sym none) (below_on a b (and_life b old) less (and_more b old))

told_below : (number : ℕ) (old new : List Peer) (a b : Known) → AllFade old new → Below a b → Below (told_by number new a) (told_by number old b)
told_below number [] [] a b all less = less
told_below number [] (q ∷ new) a b all less = absurd (none_for_some q new all)
told_below number (p ∷ old) [] a b all less = absurd (some_for_none p old all)
told_below number (p ∷ old) (q ∷ new) a b all less =
    told_below number old new (and_life a (get_or q.told number None)) (and_life b (get_or p.told number None)) (behind_first p q old new all)
    (and_less a b (get_or p.told number None) (get_or q.told number None) ((all.fade 0 p).told number) less)

two_above : (a b : Known) → Below a b → a ≡ Two → b ≡ Two
two_above Nothing b less is = absurd cc
two_above (One x) b less is = absurd cc
two_above Two Nothing less is = absurd less
two_above Two (One y) less is = absurd less
two_above Two Two less is = refl

pub known_falls : (own : Own) (number : ℕ) (old new : List Peer) → AllFade old new → known_of own number new ≡ Two → known_of own number old ≡ Two
known_falls own number old new all is =
    let first = and_life Nothing (own_life own number) in
    two_above (known_of own number new) (known_of own number old)
    (told_below number old new (and_life first (kept_life number new)) (and_life first (kept_life number old)) all
    (subst (λ (l : Option Life). Below (and_life first l) (and_life first (kept_life number old))) (sym (kept_same number old new all)) (below_self (and_life first (kept_life number old)))))
    is

-- ---- who isn't there doesn't come

still_none : (number : ℕ) (old new : List Peer) → AllFade old new → open_at old number ≡ None → open_at new number ≡ None
still_none number old new all none = elim (open_less number old new all) as (λ _. open_at new number ≡ None) [
  | inl same ↦ same ∙ none
  | inr gone ↦ gone
]

pub closed_on : (own : Own) (number : ℕ) (old new : List Peer) → AllFade old new → IsClosed own old number → IsClosed own new number
closed_on own number old new all closed other is = still_none number old new all (closed other (known_falls own number old new all is))

-- one more is closed
pub closed_next : (own : Own) (count : ℕ) (old new : List Peer) → AllFade old new → ((number : ℕ) → number < count → IsClosed own old number) → IsClosed own new count → (number : ℕ) → number < count + 1 → IsClosed own new number
closed_next own count old new all closed here number below = elim (eqb_tells number count) as (λ _. IsClosed own new number) [
  | inl is ↦ subst (λ (n : ℕ). IsClosed own new n) (sym is.1) here
  | inr differs ↦ closed_on own number old new all (closed number (omega (arith, below, differs.1)))
]

-- ---- who was there by a connection that ended isn't there

still_not : (number place : ℕ) (old new : List Peer) → AllFade old new → open_at old number ≢ Some place → open_at new number ≢ Some place
still_not number place old new all isnt is = elim (open_less number old new all) as (λ _. ⊥) [
  | inl same ↦ isnt (sym same ∙ is)
  | inr gone ↦ let never : Some place ≡ None = sym is ∙ gone in absurd (cc never)
]

pub left_on : (place : ℕ) (old new : List Peer) → AllFade old new → IsLeft place old → IsLeft place new
left_on place old new all left number below = still_not number place old new all (left number below)

pub left_next : (place count : ℕ) (old new : List Peer) → AllFade old new → ((number : ℕ) → number < count → open_at old number ≢ Some place) → open_at new count ≢ Some place → (number : ℕ) → number < count + 1 → open_at new number ≢ Some place
left_next place count old new all left here number below = elim (eqb_tells number count) as (λ _. open_at new number ≢ Some place) [
  | inl is ↦ subst (λ (n : ℕ). open_at new n ≢ Some place) (sym is.1) here
  | inr differs ↦ still_not number place old new all (left number (omega (arith, below, differs.1)))
]

pub closed_by_end : (place number : ℕ) (old new : List Peer) → number < NODES → AllFade old new → IsLeft place new → open_at old number ≡ Some place → open_at new number ≡ None
closed_by_end place number old new below all left was = elim (open_less number old new all) as (λ _. open_at new number ≡ None) [
  | inl same ↦ absurd (left number below (same ∙ was))
  | inr gone ↦ gone
]

-- ---- where one peer is there, or none is

pub nobody_there : (number : ℕ) (peers : List Peer) → length peers ≤ number → open_at peers number ≡ None
nobody_there number [] beyond = refl
nobody_there zero (p ∷ peers) beyond = absurd (omega (arith, beyond))
nobody_there (suc number) (p ∷ peers) beyond = nobody_there number peers (omega (arith, beyond))

pub open_there : (number : ℕ) (peers : List Peer) (new : Peer) → number < length peers → open_at (set peers number new) number ≡ new.open
open_there number [] new within = absurd (omega (arith, within))
open_there zero (p ∷ peers) new within = refl
open_there (suc number) (p ∷ peers) new within = open_there number peers new (omega (arith, within))
