-- Who keeps a place among guests, call by call.
use Rattle.std.proofs.Common.{◌≡◌, ◌≢◌, inl, inr, ◌⊎◌, ℕ, ◌+◌, ◌<◌, ◌≤◌, ◌&&◌, not, Bool, true, false, eqb, List, length, set, Option, Some, None, arith, refl, sym, ap, subst, ◌∙◌}
use Rattle.std.proofs.lemmas.Bool.Decides.{eqb_tells}
use Rattle.std.proofs.lemmas.List.{get_or-set_same, get_or-set_other}
use Rattle.std.proofs.Math.ListN.{get_or-eq_default}
use Rattle.node_seats.specs.declared.guest.Guest.{Guest}
use Rattle.node_seats.specs.declared.token_digest.TokenDigest.{TokenDigest}
use Rattle.node_seats.specs.declared.guest.Found.{Found}
use Rattle.node_seats.specs.declared.guest.Found.TheVariants.{Nothing}
use Rattle.node_seats.specs.declared.guests.Guests.{Guests}
use Rattle.node_seats.specs.Coming.{AreFit, AreOneASeat}
use Rattle.node_wires.specs.declared.limits.TheConstants.{GUESTS}
use Rattle.node_seats.specs.Tokens.{begins_well, is_whole, is_open}
use Rattle.node_seats.specs.Guesting.{ShowsToken}
use Rattle.node_seats.specs.Keeping.{IsFit, IsOpen, IsShown, IsLeftBy, waits_for, stands_at, Stays, LeavesOnly, LeavesOthers, KeepsBut, KeepsFit, WaitsAlone, IsNewest, IsOneASeat}

pub stays_same : (old new : List (Option Guest)) → new ≡ old → LeavesOnly old new
stays_same old new same place = inl (ap (λ (gs : List (Option Guest)). stands_at gs place) same)

pub but_same : (place : ℕ) (old new : List (Option Guest)) → new ≡ old → KeepsBut place old new
but_same place old new same other differs = inl (ap (λ (gs : List (Option Guest)). stands_at gs other) same)

-- one place changes
pub but_set : (guests : List (Option Guest)) (place : ℕ) (guest : Option Guest) → KeepsBut place guests (set guests place guest)
but_set guests place guest other differs = inl (get_or-set_other guests place other guest None differs)

pub cleared_here : (guests : List (Option Guest)) (place : ℕ) → place < length guests → stands_at (set guests place None) place ≡ None
cleared_here guests place within = get_or-set_same guests place None None within

pub cleared_elsewhere : (guests : List (Option Guest)) (place : ℕ) → LeavesOthers place guests (set guests place None)
cleared_elsewhere guests place other differs = get_or-set_other guests place other None None differs

pub nobody_behind : (guests : List (Option Guest)) (place : ℕ) → length guests ≤ place → stands_at guests place ≡ None
nobody_behind guests place behind = get_or-eq_default guests None behind

leaves_at : (old new : List (Option Guest)) (place other : ℕ) → stands_at new place ≡ None → LeavesOthers place old new → ((eqb other place ≡ true) × (other ≡ place)) ⊎ ((eqb other place ≡ false) × (other ≢ place)) → Stays old new other
leaves_at old new place other gone others (inl here) = inr (subst (λ (n : ℕ). stands_at new n ≡ None) (sym here.1) gone)
leaves_at old new place other gone others (inr elsewhere) = inl (others other elsewhere.1)

pub leaves_of : (old new : List (Option Guest)) (place : ℕ) → stands_at new place ≡ None → LeavesOthers place old new → LeavesOnly old new
leaves_of old new place gone others other = leaves_at old new place other gone others (eqb_tells other place)

-- ---- what is found of one

pub shown_by : (tokens : List TokenDigest) (guest : Guest) → ShowsToken tokens guest.seat guest.line.items → IsShown tokens guest.seat (Some guest)
shown_by tokens guest shows = (refl, shows)

pub fit_shown : (tokens : List TokenDigest) (seat : ℕ) (guest : Option Guest) → IsShown tokens seat guest → IsFit tokens guest
fit_shown tokens seat None shown = tt
fit_shown tokens seat (Some guest) shown = inr shown.1

pub fit_open : (tokens : List TokenDigest) (guest : Option Guest) → IsOpen guest → IsFit tokens guest
fit_open tokens None is = tt
fit_open tokens (Some guest) is = inl is

open_of : (begins whole : Bool) → begins ≡ true → whole ≡ false → begins && not whole ≡ true
open_of true false is isnt = refl
open_of true true is isnt = absurd cc
open_of false true is isnt = absurd cc
open_of false false is isnt = absurd cc

pub open_by : (guest : Guest) → begins_well guest.line.items ≡ true → is_whole guest.line.items ≡ false → IsOpen (Some guest)
open_by guest is isnt = open_of (begins_well guest.line.items) (is_whole guest.line.items) is isnt

pub left_set : (tokens : List TokenDigest) (found : Found) (guests : List (Option Guest)) (place : ℕ) (guest : Option Guest) → place < length guests → IsLeftBy tokens found guest → IsLeftBy tokens found (stands_at (set guests place guest) place)
left_set tokens found guests place guest within left = subst (λ (g : Option Guest). IsLeftBy tokens found g) (sym (get_or-set_same guests place guest None within)) left

pub left_nobody : (tokens : List TokenDigest) (guests : List (Option Guest)) (place : ℕ) → length guests ≤ place → IsLeftBy tokens Nothing (stands_at guests place)
left_nobody tokens guests place behind = subst (λ (g : Option Guest). IsOpen g) (sym (nobody_behind guests place behind)) tt

-- ---- who waits

not_waiting : (seat : ℕ) (old new : List (Option Guest)) (place : ℕ) → waits_for seat (stands_at old place) ≡ false → Stays old new place → waits_for seat (stands_at new place) ≡ false
not_waiting seat old new place isnt (inl same) = ap (λ (g : Option Guest). waits_for seat g) same ∙ isnt
not_waiting seat old new place isnt (inr gone) = ap (λ (g : Option Guest). waits_for seat g) gone

-- at no place below this count but one somebody waits
abbrev pub WaitsBelow : ℕ → ℕ → ℕ → List (Option Guest) → Type 0
WaitsBelow count seat place guests = (other : ℕ) → other < count → other ≢ place → waits_for seat (stands_at guests other) ≡ false

alone_at : (seat place n other : ℕ) (old new : List (Option Guest)) → WaitsBelow n seat place old → LeavesOnly old new → (n ≢ place → waits_for seat (stands_at new n) ≡ false) → other < n + 1 → other ≢ place
    → ((eqb other n ≡ true) × (other ≡ n)) ⊎ ((eqb other n ≡ false) × (other ≢ n)) → waits_for seat (stands_at new other) ≡ false
alone_at seat place n other old new below leaves here within differs (inl same) =
    subst (λ (m : ℕ). waits_for seat (stands_at new m) ≡ false) (sym same.1) (here (λ e. differs (same.1 ∙ e)))
alone_at seat place n other old new below leaves here within differs (inr elsewhere) =
    not_waiting seat old new other (below other (omega (arith, within, elsewhere.1)) differs) (leaves other)

pub alone_more : (seat place n : ℕ) (old new : List (Option Guest)) → WaitsBelow n seat place old → LeavesOnly old new → (n ≢ place → waits_for seat (stands_at new n) ≡ false) → WaitsBelow (n + 1) seat place new
alone_more seat place n old new below leaves here other within differs = alone_at seat place n other old new below leaves here within differs (eqb_tells other n)

pub alone_still : (seat place : ℕ) (old new : List (Option Guest)) → WaitsAlone seat place old → LeavesOnly old new → WaitsAlone seat place new
alone_still seat place old new alone leaves other within differs = not_waiting seat old new other (alone other within differs) (leaves other)

-- ---- one call behind another

stays_on : (a b c : List (Option Guest)) (place : ℕ) → Stays a b place → Stays b c place → Stays a c place
stays_on a b c place one (inr gone) = inr gone
stays_on a b c place (inl same) (inl still) = inl (still ∙ same)
stays_on a b c place (inr gone) (inl still) = inr (still ∙ gone)

pub leaves_on : (a b c : List (Option Guest)) → LeavesOnly a b → LeavesOnly b c → LeavesOnly a c
leaves_on a b c one two place = stays_on a b c place (one place) (two place)

pub but_on : (place : ℕ) (a b c : List (Option Guest)) → KeepsBut place a b → LeavesOnly b c → KeepsBut place a c
but_on place a b c one two other differs = stays_on a b c other (one other differs) (two other)

pub but_again : (place : ℕ) (a b c : List (Option Guest)) → KeepsBut place a b → KeepsBut place b c → KeepsBut place a c
but_again place a b c one two other differs = stays_on a b c other (one other differs) (two other differs)

-- ---- who is fit

pub nobody_fit : (tokens : List TokenDigest) (guest : Option Guest) → guest ≡ None → IsFit tokens guest
nobody_fit tokens guest gone = subst (λ (g : Option Guest). IsFit tokens g) (sym gone) tt

fit_by : (tokens : List TokenDigest) (old new : List (Option Guest)) (place : ℕ) → IsFit tokens (stands_at old place) → Stays old new place → IsFit tokens (stands_at new place)
fit_by tokens old new place fit (inl same) = subst (λ (g : Option Guest). IsFit tokens g) (sym same) fit
fit_by tokens old new place fit (inr gone) = nobody_fit tokens (stands_at new place) gone

pub fit_still : (tokens : List TokenDigest) (old new : List (Option Guest)) (place : ℕ) → IsFit tokens (stands_at old place) → LeavesOnly old new → IsFit tokens (stands_at new place)
fit_still tokens old new place fit leaves = fit_by tokens old new place fit (leaves place)

-- ---- who is the newest

both_true : (one other : Bool) → one && other ≡ true → one ≡ true
both_true true other is = refl
both_true false other is = absurd cc

same_seat : (seat other : ℕ) → ((eqb seat other ≡ true) × (seat ≡ other)) ⊎ ((eqb seat other ≡ false) × (seat ≢ other)) → eqb seat other ≡ true → seat ≡ other
same_seat seat other (inl same) is = same.1
same_seat seat other (inr differs) is = absurd (cc (differs.0, is))

shown_waits : (tokens : List TokenDigest) (seat other : ℕ) (guest : Option Guest) → IsShown tokens seat guest → waits_for other guest ≡ true → seat ≡ other
shown_waits tokens seat other None shown waits = absurd cc
shown_waits tokens seat other (Some guest) shown waits =
    sym shown.0 ∙ same_seat guest.seat other (eqb_tells guest.seat other) (both_true (eqb guest.seat other) (not (is_open guest.line.items)) waits)

none_of : (is : Bool) → is && false ≡ false
none_of true = refl
none_of false = refl

open_waits : (seat : ℕ) (guest : Option Guest) → IsOpen guest → waits_for seat guest ≡ false
open_waits seat None is = refl
open_waits seat (Some guest) is = ap (λ (b : Bool). eqb guest.seat seat && not b) is ∙ none_of (eqb guest.seat seat)

no_newest : (place : ℕ) (guests : List (Option Guest)) → ((seat : ℕ) → waits_for seat (stands_at guests place) ≡ false) → IsNewest place guests
no_newest place guests none seat waits = absurd (let e : false ≡ true = sym (none seat) ∙ waits in cc)

pub newest_gone : (place : ℕ) (guests : List (Option Guest)) → stands_at guests place ≡ None → IsNewest place guests
newest_gone place guests gone = no_newest place guests (λ seat. ap (λ (g : Option Guest). waits_for seat g) gone)

pub newest_open : (place : ℕ) (guests : List (Option Guest)) → IsOpen (stands_at guests place) → IsNewest place guests
newest_open place guests is = no_newest place guests (λ seat. open_waits seat (stands_at guests place) is)

pub newest_shown : (tokens : List TokenDigest) (seat place : ℕ) (guests : List (Option Guest)) → IsShown tokens seat (stands_at guests place) → WaitsAlone seat place guests → IsNewest place guests
newest_shown tokens seat place guests shown alone other waits = subst (λ (n : ℕ). WaitsAlone n place guests) (shown_waits tokens seat other (stands_at guests place) shown waits) alone

newest_by : (old new : List (Option Guest)) (place : ℕ) → IsNewest place old → LeavesOnly old new → Stays old new place → IsNewest place new
newest_by old new place newest leaves (inl same) = λ seat waits. alone_still seat place old new (newest seat (sym (ap (λ (g : Option Guest). waits_for seat g) same) ∙ waits)) leaves
newest_by old new place newest leaves (inr gone) = newest_gone place new gone

pub newest_still : (old new : List (Option Guest)) (place : ℕ) → IsNewest place old → LeavesOnly old new → IsNewest place new
newest_still old new place newest leaves = newest_by old new place newest leaves (leaves place)

-- ---- all of them

all_by : (tokens : List TokenDigest) (old new : List (Option Guest)) (place : ℕ) → Stays old new place → (stands_at new place ≡ stands_at old place) ⊎ (IsFit tokens (stands_at new place) × IsNewest place new)
all_by tokens old new place (inl same) = inl same
all_by tokens old new place (inr gone) = inr (nobody_fit tokens (stands_at new place) gone, newest_gone place new gone)

fit_at : (tokens : List TokenDigest) (old new : List (Option Guest)) (place other : ℕ) → KeepsBut place old new → IsFit tokens (stands_at new place) → IsNewest place new
    → ((eqb other place ≡ true) × (other ≡ place)) ⊎ ((eqb other place ≡ false) × (other ≢ place)) → (stands_at new other ≡ stands_at old other) ⊎ (IsFit tokens (stands_at new other) × IsNewest other new)
fit_at tokens old new place other keeps fit newest (inl here) = inr (subst (λ (n : ℕ). IsFit tokens (stands_at new n) × IsNewest n new) (sym here.1) (fit, newest))
fit_at tokens old new place other keeps fit newest (inr elsewhere) = all_by tokens old new other (keeps other elsewhere.1)

pub all_fit : (tokens : List TokenDigest) (old new : List (Option Guest)) (place : ℕ) → KeepsBut place old new → IsFit tokens (stands_at new place) → IsNewest place new → KeepsFit tokens old new
all_fit tokens old new place keeps fit newest other = fit_at tokens old new place other keeps fit newest (eqb_tells other place)

pub all_same : (tokens : List TokenDigest) (old new : List (Option Guest)) → new ≡ old → KeepsFit tokens old new
all_same tokens old new same place = inl (ap (λ (gs : List (Option Guest)). stands_at gs place) same)

-- the guests of seats that have tokens
pub are_fit : (was : Option Guests) (old new : Guests) → was ≡ Some old → KeepsFit old.tokens.items old.guests.items new.guests.items → AreFit was (Some new)
are_fit was old new is keeps = subst (λ (g : Option Guests). AreFit g (Some new)) (sym is) keeps

pub are_same : (old new : Option Guests) → new ≡ old → AreFit old new
are_same None new same = same
are_same (Some old) new same = subst (λ (g : Option Guests). AreFit (Some old) g) (sym same) (all_same old.tokens.items old.guests.items old.guests.items refl)

-- ---- one a seat

not_both : (seat one other : ℕ) (guests : List (Option Guest)) → IsNewest one guests → waits_for seat (stands_at guests one) ≡ true → other < GUESTS → other ≢ one → waits_for seat (stands_at guests other) ≡ true → ⊥
not_both seat one other guests newest waits within differs too =
    let e : false ≡ true = sym (newest seat waits other within differs) ∙ too in cc

one_by : (tokens : List TokenDigest) (old new : List (Option Guest)) (one other seat : ℕ) → IsOneASeat old → one < GUESTS → other < GUESTS → waits_for seat (stands_at new one) ≡ true → waits_for seat (stands_at new other) ≡ true → one ≢ other
    → (stands_at new one ≡ stands_at old one) ⊎ (IsFit tokens (stands_at new one) × IsNewest one new) → (stands_at new other ≡ stands_at old other) ⊎ (IsFit tokens (stands_at new other) × IsNewest other new) → one ≡ other
one_by tokens old new one other seat were within there waits too differs (inr came) other_is = absurd (not_both seat one other new came.1 waits there (λ e. differs (sym e)) too)
one_by tokens old new one other seat were within there waits too differs (inl same) (inr came) = absurd (not_both seat other one new came.1 too within differs waits)
one_by tokens old new one other seat were within there waits too differs (inl same) (inl still) =
    were one other seat within there (sym (ap (λ (g : Option Guest). waits_for seat g) same) ∙ waits) (sym (ap (λ (g : Option Guest). waits_for seat g) still) ∙ too)

one_at : (tokens : List TokenDigest) (old new : List (Option Guest)) (one other seat : ℕ) → KeepsFit tokens old new → IsOneASeat old → one < GUESTS → other < GUESTS → waits_for seat (stands_at new one) ≡ true → waits_for seat (stands_at new other) ≡ true
    → ((eqb one other ≡ true) × (one ≡ other)) ⊎ ((eqb one other ≡ false) × (one ≢ other)) → one ≡ other
one_at tokens old new one other seat keeps were within there waits too (inl same) = same.1
one_at tokens old new one other seat keeps were within there waits too (inr differs) = one_by tokens old new one other seat were within there waits too differs.1 (keeps one) (keeps other)

still_one : (tokens : List TokenDigest) (old new : List (Option Guest)) → KeepsFit tokens old new → IsOneASeat old → IsOneASeat new
still_one tokens old new keeps were one other seat within there waits too = one_at tokens old new one other seat keeps were within there waits too (eqb_tells one other)

pub one_a_seat : (old new : Option Guests) → AreFit old new → AreOneASeat old → AreOneASeat new
one_a_seat None new is were = subst (λ (g : Option Guests). AreOneASeat g) (sym is) tt
one_a_seat (Some old) None is were = absurd is
one_a_seat (Some old) (Some new) is were = still_one old.tokens.items old.guests.items new.guests.items is were
