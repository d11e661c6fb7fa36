-- What came over the lines of guests, as more passes and as guests come and go.
use Rattle.std.proofs.Common.{◌≡◌, inl, inr, ◌⊎◌, ◌≢◌, ℕ, ◌<◌, ◌≤◌, Bool, true, false, cond, eqb, List, [], ◌∷◌, ◌++◌, length, get_or, set, Option, Some, None, arith, refl, sym, ap, subst, ◌∙◌}
use Rattle.std.specs.Prelude.{◌||◌}
use Rattle.std.proofs.lemmas.Bool.{eq-eqb, ne_eqb}
use Rattle.std.proofs.lemmas.Bool.Decides.{eqb_tells}
use Rattle.std.proofs.lemmas.List.{get_or-set_same, get_or-set_other}
use Rattle.std.proofs.Math.ListN.{get_or-eq_default}
use Rattle.node_wires.specs.declared.line.Line.{Line}
use Rattle.node_wires.specs.declared.line.Line.TheVariants.{Guest as GuestAt}
use Rattle.node_wires.specs.declared.way.Way.TheVariants.{Reading}
use Rattle.node_wires.specs.declared.halt.Halt.{Halt}
use Rattle.node_wires.specs.declared.halt.Halt.TheVariants as halts
use Rattle.node_wires.specs.Passages.{Passage, Began, Came, Gave, Tried, Ended, Closed, halted_as, came_by, came_behind, came_over}
use Rattle.node_seats.specs.declared.guest.Guest.{Guest}
use Rattle.node_seats.specs.declared.guest.Found.{Found}
use Rattle.node_seats.specs.declared.token_digest.TokenDigest.{TokenDigest}
use Rattle.node_seats.specs.Tokens.{IsTokenLine}
use Rattle.node_seats.specs.Guesting.{IsHeard, AreHeard, Hears, HeardThrough, ShowsToken, no_digest, IsFound}

-- ---- one passage more

came_more : (line : Line) (before : List ℕ) (xs : List Passage) (p : Passage) → came_behind line before (xs ++ p ∷ []) ≡ came_by line (came_behind line before xs) p
came_more line before [] p = refl
came_more line before (x ∷ xs) p = came_more line (came_by line before x) xs p

chosen : (same : Bool) (a b : List ℕ) → same ≡ true → cond same a b ≡ a
chosen true a b e = refl
chosen false a b e = absurd cc

passed_over : (same : Bool) (a b : List ℕ) → same ≡ false → cond same a b ≡ b
passed_over true a b e = absurd cc
passed_over false a b e = refl

piece_here : (passed : List Passage) (place : ℕ) (piece : List ℕ) → came_over (passed ++ Came (GuestAt place) piece ∷ []) (GuestAt place) ≡ came_over passed (GuestAt place) ++ piece
piece_here passed place piece = came_more (GuestAt place) [] passed (Came (GuestAt place) piece) ∙ chosen (eqb place place) _ _ (eq-eqb place place refl)

piece_elsewhere : (passed : List Passage) (place other : ℕ) (piece : List ℕ) → (place ≡ other → ⊥) → came_over (passed ++ Came (GuestAt place) piece ∷ []) (GuestAt other) ≡ came_over passed (GuestAt other)
piece_elsewhere passed place other piece differ = came_more (GuestAt other) [] passed (Came (GuestAt place) piece) ∙ passed_over (eqb place other) _ _ (ne_eqb place other differ)

began_here : (passed : List Passage) (place : ℕ) → came_over (passed ++ Began (GuestAt place) ∷ []) (GuestAt place) ≡ []
began_here passed place = came_more (GuestAt place) [] passed (Began (GuestAt place)) ∙ chosen (eqb place place) _ _ (eq-eqb place place refl)

began_elsewhere : (passed : List Passage) (place other : ℕ) → (place ≡ other → ⊥) → came_over (passed ++ Began (GuestAt place) ∷ []) (GuestAt other) ≡ came_over passed (GuestAt other)
began_elsewhere passed place other differ = came_more (GuestAt other) [] passed (Began (GuestAt place)) ∙ passed_over (eqb place other) _ _ (ne_eqb place other differ)

by_given : (here : Bool) (before : List ℕ) → here ≡ false → cond (here || false) [] before ≡ before
by_given true before e = absurd cc
by_given false before e = refl

given_elsewhere : (passed : List Passage) (place seat other : ℕ) → (place ≡ other → ⊥) → came_over (passed ++ Gave place seat ∷ []) (GuestAt other) ≡ came_over passed (GuestAt other)
given_elsewhere passed place seat other differ = came_more (GuestAt other) [] passed (Gave place seat) ∙ by_given (eqb place other) (came_over passed (GuestAt other)) (ne_eqb place other differ)

-- ---- one guest

pub hears_alike : (place : ℕ) (old new : Guest) (passed_old passed_new : List Passage) → new.line.items ≡ old.line.items → passed_new ≡ passed_old → Hears place (Some old) (Some new) passed_old passed_new
hears_alike place old new passed_old passed_new line same = record {
  here = λ is. ap (λ (ps : List Passage). came_over ps (GuestAt place)) same ∙ (is ∙ sym line);
  elsewhere = λ other differ. ap (λ (ps : List Passage). came_over ps (GuestAt other)) same;
}

pub hears_nobody : (place : ℕ) (old : Option Guest) (passed_old passed_new : List Passage) → passed_new ≡ passed_old → Hears place old None passed_old passed_new
hears_nobody place old passed_old passed_new same = record { here = λ is. tt; elsewhere = λ other differ. ap (λ (ps : List Passage). came_over ps (GuestAt other)) same }

pub hears_on : (place : ℕ) (a b c : Option Guest) (x y z : List Passage) → Hears place a b x y → Hears place b c y z → Hears place a c x z
hears_on place a b c x y z one two = record {
  here = λ is. two.here (one.here is);
  elsewhere = λ other differ. two.elsewhere other differ ∙ one.elsewhere other differ;
}

pub hears_piece : (place : ℕ) (piece : List ℕ) (old new : Guest) (passed_old passed_new : List Passage) → new.line.items ≡ old.line.items ++ piece → passed_new ≡ passed_old ++ Came (GuestAt place) piece ∷ []
    → Hears place (Some old) (Some new) passed_old passed_new
hears_piece place piece old new passed_old passed_new line same = record {
  here = λ is. ap (λ (ps : List Passage). came_over ps (GuestAt place)) same ∙ (piece_here passed_old place piece ∙ (ap (λ (t : List ℕ). t ++ piece) is ∙ sym line));
  elsewhere = λ other differ. ap (λ (ps : List Passage). came_over ps (GuestAt other)) same ∙ piece_elsewhere passed_old place other piece differ;
}

-- a read found nothing
halted_came : (line at : Line) (halt : Halt) (old new : List Passage) → new ≡ old ++ halted_as Reading at halt ∷ [] → came_over new line ≡ came_over old line
halted_came line at halts.Later old new e = ap (λ (ps : List Passage). came_over ps line) e ∙ came_more line [] old (Tried at Reading)
halted_came line at halts.Ended old new e = ap (λ (ps : List Passage). came_over ps line) e ∙ came_more line [] old (Ended at Reading)

pub hears_halted : (place : ℕ) (halt : Halt) (old new : Guest) (passed_old passed_new : List Passage) → new.line.items ≡ old.line.items → passed_new ≡ passed_old ++ halted_as Reading (GuestAt place) halt ∷ []
    → Hears place (Some old) (Some new) passed_old passed_new
hears_halted place halt old new passed_old passed_new line e = record {
  here = λ is. halted_came (GuestAt place) (GuestAt place) halt passed_old passed_new e ∙ (is ∙ sym line);
  elsewhere = λ other differ. halted_came (GuestAt other) (GuestAt place) halt passed_old passed_new e;
}

-- ---- what is found

pub shows_by : (tokens : List TokenDigest) (seat : ℕ) (digest : TokenDigest) (line : List ℕ) → seat < length tokens → digest ≡ get_or tokens seat no_digest → IsTokenLine digest.bytes line → ShowsToken tokens seat line
shows_by tokens seat digest line within at shown = record { has_one = within; shown = subst (λ (d : TokenDigest). IsTokenLine d.bytes line) at shown }

pub found_of : (tokens : List TokenDigest) (line came : List ℕ) (found : Found) → came ≡ line → IsFound tokens line found → IsFound tokens came found
found_of tokens line came found same is = subst (λ (t : List ℕ). IsFound tokens t found) (sym same) is

-- ---- all of them

heard_at : (guests : List (Option Guest)) (place q : ℕ) (guest : Option Guest) (passed_old passed_new : List Passage) → place < length guests → AreHeard passed_old guests → IsHeard (came_over passed_new (GuestAt place)) guest
    → ((r : ℕ) → (place ≡ r → ⊥) → came_over passed_new (GuestAt r) ≡ came_over passed_old (GuestAt r)) → ((eqb q place ≡ true) × (q ≡ place)) ⊎ ((eqb q place ≡ false) × (q ≢ place))
    → IsHeard (came_over passed_new (GuestAt q)) (get_or (set guests place guest) q None)
heard_at guests place q guest passed_old passed_new within are is same (inl here) =
    subst (λ (n : ℕ). IsHeard (came_over passed_new (GuestAt n)) (get_or (set guests place guest) n None)) (sym here.1)
    (subst (λ (g : Option Guest). IsHeard (came_over passed_new (GuestAt place)) g) (sym (get_or-set_same guests place guest None within)) is)
heard_at guests place q guest passed_old passed_new within are is same (inr elsewhere) =
    subst (λ (g : Option Guest). IsHeard (came_over passed_new (GuestAt q)) g) (sym (get_or-set_other guests place q guest None elsewhere.1))
    (subst (λ (c : List ℕ). IsHeard c (get_or guests q None)) (sym (same q (λ e. elsewhere.1 (sym e)))) (are q))

heard_set : (guests : List (Option Guest)) (place : ℕ) (guest : Option Guest) (passed_old passed_new : List Passage) → place < length guests → IsHeard (came_over passed_new (GuestAt place)) guest
    → ((r : ℕ) → (place ≡ r → ⊥) → came_over passed_new (GuestAt r) ≡ came_over passed_old (GuestAt r)) → HeardThrough passed_old passed_new guests (set guests place guest)
heard_set guests place guest passed_old passed_new within is same are q = heard_at guests place q guest passed_old passed_new within are is same (eqb_tells q place)

at_place : (passed : List Passage) (guests : List (Option Guest)) (place : ℕ) (guest : Option Guest) → guest ≡ get_or guests place None → AreHeard passed guests → IsHeard (came_over passed (GuestAt place)) guest
at_place passed guests place guest at are = subst (λ (g : Option Guest). IsHeard (came_over passed (GuestAt place)) g) (sym at) (are place)

pub heard_moved : (guests : List (Option Guest)) (place : ℕ) (old new : Option Guest) (passed_old passed_new : List Passage) → place < length guests → old ≡ get_or guests place None → Hears place old new passed_old passed_new
    → HeardThrough passed_old passed_new guests (set guests place new)
heard_moved guests place old new passed_old passed_new within at hears are =
    heard_set guests place new passed_old passed_new within (hears.here (at_place passed_old guests place old at are)) hears.elsewhere are

-- a connection was closed
pub heard_behind : (guests : List (Option Guest)) (line : Line) (passed_old passed_new : List Passage) → passed_new ≡ passed_old ++ Closed line ∷ [] → HeardThrough passed_old passed_new guests guests
heard_behind guests line passed_old passed_new e are q =
    subst (λ (c : List ℕ). IsHeard c (get_or guests q None)) (sym (ap (λ (ps : List Passage). came_over ps (GuestAt q)) e ∙ came_more (GuestAt q) [] passed_old (Closed line))) (are q)

pub came_closed : (line : Line) (passed_old passed_new : List Passage) → passed_new ≡ passed_old ++ Closed line ∷ [] → (at : ℕ) → came_over passed_new (GuestAt at) ≡ came_over passed_old (GuestAt at)
came_closed line passed_old passed_new e at = ap (λ (ps : List Passage). came_over ps (GuestAt at)) e ∙ came_more (GuestAt at) [] passed_old (Closed line)

-- nobody stands any more at a place
pub heard_closed : (guests : List (Option Guest)) (place : ℕ) (passed : List Passage) → place < length guests → HeardThrough passed passed guests (set guests place None)
heard_closed guests place passed within are = heard_set guests place None passed passed within tt (λ other differ. refl) are

pub heard_begun : (guests : List (Option Guest)) (place : ℕ) (guest : Guest) (passed_old passed_new : List Passage) → place < length guests → guest.line.items ≡ [] → passed_new ≡ passed_old ++ Began (GuestAt place) ∷ []
    → HeardThrough passed_old passed_new guests (set guests place (Some guest))
heard_begun guests place guest passed_old passed_new within fresh same =
    heard_set guests place (Some guest) passed_old passed_new within (ap (λ (ps : List Passage). came_over ps (GuestAt place)) same ∙ (began_here passed_old place ∙ sym fresh))
    (λ other differ. ap (λ (ps : List Passage). came_over ps (GuestAt other)) same ∙ began_elsewhere passed_old place other differ)

pub heard_given : (guests : List (Option Guest)) (place seat : ℕ) (passed_old passed_new : List Passage) → place < length guests → passed_new ≡ passed_old ++ Gave place seat ∷ []
    → HeardThrough passed_old passed_new guests (set guests place None)
heard_given guests place seat passed_old passed_new within same =
    heard_set guests place None passed_old passed_new within tt (λ other differ. ap (λ (ps : List Passage). came_over ps (GuestAt other)) same ∙ given_elsewhere passed_old place seat other differ)

beside_at : (guests : List (Option Guest)) (place q : ℕ) (passed_old passed_new : List Passage) → length guests ≤ place → ((r : ℕ) → (place ≡ r → ⊥) → came_over passed_new (GuestAt r) ≡ came_over passed_old (GuestAt r))
    → AreHeard passed_old guests → ((eqb q place ≡ true) × (q ≡ place)) ⊎ ((eqb q place ≡ false) × (q ≢ place)) → IsHeard (came_over passed_new (GuestAt q)) (get_or guests q None)
beside_at guests place q passed_old passed_new without same are (inl here) =
    subst (λ (g : Option Guest). IsHeard (came_over passed_new (GuestAt q)) g) (sym (get_or-eq_default guests None (omega (arith, here.1, without)))) tt
beside_at guests place q passed_old passed_new without same are (inr elsewhere) =
    subst (λ (t : List ℕ). IsHeard t (get_or guests q None)) (sym (same q (λ e. elsewhere.1 (sym e)))) (are q)

-- a line began, or was given away, where no place is
pub begun_beside : (guests : List (Option Guest)) (place : ℕ) (passed_old passed_new : List Passage) → length guests ≤ place → passed_new ≡ passed_old ++ Began (GuestAt place) ∷ [] → HeardThrough passed_old passed_new guests guests
begun_beside guests place passed_old passed_new without same are q =
    beside_at guests place q passed_old passed_new without (λ other differ. ap (λ (ps : List Passage). came_over ps (GuestAt other)) same ∙ began_elsewhere passed_old place other differ) are (eqb_tells q place)

pub given_beside : (guests : List (Option Guest)) (place seat : ℕ) (passed_old passed_new : List Passage) → length guests ≤ place → passed_new ≡ passed_old ++ Gave place seat ∷ [] → HeardThrough passed_old passed_new guests guests
given_beside guests place seat passed_old passed_new without same are q =
    beside_at guests place q passed_old passed_new without (λ other differ. ap (λ (ps : List Passage). came_over ps (GuestAt other)) same ∙ given_elsewhere passed_old place seat other differ) are (eqb_tells q place)

pub nobody_heard : (passed : List Passage) (guests : List (Option Guest)) → ((place : ℕ) → get_or guests place None ≡ None) → AreHeard passed guests
nobody_heard passed guests none place = subst (λ (g : Option Guest). IsHeard (came_over passed (GuestAt place)) g) (sym (none place)) tt

-- what is found of the guest at a place
pub found_set : (tokens : List TokenDigest) (passed : List Passage) (guests : List (Option Guest)) (place : ℕ) (guest : Option Guest) (found : Found) → place < length guests
    → ((came : List ℕ) → IsHeard came guest → IsFound tokens came found) → AreHeard passed (set guests place guest) → IsFound tokens (came_over passed (GuestAt place)) found
found_set tokens passed guests place guest found within is are =
    is (came_over passed (GuestAt place)) (subst (λ (g : Option Guest). IsHeard (came_over passed (GuestAt place)) g) (get_or-set_same guests place guest None within) (are place))
