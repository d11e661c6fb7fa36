-- What is at a place where one of the askers is another.
use Rattle.std.proofs.Common.{◌≡◌, ◌≢◌, ℕ, zero, suc, ◌<◌, List, [], ◌∷◌, ◌++◌, map, set, get_or, length, refl, subst, sym, ap, ◌∙◌}
use Rattle.std.proofs.lemmas.List.{get_or-set_same, get_or-set_other, get_or-map, map-set, length-map}
use Rattle.node_status.specs.declared.asker.Asker.{Asker}
use Rattle.node_status.specs.Asking.{IsAnswered, AreAnswered}
use Rattle.node_status.specs.Given.{Given, given_of, given_at, nobody}

pub given_here : (askers : List Asker) (place : ℕ) (asker : Asker) → place < length askers → given_at (set askers place asker) place ≡ given_of asker
given_here askers place asker within =
    ap (λ (gs : List Given). get_or gs place nobody) (map-set given_of askers place asker) ∙ get_or-set_same (map given_of askers) place (given_of asker) nobody (subst (λ (n : ℕ). place < n) (sym (length-map askers given_of)) within)

pub given_elsewhere : (askers : List Asker) (place other : ℕ) (asker : Asker) → other ≢ place → given_at (set askers place asker) other ≡ given_at askers other
given_elsewhere askers place other asker differs =
    ap (λ (gs : List Given). get_or gs other nobody) (map-set given_of askers place asker) ∙ get_or-set_other (map given_of askers) place other (given_of asker) nobody differs

-- what a place has that was looked up
pub found_at : (askers : List Asker) (place : ℕ) (asker d : Asker) → place < length askers → asker ≡ get_or askers place d → given_of asker ≡ given_at askers place
found_at askers place asker d within e = ap given_of e ∙ sym (get_or-map given_of askers place d nobody within)

-- one place more where nobody stands
pub one_nobody : (askers : List Asker) (one : Asker) → given_of one ≡ nobody → ((place : ℕ) → given_at askers place ≡ nobody) → (place : ℕ) → given_at (askers ++ one ∷ []) place ≡ nobody
one_nobody [] one is none zero = is
one_nobody [] one is none (suc place) = refl
one_nobody (first ∷ askers) one is none zero = none 0
one_nobody (first ∷ askers) one is none (suc place) = one_nobody askers one is (λ other. none (suc other)) place

-- to nobody nothing was written
pub nobody_answered : (askers : List Asker) → ((place : ℕ) → given_at askers place ≡ nobody) → AreAnswered [] askers
nobody_answered askers none place = subst (λ (g : Given). IsAnswered [] place g) (sym (none place)) refl
