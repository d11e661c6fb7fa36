-- What values stand for, and what is said by values of which each was read.
use Rattle.std.proofs.Common.{◌≡◌, ℕ, ℤ, ◌+◌, ◌<◌, List, [], ◌∷◌, ◌++◌, length, get_or, map, take, Option, Some, None, refl, ap, ◌∙◌, sym, subst}
use Rattle.std.proofs.lemmas.Option.{same_Some}
use Rattle.std.proofs.lemmas.List.{take_more, length-map, map_push, get_or-map}
use Rattle.std.specs.Prelude.{MatchOption}
use Rattle.std.specs.Borrow.{Bor}
use Rattle.std.specs.Option.{option_copied}
use Rattle.toml.specs.Data.{Data, string, integer, float, boolean, datetime, array, table, as_str, as_integer}
use Rattle.toml.specs.View.{view, items_of}
use Rattle.toml.specs.declared.value.Value.{Value}
use Rattle.match_file.specs.Said.{EachSays, IsAbsent}
use Rattle.match_file.proofs.Each.{each-push, each-at}

-- items are those of one list
pub items_of-same : (ds es : List Data) → items_of ds ≡ items_of es → ds ≡ es
items_of-same [] [] same = refl
items_of-same [] (e ∷ es) same = cc
items_of-same (d ∷ ds) [] same = cc
items_of-same (d ∷ ds) (e ∷ es) same =
    let head : d ≡ e = cc in
    let parts : items_of ds ≡ items_of es = cc in
    let tail : ds ≡ es = items_of-same ds es parts in
    cc

-- one more value was read
pub reads_more : {T : Type 0} (Says : Data → T → Type 0) (values : List Value) (i : ℕ) (v : Value) (xs : List T) (x : T) → i < length values → v ≡ get_or values i v
    → EachSays Says (map view (take i values)) xs → Says (view v) x → EachSays Says (map view (take (i + 1) values)) (xs ++ x ∷ [])
reads_more Says values i v xs x within is each says =
    let front : take (i + 1) values ≡ take i values ++ v ∷ [] = take_more values i v within ∙ ap (λ w. take i values ++ w ∷ []) (sym is) in
    let seen : map view (take (i + 1) values) ≡ map view (take i values) ++ view v ∷ [] = ap (map view) front ∙ map_push view (take i values) v in
    subst (λ (ds : List Data). EachSays Says ds (xs ++ x ∷ [])) (sym seen) (each-push Says (map view (take i values)) xs (view v) x each says)

-- where one value says nothing, the values say nothing
pub none_reads : {T : Type 0} (Says : Data → T → Type 0) (values : List Value) (i : ℕ) (v : Value) → i < length values → v ≡ get_or values i v
    → IsAbsent (Says (view v)) → IsAbsent (EachSays Says (map view values))
none_reads Says values i v within is none =
    λ xs each.
    let found = each-at Says (map view values) xs i (view v) (rw (length-map values view) within) each in
    let same : get_or (map view values) i (view v) ≡ view v = get_or-map view values i v (view v) within ∙ ap view (sym is) in
    none found.0 (subst (λ (d : Data). Says d found.0) same found.1)

-- ---- what the accessors of a value tell

pub text_told : (d : Data) (r : Option (Bor (List ℕ))) → option_copied r ≡ as_str d → MatchOption r (IsAbsent (λ text. d ≡ string text)) (λ text. d ≡ string text.now)
text_told d None told = λ text is. let found : as_str d ≡ Some text = ap as_str is in cc
text_told (string s) (Some r) told = ap string (sym (same_Some _ _ told))
text_told (integer s) (Some r) told = cc
text_told (float s) (Some r) told = cc
text_told (boolean s) (Some r) told = cc
text_told (datetime s) (Some r) told = cc
text_told (array s) (Some r) told = cc
text_told (table s) (Some r) told = cc

pub integer_told : (d : Data) (r : Option ℤ) → r ≡ as_integer d → MatchOption r ((z : ℤ) → ¬ (d ≡ integer z)) (λ z. d ≡ integer z)
integer_told d None told = λ z is. let found : as_integer d ≡ Some z = ap as_integer is in cc
integer_told (integer s) (Some r) told = let same : r ≡ s = cc in ap integer (sym same)
integer_told (string s) (Some r) told = cc
integer_told (float s) (Some r) told = cc
integer_told (boolean s) (Some r) told = cc
integer_told (datetime s) (Some r) told = cc
integer_told (array s) (Some r) told = cc
integer_told (table s) (Some r) told = cc
