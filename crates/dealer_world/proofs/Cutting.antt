-- Rows that are cut out of one buffer.
use Rattle.std.proofs.Common.{◌≡◌, ℕ, zero, suc, ◌+◌, ◌-◌, ◌<◌, ◌≤◌, List, [], ◌∷◌, ◌++◌, length, get_or, take, drop, Some, refl, ap, sym, ◌∙◌, arith}
use Rattle.std.specs.Prelude.{slice_get}
use Rattle.std.proofs.lemmas.List.{length-drop, drop-append-le, take-append-le, drop_at, take_all}
use Rattle.dealer_world.specs.declared.rows.Entry.{Entry}
use Rattle.dealer_world.specs.Rows.{Row, row_at, cut, AreEnds, start_of}

pub length_cut : {T : Type 0} (from : ℕ) (entries : List (Entry T)) (bytes : List ℕ) → length (cut from entries bytes) ≡ length entries
length_cut from [] bytes = refl
length_cut from (entry ∷ entries) bytes = ap suc (length_cut entry.end entries bytes)

pub start_zero : {T : Type 0} (from : ℕ) (entries : List (Entry T)) → start_of from entries 0 ≡ from
start_zero from [] = refl
start_zero from (entry ∷ entries) = refl

pub start_next : {T : Type 0} (from : ℕ) (entries : List (Entry T)) (k : ℕ) (d : Entry T) → k < length entries → (get_or entries k d).end ≡ start_of from entries (suc k)
start_next from [] k d less = absurd (omega arith)
start_next from (entry ∷ entries) zero d less = sym (start_zero entry.end entries)
start_next from (entry ∷ entries) (suc k) d less = start_next entry.end entries k d (omega arith)

pub row_got : {T : Type 0} (from : ℕ) (entries : List (Entry T)) (bytes : List ℕ) (k : ℕ) (d : Entry T) → k < length entries
    → slice_get (cut from entries bytes) k ≡ Some (row_at (start_of from entries k) (get_or entries k d) bytes)
row_got from [] bytes k d less = absurd (omega arith)
row_got from (entry ∷ entries) bytes zero d less = refl
row_got from (entry ∷ entries) bytes (suc k) d less = row_got entry.end entries bytes k d (omega arith)

pub ends_above : {T : Type 0} (from : ℕ) (entries : List (Entry T)) (last : ℕ) → AreEnds from entries last → from ≤ last
ends_above from [] last ends = let is : from ≡ last = ends in omega arith
ends_above from (entry ∷ entries) last (least, ends) = let above = ends_above entry.end entries last ends in omega arith

pub starts_below : {T : Type 0} (from : ℕ) (entries : List (Entry T)) (last k : ℕ) (d : Entry T) → AreEnds from entries last → k < length entries
    → start_of from entries k ≤ (get_or entries k d).end
starts_below from [] last k d ends less = absurd (omega arith)
starts_below from (entry ∷ entries) last zero d (least, ends) less = least
starts_below from (entry ∷ entries) last (suc k) d (least, ends) less = starts_below entry.end entries last k d ends (omega arith)

pub ends_within : {T : Type 0} (from : ℕ) (entries : List (Entry T)) (last k : ℕ) (d : Entry T) → AreEnds from entries last → k < length entries → (get_or entries k d).end ≤ last
ends_within from [] last k d ends less = absurd (omega arith)
ends_within from (entry ∷ entries) last zero d (least, ends) less = ends_above entry.end entries last ends
ends_within from (entry ∷ entries) last (suc k) d (least, ends) less = ends_within entry.end entries last k d ends (omega arith)

pub ends_more : {T : Type 0} (from : ℕ) (entries : List (Entry T)) (last : ℕ) (entry : Entry T) → AreEnds from entries last → last ≤ entry.end → AreEnds from (entries ++ entry ∷ []) entry.end
ends_more from [] last entry ends more = let is : from ≡ last = ends in (omega arith, refl)
ends_more from (first ∷ entries) last entry (least, ends) more = (least, ends_more first.end entries last entry ends more)

row_stays : {T : Type 0} (from : ℕ) (entry : Entry T) (bytes text : List ℕ) → from ≤ entry.end → entry.end ≤ length bytes → row_at from entry (bytes ++ text) ≡ row_at from entry bytes
row_stays {T} from entry bytes text least most =
    let short : from ≤ length bytes = omega arith in
    let size = length-drop from bytes in
    let fits : entry.end - from ≤ length (drop from bytes) = omega arith in
    let row : List ℕ → Row T = λ t. record { mark = entry.mark; text = t } in
    ap row (ap (take (entry.end - from)) (drop-append-le from bytes text short) ∙ take-append-le (entry.end - from) (drop from bytes) text fits)

row_new : {T : Type 0} (from : ℕ) (entry : Entry T) (bytes text : List ℕ) → from ≡ length bytes → entry.end ≡ length bytes + length text → row_at from entry (bytes ++ text) ≡ record { mark = entry.mark; text = text }
row_new {T} from entry bytes text here there =
    let row : List ℕ → Row T = λ t. record { mark = entry.mark; text = t } in
    ap row (ap (take (entry.end - from)) (drop_at bytes text from (sym here)) ∙ take_all (entry.end - from) text (omega arith))

pub cut_more : {T : Type 0} (from : ℕ) (entries : List (Entry T)) (entry : Entry T) (bytes text : List ℕ) → AreEnds from entries (length bytes) → entry.end ≡ length bytes + length text
    → cut from (entries ++ entry ∷ []) (bytes ++ text) ≡ cut from entries bytes ++ (record { mark = entry.mark; text = text }) ∷ []
cut_more from [] entry bytes text ends is = ap (λ row. row ∷ []) (row_new from entry bytes text ends is)
cut_more from (first ∷ entries) entry bytes text (least, ends) is =
    ap (λ row. row ∷ cut first.end (entries ++ entry ∷ []) (bytes ++ text)) (row_stays from first bytes text least (ends_above first.end entries (length bytes) ends))
    ∙ ap (λ rows. row_at from first bytes ∷ rows) (cut_more first.end entries entry bytes text ends is)

pub row_found : {T : Type 0} (entries : List (Entry T)) (bytes seen : List ℕ) (number from : ℕ) (entry : Entry T) → entry ≡ get_or entries number entry → from ≡ start_of 0 entries number → seen ≡ bytes
    → number < length entries → slice_get (cut 0 entries bytes) number ≡ Some (row_at from entry seen)
row_found {T} entries bytes seen number from entry is at same less =
    row_got 0 entries bytes number entry less
    ∙ (ap (λ (e : Entry T). Some (row_at (start_of 0 entries number) e bytes)) (sym is)
    ∙ (ap (λ f. Some (row_at f entry bytes)) (sym at) ∙ ap (λ b. Some (row_at from entry b)) (sym same)))

pub from_below : {T : Type 0} (entries : List (Entry T)) (last number from : ℕ) (entry : Entry T) → AreEnds 0 entries last → entry ≡ get_or entries number entry → from ≡ start_of 0 entries number
    → number < length entries → from ≤ entry.end
from_below {T} entries last number from entry ends is at less =
    let below = starts_below 0 entries last number entry ends less in
    let same = ap (λ (e : Entry T). e.end) is in
    omega arith

pub end_within : {T : Type 0} (entries : List (Entry T)) (last number : ℕ) (entry : Entry T) → AreEnds 0 entries last → entry ≡ get_or entries number entry
    → number < length entries → entry.end ≤ last
end_within {T} entries last number entry ends is less =
    let within = ends_within 0 entries last number entry ends less in
    let same = ap (λ (e : Entry T). e.end) is in
    omega arith
