-- Rows whose bytes stand among texts that they share.
use Rattle.std.proofs.Common.{◌≡◌, ℕ, zero, suc, ◌<◌, ◌≤◌, List, [], ◌∷◌, ◌++◌, length, get_or, Some, refl, ap, sym, ◌∙◌, arith}
use Rattle.std.specs.Prelude.{slice_get}
use Rattle.std.proofs.lemmas.List.{map-append}
use Rattle.dealer_world.specs.declared.shared_rows.Numbered.{Numbered}
use Rattle.dealer_world.specs.Rows.{Row}
use Rattle.dealer_world.specs.SharedRows.{bytes_in, text_of, row_by, rows_by, AreNumbered}

rows_stay : {U T : Type 0} (old new : List (Row U)) (entries : List (Numbered T)) → AreNumbered (length old) entries
    → ((number : ℕ) → number < length old → text_of new number ≡ text_of old number) → rows_by new entries ≡ rows_by old entries
rows_stay old new [] numbered same = refl
rows_stay {U} {T} old new (entry ∷ entries) (first, rest) same =
    let row : List ℕ → Row T = λ t. record { mark = entry.mark; text = t } in
    ap (λ t. row t ∷ rows_by new entries) (same entry.text first)
    ∙ ap (λ rows. row_by old entry ∷ rows) (rows_stay old new entries rest same)

pub rows_more : {U T : Type 0} (old new : List (Row U)) (entries : List (Numbered T)) (entry : Numbered T) (text : List ℕ) → AreNumbered (length old) entries
    → ((number : ℕ) → number < length old → text_of new number ≡ text_of old number) → text_of new entry.text ≡ text
    → rows_by new (entries ++ entry ∷ []) ≡ rows_by old entries ++ (record { mark = entry.mark; text = text }) ∷ []
rows_more {U} {T} old new entries entry text numbered same is =
    let row : List ℕ → Row T = λ t. record { mark = entry.mark; text = t } in
    map-append (row_by new) entries (entry ∷ [])
    ∙ (ap (λ rows. rows ++ row_by new entry ∷ []) (rows_stay old new entries numbered same)
    ∙ ap (λ t. rows_by old entries ++ row t ∷ []) is)

pub numbered_more : {T : Type 0} (old new : ℕ) (entries : List (Numbered T)) (entry : Numbered T) → AreNumbered old entries → old ≤ new → entry.text < new
    → AreNumbered new (entries ++ entry ∷ [])
numbered_more old new [] entry numbered least less = (less, tt)
numbered_more old new (first ∷ entries) entry (below, rest) least less = (omega arith, numbered_more old new entries entry rest least less)

number_below : {T : Type 0} (count : ℕ) (entries : List (Numbered T)) (k : ℕ) (d : Numbered T) → AreNumbered count entries → k < length entries → (get_or entries k d).text < count
number_below count [] k d numbered less = absurd (omega arith)
number_below count (entry ∷ entries) zero d (below, rest) less = below
number_below count (entry ∷ entries) (suc k) d (below, rest) less = number_below count entries k d rest (omega arith)

pub number_within : {T : Type 0} (count : ℕ) (entries : List (Numbered T)) (number : ℕ) (entry : Numbered T) → AreNumbered count entries → entry ≡ get_or entries number entry
    → number < length entries → entry.text < count
number_within {T} count entries number entry numbered is less =
    let below = number_below count entries number entry numbered less in
    let same = ap (λ (e : Numbered T). e.text) is in
    omega arith

row_got_by : {U T : Type 0} (texts : List (Row U)) (entries : List (Numbered T)) (k : ℕ) (d : Numbered T) → k < length entries
    → slice_get (rows_by texts entries) k ≡ Some (row_by texts (get_or entries k d))
row_got_by texts [] k d less = absurd (omega arith)
row_got_by texts (entry ∷ entries) zero d less = refl
row_got_by texts (entry ∷ entries) (suc k) d less = row_got_by texts entries k d (omega arith)

pub shared_found : {U T : Type 0} (texts : List (Row U)) (entries : List (Numbered T)) (number : ℕ) (entry : Numbered T) (text : Row U) → entry ≡ get_or entries number entry
    → number < length entries → slice_get texts entry.text ≡ Some text → slice_get (rows_by texts entries) number ≡ Some (record { mark = entry.mark; text = text.text })
shared_found {U} {T} texts entries number entry text is less there =
    let row : List ℕ → Row T = λ t. record { mark = entry.mark; text = t } in
    row_got_by texts entries number entry less
    ∙ (ap (λ (e : Numbered T). Some (row_by texts e)) (sym is)
    ∙ ap (λ t. Some (row t)) (ap bytes_in there))
