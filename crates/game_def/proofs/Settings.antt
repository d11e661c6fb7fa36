-- A line that is read as an entry sets its key, and a line that sets a key is read.
use Rattle.std.proofs.Common.{◌≡◌, ℕ, Bool, true, false, ◌&&◌, eqb, leb, List, [], ◌∷◌, ◌++◌, length, Option, Some, None, Result, Ok, refl, sym, ap, subst, ◌∙◌, ◌⊎◌, inl, inr}
use Rattle.std.specs.Prelude.{codes}
use Rattle.std.specs.Char.{is_ascii_digit}
use Rattle.std.specs.Str.{bytes_eq, str_to_ascii_lowercase, str_eq_ignore_ascii_case}
use Rattle.std.specs.List.{find, list_all, AllZip}
use Rattle.std.proofs.lemmas.Bool.{cases_Bool, and_parts, and_from, eqb-true, leb-true, le-leb}
use Rattle.std.proofs.lemmas.Slice.Eq.{bytes_eq-Decides}
use Rattle.game_def.specs.Key.{name_of, keys, key_named, fits, allows}
use Rattle.game_def.specs.Entries.{is_set}
use Rattle.game_def.specs.GameFile.{Names, number_of, Writes, Sets}
use Rattle.game_def.specs.Reading.{◌>>=◌, is_number, number, numbers, counted, values, is_sign, without_sign, entry_with, with_line}
use Rattle.game_def.proofs.Passing.{bind_ok}
use Rattle.game_def.specs.declared.key.Key.{Key}
use Rattle.game_def.specs.declared.key.Key.TheVariants.{Limit, Nolimit, NumPlayers, NumRounds, Stack, Blind, RaiseSize, FirstPlayer, MaxRaises, NumSuits, NumRanks, NumHoleCards, NumBoardCards}
use Rattle.game_def.specs.declared.entry.Entry.{Entry}
use Rattle.game_def.specs.declared.fault_kind.FaultKind.{FaultKind}

ok_is : {A : Type 0} (x y : A) → (let r : Result A FaultKind = Ok x in r) ≡ Ok y → x ≡ y
ok_is x y e = cc

-- ---- names

find_passes : {X : Type 0} (p : X → Bool) (xs : List X) (x : X) → find p xs ≡ Some x → p x ≡ true
find_passes p [] x e = absurd cc
find_passes {X} p (y ∷ xs) x e =
    elim (cases_Bool (p y)) [
      | inl is ↦ let e2 = rw is at e in let same : y ≡ x = cc in rw (← same) is
      | inr is ↦ find_passes p xs x (rw is at e)
    ]

named_is : (name : List ℕ) (key : Key) → key_named name ≡ Some key → Names (name_of key) name
unfolding key_named
named_is name key e = find_passes (λ other. str_eq_ignore_ascii_case name (name_of other)) keys key e

abbrev key_of : List ℕ → Option Key
key_of lowered = find (λ key. bytes_eq lowered (str_to_ascii_lowercase (name_of key))) keys

lowered_is : (name word : List ℕ) → Names name word → str_to_ascii_lowercase word ≡ str_to_ascii_lowercase name
lowered_is name word h = (bytes_eq-Decides (str_to_ascii_lowercase word) (str_to_ascii_lowercase name)).0 h

named_again : (key : Key) (word : List ℕ) → Names (name_of key) word → key_named word ≡ Some key
unfolding key_named
named_again Limit word h = ap key_of (lowered_is (name_of Limit) word h)
named_again Nolimit word h = ap key_of (lowered_is (name_of Nolimit) word h)
named_again NumPlayers word h = ap key_of (lowered_is (name_of NumPlayers) word h)
named_again NumRounds word h = ap key_of (lowered_is (name_of NumRounds) word h)
named_again Stack word h = ap key_of (lowered_is (name_of Stack) word h)
named_again Blind word h = ap key_of (lowered_is (name_of Blind) word h)
named_again RaiseSize word h = ap key_of (lowered_is (name_of RaiseSize) word h)
named_again FirstPlayer word h = ap key_of (lowered_is (name_of FirstPlayer) word h)
named_again MaxRaises word h = ap key_of (lowered_is (name_of MaxRaises) word h)
named_again NumSuits word h = ap key_of (lowered_is (name_of NumSuits) word h)
named_again NumRanks word h = ap key_of (lowered_is (name_of NumRanks) word h)
named_again NumHoleCards word h = ap key_of (lowered_is (name_of NumHoleCards) word h)
named_again NumBoardCards word h = ap key_of (lowered_is (name_of NumBoardCards) word h)

-- no key is named END
abbrev like_end : List ℕ → Bool
like_end lowered = bytes_eq lowered (str_to_ascii_lowercase (codes "end"))

pub named_no_end : (key : Key) (word : List ℕ) → Names (name_of key) word → str_eq_ignore_ascii_case word (codes "end") ≡ false
named_no_end Limit word h = ap like_end (lowered_is (name_of Limit) word h)
named_no_end Nolimit word h = ap like_end (lowered_is (name_of Nolimit) word h)
named_no_end NumPlayers word h = ap like_end (lowered_is (name_of NumPlayers) word h)
named_no_end NumRounds word h = ap like_end (lowered_is (name_of NumRounds) word h)
named_no_end Stack word h = ap like_end (lowered_is (name_of Stack) word h)
named_no_end Blind word h = ap like_end (lowered_is (name_of Blind) word h)
named_no_end RaiseSize word h = ap like_end (lowered_is (name_of RaiseSize) word h)
named_no_end FirstPlayer word h = ap like_end (lowered_is (name_of FirstPlayer) word h)
named_no_end MaxRaises word h = ap like_end (lowered_is (name_of MaxRaises) word h)
named_no_end NumSuits word h = ap like_end (lowered_is (name_of NumSuits) word h)
named_no_end NumRanks word h = ap like_end (lowered_is (name_of NumRanks) word h)
named_no_end NumHoleCards word h = ap like_end (lowered_is (name_of NumHoleCards) word h)
named_no_end NumBoardCards word h = ap like_end (lowered_is (name_of NumBoardCards) word h)

-- ---- numbers

writes_by : (word : List ℕ) → is_number word ≡ true → Writes word (number_of word)
writes_by word h =
    let parts = and_parts (leb 1 (length word) && leb (length word) 10) (list_all is_ascii_digit word) h in
    let range = and_parts (leb 1 (length word)) (leb (length word) 10) parts.0 in
    record { digits = parts.1; least = leb-true _ _ range.0; most = leb-true _ _ range.1; value = refl }

number_writes : (key : Key) (word : List ℕ) (n : ℕ) → number key word ≡ Ok n → Writes word n × (fits key n ≡ true)
unfolding number
number_writes key word n e =
    elim (cases_Bool (is_number word && fits key (number_of word))) [
      | inl is ↦
          let parts = and_parts (is_number word) (fits key (number_of word)) is in
          let made = rw is at e in
          subst (λ (m : ℕ). Writes word m × (fits key m ≡ true)) (ok_is (number_of word) n made) (writes_by word parts.0, parts.1)
      | inr is ↦ absurd (let made = rw is at e in cc)
    ]

number_again : (key : Key) (word : List ℕ) (n : ℕ) → Writes word n → fits key n ≡ true → number key word ≡ Ok n
unfolding number
number_again key word n writes fit =
    let is : is_number word ≡ true = and_from _ _ (and_from _ _ (le-leb _ _ writes.least) (le-leb _ _ writes.most)) writes.digits in
    let fit2 : fits key (number_of word) ≡ true = ap (fits key) (sym writes.value) ∙ fit in
    rw (is, fit2) (ap (λ (m : ℕ). Ok m) (sym writes.value))

numbers_write : (key : Key) (texts : List (List ℕ)) (found : List ℕ) → numbers key texts ≡ Ok found → AllZip Writes texts found × (list_all (fits key) found ≡ true)
unfolding numbers
numbers_write key [] found e = subst (λ (xs : List ℕ). AllZip Writes [] xs × (list_all (fits key) xs ≡ true)) (ok_is [] found e) (tt, refl)
numbers_write key (word ∷ texts) found e =
    let a = bind_ok (number key word) (λ first. numbers key texts >>= λ others. Ok (first ∷ others)) found e in
    let b = bind_ok (numbers key texts) (λ others. Ok (a.0 ∷ others)) found a.2 in
    let first = number_writes key word a.0 a.1 in
    let others = numbers_write key texts b.0 b.1 in
    subst (λ (xs : List ℕ). AllZip Writes (word ∷ texts) xs × (list_all (fits key) xs ≡ true)) (ok_is (a.0 ∷ b.0) found b.2) ((first.0, others.0), and_from _ _ first.1 others.1)

numbers_again : (key : Key) (texts : List (List ℕ)) (found : List ℕ) → AllZip Writes texts found → list_all (fits key) found ≡ true → numbers key texts ≡ Ok found
unfolding numbers
numbers_again key [] [] written fit = refl
numbers_again key [] (n ∷ found) written fit = absurd written
numbers_again key (word ∷ texts) [] written fit = absurd written
numbers_again key (word ∷ texts) (n ∷ found) written fit =
    let parts = and_parts (fits key n) (list_all (fits key) found) fit in
    rw (number_again key word n written.0 parts.0, numbers_again key texts found written.1 parts.1) refl

-- ---- the = behind a key

sign_form : (texts : List (List ℕ)) → (texts ≡ without_sign texts) ⊎ (texts ≡ codes "=" ∷ without_sign texts)
unfolding without_sign
sign_form [] = inl refl
sign_form ([] ∷ texts) = inl refl
sign_form ((byte ∷ []) ∷ texts) =
    elim (cases_Bool (eqb byte 61)) [
      | inl is ↦ rw is (inr (ap (λ (b : ℕ). (b ∷ []) ∷ texts) (eqb-true _ _ is)))
      | inr is ↦ rw is (inl refl)
    ]
sign_form ((byte ∷ next ∷ rest) ∷ texts) = inl refl

-- a number is no =
writes_no_sign : (word : List ℕ) (n : ℕ) → Writes word n → is_sign word ≡ false
writes_no_sign [] n writes = refl
writes_no_sign (byte ∷ []) n writes =
    elim (cases_Bool (eqb byte 61)) [
      | inl is ↦ absurd (let digits = rw (eqb-true _ _ is) at writes.digits in cc)
      | inr is ↦ is
    ]
writes_no_sign (byte ∷ next ∷ rest) n writes = refl

no_sign : (texts : List (List ℕ)) (found : List ℕ) → AllZip Writes texts found → without_sign texts ≡ texts
unfolding without_sign
no_sign [] found written = refl
no_sign (word ∷ texts) [] written = absurd written
no_sign (word ∷ texts) (n ∷ found) written = rw (writes_no_sign word n written.0) refl

sign_dropped : (texts : List (List ℕ)) → without_sign (codes "=" ∷ texts) ≡ texts
unfolding without_sign
sign_dropped texts = refl

-- ---- entries

abbrev made : Key → ℕ → List ℕ → Entry
made key line found = record { key = key; line = line; values = record { items = found } }

record AreValues (key : Key) (texts : List (List ℕ)) (found : List ℕ) : Type 0 where
  written : AllZip Writes texts found
  fitting : list_all (fits key) found ≡ true
  count : allows key (length found) ≡ true

counted_is : (key : Key) (xs found : List ℕ) → counted key xs ≡ Ok found → (allows key (length xs) ≡ true) × (xs ≡ found)
counted_is key xs found e =
    elim (cases_Bool (allows key (length xs))) [
      | inl is ↦ let same = rw is at e in (is, ok_is xs found same)
      | inr is ↦ absurd (let other = rw is at e in cc)
    ]

values_are : (key : Key) (texts : List (List ℕ)) (found : List ℕ) → values key texts ≡ Ok found → AreValues key texts found
unfolding values
values_are key texts found e =
    let a = bind_ok (numbers key texts) (λ xs. counted key xs) found e in
    let b = numbers_write key texts a.0 a.1 in
    let c = counted_is key a.0 found a.2 in
    subst (λ (xs : List ℕ). AreValues key texts xs) c.1 (record { written = b.0; fitting = b.1; count = c.0 })

values_again : (key : Key) (texts : List (List ℕ)) (found : List ℕ) → AreValues key texts found → values key texts ≡ Ok found
unfolding values
values_again key texts found are = rw (numbers_again key texts found are.written are.fitting, are.count) refl

entry_sets : (entries : List Entry) (line : ℕ) (name : List ℕ) (texts : List (List ℕ)) (entry : Entry) (o : Option Key) → key_named name ≡ o → entry_with entries line texts o ≡ Ok entry
    → (is_set entries entry.key ≡ false) × Sets (name ∷ texts) entry × (entry.line ≡ line)
unfolding entry_with
entry_sets entries line name texts entry None named e = absurd cc
entry_sets entries line name texts entry (Some key) named e =
    elim (cases_Bool (is_set entries key)) [
      | inl is ↦ absurd (let other = rw is at e in cc)
      | inr is ↦
          let read = rw is at e in
          let a = bind_ok (values key (without_sign texts)) (λ found. Ok (made key line found)) entry read in
          let b = values_are key (without_sign texts) a.0 a.1 in
          let form : (name ∷ texts ≡ name ∷ without_sign texts) ⊎ (name ∷ texts ≡ name ∷ codes "=" ∷ without_sign texts) =
          elim (sign_form texts) [
            | inl plain ↦ inl (ap (λ (more : List (List ℕ)). name ∷ more) plain)
            | inr sign ↦ inr (ap (λ (more : List (List ℕ)). name ∷ more) sign)
          ] in
          let sets : Sets (name ∷ texts) (made key line a.0) =
          record { name = name; values = without_sign texts; form = form; named = named_is name key named; written = b.written; fitting = b.fitting; count = b.count } in
          subst (λ (one : Entry). (is_set entries one.key ≡ false) × Sets (name ∷ texts) one × (one.line ≡ line)) (ok_is (made key line a.0) entry a.2) (is, sets, refl)
    ]

pub line_sets : (entries : List Entry) (line : ℕ) (name : List ℕ) (texts : List (List ℕ)) (found : List Entry) → with_line entries line (name ∷ texts) ≡ Ok found
    → (entry : Entry) × (found ≡ entries ++ entry ∷ []) × (is_set entries entry.key ≡ false) × Sets (name ∷ texts) entry × (entry.line ≡ line)
unfolding with_line
line_sets entries line name texts found e =
    let a = bind_ok (entry_with entries line texts (key_named name)) (λ entry. Ok (entries ++ entry ∷ [])) found e in
    let b = entry_sets entries line name texts a.0 (key_named name) refl a.1 in
    (a.0, sym (ok_is (entries ++ a.0 ∷ []) found a.2), b.0, b.1, b.2)

named_line : (entries : List Entry) (texts : List (List ℕ)) (name : List ℕ) (entry : Entry) → key_named name ≡ Some entry.key → is_set entries entry.key ≡ false → values entry.key (without_sign texts) ≡ Ok entry.values.items
    → with_line entries entry.line (name ∷ texts) ≡ Ok (entries ++ entry ∷ [])
unfolding with_line entry_with
named_line entries texts name entry named new read = rw (named, new, read) refl

pub line_again : (entries : List Entry) (texts : List (List ℕ)) (entry : Entry) → Sets texts entry → is_set entries entry.key ≡ false → with_line entries entry.line texts ≡ Ok (entries ++ entry ∷ [])
line_again entries texts entry sets new =
    let named = named_again entry.key sets.name sets.named in
    let read : values entry.key sets.values ≡ Ok entry.values.items = values_again entry.key sets.values entry.values.items (record { written = sets.written; fitting = sets.fitting; count = sets.count }) in
    elim sets.form [
      | inl plain ↦ rw plain (named_line entries sets.values sets.name entry named new (ap (values entry.key) (no_sign sets.values entry.values.items sets.written) ∙ read))
      | inr sign ↦ rw sign (named_line entries (codes "=" ∷ sets.values) sets.name entry named new (ap (values entry.key) (sign_dropped sets.values) ∙ read))
    ]
