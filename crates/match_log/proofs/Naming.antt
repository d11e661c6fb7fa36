-- Names with | between them, read one by one.
use Rattle.std.proofs.Common.{◌≡◌, ℕ, ◌+◌, ◌<◌, ◌≤◌, List, [], ◌∷◌, ◌++◌, length, take, drop, set, get_or, zero, suc, refl, sym, ◌∙◌, ap, subst, append_assoc, arith}
use Rattle.std.specs.List.{AllByRecursion, flat_map}
use Rattle.std.proofs.lemmas.List.{append-nil, drop_more, take_more_set, length-drop, nil_from_length}
use Rattle.std.proofs.lemmas.List.Concat.{flat_map-append}
use Rattle.match_log.specs.Lines.{names_field}
use Rattle.match_log.specs.Names.{IsName}
use Rattle.matchstate.specs.Free.{IsFreeOf}
use Rattle.match_log.proofs.Free.{name_free}

-- names with | behind each
abbrev pub ended : List (List ℕ) → List ℕ
ended names = flat_map (λ name. name ++ 124 ∷ []) names

all_at : (P : List ℕ → Type 0) (names : List (List ℕ)) (place : ℕ) → place < length names → AllByRecursion P names → P (get_or names place [])
all_at P [] place within all = absurd (omega arith)
all_at P (name ∷ names) zero within all = all.0
all_at P (name ∷ names) (suc place) within all = all_at P names place (omega arith) all.1

-- the next of several names
pub record NextName (names : List (List ℕ)) (place : ℕ) (rest : List ℕ) : Type 0 where
  pub is_name : IsName (get_or names place [])
  pub free : IsFreeOf 124 (get_or names place [])
  pub is : rest ≡ get_or names place [] ++ 124 ∷ names_field (drop (place + 1) names)

joined_two : (name : List ℕ) (later : List (List ℕ)) → 1 ≤ length later → names_field (name ∷ later) ≡ name ++ 124 ∷ names_field later
joined_two name [] some = absurd (omega arith)
joined_two name (other ∷ later) some = refl

pub next_name : (names : List (List ℕ)) (place : ℕ) (rest : List ℕ) → place + 1 < length names → AllByRecursion IsName names → rest ≡ names_field (drop place names) → NextName names place rest
next_name names place rest within all is =
    let name : IsName (get_or names place []) = all_at IsName names place (omega arith) all in
    record {
      is_name = name;
      free = name_free 124 refl (get_or names place []) name;
      is =
          is ∙ ap names_field (drop_more names place [] (omega arith))
          ∙ joined_two (get_or names place []) (drop (place + 1) names) (omega (arith, length-drop (place + 1) names));
    }

-- the last of several names
pub last_name : (names : List (List ℕ)) (place : ℕ) (rest : List ℕ) → place + 1 ≡ length names → AllByRecursion IsName names → rest ≡ names_field (drop place names) → (IsName rest) × (rest ≡ get_or names place [])
last_name names place rest last all is =
    let none : drop (place + 1) names ≡ [] = nil_from_length (drop (place + 1) names) (omega (arith, length-drop (place + 1) names)) in
    let read : rest ≡ get_or names place [] = is ∙ ap names_field (drop_more names place [] (omega arith) ∙ ap (λ (later : List (List ℕ)). get_or names place [] ∷ later) none) ∙ append-nil (get_or names place []) in
    (subst IsName (sym read) (all_at IsName names place (omega arith) all), read)

pub ended_more : (names : List (List ℕ)) (place : ℕ) (name bytes rest behind : List ℕ) → place < length names → bytes ≡ ended (take place names) ++ rest → rest ≡ name ++ 124 ∷ behind → bytes ≡ ended (take (place + 1) (set names place name)) ++ behind
ended_more names place name bytes rest behind within so_far is =
    let front = ended (take place names) in
    so_far ∙ ap (λ (t : List ℕ). front ++ t) is
    ∙ ap (λ (t : List ℕ). front ++ t) (sym (append_assoc name (124 ∷ []) behind))
    ∙ sym (append_assoc front (name ++ 124 ∷ []) behind)
    ∙ ap (λ (t : List ℕ). (front ++ t) ++ behind) (sym (append-nil (name ++ 124 ∷ [])))
    ∙ ap (λ (t : List ℕ). t ++ behind) (sym (flat_map-append (λ other. other ++ 124 ∷ []) (take place names) (name ∷ [])))
    ∙ ap (λ (xs : List (List ℕ)). ended xs ++ behind) (sym (take_more_set names place name within))

-- all names but the last, and the last
pub ended_whole : (names : List (List ℕ)) (last : List ℕ) → ended names ++ last ≡ names_field (names ++ last ∷ [])
ended_whole [] last = sym (append-nil last)
ended_whole (name ∷ names) last =
    append_assoc (name ++ 124 ∷ []) (ended names) last ∙ append_assoc name (124 ∷ []) (ended names ++ last)
    ∙ ap (λ (t : List ℕ). name ++ 124 ∷ t) (ended_whole names last) ∙ again names
  where
    again : (others : List (List ℕ)) → name ++ 124 ∷ names_field (others ++ last ∷ []) ≡ names_field (name ∷ (others ++ last ∷ []))
    again [] = refl
    again (other ∷ others) = refl

pub ended_one : (bytes name front behind : List ℕ) → name ≡ front → bytes ≡ front ++ 124 ∷ behind → bytes ≡ ((name ++ 124 ∷ []) ++ []) ++ behind
ended_one bytes name front behind same is =
    is ∙ ap (λ (t : List ℕ). t ++ 124 ∷ behind) (sym same) ∙ sym (append_assoc name (124 ∷ []) behind) ∙ ap (λ (t : List ℕ). t ++ behind) (sym (append-nil (name ++ 124 ∷ [])))
