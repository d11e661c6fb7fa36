-- The deals that begin with the known cards: those with the first of the other cards, and those without it.
use Rattle.std.proofs.Common.{◌≡◌, ℕ, zero, suc, ◌+◌, ◌-◌, ◌*◌, ◌<◌, ◌≤◌, List, [], ◌∷◌, ◌++◌, length, map, take, drop, get_or, nat_eq, refl, sym, ◌∙◌, ap, subst, append_assoc, arith, rules}
use Rattle.std.specs.List.{IsDistinct}
use Rattle.std.proofs.lemmas.Cmp.{nat_eq_equiv}
use Rattle.std.proofs.lemmas.Grind.{common_steps}
use Rattle.std.proofs.lemmas.List.{append-nil, map-append, length-append, length-map}
use Rattle.std.proofs.lemmas.List.Sorted.{IsPermutation-middle}
use Rattle.std.proofs.lemmas.Map.Keys.{IsDistinct-IsPermutation, IsDistinct-tail}
use Rattle.std.proofs.Math.Seq.{take-append_seam}
use Rattle.card_core.proofs.Distinct.{IsDistinct-take}
use Rattle.match_log.specs.BestFive.{choices}

-- the known cards and each choice of so many of the others
abbrev pub with_choices : List ℕ → ℕ → List ℕ → List (List ℕ)
with_choices known missing others = map (λ more. known ++ more) (choices missing others)

pub none_missing : (known others : List ℕ) → with_choices known zero others ≡ known ∷ []
unfolding choices
none_missing known others = ap (λ (deal : List ℕ). deal ∷ []) (append-nil known)

pub none_to_choose : (known : List ℕ) (missing : ℕ) → with_choices known (suc missing) [] ≡ []
unfolding choices
none_to_choose known missing = refl

in_front : (known : List ℕ) (card : ℕ) (choice : List (List ℕ)) → map (λ more. known ++ more) (map (λ others. card ∷ others) choice) ≡ map (λ more. (known ++ card ∷ []) ++ more) choice
in_front known card [] = refl
in_front known card (more ∷ choice) =
    ap (λ (deal : List ℕ). deal ∷ map (λ others. known ++ others) (map (λ others. card ∷ others) choice)) (sym (append_assoc known (card ∷ []) more))
    ∙ ap (λ (deals : List (List ℕ)). ((known ++ card ∷ []) ++ more) ∷ deals) (in_front known card choice)

pub with_and_without : (known : List ℕ) (missing card : ℕ) (rest : List ℕ) → with_choices known (suc missing) (card ∷ rest) ≡ with_choices (known ++ card ∷ []) missing rest ++ with_choices known (suc missing) rest
unfolding choices
with_and_without known missing card rest =
    map-append (λ more. known ++ more) (map (λ others. card ∷ others) (choices missing rest)) (choices (suc missing) rest)
    ∙ ap (λ (deals : List (List ℕ)). deals ++ with_choices known (suc missing) rest) (in_front known card (choices missing rest))

pub count_both : (missing card : ℕ) (rest : List ℕ) → length (choices (suc missing) (card ∷ rest)) ≡ length (choices missing rest) + length (choices (suc missing) rest)
unfolding choices
count_both missing card rest =
    length-append (map (λ others. card ∷ others) (choices missing rest)) (choices (suc missing) rest)
    ∙ ap (λ n. n + length (choices (suc missing) rest)) (length-map (choices missing rest) (λ others. card ∷ others))

pub count_one : (others : List ℕ) → length (choices zero others) ≡ 1
unfolding choices
count_one others = refl

-- ---- how many there are

no_more : (missing : ℕ) → length (choices (suc missing) []) ≡ 0
unfolding choices
no_more missing = refl

pub count_each : (others : List ℕ) → length (choices 1 others) ≡ length others
count_each [] = no_more 0
count_each (card ∷ rest) = omega (arith, count_both 0 card rest, count_one rest, count_each rest)

pub count_pairs : (others : List ℕ) → 2 * length (choices 2 others) + length others ≡ length others * length others
count_pairs [] = omega (arith, no_more 1)
count_pairs (card ∷ rest) = omega (arith, count_both 1 card rest, count_each rest, count_pairs rest)

-- ---- none twice

pub without_first : (known : List ℕ) (card : ℕ) (rest : List ℕ) → IsDistinct nat_eq (known ++ card ∷ rest) → IsDistinct nat_eq (known ++ rest)
without_first known card rest distinct =
    IsDistinct-tail nat_eq card (known ++ rest) (IsDistinct-IsPermutation nat_eq nat_eq_equiv.symm (known ++ card ∷ rest) (card ∷ (known ++ rest)) (IsPermutation-middle known card rest) distinct)

pub with_first : (known : List ℕ) (card : ℕ) (rest : List ℕ) → IsDistinct nat_eq (known ++ card ∷ rest) → IsDistinct nat_eq ((known ++ card ∷ []) ++ rest)
with_first known card rest distinct = subst (IsDistinct nat_eq) (sym (append_assoc known (card ∷ []) rest)) distinct

pub front_distinct : (known others : List ℕ) → IsDistinct nat_eq (known ++ others) → IsDistinct nat_eq known
front_distinct known others distinct = subst (IsDistinct nat_eq) (take-append_seam known others) (IsDistinct-take nat_eq (length known) (known ++ others) distinct)

-- a list by its first and the rest
pub first_and_rest : (cards : List ℕ) (first : ℕ) → 1 ≤ length cards → first ≡ get_or cards 0 first → cards ≡ first ∷ take (length cards - 1) (drop 1 cards)
first_and_rest [] first some is = absurd (omega arith)
first_and_rest (card ∷ cards) first some is = search (arith, common_steps, rules)

-- ---- one card more is known

one_fewer : (places : ℕ) (known : List ℕ) (first : ℕ) → length known < places → places - length known ≡ suc (places - length (known ++ first ∷ []))
one_fewer places known first less = omega (arith, length-append known (first ∷ []))

pub split_few : (places : ℕ) (known others : List ℕ) (first : ℕ) (rest : List ℕ) → length known < places → others ≡ first ∷ rest
    → length (choices (places - length known) others) ≡ length (choices (places - length (known ++ first ∷ [])) rest) + length (choices (places - length known) rest)
split_few places known others first rest less is =
    let fewer = one_fewer places known first less in
    ap (λ (cards : List ℕ). length (choices (places - length known) cards)) is
    ∙ ap (λ missing. length (choices missing (first ∷ rest))) fewer
    ∙ count_both (places - length (known ++ first ∷ [])) first rest
    ∙ ap (λ missing. length (choices (places - length (known ++ first ∷ [])) rest) + length (choices missing rest)) (sym fewer)

pub split_deals : (places : ℕ) (known others : List ℕ) (first : ℕ) (rest : List ℕ) → length known < places → others ≡ first ∷ rest
    → with_choices known (places - length known) others ≡ with_choices (known ++ first ∷ []) (places - length (known ++ first ∷ [])) rest ++ with_choices known (places - length known) rest
split_deals places known others first rest less is =
    let fewer = one_fewer places known first less in
    ap (with_choices known (places - length known)) is
    ∙ ap (λ missing. with_choices known missing (first ∷ rest)) fewer
    ∙ with_and_without known (places - length (known ++ first ∷ [])) first rest
    ∙ ap (λ missing. with_choices (known ++ first ∷ []) (places - length (known ++ first ∷ [])) rest ++ with_choices known missing rest) (sym fewer)

pub whole_deals : (places : ℕ) (known others : List ℕ) → length known ≡ places → with_choices known (places - length known) others ≡ known ∷ []
whole_deals places known others all =
    let none : places - length known ≡ 0 = omega arith in
    ap (λ missing. with_choices known missing others) none ∙ none_missing known others

pub no_deals : (places : ℕ) (known others : List ℕ) → length known < places → length others < 1 → with_choices known (places - length known) others ≡ []
no_deals places known [] less none =
    let some : places - length known ≡ suc (places - length known - 1) = omega arith in
    ap (λ missing. with_choices known missing []) some ∙ none_to_choose known (places - length known - 1)
no_deals places known (card ∷ others) less none = absurd (omega arith)

pub one_deal : (places : ℕ) (known others : List ℕ) → length known ≡ places → length (choices (places - length known) others) ≡ 1
one_deal places known others all =
    let none : places - length known ≡ 0 = omega arith in
    ap (λ missing. length (choices missing others)) none ∙ count_one others
