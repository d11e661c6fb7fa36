-- Hole cards with | between them, position by position.
use Rattle.std.proofs.Common.{◌≡◌, ℕ, zero, suc, ◌+◌, ◌<◌, List, [], ◌∷◌, ◌++◌, map, length, take, drop, set, get_or, Option, refl, sym, ap, ◌∙◌, subst, arith, append_assoc}
use Rattle.std.specs.List.{AllByRecursion, flat_map, join_by, concat, range_with_len}
use Rattle.std.proofs.lemmas.List.{append-nil, drop_more, take_more, take_more_set, map-append, length-map, length-take}
use Rattle.std.proofs.lemmas.List.FromFn.{get_or-map-range_with_len, length-map-range_with_len, map-range_with_len_more}
use Rattle.slot_log.proofs.Inside.{all_joined}
use Rattle.matchstate.specs.Cards.{cards_text}
use Rattle.matchstate.specs.SeenCards.{separator, hole_in}

-- the hole cards of the positions from one on
abbrev pub joined : ℕ → List (List ℕ) → List ℕ
joined first [] = []
joined first (hole ∷ holes) = separator first ++ (cards_text hole ++ joined (suc first) holes)

joined_later : (first : ℕ) (holes : List (List ℕ)) → joined (suc first) holes ≡ flat_map (λ hole. 124 ∷ [] ++ cards_text hole) holes
joined_later first [] = refl
joined_later first (hole ∷ holes) = ap (λ rest. 124 ∷ (cards_text hole ++ rest)) (joined_later (suc first) holes)

pub joined_is : (holes : List (List ℕ)) → joined 0 holes ≡ join_by cards_text (124 ∷ []) holes
joined_is [] = refl
joined_is (hole ∷ holes) = ap (λ rest. cards_text hole ++ rest) (joined_later 0 holes)

regroup : (a b c d : List ℕ) → a ++ (b ++ (c ++ d)) ≡ a ++ (b ++ c) ++ d
regroup a b c d = simp append_assoc

pub joined_push : (first : ℕ) (holes : List (List ℕ)) (hole : List ℕ) → joined first (holes ++ hole ∷ []) ≡ joined first holes ++ (separator (first + length holes) ++ cards_text hole)
joined_push first [] hole = let e : first + 0 ≡ first = omega arith in rw (e, append-nil (cards_text hole)) refl
joined_push first (other ∷ holes) hole =
    let e : suc first + length holes ≡ first + suc (length holes) = omega arith in
    ap (λ rest. separator first ++ (cards_text other ++ rest)) (joined_push (suc first) holes hole ∙ ap (λ k. joined (suc first) holes ++ (separator k ++ cards_text hole)) e)
    ∙ regroup (separator first) (cards_text other) (joined (suc first) holes) (separator (first + suc (length holes)) ++ cards_text hole)

-- ---- the hole cards of a position

pub All-part : (P : ℕ → Type 0) (xs ys : List ℕ) → AllByRecursion P (xs ++ ys) → AllByRecursion P xs × AllByRecursion P ys
All-part P [] ys all = (tt, all)
All-part P (x ∷ xs) ys all = let parts = All-part P xs ys all.1 in ((all.0, parts.0), parts.1)

pub All-hole : (P : ℕ → Type 0) (holes : List (List ℕ)) (p : ℕ) → AllByRecursion P (concat holes) → AllByRecursion P (get_or holes p [])
All-hole P [] p all = tt
All-hole P (hole ∷ holes) zero all = (All-part P hole (concat holes) all).0
All-hole P (hole ∷ holes) (suc p) all = All-hole P holes p (All-part P hole (concat holes) all).1

pub get_or-map-length : (groups : List (List ℕ)) (p : ℕ) → get_or (map length groups) p 0 ≡ length (get_or groups p [])
get_or-map-length [] p = refl
get_or-map-length (group ∷ groups) zero = refl
get_or-map-length (group ∷ groups) (suc p) = get_or-map-length groups p

-- hole cards of the wanted counts
module _ (want : ℕ → ℕ) (players : ℕ) (holes : List (List ℕ)) (counts : map length holes ≡ map want (range_with_len 0 players)) where
  pub count_of_holes : length holes ≡ players
  count_of_holes = sym (length-map holes length) ∙ ap length counts ∙ length-map-range_with_len want 0 players

  pub count_of_hole : (p : ℕ) → p < players → length (get_or holes p []) ≡ want p
  count_of_hole p below =
      sym (get_or-map-length holes p) ∙ ap (λ ls. get_or ls p 0) counts ∙ get_or-map-range_with_len want 0 players p p 0 below (omega arith)

  -- of what is left at a position its hole cards stand first
  pub hole_next : (p : ℕ) (rest behind : List ℕ) → p < players → rest ≡ joined p (drop p holes) ++ behind → rest ≡ separator p ++ (cards_text (get_or holes p []) ++ (joined (p + 1) (drop (p + 1) holes) ++ behind))
  hole_next p rest behind below is =
      let count = count_of_holes in
      let next : suc p ≡ p + 1 = omega arith in
      is ∙ ap (λ hs. joined p hs ++ behind) (drop_more holes p [] (omega (arith, count, below)))
      ∙ sym (regroup (separator p) (cards_text (get_or holes p [])) (joined (suc p) (drop (p + 1) holes)) behind)
      ∙ ap (λ k. separator p ++ (cards_text (get_or holes p []) ++ (joined k (drop (p + 1) holes) ++ behind))) next

-- ---- one more position read

pub concat_push : (xs : List (List ℕ)) (x : List ℕ) → concat (xs ++ x ∷ []) ≡ concat xs ++ x
concat_push [] x = append-nil x
concat_push (y ∷ xs) x = ap (λ r. y ++ r) (concat_push xs x) ∙ sym (append_assoc y (concat xs) x)

module _ (holes : List (Option (List ℕ))) (p : ℕ) (hole : Option (List ℕ)) (below : p < length holes) where
  holes_more : map hole_in (take (p + 1) (set holes p hole)) ≡ map hole_in (take p holes) ++ hole_in hole ∷ []
  holes_more = ap (map hole_in) (take_more_set holes p hole below) ∙ map-append hole_in (take p holes) (hole ∷ [])

  pub text_more : (bytes rest text behind : List ℕ) → bytes ≡ joined 0 (map hole_in (take p holes)) ++ rest → rest ≡ separator p ++ text → text ≡ cards_text (hole_in hole) ++ behind → bytes ≡ joined 0 (map hole_in (take (p + 1) (set holes p hole))) ++ behind
  text_more bytes rest text behind whole sep cards =
      let front = map hole_in (take p holes) in
      let count : 0 + length front ≡ p = omega (arith, length-map (take p holes) hole_in, length-take p holes) in
      whole ∙ ap (λ r. joined 0 front ++ r) (sep ∙ ap (λ t. separator p ++ t) cards)
      ∙ regroup (joined 0 front) (separator p) (cards_text (hole_in hole)) behind
      ∙ ap (λ k. joined 0 front ++ (separator k ++ cards_text (hole_in hole)) ++ behind) (sym count)
      ∙ ap (λ t. t ++ behind) (sym (joined_push 0 front (hole_in hole)))
      ∙ ap (λ hs. joined 0 hs ++ behind) (sym holes_more)

  pub counts_more : (want : ℕ → ℕ) → map length (map hole_in (take p holes)) ≡ map want (range_with_len 0 p) → length (hole_in hole) ≡ want p → map length (map hole_in (take (p + 1) (set holes p hole))) ≡ map want (range_with_len 0 (p + 1))
  counts_more want before here =
      ap (map length) holes_more ∙ map-append length (map hole_in (take p holes)) (hole_in hole ∷ [])
      ∙ ap (λ front. front ++ length (hole_in hole) ∷ []) before ∙ ap (λ n. map want (range_with_len 0 p) ++ n ∷ []) here
      ∙ sym (map-range_with_len_more want 0 p p (omega arith))

  pub pack_more : AllByRecursion (λ card. card < 52) (concat (map hole_in (take p holes))) → AllByRecursion (λ card. card < 52) (hole_in hole) → AllByRecursion (λ card. card < 52) (concat (map hole_in (take (p + 1) (set holes p hole))))
  pack_more before here =
      subst (AllByRecursion (λ card. card < 52)) (sym (ap concat holes_more ∙ concat_push (map hole_in (take p holes)) (hole_in hole)))
      (all_joined (λ card. card < 52) (concat (map hole_in (take p holes))) (hole_in hole) before here)

  pub same_more : (others : List (List ℕ)) → p < length others → map hole_in (take p holes) ≡ take p others → hole_in hole ≡ get_or others p [] → map hole_in (take (p + 1) (set holes p hole)) ≡ take (p + 1) others
  same_more others within before here =
      holes_more ∙ ap (λ front. front ++ hole_in hole ∷ []) before ∙ ap (λ h. take p others ++ h ∷ []) here ∙ sym (take_more others p [] within)
