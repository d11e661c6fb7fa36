-- What is seen of a deal is in place, and what is in place is seen of some deal.
use Rattle.std.proofs.Common.{◌≡◌, ℕ, zero, suc, ◌+◌, ◌-◌, ◌*◌, ◌<◌, ◌≤◌, Bool, true, false, cond, List, [], ◌∷◌, ◌++◌, map, length, get_or, take, drop, refl, sym, ap, ◌∙◌, arith, length-append, length-drop, length-take, append_assoc}
use Rattle.std.specs.List.{AllByRecursion, concat, range_with_len}
use Rattle.std.proofs.lemmas.List.{take-take, drop-drop, drop-take, take_at, drop_at, length-map, append-nil, nil_from_length}
use Rattle.std.proofs.lemmas.List.FromFn.{fill_by_all, length-map-range_with_len, get_or-map-range_with_len}
use Rattle.card_core.specs.Deal.{IsDeal, hole_of, board_of}
use Rattle.matchstate.specs.Cards.{holes_seen, boards_of, all_cards, AreSeenOf, AreSeen, AreInPlace}
use Rattle.matchstate.proofs.Counts.{count_of, IsPart, count_of-append, count_of-take-drop, IsPart-from_pack, pack_from_IsPart}
use Rattle.matchstate.proofs.Completion.{fresh_cards}
use Rattle.matchstate.proofs.Joined.{get_or-map-length}

-- ---- counts of parts of a list

count_of-take-add : (x m k : ℕ) (xs : List ℕ) → count_of x (take (m + k) xs) ≡ count_of x (take m xs) + count_of x (take k (drop m xs))
count_of-take-add x m k xs =
    let parts = count_of-take-drop x m (take (m + k) xs) in
    let front = take-take m (m + k) xs (omega arith) in
    let back = drop-take m k xs in
    sym parts ∙ rw (front, back) refl

count_of-drop-le : (x n : ℕ) (xs : List ℕ) → count_of x (drop n xs) ≤ count_of x xs
count_of-drop-le x n xs = omega (arith, count_of-take-drop x n xs)

-- a later rest holds no more
count_of-drop-more : (x m n : ℕ) (xs : List ℕ) → count_of x (drop (m + n) xs) ≤ count_of x (drop m xs)
count_of-drop-more x m n xs = let e = drop-drop n m xs in rw (← e) (count_of-drop-le x n (drop m xs))

-- ---- lists of groups

-- the hole cards of the positions from first on, each taken from where the test says
hole_pick : (ℕ → Bool) → (ℕ → List ℕ) → List ℕ → ℕ → List ℕ
hole_pick sees given cards position = cond (sees position) (given position) (hole_of cards position)

double_next : (a : ℕ) → 2 * a + 2 ≡ 2 * (a + 1)
double_next a = omega arith

-- the cards at the places of n positions from a on
places_next : (x a n : ℕ) (cards : List ℕ) → count_of x (take (2 * suc n) (drop (2 * a) cards)) ≡ count_of x (hole_of cards a) + count_of x (take (2 * n) (drop (2 * (a + 1)) cards))
places_next x a n cards =
    let two : 2 * suc n ≡ 2 + 2 * n = omega arith in
    let split = count_of-take-add x 2 (2 * n) (drop (2 * a) cards) in
    let later : drop 2 (drop (2 * a) cards) ≡ drop (2 * (a + 1)) cards = drop-drop 2 (2 * a) cards ∙ ap (λ k. drop k cards) (double_next a) in
    ap (λ k. count_of x (take k (drop (2 * a) cards))) two ∙ split ∙ ap (λ rest. count_of x (take 2 (drop (2 * a) cards)) + count_of x (take (2 * n) rest)) later

-- picks hold no more than what was given and what the places hold
count_of-picks : (x : ℕ) (sees : ℕ → Bool) (given : ℕ → List ℕ) (cards : List ℕ) (a n : ℕ) → count_of x (concat (map (hole_pick sees given cards) (range_with_len a n))) ≤ count_of x (concat (map given (range_with_len a n))) + count_of x (take (2 * n) (drop (2 * a) cards))
unfolding hole_pick
count_of-picks x sees given cards a zero = omega arith
count_of-picks x sees given cards a (suc n) =
    let rest = count_of-picks x sees given cards (a + 1) n in
    let next = places_next x a n cards in
    let left = count_of-append x (hole_pick sees given cards a) (concat (map (hole_pick sees given cards) (range_with_len (a + 1) n))) in
    let right = count_of-append x (given a) (concat (map given (range_with_len (a + 1) n))) in
    let here : count_of x (hole_pick sees given cards a) ≤ count_of x (given a) + count_of x (hole_of cards a) =
    elim (sees a) as (λ b. count_of x (cond b (given a) (hole_of cards a)) ≤ count_of x (given a) + count_of x (hole_of cards a)) [ true ↦ omega arith | false ↦ omega arith ] in
    omega arith

-- ---- hole cards laid end to end

unfoldable pub AreTwos : List (List ℕ) → Type 0
AreTwos groups = AllByRecursion (λ group. length group ≡ 2) groups

pub length-twos : (groups : List (List ℕ)) → AreTwos groups → length (concat groups) ≡ 2 * length groups
unfolding AreTwos
length-twos [] twos = refl
length-twos (group ∷ groups) twos = omega (arith, length-append group (concat groups), length-twos groups twos.1, twos.0)

pub hole_of-twos : (groups : List (List ℕ)) (rest : List ℕ) (p : ℕ) → AreTwos groups → p < length groups → hole_of (concat groups ++ rest) p ≡ get_or groups p []
unfolding AreTwos
hole_of-twos [] rest p twos below = absurd (omega arith)
hole_of-twos (group ∷ groups) rest zero twos below =
    rw (append_assoc group (concat groups) rest) (take_at group (concat groups ++ rest) 2 twos.0)
hole_of-twos (group ∷ groups) rest (suc p) twos below =
    let two : 2 * suc p ≡ 2 + 2 * p = omega arith in
    let whole = group ++ concat groups ++ rest in
    let later : drop (2 * suc p) whole ≡ drop (2 * p) (concat groups ++ rest) =
    ap (λ k. drop k whole) two ∙ sym (drop-drop (2 * p) 2 whole)
    ∙ ap (drop (2 * p)) (ap (drop 2) (append_assoc group (concat groups) rest) ∙ drop_at group (concat groups ++ rest) 2 twos.0) in
    ap (take 2) later ∙ hole_of-twos groups rest p twos.1 (omega arith)

-- ---- what is seen of a deal is in place

length-hole : (cards : List ℕ) (p : ℕ) → 2 * p + 2 ≤ length cards → length (hole_of cards p) ≡ 2
length-hole cards p enough = omega (arith, length-take 2 (drop (2 * p) cards), length-drop (2 * p) cards)

hole_lengths : (sees : ℕ → Bool) (deal : List ℕ) (a n : ℕ) → 2 * (a + n) ≤ length deal → map length (map (λ p. cond (sees p) (hole_of deal p) []) (range_with_len a n)) ≡ map (λ p. cond (sees p) 2 0) (range_with_len a n)
hole_lengths sees deal a zero enough = refl
hole_lengths sees deal a (suc n) enough =
    let rest = hole_lengths sees deal (a + 1) n (omega arith) in
    let two = length-hole deal a (omega arith) in
    let here : length (cond (sees a) (hole_of deal a) []) ≡ cond (sees a) 2 0 =
    elim (sees a) as (λ b. length (cond b (hole_of deal a) []) ≡ cond b 2 0) [ true ↦ two | false ↦ refl ] in
    cc

count_of-holes : (x : ℕ) (sees : ℕ → Bool) (deal : List ℕ) (a n : ℕ) → count_of x (concat (map (λ p. cond (sees p) (hole_of deal p) []) (range_with_len a n))) ≤ count_of x (take (2 * n) (drop (2 * a) deal))
count_of-holes x sees deal a zero = omega arith
count_of-holes x sees deal a (suc n) =
    let rest = count_of-holes x sees deal (a + 1) n in
    let next = places_next x a n deal in
    let left = count_of-append x (cond (sees a) (hole_of deal a) []) (concat (map (λ p. cond (sees p) (hole_of deal p) []) (range_with_len (a + 1) n))) in
    let here : count_of x (cond (sees a) (hole_of deal a) []) ≤ count_of x (hole_of deal a) =
    elim (sees a) as (λ b. count_of x (cond b (hole_of deal a) []) ≤ count_of x (hole_of deal a)) [ true ↦ omega arith | false ↦ omega arith ] in
    omega arith

abbrev pub board_parts : List ℕ → List (List ℕ)
board_parts board = take 3 board ∷ take 1 (drop 3 board) ∷ drop 4 board ∷ []

board_lengths : (rounds : ℕ) (board : List ℕ) → length board ≡ 5 → map length (take rounds (board_parts board)) ≡ take rounds (3 ∷ 1 ∷ 1 ∷ [])
board_lengths zero board five = refl
board_lengths (suc zero) board five = let flop : length (take 3 board) ≡ 3 = omega (arith, length-take 3 board) in cc
board_lengths (suc (suc zero)) board five =
    let flop : length (take 3 board) ≡ 3 = omega (arith, length-take 3 board) in
    let turn : length (take 1 (drop 3 board)) ≡ 1 = omega (arith, length-take 1 (drop 3 board), length-drop 3 board) in
    cc
board_lengths (suc (suc (suc rounds))) board five =
    let flop : length (take 3 board) ≡ 3 = omega (arith, length-take 3 board) in
    let turn : length (take 1 (drop 3 board)) ≡ 1 = omega (arith, length-take 1 (drop 3 board), length-drop 3 board) in
    let river : length (drop 4 board) ≡ 1 = omega (arith, length-drop 4 board) in
    elim rounds as (λ r. length (take 3 board) ∷ length (take 1 (drop 3 board)) ∷ length (drop 4 board) ∷ map length (take {A = List ℕ} r []) ≡ 3 ∷ 1 ∷ 1 ∷ take {A = ℕ} r []) [ zero ↦ cc | suc r ↦ cc ]

count_of-boards : (x rounds : ℕ) (board : List ℕ) → count_of x (concat (take rounds (board_parts board))) ≤ count_of x board
count_of-boards x zero board = omega arith
count_of-boards x (suc zero) board = omega (arith, count_of-append x (take 3 board) [], count_of-take-drop x 3 board)
count_of-boards x (suc (suc zero)) board =
    omega (arith, count_of-append x (take 3 board) (take 1 (drop 3 board) ++ []), count_of-append x (take 1 (drop 3 board)) [], count_of-take-drop x 3 board, count_of-take-drop x 1 (drop 3 board))
count_of-boards x (suc (suc (suc rounds))) board =
    let all : concat (take (suc (suc (suc rounds))) (board_parts board)) ≡ take 3 board ++ (take 1 (drop 3 board) ++ (drop 4 board ++ [])) =
    elim rounds as (λ r. concat (take (suc (suc (suc r))) (board_parts board)) ≡ take 3 board ++ (take 1 (drop 3 board) ++ (drop 4 board ++ []))) [ zero ↦ refl | suc r ↦ refl ] in
    let river : drop 1 (drop 3 board) ≡ drop 4 board = drop-drop 1 3 board in
    rw all
    (omega (
      arith,
      count_of-append x (take 3 board) (take 1 (drop 3 board) ++ (drop 4 board ++ [])),
      count_of-append x (take 1 (drop 3 board)) (drop 4 board ++ []),
      count_of-append x (drop 4 board) [],
      count_of-take-drop x 3 board,
      count_of-take-drop x 1 (drop 3 board),
      ap (count_of x) river,
    ))

pub place_from_seen : (players : ℕ) (sees : ℕ → Bool) (rounds : ℕ) (holes boards : List (List ℕ)) (deal : List ℕ) → AreSeenOf players sees rounds holes boards deal → AreInPlace players sees rounds holes boards
place_from_seen players sees rounds holes boards deal seen =
    let count = seen.dealt.count in
    let five : length (board_of deal) ≡ 5 = omega (arith, length-drop (length deal - 5) deal) in
    let part = IsPart-from_pack deal seen.dealt.cards_of_the_pack seen.dealt.distinct in
    let there : IsPart (all_cards holes boards) = λ x.
    let left = count_of-holes x sees deal 0 players in
    let right = count_of-boards x rounds (board_of deal) in
    let split = count_of-take-drop x (2 * players) deal in
    let at : length deal - 5 ≡ 2 * players = omega arith in
    let board : count_of x (board_of deal) ≡ count_of x (drop (2 * players) deal) = ap (λ k. count_of x (drop k deal)) at in
    let whole = part x in
    let joined = count_of-append x (concat holes) (concat boards) in
    let of_holes : count_of x (concat holes) ≡ count_of x (concat (holes_seen players sees deal)) = ap (λ h. count_of x (concat h)) seen.hole_cards in
    let of_boards : count_of x (concat boards) ≡ count_of x (concat (take rounds (boards_of deal))) = ap (λ h. count_of x (concat h)) seen.board_cards in
    omega arith in
    let told = pack_from_IsPart (all_cards holes boards) there in
    record {
      hole_counts = ap (map length) seen.hole_cards ∙ hole_lengths sees deal 0 players (omega arith);
      board_counts = ap (map length) seen.board_cards ∙ board_lengths rounds (board_of deal) five;
      pack = told.0;
      distinct = told.1;
    }

-- ---- what is in place is seen of some deal

AreTwos-map : (f : ℕ → List ℕ) (a n : ℕ) → ((p : ℕ) → a ≤ p → p < a + n → length (f p) ≡ 2) → AreTwos (map f (range_with_len a n))
unfolding AreTwos
AreTwos-map f a zero each = tt
AreTwos-map f a (suc n) each = (each a (omega arith) (omega arith), AreTwos-map f (a + 1) n (λ p low high. each p (omega arith) (omega arith)))

length-seen_holes : (sees : ℕ → Bool) (holes : List (List ℕ)) (a n : ℕ) → map length holes ≡ map (λ p. cond (sees p) 2 0) (range_with_len a n) → length (concat holes) ≤ 2 * n
length-seen_holes sees [] a n shape = omega arith
length-seen_holes sees (hole ∷ holes) a zero shape = cc
length-seen_holes sees (hole ∷ holes) a (suc n) shape =
    let rest : map length holes ≡ map (λ p. cond (sees p) 2 0) (range_with_len (a + 1) n) = cc in
    let here : length hole ≡ cond (sees a) 2 0 = cc in
    let small : cond (sees a) 2 0 ≤ 2 = elim (sees a) as (λ b. cond b 2 0 ≤ 2) [ true ↦ omega arith | false ↦ omega arith ] in
    omega (arith, length-append hole (concat holes), length-seen_holes sees holes (a + 1) n rest)

-- the board completed: the cards that are seen, and those behind them
pub data Board : ℕ → List (List ℕ) → Type 0 where
  unseen : Board 0 []
  flop : {f : List ℕ} → length f ≡ 3 → Board 1 (f ∷ [])
  turn : {f t : List ℕ} → length f ≡ 3 → length t ≡ 1 → Board 2 (f ∷ t ∷ [])
  river : {f t r : List ℕ} → length f ≡ 3 → length t ≡ 1 → length r ≡ 1 → Board 3 (f ∷ t ∷ r ∷ [])

pub board_from_lengths : (rounds : ℕ) (boards : List (List ℕ)) → rounds ≤ 3 → map length boards ≡ take rounds (3 ∷ 1 ∷ 1 ∷ []) → Board rounds boards
board_from_lengths zero [] most shape = unseen
board_from_lengths zero (f ∷ boards) most shape = cc
board_from_lengths (suc zero) [] most shape = cc
board_from_lengths (suc zero) (f ∷ []) most shape = flop (cc)
board_from_lengths (suc zero) (f ∷ t ∷ boards) most shape = cc
board_from_lengths (suc (suc zero)) [] most shape = cc
board_from_lengths (suc (suc zero)) (f ∷ []) most shape = cc
board_from_lengths (suc (suc zero)) (f ∷ t ∷ []) most shape = turn (cc) (cc)
board_from_lengths (suc (suc zero)) (f ∷ t ∷ r ∷ boards) most shape = cc
board_from_lengths (suc (suc (suc zero))) [] most shape = cc
board_from_lengths (suc (suc (suc zero))) (f ∷ []) most shape = cc
board_from_lengths (suc (suc (suc zero))) (f ∷ t ∷ []) most shape = cc
board_from_lengths (suc (suc (suc zero))) (f ∷ t ∷ r ∷ []) most shape = river (cc) (cc) (cc)
board_from_lengths (suc (suc (suc zero))) (f ∷ t ∷ r ∷ more ∷ boards) most shape = cc
board_from_lengths (suc (suc (suc (suc rounds)))) boards most shape = absurd (omega arith)

pub length-board : {rounds : ℕ} {boards : List (List ℕ)} → Board rounds boards → length (concat boards) ≤ 5
length-board unseen = omega arith
length-board (flop {f} a) = omega (arith, length-append f [], a)
length-board (turn {f} {t} a b) = omega (arith, length-append f (t ++ []), length-append t [], a, b)
length-board (river {f} {t} {r} a b c) = omega (arith, length-append f (t ++ (r ++ [])), length-append t (r ++ []), length-append r [], a, b, c)

pub boards_of-board : {rounds : ℕ} {boards : List (List ℕ)} (rest : List ℕ) → Board rounds boards → length (concat boards) + length rest ≡ 5 → boards ≡ take rounds (board_parts (concat boards ++ rest))
boards_of-board rest unseen five = refl
boards_of-board rest (flop {f} a) five =
    let e : take 3 ((f ++ []) ++ rest) ≡ f = rw (append_assoc f [] rest) (take_at f rest 3 a) in
    ap (λ c. c ∷ []) (sym e)
boards_of-board rest (turn {f} {t} a b) five =
    let whole : (f ++ (t ++ [])) ++ rest ≡ f ++ (t ++ rest) = append_assoc f (t ++ []) rest ∙ ap (λ k. f ++ k) (append_assoc t [] rest) in
    let first : take 3 ((f ++ (t ++ [])) ++ rest) ≡ f = ap (take 3) whole ∙ take_at f (t ++ rest) 3 a in
    let next : drop 3 ((f ++ (t ++ [])) ++ rest) ≡ t ++ rest = ap (drop 3) whole ∙ drop_at f (t ++ rest) 3 a in
    let second : take 1 (drop 3 ((f ++ (t ++ [])) ++ rest)) ≡ t = ap (take 1) next ∙ take_at t rest 1 b in
    cc
boards_of-board rest (river {f} {t} {r} a b c) five =
    let none : rest ≡ [] = nil_from_length rest (omega (arith, length-append f (t ++ (r ++ [])), length-append t (r ++ []), length-append r [], a, b, c)) in
    let whole : (f ++ (t ++ (r ++ []))) ++ rest ≡ f ++ (t ++ r) =
    ap (λ k. (f ++ (t ++ (r ++ []))) ++ k) none ∙ append-nil (f ++ (t ++ (r ++ []))) ∙ ap (λ k. f ++ (t ++ k)) (append-nil r) in
    let first : take 3 ((f ++ (t ++ (r ++ []))) ++ rest) ≡ f = ap (take 3) whole ∙ take_at f (t ++ r) 3 a in
    let next : drop 3 ((f ++ (t ++ (r ++ []))) ++ rest) ≡ t ++ r = ap (drop 3) whole ∙ drop_at f (t ++ r) 3 a in
    let second : take 1 (drop 3 ((f ++ (t ++ (r ++ []))) ++ rest)) ≡ t = ap (take 1) next ∙ take_at t r 1 b in
    let third : drop 4 ((f ++ (t ++ (r ++ []))) ++ rest) ≡ r = sym (drop-drop 1 3 ((f ++ (t ++ (r ++ []))) ++ rest)) ∙ ap (drop 1) next ∙ drop_at t r 1 b in
    cc

-- cards in place, with unused cards at the places that aren't seen
abbrev completed : ℕ → (ℕ → Bool) → List (List ℕ) → List (List ℕ) → List ℕ → List ℕ
completed players sees holes boards fresh =
    concat (map (hole_pick sees (λ p. get_or holes p []) fresh) (range_with_len 0 players))
    ++ (concat boards ++ drop (20 + length (concat boards)) fresh)

module _ (players : ℕ) (sees : ℕ → Bool) (rounds : ℕ) (holes boards : List (List ℕ)) (few : players ≤ 10) (most : rounds ≤ 3) (place : AreInPlace players sees rounds holes boards) (fresh : List ℕ) (enough : length fresh ≡ 25) (part : IsPart (all_cards holes boards ++ fresh)) where
  abbrev given : ℕ → List ℕ
  given p = get_or holes p []

  abbrev picks : List (List ℕ)
  picks = map (hole_pick sees given fresh) (range_with_len 0 players)

  abbrev board_cards : List ℕ
  board_cards = concat boards ++ drop (20 + length (concat boards)) fresh

  board : Board rounds boards
  board = board_from_lengths rounds boards most place.board_counts

  holes_count : length holes ≡ players
  holes_count =
      sym (length-map holes length) ∙ ap length place.hole_counts ∙ length-map-range_with_len (λ p. cond (sees p) 2 0) 0 players

  length-given : (p : ℕ) → p < players → length (given p) ≡ cond (sees p) 2 0
  length-given p below =
      sym (get_or-map-length holes p) ∙ ap (λ ls. get_or ls p 0) place.hole_counts
      ∙ get_or-map-range_with_len (λ p. cond (sees p) 2 0) 0 players p p 0 below (omega arith)

  length-pick : (p : ℕ) → p < players → length (hole_pick sees given fresh p) ≡ 2
  unfolding hole_pick
  length-pick p below =
      let told = length-given p below in
      let two = length-hole fresh p (omega arith) in
      elim (sees p) as (λ b. length (given p) ≡ cond b 2 0 → length (cond b (given p) (hole_of fresh p)) ≡ 2) [ true ↦ λ e. e | false ↦ λ e. two ] told

  twos : AreTwos picks
  twos = AreTwos-map (hole_pick sees given fresh) 0 players (λ p low high. length-pick p (omega arith))

  length-picks : length (concat picks) ≡ 2 * players
  length-picks = omega (arith, length-twos picks twos, length-map-range_with_len (hole_pick sees given fresh) 0 players)

  length-board_cards : length board_cards ≡ 5
  length-board_cards =
      omega (arith, length-append (concat boards) (drop (20 + length (concat boards)) fresh), length-drop (20 + length (concat boards)) fresh, length-board board)

  length-completed : length (completed players sees holes boards fresh) ≡ 2 * players + 5
  length-completed = omega (arith, length-append (concat picks) board_cards, length-picks, length-board_cards)

  given_again : map given (range_with_len 0 players) ≡ holes
  given_again = sym (fill_by_all given holes players [] holes_count (λ p below. refl))

  counts : IsPart (completed players sees holes boards fresh)
  counts x =
      let whole = part x in
      let split = count_of-append x (all_cards holes boards) fresh in
      let seen = count_of-append x (concat holes) (concat boards) in
      let all = count_of-append x (concat picks) board_cards in
      let behind = count_of-append x (concat boards) (drop (20 + length (concat boards)) fresh) in
      let picked : count_of x (concat picks) ≤ count_of x (concat holes) + count_of x (take (2 * players) fresh) =
      rw given_again at (count_of-picks x sees given fresh 0 players) in
      let parts = count_of-take-drop x (2 * players) fresh in
      let later : count_of x (drop (20 + length (concat boards)) fresh) ≤ count_of x (drop (2 * players) fresh) =
      let at : 2 * players + (20 - 2 * players + length (concat boards)) ≡ 20 + length (concat boards) = omega arith in
      rw at at (count_of-drop-more x (2 * players) (20 - 2 * players + length (concat boards)) fresh) in
      omega arith

  dealt : IsDeal players (completed players sees holes boards fresh)
  dealt =
      let told = pack_from_IsPart (completed players sees holes boards fresh) counts in
      record { count = length-completed; cards_of_the_pack = told.0; distinct = told.1 }

  board_is : board_of (completed players sees holes boards fresh) ≡ board_cards
  board_is =
      let at : length (completed players sees holes boards fresh) - 5 ≡ length (concat picks) = omega (arith, length-completed, length-picks) in
      ap (λ k. drop k (completed players sees holes boards fresh)) at ∙ drop_at (concat picks) board_cards (length (concat picks)) refl

  boards_are : boards ≡ take rounds (boards_of (completed players sees holes boards fresh))
  boards_are =
      let five : length (concat boards) + length (drop (20 + length (concat boards)) fresh) ≡ 5 =
      sym (length-append (concat boards) (drop (20 + length (concat boards)) fresh)) ∙ length-board_cards in
      boards_of-board (drop (20 + length (concat boards)) fresh) board five ∙ ap (λ b. take rounds (board_parts b)) (sym board_is)

  hole_is : (p : ℕ) → p < players → get_or holes p [] ≡ cond (sees p) (hole_of (completed players sees holes boards fresh) p) []
  unfolding hole_pick
  hole_is p below =
      let length_told = length-given p below in
      let at : hole_of (completed players sees holes boards fresh) p ≡ hole_pick sees given fresh p =
      hole_of-twos picks board_cards p twos (omega (arith, length-map-range_with_len (hole_pick sees given fresh) 0 players))
      ∙ get_or-map-range_with_len (hole_pick sees given fresh) 0 players p p [] below (omega arith) in
      rw at
      (elim (sees p) as (λ b. length (given p) ≡ cond b 2 0 → given p ≡ cond b (cond b (given p) (hole_of fresh p)) []) [
        | true ↦ λ e. refl
        | false ↦ λ e. nil_from_length (given p) e
      ] length_told)

  holes_are : holes ≡ holes_seen players sees (completed players sees holes boards fresh)
  holes_are = fill_by_all (λ p. cond (sees p) (hole_of (completed players sees holes boards fresh) p) []) holes players [] holes_count hole_is

  completed_is : AreSeenOf players sees rounds holes boards (completed players sees holes boards fresh)
  completed_is = record { dealt = dealt; hole_cards = holes_are; board_cards = boards_are }

pub seen_from_place : (players : ℕ) (sees : ℕ → Bool) (rounds : ℕ) (holes boards : List (List ℕ)) → players ≤ 10 → rounds ≤ 3 → AreInPlace players sees rounds holes boards → AreSeen players sees rounds holes boards
seen_from_place players sees rounds holes boards few most place =
    let part = IsPart-from_pack (all_cards holes boards) place.pack place.distinct in
    let board = board_from_lengths rounds boards most place.board_counts in
    let room : length (all_cards holes boards) + 25 ≤ 52 =
    omega (arith, length-append (concat holes) (concat boards), length-seen_holes sees holes 0 players place.hole_counts, length-board board) in
    let fresh = fresh_cards 25 (all_cards holes boards) room part in (
      completed players sees holes boards fresh.0,
      completed_is players sees rounds holes boards few most place fresh.0 fresh.1 fresh.2,
    )
