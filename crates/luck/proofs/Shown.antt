-- What a hand's line shows decides its luck.
use Rattle.std.proofs.Common.{◌≡◌, ℕ, zero, suc, ◌+◌, ◌-◌, ◌*◌, ◌≤◌, ℤ, ◌+ℤ◌, ◌-ℤ◌, List, [], ◌∷◌, ◌++◌, length, take, drop, refl, sym, ◌∙◌, ap, arith}
use Rattle.std.specs.List.{concat}
use Rattle.std.proofs.lemmas.List.{length-append, length-drop, length-take-le, take-take, take-append-drop}
use Rattle.std.proofs.Math.Seq.{take-append_seam}
use Rattle.game_def.specs.Game.{Game}
use Rattle.card_core.specs.Deal.{IsDeal, board_of}
use Rattle.betting.specs.declared.action.Action.{Action}
use Rattle.slot_log.specs.Hand.{Hand}
use Rattle.matchstate.specs.Cards.{holes_of, boards_of, board_shown}
use Rattle.matchstate.specs.Laws.{board_count}
use Rattle.matchstate.proofs.Dealt.{all_of}
use Rattle.luck.specs.Deals.{known_at, completions}
use Rattle.luck.specs.Draws.{stream_of_hand, drawn}
use Rattle.luck.specs.Lucks.{deals_at, mean_at, street_luck, luck_through}
use Rattle.luck.specs.Means.{parts_of}
use Rattle.luck.proofs.Lucky.{board_most}

-- ---- the cards that are shown

shown_board : (street : ℕ) (board : List ℕ) → street ≤ 3 → length board ≡ 5 → take (board_count street) board ≡ concat (take street (take 3 board ∷ take 1 (drop 3 board) ∷ drop 4 board ∷ []))
shown_board street [] within five = absurd (omega arith)
shown_board street (a ∷ []) within five = absurd (omega arith)
shown_board street (a ∷ b ∷ []) within five = absurd (omega arith)
shown_board street (a ∷ b ∷ c ∷ []) within five = absurd (omega arith)
shown_board street (a ∷ b ∷ c ∷ d ∷ []) within five = absurd (omega arith)
shown_board street (a ∷ b ∷ c ∷ d ∷ e ∷ f ∷ more) within five = absurd (omega arith)
shown_board zero (a ∷ b ∷ c ∷ d ∷ e ∷ []) within five = refl
shown_board (suc zero) (a ∷ b ∷ c ∷ d ∷ e ∷ []) within five = refl
shown_board (suc (suc zero)) (a ∷ b ∷ c ∷ d ∷ e ∷ []) within five = refl
shown_board (suc (suc (suc zero))) (a ∷ b ∷ c ∷ d ∷ e ∷ []) within five = refl
shown_board (suc (suc (suc (suc street)))) (a ∷ b ∷ c ∷ d ∷ e ∷ []) within five = absurd (omega arith)

board_five : (players : ℕ) (deal : List ℕ) → IsDeal players deal → length (board_of deal) ≡ 5
board_five players deal dealt = omega (arith, dealt.count, length-drop (length deal - 5) deal)

-- the hole cards are the front of a deal
front_is : (players : ℕ) (deal : List ℕ) → IsDeal players deal → take (2 * players) deal ≡ concat (holes_of players deal)
front_is players deal dealt =
    let holes = concat (holes_of players deal) in
    let boards = concat (boards_of deal) in
    let all : holes ++ boards ≡ deal = all_of players deal dealt in
    let five : length boards ≡ 5 = ap length (sym (shown_board 3 (board_of deal) (omega arith) (board_five players deal dealt))) ∙ take_five (board_of deal) (board_five players deal dealt) in
    let count : 2 * players ≡ length holes = omega (arith, dealt.count, ap length all, length-append holes boards, five) in
    ap (take (2 * players)) (sym all) ∙ ap (λ n. take n (holes ++ boards)) count ∙ take-append_seam holes boards
  where
    take_five : (board : List ℕ) → length board ≡ 5 → length (take 5 board) ≡ 5
    take_five board five = length-take-le 5 board (omega arith)

take_further : (xs ys : List ℕ) (n : ℕ) → take (length xs + n) (xs ++ ys) ≡ xs ++ take n ys
take_further [] ys n = let same : 0 + n ≡ n = omega arith in ap (λ k. take k ys) same
take_further (x ∷ xs) ys n = let same : length (x ∷ xs) + n ≡ suc (length xs + n) = omega arith in ap (λ k. take k (x ∷ (xs ++ ys))) same ∙ ap (λ (r : List ℕ). x ∷ r) (take_further xs ys n)

front_and_board : (players : ℕ) (deal : List ℕ) (street : ℕ) → IsDeal players deal → street ≤ 3 → known_at players deal street ≡ concat (holes_of players deal) ++ concat (board_shown street deal)
front_and_board players deal street dealt within =
    let place : length deal - 5 ≡ 2 * players = omega (arith, dealt.count) in
    let split : take (2 * players) deal ++ board_of deal ≡ deal = ap (λ n. take (2 * players) deal ++ drop n deal) place ∙ take-append-drop (2 * players) deal in
    let front : length (take (2 * players) deal) ≡ 2 * players = length-take-le (2 * players) deal (omega (arith, dealt.count)) in
    ap (take (2 * players + board_count street)) (sym split)
    ∙ ap (λ n. take (n + board_count street) (take (2 * players) deal ++ board_of deal)) (sym front)
    ∙ take_further (take (2 * players) deal) (board_of deal) (board_count street)
    ∙ ap (λ (xs : List ℕ). xs ++ take (board_count street) (board_of deal)) (front_is players deal dealt)
    ∙ ap (λ (xs : List ℕ). concat (holes_of players deal) ++ xs) (shown_board street (board_of deal) within (board_five players deal dealt))

board_grows : (street later : ℕ) → street ≤ later → later ≤ 3 → board_count street ≤ board_count later
board_grows zero later earlier within = omega arith
board_grows (suc zero) zero earlier within = absurd (omega arith)
board_grows (suc zero) (suc later) earlier within = board_most (suc later) (omega arith) within
board_grows (suc (suc zero)) (suc (suc zero)) earlier within = omega arith
board_grows (suc (suc zero)) (suc (suc (suc zero))) earlier within = omega arith
board_grows (suc (suc (suc zero))) (suc (suc (suc zero))) earlier within = omega arith
board_grows (suc (suc street)) zero earlier within = absurd (omega arith)
board_grows (suc (suc street)) (suc zero) earlier within = absurd (omega arith)
board_grows (suc (suc (suc street))) (suc (suc zero)) earlier within = absurd (omega arith)
board_grows (suc (suc (suc (suc street)))) (suc (suc (suc later))) earlier within = absurd (omega arith)
board_grows street (suc (suc (suc (suc later)))) earlier within = absurd (omega arith)

-- a street's known cards are those of a later one, up to it
known_before : (players : ℕ) (deal : List ℕ) (street later : ℕ) → board_count street ≤ board_count later → take (2 * players + board_count street) (known_at players deal later) ≡ known_at players deal street
known_before players deal street later less = take-take (2 * players + board_count street) (2 * players + board_count later) deal (omega (arith, less))

pub same_known : (players : ℕ) (deal other : List ℕ) (street later : ℕ) → IsDeal players deal → IsDeal players other → street ≤ later → later ≤ 3
    → holes_of players deal ≡ holes_of players other → board_shown later deal ≡ board_shown later other → known_at players deal street ≡ known_at players other street
same_known players deal other street later dealt again earlier within holes boards =
    let same : known_at players deal later ≡ known_at players other later =
    front_and_board players deal later dealt within ∙ ap (λ (h : List (List ℕ)). concat h ++ concat (board_shown later deal)) holes
    ∙ ap (λ (b : List (List ℕ)). concat (holes_of players other) ++ concat b) boards ∙ sym (front_and_board players other later again within) in
    sym (known_before players deal street later (board_grows street later earlier within)) ∙ ap (take (2 * players + board_count street)) same ∙ known_before players other street later (board_grows street later earlier within)

-- ---- and so is the luck

same_deals : (key : List ℕ) (number players : ℕ) (deal other : List ℕ) (street : ℕ) → known_at players deal street ≡ known_at players other street → deals_at key number players deal street ≡ deals_at key number players other street
same_deals key number players deal other zero same = ap (λ (known : List ℕ). (drawn known (stream_of_hand key number) (parts_of players)).0) same
same_deals key number players deal other (suc street) same = ap (completions players) same

pub same_luck : (key : List ℕ) (game : Game) (number position : ℕ) (past : List Action) (deal other : List ℕ) (streets last : ℕ) → streets ≤ last → ((street : ℕ) → street ≤ last → known_at game.players deal street ≡ known_at game.players other street)
    → luck_through key game number (record { deal = deal; past = past }) position streets ≡ luck_through key game number (record { deal = other; past = past }) position streets
unfolding luck_through
same_luck key game number position past deal other zero last within same = refl
same_luck key game number position past deal other (suc street) last within same =
    let behind = same_deals key number game.players deal other (suc street) (same (suc street) within) in
    let before = same_deals key number game.players deal other street (same street (omega arith)) in
    let before_it = same_luck key game number position past deal other street last (omega arith) same in
    let hand : Hand = record { deal = other; past = past } in
    ap (λ (z : ℤ). z +ℤ street_luck key game number (record { deal = deal; past = past }) position street) before_it
    ∙ ap (λ (deals : List (List ℕ)). luck_through key game number hand position street +ℤ (mean_at game hand (suc street) position deals -ℤ mean_at game hand (suc street) position (deals_at key number game.players deal street))) behind
    ∙ ap (λ (deals : List (List ℕ)). luck_through key game number hand position street +ℤ (mean_at game hand (suc street) position (deals_at key number game.players other (suc street)) -ℤ mean_at game hand (suc street) position deals)) before
