-- No right script line is longer than 335 bytes.
use Rattle.std.proofs.Common.{◌≡◌, ℕ, zero, suc, ◌+◌, ◌-◌, ◌*◌, ◌≤◌, List, [], ◌∷◌, ◌++◌, length, take, drop, ◌∙◌, ap, subst, arith, inl, inr}
use Rattle.std.specs.Prelude.{Option, Some, None, map, codes, decimal}
use Rattle.std.specs.List.{AllByRecursion, flat_map, range_with_len}
use Rattle.std.proofs.lemmas.Bool.{cases_lt}
use Rattle.std.proofs.lemmas.Fmt.{length-decimal-le}
use Rattle.std.proofs.lemmas.List.{length-append, length-take, length-drop, take_all, length-take-le}
use Rattle.game_def.specs.Game.{Game}
use Rattle.card_core.specs.Deal.{IsDeal, hole_of, board_of}
use Rattle.betting.specs.declared.action.Action.{Action}
use Rattle.betting.specs.declared.action.Action.TheVariants.{Fold, Call, Raise}
use Rattle.betting.specs.Turns.{Turn}
use Rattle.betting.specs.Rounds.{turns}
use Rattle.slot_log.specs.Hand.{Hand}
use Rattle.slot_log.specs.declared.command.Command.{Command}
use Rattle.slot_log.specs.declared.command.Command.TheVariants.{Deal, Act, Away}
use Rattle.matchstate.specs.Cards.{cards_text, boards_of, deal_text}
use Rattle.matchstate.specs.ActionText.{IsActionText, IsRaiseText}
use Rattle.match_log.specs.Names.{IsName}
use Rattle.match_log.specs.Lines.{names_field}
use Rattle.streamed.specs.Names.{IsNamesLine}
use Rattle.streamed.specs.Answer.{Tells, Says}
use Rattle.streamed.specs.declared.script_line.ScriptLine.{ScriptLine}
use Rattle.streamed.specs.declared.script_line.ScriptLine.TheVariants.{Names, Told, Bad}
use Rattle.matchstate.proofs.CardTexts.{length_cards_text}

-- names with | between them have 33 bytes each, and one less
names_length : (name : List ℕ) (others : List (List ℕ)) → AllByRecursion IsName (name ∷ others) → length (names_field (name ∷ others)) + 1 ≤ 33 * length (name ∷ others)
names_length name [] valid = let most : length name ≤ 32 = valid.0.most in omega (arith, length-append name [])
names_length name (next ∷ more) valid =
    let most : length name ≤ 32 = valid.0.most in
    let rest : length (names_field (next ∷ more)) + 1 ≤ 33 * length (next ∷ more) = names_length next more valid.1 in
    omega (arith, length-append name (124 ∷ names_field (next ∷ more)))

line_length : (players : ℕ) (names : List (List ℕ)) (line : List ℕ) → players ≤ 10 → IsNamesLine players names line → length line ≤ 335
line_length players [] line most right = omega (arith, ap length right.form)
line_length players (name ∷ others) line most right =
    let each : length (name ∷ others) ≡ players = right.are_names.one_each in
    let long : length line ≡ 6 + length (names_field (name ∷ others)) = ap length right.form ∙ length-append (codes "names ") (names_field (name ∷ others)) in
    let bound = names_length name others right.are_names.each_name in
    omega arith

holes_length : (deal : List ℕ) (first count : ℕ) → length (flat_map (λ y. (124 ∷ []) ++ cards_text y) (map (hole_of deal) (range_with_len first count))) ≤ 5 * count
holes_length deal first zero = omega arith
holes_length deal first (suc count) =
    let hole : List ℕ = hole_of deal first in
    let rest : List ℕ = flat_map (λ y. (124 ∷ []) ++ cards_text y) (map (hole_of deal) (range_with_len (first + 1) count)) in
    let two : length hole ≤ 2 = omega (arith, length-take 2 (drop (2 * first) deal)) in
    let after : length rest ≤ 5 * count = holes_length deal (first + 1) count in
    omega (arith, length-append (124 ∷ cards_text hole) rest, length_cards_text hole)

-- the flop, the turn and the river have 13
boards_length : (deal : List ℕ) → 5 ≤ length deal → length (flat_map (λ cards. 47 ∷ cards_text cards) (boards_of deal)) ≤ 13
boards_length deal least =
    let board : List ℕ = board_of deal in
    let flop : List ℕ = take 3 board in
    let turn : List ℕ = take 1 (drop 3 board) in
    let river : List ℕ = drop 4 board in
    let five : length board ≡ 5 = omega (arith, length-drop (length deal - 5) deal) in
    let three : length flop ≤ 3 = omega (arith, length-take 3 board) in
    let one : length turn ≤ 1 = omega (arith, length-take 1 (drop 3 board)) in
    let last : length river ≤ 1 = omega (arith, length-drop 4 board) in
    let whole : List ℕ = 47 ∷ cards_text river ++ [] in
    omega (
      arith,
      length-append (47 ∷ cards_text flop) ((47 ∷ cards_text turn) ++ whole),
      length-append (47 ∷ cards_text turn) whole,
      length-append (47 ∷ cards_text river) [],
      length_cards_text flop,
      length_cards_text turn,
      length_cards_text river,
    )

-- ten players' cards have 63 bytes
deal_length : (players : ℕ) (deal : List ℕ) → players ≤ 10 → IsDeal players deal → length (deal_text players deal) ≤ 63
deal_length zero deal most dealt = let board = boards_length deal (omega (arith, dealt.count)) in omega (arith, board)
deal_length (suc others) deal most dealt =
    let hole : List ℕ = hole_of deal 0 in
    let rest : List ℕ = flat_map (λ y. (124 ∷ []) ++ cards_text y) (map (hole_of deal) (range_with_len 1 others)) in
    let boards : List ℕ = flat_map (λ cards. 47 ∷ cards_text cards) (boards_of deal) in
    let two : length hole ≤ 2 = omega (arith, length-take 2 (drop 0 deal)) in
    let after : length rest ≤ 5 * others = holes_length deal 1 others in
    let board : length boards ≤ 13 = boards_length deal (omega (arith, dealt.count)) in
    omega (arith, length-append (cards_text hole ++ rest) boards, length-append (cards_text hole) rest, length_cards_text hole)

raise_length : (sizes : Option (List ℕ)) (game : Game) (past : List Turn) (text : List ℕ) (amount : ℕ) → IsRaiseText sizes game past text amount → length text ≤ 11
raise_length None game past text amount right =
    let digits : length (decimal amount) ≤ 10 = length-decimal-le 10 amount (omega arith) (omega (arith, right.1)) (omega (arith, right.1)) in
    omega (arith, ap length right.0, length-append (codes "r") (decimal amount))
raise_length (Some sizes) game past text amount right = omega (arith, ap length right.0)

action_length : (game : Game) (past : List Turn) (text : List ℕ) (action : Action) → IsActionText game past text action → length text ≤ 11
action_length game past text Fold right = omega (arith, ap length right)
action_length game past text Call right = omega (arith, ap length right)
action_length game past text (Raise amount) right = raise_length game.raise_sizes game past text amount right

told_length : (game : Game) (hands : List Hand) (text : List ℕ) (command : Command) → game.players ≤ 10 → Tells game hands text command → length text ≤ 335
told_length game hands text (Deal hand deal) most told =
    omega (arith, ap length told.2, length-append (codes "deal ") (deal_text game.players deal), deal_length game.players deal most told.1)
told_length game [] text (Act hand index action) most told = absurd told
told_length game (newest ∷ earlier) text (Act hand index action) most told = omega (arith, action_length game (turns game newest.past) text action told.2)
told_length game [] text (Away hand index) most told = absurd told
told_length game (newest ∷ earlier) text (Away hand index) most told = omega (arith, ap length told.2)

-- what the front of a long line says is what the line says: it is bad
long_line : (game : Game) (names : Option (List (List ℕ))) (hands : List Hand) (front line : List ℕ) (said : ScriptLine) → game.players ≤ 10 → 336 ≤ length front → 336 ≤ length line → Says game names hands front said → Says game names hands line said
long_line game None hands front line (Names told) most long longer says = absurd (omega (arith, line_length game.players told front most says))
long_line game None hands front line (Told command) most long longer says = absurd says
long_line game None hands front line Bad most long longer says = λ told right. omega (arith, line_length game.players told line most right)
long_line game (Some names) hands front line (Names told) most long longer says = absurd says
long_line game (Some names) hands front line (Told command) most long longer says = absurd (omega (arith, told_length game hands front command most says))
long_line game (Some names) hands front line Bad most long longer says = λ command told. omega (arith, told_length game hands line command most told)

-- what a line says, by its first 336 bytes
pub says_whole : (game : Game) (names : Option (List (List ℕ))) (hands : List Hand) (front line : List ℕ) (said : ScriptLine) → game.players ≤ 10 → front ≡ take 336 line → Says game names hands front said → Says game names hands line said
says_whole game names hands front line said most is_front says =
    elim (cases_lt 336 (length line)) [
      | inl long ↦ let whole : length front ≡ 336 = ap length is_front ∙ length-take-le 336 line (omega arith) in
          long_line game names hands front line said most (omega arith) (omega arith) says
      | inr short ↦ let of_line : List ℕ → Type 0 = λ l. Says game names hands l said in
          subst of_line (is_front ∙ take_all 336 line short) says
    ]
