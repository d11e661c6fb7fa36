use Rattle.std.proofs.Common.{arith}
use Rattle.luck.proofs.Lined.{words_of}
use Rattle.luck.proofs.reading.read_title.Goals as goal

pub returns-in_err-words : goal.returns-in_err-words
returns-in_err-words c = λ title rest has. absurd (c.in_err-words.ensures _ (words_of title c.args.log.now rest has).whole)

pub returns-in_err-_name : goal.returns-in_err-_name
returns-in_err-_name c = λ title rest has.
    let words = words_of title c.args.log.now rest has in
    absurd (c.in_err-_name.ensures.only _ _ words.name_ends (c.in_ok-words.ensures _ words.whole))

pub returns-in_err-_game : goal.returns-in_err-_game
returns-in_err-_game c = λ title rest has.
    let words = words_of title c.args.log.now rest has in
    let first = c.in_ok-_name.ensures.only _ _ words.name_ends (c.in_ok-words.ensures _ words.whole) in
    absurd (c.in_err-_game.ensures.only _ _ words.game_ends first.1)

pub returns-in_err-hands : goal.returns-in_err-hands
returns-in_err-hands c = λ title rest has.
    let words = words_of title c.args.log.now rest has in
    let first = c.in_ok-_name.ensures.only _ _ words.name_ends (c.in_ok-words.ensures _ words.whole) in
    let second = c.in_ok-_game.ensures.only _ _ words.game_ends first.1 in
    absurd (c.in_err-hands.ensures.only _ _ words.hands_end second.1)

pub returns-in_err-read_number : goal.returns-in_err-read_number
returns-in_err-read_number c = λ title rest has.
    let words = words_of title c.args.log.now rest has in
    let first = c.in_ok-_name.ensures.only _ _ words.name_ends (c.in_ok-words.ensures _ words.whole) in
    let second = c.in_ok-_game.ensures.only _ _ words.game_ends first.1 in
    let third = c.in_ok-hands.ensures.only _ _ words.hands_end second.1 in
    let none = c.in_err-read_number.ensures.only title.hands (omega (arith, has.is_title.most)) third.0 in
    cc

pub returns : goal.returns
returns c = λ title rest has.
    let words = words_of title c.args.log.now rest has in
    let first = c.in_ok-_name.ensures.only _ _ words.name_ends (c.in_ok-words.ensures _ words.whole) in
    let second = c.in_ok-_game.ensures.only _ _ words.game_ends first.1 in
    let third = c.in_ok-hands.ensures.only _ _ words.hands_end second.1 in
    let read = c.in_ok-read_number.ensures.only title.hands (omega (arith, has.is_title.most)) third.0 in
    (cc, third.1)
