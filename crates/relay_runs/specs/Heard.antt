-- What came over the connections of a relay, cut into lines: of a node each dealer's line is told to the relay's machine, and of the bot what it says, or what is said for it.
use Rattle.std.specs.Prelude.{◌≡◌, ◌⊎◌, ℕ, ◌+◌, ◌≤◌, ◌<◌, ◌==◌, ◌||◌, Bool, true, false, List, [], ◌∷◌, ◌++◌, length, codes, Option, Some}
use Rattle.std.specs.Char.{is_ascii_digit}
use Rattle.std.specs.List.{list_all}
use Rattle.game_def.specs.Game.{Game}
use Rattle.matchstate.specs.Free.{IsFreeOf}
use Rattle.node_wires.specs.declared.line.Line.TheVariants.{Seat, Peer}
use Rattle.node_wires.specs.Passages.{Passage, came_over}
use Rattle.seat_relay.specs.Places.{IsPlaced}
use Rattle.seat_relay.specs.Mending.{IsMendedAnswer}
use Rattle.seat_relay.specs.Relaying.{Line, Event, Begins, Ends, Tells, Closes, Says, Pushes}
use Rattle.seat_relay.specs.Laws.{Word, Shows, Over, words_over}
use Rattle.relay_runs.specs.declared.desk.Desk.{Desk}
use Rattle.relay_runs.specs.Said.{waits_at}

-- ---- as bytes

-- lines, each with a line feed behind it
abbrev pub with_feeds : List (List ℕ) → List ℕ
with_feeds [] = []
with_feeds (raw ∷ more) = raw ++ 10 ∷ with_feeds more

-- the text of what stood before a line feed: without the carriage return at its end, where there is one
abbrev pub IsTextOf : List ℕ → List ℕ → Type 0
IsTextOf raw text = (raw ≡ text ++ 13 ∷ []) ⊎ ((raw ≡ text) × ((front : List ℕ) → ¬ (raw ≡ front ++ 13 ∷ [])))

-- a comment, which nobody is to answer: it begins with # or ;
abbrev pub is_comment : List ℕ → Bool
is_comment [] = false
is_comment (byte ∷ rest) = (byte == 35) || (byte == 59)

-- ---- of a node

-- it is this dealer's line, of at most 4096 bytes
pub record IsLineOf (raw : List ℕ) (line : Line) : Type 0 where
  pub text : IsTextOf raw line.text
  pub short : length line.text ≤ 4096
  pub placed : IsPlaced line.text line.place

-- by this a node says that the match is over
abbrev pub IsOverText : List ℕ → Type 0
IsOverText text = text ≡ codes "#OVER"

-- by this a node says that it has no quorum: it seats nobody until it has one, and is to be dialled again
abbrev pub IsNoQuorumText : List ℕ → Type 0
IsNoQuorumText text = text ≡ codes "#WAIT"

-- what a node tells by what stood before a line feed: a dealer's line, that the match is over, or nothing
pub data Adds (raw : List ℕ) : List Word → Type 0 where
  shows : (line : Line) → IsLineOf raw line → Adds raw (Shows line ∷ [])
  closes : (text : List ℕ) → IsTextOf raw text → IsOverText text → Adds raw (Over ∷ [])
  nothing : (text : List ℕ) → IsTextOf raw text → ((line : Line) → ¬ IsLineOf raw line) → ¬ IsOverText text → Adds raw []

-- of each of these in order that is told, and nothing else
abbrev pub AreHeard : List (List ℕ) → List Word → Type 0
AreHeard [] told = told ≡ []
AreHeard (raw ∷ more) told = (own : List Word) × (rest : List Word) × (told ≡ own ++ rest) × IsFreeOf 10 raw × Adds raw own × AreHeard more rest

-- what came is whole lines and then what waits, at most a beginning and a piece; and of the whole lines this is told
pub record IsHeardOf (came waiting : List ℕ) (told : List Word) : Type 0 where
  pub raws : List (List ℕ)
  pub whole : came ≡ with_feeds raws ++ waiting
  pub heard : AreHeard raws told
  pub few : length waiting ≤ 4097 + 512

-- ---- of the bot

-- answers are mended by this game, the text is an answer to some line, and this is what it is mended to
pub record IsMendedBy (mended : Option Game) (text said : List ℕ) : Type 0 where
  pub game : Game
  pub by_it : mended ≡ Some game
  pub line : List ℕ
  pub field : List ℕ
  pub answer : text ≡ line ++ 58 ∷ field
  pub instead : IsMendedAnswer game line field said

-- what is said for the bot: the text of what came, or where answers are mended what that is mended to
pub record IsSaidFor (mended : Option Game) (raw said : List ℕ) : Type 0 where
  pub text : List ℕ
  pub is_text : IsTextOf raw text
  pub meant : (said ≡ text) ⊎ IsMendedBy mended text said

-- a whole line that nobody is to hear: a comment, or one that is too long
pub record IsPassedOver (raw : List ℕ) : Type 0 where
  pub text : List ℕ
  pub is_text : IsTextOf raw text
  pub reason : (is_comment text ≡ true) ⊎ (4096 < length text)

-- version 2.0 of the protocol, and a revision of 1 to 9 digits
pub record IsVersion (text : List ℕ) : Type 0 where
  pub revision : List ℕ
  pub whole : text ≡ codes "VERSION:2.0." ++ revision
  pub some : 0 < length revision
  pub few : length revision ≤ 9
  pub digits : list_all is_ascii_digit revision ≡ true

-- what a whole line of the bot adds to what is said: before it has its seat, nothing; the line is passed over, or names the version, by which it gets the seat. Then a line is passed over, or what is said for it is said
pub data AddsSaid (mended : Option Game) (raw : List ℕ) : Bool → Bool → List (List ℕ) → Type 0 where
  passed : (seated : Bool) → IsPassedOver raw → AddsSaid mended raw seated seated []
  greets : (text : List ℕ) → IsTextOf raw text → IsVersion text → AddsSaid mended raw false true []
  says : (one : List ℕ) → ¬ IsPassedOver raw → IsSaidFor mended raw one → AddsSaid mended raw true true (one ∷ [])

-- and what these lines in order add, to a bot that had its seat or hadn't, and has it now or hasn't
abbrev pub AreSaid : Option Game → Bool → List (List ℕ) → Bool → List (List ℕ) → Type 0
AreSaid mended old [] new said = (new ≡ old) × (said ≡ [])
AreSaid mended old (raw ∷ more) new said =
    (own : List (List ℕ)) × (rest : List (List ℕ)) × (middle : Bool) × (said ≡ own ++ rest) × IsFreeOf 10 raw × AddsSaid mended raw old middle own × AreSaid mended middle more new rest

-- what came is whole lines, then where a line is too long what was passed over of it, and then what waits: at most a beginning and a piece
pub record IsSaidOf (mended : Option Game) (came waiting : List ℕ) (passes_over is_seated : Bool) (said : List (List ℕ)) : Type 0 where
  pub raws : List (List ℕ)
  pub passed_over : List ℕ
  pub whole : came ≡ with_feeds raws ++ (passed_over ++ waiting)
  pub free : IsFreeOf 10 passed_over
  pub none : passes_over ≡ false → passed_over ≡ []
  pub long : passes_over ≡ true → 4097 < length passed_over
  pub texts : AreSaid mended false raws is_seated said
  pub few : length waiting ≤ 4097 + 512

-- what the bot says, text by text
abbrev pub sayings_in : List Event → List (List ℕ)
sayings_in [] = []
sayings_in (Begins other ∷ more) = sayings_in more
sayings_in (Ends other ∷ more) = sayings_in more
sayings_in (Tells other line ∷ more) = sayings_in more
sayings_in (Closes other ∷ more) = sayings_in more
sayings_in (Says text ∷ more) = text ∷ sayings_in more
sayings_in (Pushes other ∷ more) = sayings_in more

-- ---- together

-- the machine was told what came: by each node the dealer's lines that came over its connection, and that the match is over; and by the bot's own what it says
pub record IsHeard (desk : Desk) (passed : List Passage) : Type 0 where
  pub nodes : (node : ℕ) → IsHeardOf (came_over passed (Peer node)) (waits_at desk.from_nodes.items node) (words_over node desk.relay.events)
  pub bot : IsSaidOf desk.mended (came_over passed (Seat 0)) desk.from_bot.waiting desk.passes_over desk.is_seated (sayings_in desk.relay.events)
