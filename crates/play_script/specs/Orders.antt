-- What a line of a script says.
use Rattle.std.specs.Prelude.{◌≡◌, ℕ, ◌<◌, ◌≤◌, ◌^◌, true, List, ◌∷◌, ◌++◌, length, codes}
use Rattle.std.specs.Str.{all_ascii_digits}
use Rattle.std.specs.Str.Parse.{digits_value}
use Rattle.play_script.specs.declared.bounds.Bounds.{Bounds}
use Rattle.play_script.specs.declared.word.Word.{Word}
use Rattle.play_script.specs.declared.word.Word.TheVariants as word
use Rattle.play_script.specs.declared.order.Order.{Order}
use Rattle.play_script.specs.declared.order.Order.TheVariants.{Tick, Away, Deliver, Flush, Connect, Drop, Line, Stop, Start}

-- a word as it stands in a script
abbrev pub word_text : Word → List ℕ
word_text word.Tick = codes "tick"
word_text word.Away = codes "away"
word_text word.Deliver = codes "deliver"
word_text word.Flush = codes "flush"
word_text word.Connect = codes "connect"
word_text word.Drop = codes "drop"
word_text word.Line = codes "line"
word_text word.Stop = codes "stop"
word_text word.Start = codes "start"

-- the word of what a line says
abbrev pub word_of : Order → Word
word_of (Tick node) = word.Tick
word_of (Away node) = word.Away
word_of (Deliver frame) = word.Deliver
word_of (Flush most) = word.Flush
word_of (Connect node seat) = word.Connect
word_of (Drop node seat) = word.Drop
word_of (Line node seat text) = word.Line
word_of (Stop node pick) = word.Stop
word_of (Start node) = word.Start

-- decimal digits, zeros in front being allowed, of a number below 2 ^ 64
pub record IsNumber (text : List ℕ) (number : ℕ) : Type 0 where
  pub digits : all_ascii_digits text ≡ true
  pub some : 1 ≤ length text
  pub value : digits_value 10 text ≡ number
  pub fits : number < 2 ^ 64

-- the number of one of so many things
abbrev pub Names : ℕ → List ℕ → ℕ → Type 0
Names count text number = IsNumber text number × (number < count)

-- two texts with a space between them, of which each says a number
abbrev pub SaysTwo : (List ℕ → ℕ → Type 0) → (List ℕ → ℕ → Type 0) → List ℕ → ℕ → ℕ → Type 0
SaysTwo First Second text first second = (front : List ℕ) × (behind : List ℕ) × (text ≡ front ++ 32 ∷ behind) × First front first × Second behind second

-- a node and a seat of the table, with a space between their numbers
abbrev pub NamesSeat : Bounds → List ℕ → ℕ → ℕ → Type 0
NamesSeat bounds text node seat = SaysTwo (Names bounds.nodes) (Names bounds.seats) text node seat

-- a node and a seat, a space, and any text
abbrev pub AddressesSeat : Bounds → List ℕ → ℕ → ℕ → List ℕ → Type 0
AddressesSeat bounds text node seat line =
    (front : List ℕ) × (middle : List ℕ) × (text ≡ front ++ 32 ∷ (middle ++ 32 ∷ line)) × Names bounds.nodes front node × Names bounds.seats middle seat

-- what stands behind the word
abbrev pub SaysBehind : Bounds → List ℕ → Order → Type 0
SaysBehind bounds text (Tick node) = Names bounds.nodes text node
SaysBehind bounds text (Away node) = Names bounds.nodes text node
SaysBehind bounds text (Deliver frame) = Names bounds.frames text frame
SaysBehind bounds text (Flush most) = IsNumber text most
SaysBehind bounds text (Connect node seat) = NamesSeat bounds text node seat
SaysBehind bounds text (Drop node seat) = NamesSeat bounds text node seat
SaysBehind bounds text (Line node seat line) = AddressesSeat bounds text node seat line.now
SaysBehind bounds text (Stop node pick) = SaysTwo (Names bounds.nodes) IsNumber text node pick
SaysBehind bounds text (Start node) = Names bounds.nodes text node

-- what a line says: the word, a space, and what belongs to it
abbrev pub Says : Bounds → List ℕ → Order → Type 0
Says bounds line order = (behind : List ℕ) × (line ≡ word_text (word_of order) ++ 32 ∷ behind) × SaysBehind bounds behind order
