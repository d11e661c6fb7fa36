-- What a relay does at each event. It has a connection to each node at once.
use Rattle.std.specs.Prelude.{ℕ, ◌==◌, Bool, true, false, ◌&&◌, ◌||◌, not, if◌then◌else◌, List, [], ◌∷◌, ◌++◌, length, take, drop, map, slice_index_or, slice_set, Option, Some, None, option_to_list}
use Rattle.std.specs.Str.{bytes_eq}
use Rattle.seat_relay.specs.declared.place.Place.{Place}
use Rattle.seat_relay.specs.declared.link.Link.{Link}
use Rattle.seat_relay.specs.declared.mode.Mode.{Mode}
use Rattle.seat_relay.specs.declared.link.Link.TheVariants.{Apart, Begun, Behind, Even, Said}
use Rattle.seat_relay.specs.Places.{is_later, is_first, is_same}

-- a dealer's line and where it stands
pub record Line : Type 0 where
  pub text : List ℕ
  pub place : Place

abbrev pub with_place : List ℕ → Place → Line
with_place text place = record { text = text; place = place }

-- what a relay knows: how it is to serve its bot; the line that the bot was given last; the bot's answer to that line;
-- how the connection to each node stands; and whether a node that had told that line said that the match is over
pub record Standing : Type 0 where
  pub mode : Mode
  pub last : Option Line
  pub kept : Option (List ℕ)
  pub links : List Link
  pub over : Bool

-- what may happen, line by line: a connection to a node begins, or ends; the node tells a line, or that the match is over; the bot says something; and the bot's answer is to be said to a node
pub data Event : Type 0 where
  Begins : (node : ℕ) → Event
  Ends : (node : ℕ) → Event
  Tells : (node : ℕ) (line : Line) → Event
  Closes : (node : ℕ) → Event
  Says : (text : List ℕ) → Event
  Pushes : (node : ℕ) → Event

-- ---- connections

abbrev pub link_at : List Link → ℕ → Link
link_at links node = slice_index_or links node Apart

-- ---- lines

-- a line is news where none was given yet, or it stands behind the last one
abbrev pub is_news : Option Line → Line → Bool
is_news None line = true
is_news (Some last) line = is_later last.place line.place

-- the node tells again the line that the bot was given last: it has come to where the bot is
abbrev pub is_again : Option Line → Line → Bool
is_again None line = false
is_again (Some last) line = bytes_eq last.text line.text && is_same last.place line.place

-- a connection may begin with a line at this place: the bot was given one there or behind; or it was given none, and this is the first place of the match, or the bot's lines may begin anywhere
abbrev pub may_begin : Bool → Option Line → Place → Bool
may_begin newest None place = newest || is_first place
may_begin newest (Some last) place = not (is_later last.place place)

-- a line there is taken over a connection: any behind the first, and the first where the connection may begin with it
abbrev pub is_taken : Bool → Option Line → Link → Place → Bool
is_taken newest last Apart place = false
is_taken newest last Begun place = may_begin newest last place
is_taken newest last Behind place = true
is_taken newest last Even place = true
is_taken newest last Said place = true

-- the bot is given a line that is taken and news
abbrev pub is_given : Standing → ℕ → Line → Bool
is_given s node line = is_taken s.mode.newest s.last (link_at s.links node) line.place && is_news s.last line

-- ---- answers

abbrev pub begins_with_colon : List ℕ → Bool
begins_with_colon [] = false
begins_with_colon (byte ∷ rest) = byte == 58

-- the text is this line, a colon, and something: an answer to it
abbrev pub is_echo : List ℕ → List ℕ → Bool
is_echo line text = bytes_eq (take (length line) text) line && begins_with_colon (drop (length line) text)

abbrev pub echoes : Option Line → List ℕ → Bool
echoes None text = false
echoes (Some last) text = is_echo last.text text

-- how a connection stands once there is a further line that it hasn't told; once it has told it; and once there is another answer
abbrev pub fallen : Link → Link
fallen Apart = Apart
fallen Begun = Begun
fallen Behind = Behind
fallen Even = Behind
fallen Said = Behind

abbrev pub risen : Link → Link
risen Apart = Apart
risen Begun = Even
risen Behind = Even
risen Even = Even
risen Said = Said

abbrev pub unsaid : Link → Link
unsaid Apart = Apart
unsaid Begun = Begun
unsaid Behind = Behind
unsaid Even = Even
unsaid Said = Even

-- and once it has told an earlier line
abbrev pub heard : Link → Link
heard Apart = Apart
heard Begun = Behind
heard Behind = Behind
heard Even = Even
heard Said = Said

abbrev pub is_even : Link → Bool
is_even Apart = false
is_even Begun = false
is_even Behind = false
is_even Even = true
is_even Said = false

-- the line that the bot was given last was told over it
abbrev pub has_told : Link → Bool
has_told Apart = false
has_told Begun = false
has_told Behind = false
has_told Even = true
has_told Said = true

-- the bot was given this line of a node
abbrev pub with_news : Standing → ℕ → Line → Standing
with_news s node line = record { mode = s.mode; last = Some line; kept = None; links = slice_set (map fallen s.links) node Even; over = false }

-- the bot answered to the line that it was given last
abbrev pub with_answer : Standing → List ℕ → Standing
with_answer s text = record { mode = s.mode; last = s.last; kept = Some text; links = map unsaid s.links; over = s.over }

-- an answer stands if it is the first one to its line, and the first one is to stand
abbrev pub stands : Bool → Option (List ℕ) → Bool
stands first_stands None = false
stands first_stands (Some answer) = first_stands

-- a text is kept that answers the line that the bot was given last, unless an answer to it stands
abbrev pub is_kept : Standing → List ℕ → Bool
is_kept s text = echoes s.last text && not (stands s.mode.first_stands s.kept)

-- a connection to a node stands so
abbrev pub with_link : Standing → ℕ → Link → Standing
with_link s node link = record { mode = s.mode; last = s.last; kept = s.kept; links = slice_set s.links node link; over = s.over }

-- the node told a line that was given before: it has come to where the bot is, or not yet
abbrev pub with_old : Standing → ℕ → Line → Standing
with_old s node line = with_link s node (if is_again s.last line then risen (link_at s.links node) else heard (link_at s.links node))

-- the match is over
abbrev pub with_over : Standing → Standing
with_over s = record { mode = s.mode; last = s.last; kept = s.kept; links = s.links; over = true }

unfoldable pub happens : Standing → Event → Standing
happens s (Begins node) = with_link s node Begun
happens s (Ends node) = with_link s node Apart
happens s (Tells node line) =
    if is_taken s.mode.newest s.last (link_at s.links node) line.place then (if is_news s.last line then with_news s node line else with_old s node line) else s
happens s (Closes node) = if has_told (link_at s.links node) then with_over s else s
happens s (Says text) = if is_kept s text then with_answer s text else s
happens s (Pushes node) = if is_even (link_at s.links node) then with_link s node Said else s

-- the answer that is said to the node: only where its connection has told the last line, and wasn't told the answer
unfoldable pub answered : Standing → Event → List (List ℕ)
answered s (Begins node) = []
answered s (Ends node) = []
answered s (Tells node line) = []
answered s (Closes node) = []
answered s (Says text) = []
answered s (Pushes node) = if is_even (link_at s.links node) then option_to_list s.kept else []

-- the line that the bot is given
abbrev pub given : Standing → Event → List Line
given s (Begins node) = []
given s (Ends node) = []
given s (Tells node line) = if is_given s node line then line ∷ [] else []
given s (Closes node) = []
given s (Says text) = []
given s (Pushes node) = []

-- ---- over many events, the first of which stands first

unfoldable pub all_given : Standing → List Event → List Line
all_given s [] = []
all_given s (e ∷ more) = given s e ++ all_given (happens s e) more

-- what a relay knows behind events
unfoldable pub after : Standing → List Event → Standing
after s [] = s
after s (e ∷ more) = after (happens s e) more

-- what a relay knows, and what happened to it since it had this many nodes and knew nothing
pub record Story : Type 0 where
  pub nodes : ℕ
  pub mode : Mode
  pub standing : Standing
  pub events : List Event

-- one event more
abbrev pub with_event : Story → Event → Story
with_event s e = record { nodes = s.nodes; mode = s.mode; standing = happens s.standing e; events = s.events ++ e ∷ [] }
