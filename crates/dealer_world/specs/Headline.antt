-- One list of decks and acts behind all that was ever shown.
use Rattle.std.specs.Prelude.{◌≡◌, ℕ, ◌<◌, ◌⊎◌, Bool, true, false, Some, List, [], ◌∷◌, ◌++◌, length, take, reverse}
use Rattle.slot_log.specs.declared.command.Command.{Command}
use Rattle.slot_log.specs.declared.command.Command.TheVariants.{Deal, Act, Away}
use Rattle.protocol_model.specs.Sets.{In, IsBeginning}
use Rattle.protocol_model.specs.Messages.{Message}
use Rattle.protocol_model.specs.Quorums.{IsChosen, AreChosen}
use Rattle.protocol_model.specs.Dealers.{Dealer, AllFit, HasLine, Reader, Seat, Log}
use Rattle.protocol_model.specs.Moves.{Shown}
use Rattle.protocol_model.specs.Laws.{IsOfBeginning, NeverGoesBack, IsOwned}
use Rattle.dealer_kind.specs.Kind.{Setting, dealer_of}
use Rattle.dealer_kind.specs.Owning.{either}
use Rattle.dealer_kind.specs.Sources.{owns}
use Rattle.dealer_kind.specs.declared.source.Source.{Source}
use Rattle.dealer_world.specs.Records.{Record, Arrival, Ordered, Piece, Line, Written, log_in, lines_of, logs_of, said}
use Rattle.dealer_world.specs.Hearing.{WasHeard}

-- the time from one `new` or `open` of a cluster to the next: where each node's deals came from, and the record
pub record Era : Type 0 where
  pub sources : List Source
  pub record_of : Record

-- a match has one era after another; the newest is the first
abbrev pub said_in : List Era → List Message
said_in [] = []
said_in (era ∷ before) = said_in before ++ said era.record_of.sent

-- the command is a node's own deal, in one of the eras
abbrev pub owned_in : ℕ → List Era → ℕ → Command → Bool
owned_in players [] = λ node command. false
owned_in players (era ∷ before) = either (owns players era.sources) (owned_in players before)

-- the sequential dealer of the match
abbrev pub dealer_in : Setting → List Era → Dealer
dealer_in setting eras = dealer_of setting (owned_in setting.game.players eras)

-- what a piece tells its reader, behind these, newest first: a line as it is, and of the log all that was added to it up to here
abbrev pub text_by : Reader → List Piece → Piece → List ℕ
text_by (Seat seat) before piece = piece.text
text_by Log before piece = log_in before piece.node piece.start ++ piece.text

-- the text was shown by the piece, behind those before it
pub record IsText (before : List Piece) (piece : Piece) (text : Shown) : Type 0 where
  pub node : text.node ≡ piece.node
  pub start : text.start ≡ piece.start
  pub reader : text.reader ≡ piece.reader
  pub whole : text.text ≡ text_by piece.reader before piece

-- the texts, newest first, are those of the pieces, newest first
abbrev pub AreTexts : List Shown → List Piece → Type 0
AreTexts [] [] = Unit {0}
AreTexts [] (piece ∷ before) = ⊥
AreTexts (text ∷ texts) [] = ⊥
AreTexts (text ∷ texts) (piece ∷ before) = IsText before piece text × AreTexts texts before

-- the line is its seat's after a beginning of the commands
abbrev pub IsLineOf : Dealer → List Command → Line → Type 0
IsLineOf dealer commands line = (first : List Command) × IsBeginning first commands × (dealer.line first line.seat ≡ Some line.text)

-- the log is that of a beginning of the commands
abbrev pub IsLogOf : Dealer → List Command → Written → Type 0
IsLogOf dealer commands written = (first : List Command) × IsBeginning first commands × (dealer.log first ≡ written.text)

-- all lines and logs of the record are those of beginnings of the commands, and within one node and start these beginnings never get shorter
pub record IsOfOneList (dealer : Dealer) (commands : List Command) (all : Record) : Type 0 where
  pub lines : (line : Line) → In line (lines_of all.shown) → IsLineOf dealer commands line
  pub logs : (written : Written) → In written (logs_of all) → IsLogOf dealer commands written
  -- what was shown, newest first, a log each time as a whole; each text with the count of commands that it shows the effect of
  pub texts : List Shown
  pub are_texts : AreTexts texts (reverse all.shown)
  pub of_beginnings : (text : Shown) → In text texts → IsOfBeginning dealer commands text
  pub forward : NeverGoesBack texts

-- it is so of each era
abbrev pub InEach : (Era → Type 0) → List Era → Type 0
InEach IsSo [] = Unit {0}
InEach IsSo (era ∷ before) = IsSo era × InEach IsSo before

-- and of one of them
abbrev pub InSome : (Era → Type 0) → List Era → Type 0
InSome IsSo [] = ⊥
InSome IsSo (era ∷ before) = IsSo era ⊎ InSome IsSo before

-- the act was said: among the bytes of a seat since it connected to a node stands a whole line that says it, after commands that were chosen
pub record WasSaid (dealer : Dealer) (n : ℕ) (eras : List Era) (command : Command) : Type 0 where
  pub node : ℕ
  pub is_node : node < n
  pub seat : ℕ
  pub bytes : List ℕ
  pub heard : InSome (λ era. WasHeard era.record_of.delivered node seat bytes) eras
  pub line : List ℕ
  pub holds : HasLine bytes line
  pub before : List Command
  pub chosen : AreChosen n (said_in eras) before
  pub says : dealer.says before seat line command ≡ true

-- in this era, behind those before it, it was ordered: an order came to a node of the match, and after commands, as many as lay below its front, which were
-- chosen by what the frames said that had been sent before it came, such an order means the command
pub record WasOrderedIn (dealer : Dealer) (n : ℕ) (era : Era) (before : List Era) (command : Command) : Type 0 where
  pub node : ℕ
  pub is_node : node < n
  pub arrival : Arrival
  pub came : In arrival era.record_of.delivered
  pub known : List Command
  pub order : arrival.what ≡ Ordered node (length known)
  pub chosen : AreChosen n (said_in before ++ said (take arrival.sent_before era.record_of.sent)) known
  pub orders : dealer.orders known command ≡ true

-- the command was ordered in one of the eras
abbrev pub WasOrdered : Dealer → ℕ → List Era → Command → Type 0
WasOrdered dealer n [] command = ⊥
WasOrdered dealer n (era ∷ before) command = WasOrderedIn dealer n era before command ⊎ WasOrdered dealer n before command

-- a deal is some node's own, an act was said, and it was ordered that a player who is away is played for
abbrev pub HasOrigin : Dealer → ℕ → List Era → Command → Type 0
HasOrigin dealer n eras (Deal hand deal) = IsOwned dealer n (Deal hand deal)
HasOrigin dealer n eras (Act hand index action) = WasSaid dealer n eras (Act hand index action)
HasOrigin dealer n eras (Away hand index) = WasOrdered dealer n eras (Away hand index)

-- there is one list of chosen commands, each fitting after those before it, behind all that the records show; and no chosen command is invented
pub record OneList (dealer : Dealer) (n : ℕ) (eras : List Era) : Type 0 where
  -- newest first
  pub commands : List Command
  pub chosen : AreChosen n (said_in eras) commands
  pub fitting : AllFit dealer commands
  pub shown : InEach (λ era. IsOfOneList dealer commands era.record_of) eras
  pub origin : (slot : ℕ) (command : Command) → IsChosen n (said_in eras) slot command → HasOrigin dealer n eras command
