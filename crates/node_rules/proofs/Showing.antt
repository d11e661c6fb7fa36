-- The lines and the log of a command, one after another.
use Rattle.std.proofs.Common.{◌≡◌, ℕ, ◌<◌, ◌≤◌, ◌+◌, Bool, true, false, if◌then◌else◌, List, [], ◌∷◌, ◌++◌, Option, Some, None, refl, sym, ap, subst, ◌∙◌, arith, length, append_assoc}
use Rattle.std.specs.Prelude.{nat_lt}
use Rattle.std.specs.Option.{option_map, option_to_list}
use Rattle.std.proofs.lemmas.List.{append-nil}
use Rattle.std.proofs.lemmas.Bool.{lt-ltb}
use Rattle.slot_log.specs.Hand.{Hand}
use Rattle.slot_log.specs.Dealer.{is_running, finished_count, hands_of}
use Rattle.slot_log.specs.declared.command.Command.{Command}
use Rattle.matchstate.specs.View.{View, seat_view}
use Rattle.matchstate.specs.Line.{line_text, line}
use Rattle.match_log.specs.Further.{last_line, score_of, further_lines}
use Rattle.protocol_model.specs.Messages.{Message}
use Rattle.protocol_model.specs.Dealers.{Log, text_of}
use Rattle.protocol_model.specs.Nodes.{Node, Knows as KnowsCommands}
use Rattle.protocol_model.specs.Arrivals.{Arrival}
use Rattle.protocol_model.specs.Moves.{Shown, Chain, more, shows}
use Rattle.seat_session.specs.Session.{Standing as Talk}
use Rattle.dealer_kind.specs.Kind.{Setting, hands_after, fits, line_of, log_of}
use Rattle.node_rules.specs.Showing.{Piece, is_connected, line_piece, seat_line, seat_lines, log_piece, news}
use Rattle.node_rules.specs.Called.{log_with, log_after, text_with, AreShown}
use Rattle.node_rules.proofs.Telling.{log_behind, shown_more}
use Rattle.node_rules.specs.Given.{Given}
use Rattle.node_rules.proofs.Paths.{Scope, dealer_in, first_in}

-- the chain as far as it shows these pieces: the node is as it was but for how much it showed
pub record Shows (x : Scope) (came : List Arrival) (node : Node) (sent : List Message) (upto : List Command) (log : List ℕ) (pieces : List Piece) : Type 0 where
  pub shown : List Shown
  pub last : ℕ
  pub low : last ≤ length upto
  pub chain : Chain (dealer_in x) x.place.nodes x.place.node x.world.ever (first_in x) (record { sent = sent; shown = shown; came = came }) (record node { shown = last })
  pub are : AreShown x.place.node x.start x.log pieces shown
  pub logged : log_after x.log pieces ≡ log

-- one text more
show : (x : Scope) (came : List Arrival) (node : Node) (sent : List Message) (upto : List Command) (log : List ℕ) (pieces : List Piece) (p : Piece) (text : List ℕ)
    → node.up ≡ true → node.starts ≡ x.start → KnowsCommands node.known upto → text_of (dealer_in x) upto p.reader ≡ Some text
    → text_with log p.reader p.text ≡ record { reader = p.reader; text = text }
    → Shows x came node sent upto log pieces → Shows x came node sent upto (log_with log p.reader p.text) (pieces ++ p ∷ [])
show x came node sent upto log pieces p text up starts known is told s = record {
  shown = t ∷ s.shown;
  last = length upto;
  low = omega arith;
  chain = more _ (record node { shown = s.last }) (record { sent = []; shown = t ∷ []; came = [] }) _ _ s.chain (shows upto p.reader text up known s.low is refl refl) refl;
  are = shown_more x.place.node x.start x.log pieces s.shown p t s.are
      (sym told ∙ ap (λ (l : List ℕ). text_with l p.reader p.text) (sym s.logged)) refl starts;
  logged = log_behind x.log pieces (p ∷ []) ∙ ap (λ (l : List ℕ). log_with l p.reader p.text) s.logged;
}
  where
    t : Shown
    t = record { node = x.place.node; start = node.starts; reader = p.reader; count = length upto; text = text }

-- ---- the lines of seats

line_if : (setting : Setting) (upto : List Command) (seat : ℕ) (b : Bool) → nat_lt seat setting.game.players ≡ b → b ≡ true
    → (if b then line setting.game setting.title.hands upto seat else None) ≡ line setting.game setting.title.hands upto seat
line_if setting upto seat true e h = refl
line_if setting upto seat false e h = absurd (cc)

pub line_is : (setting : Setting) (upto : List Command) (seat : ℕ) → seat < setting.game.players → line_of setting upto seat ≡ line setting.game setting.title.hands upto seat
line_is setting upto seat l = line_if setting upto seat (nat_lt seat setting.game.players) refl (lt-ltb seat setting.game.players l)

view_by : (x : Scope) (came : List Arrival) (node : Node) (sent : List Message) (upto : List Command) (log : List ℕ) (pieces : List Piece) (seat : ℕ) (v : Option View)
    → node.up ≡ true → node.starts ≡ x.start → KnowsCommands node.known upto → line_of x.place.setting upto seat ≡ option_map line_text v
    → Shows x came node sent upto log pieces → Shows x came node sent upto log (pieces ++ option_to_list (option_map (line_piece seat) v))
view_by x came node sent upto log pieces seat None up starts known is s = subst (Shows x came node sent upto log) (sym (append-nil pieces)) s
view_by x came node sent upto log pieces seat (Some v) up starts known is s =
    show x came node sent upto log pieces (line_piece seat v) (line_text v) up starts known is refl s

-- the line of one seat
pub show_line : (x : Scope) (came : List Arrival) (node : Node) (sent : List Message) (upto : List Command) (log : List ℕ) (pieces : List Piece) (seat : ℕ)
    → seat < x.place.setting.game.players → node.up ≡ true → node.starts ≡ x.start → KnowsCommands node.known upto
    → Shows x came node sent upto log pieces → Shows x came node sent upto log (pieces ++ seat_line x.place.setting (hands_after x.place.setting upto) seat)
show_line x came node sent upto log pieces seat l up starts known s =
    view_by x came node sent upto log pieces seat (seat_view x.place.setting.game (hands_after x.place.setting upto) seat) up starts known
    (line_is x.place.setting upto seat l) s

line_by : (x : Scope) (came : List Arrival) (node : Node) (sent : List Message) (upto : List Command) (log : List ℕ) (pieces : List Piece) (seat : ℕ) (b : Bool)
    → seat < x.place.setting.game.players → node.up ≡ true → node.starts ≡ x.start → KnowsCommands node.known upto
    → Shows x came node sent upto log pieces
    → Shows x came node sent upto log (pieces ++ (if b then seat_line x.place.setting (hands_after x.place.setting upto) seat else []))
line_by x came node sent upto log pieces seat true l up starts known s = show_line x came node sent upto log pieces seat l up starts known s
line_by x came node sent upto log pieces seat false l up starts known s = subst (Shows x came node sent upto log) (sym (append-nil pieces)) s

lines : (x : Scope) (came : List Arrival) (node : Node) (sent : List Message) (upto : List Command) (log : List ℕ) (pieces : List Piece) (seat : ℕ) (talks : List (Option Talk))
    → seat + length talks ≡ x.place.setting.game.players → node.up ≡ true → node.starts ≡ x.start → KnowsCommands node.known upto
    → Shows x came node sent upto log pieces
    → Shows x came node sent upto log (pieces ++ seat_lines x.place.setting (hands_after x.place.setting upto) seat talks)
lines x came node sent upto log pieces seat [] size up starts known s = subst (Shows x came node sent upto log) (sym (append-nil pieces)) s
lines x came node sent upto log pieces seat (talk ∷ talks) size up starts known s =
    let here : List Piece = if is_connected talk then seat_line x.place.setting (hands_after x.place.setting upto) seat else [] in
    subst (Shows x came node sent upto log) (append_assoc pieces here (seat_lines x.place.setting (hands_after x.place.setting upto) (seat + 1) talks))
    (lines x came node sent upto log (pieces ++ here) (seat + 1) talks (omega (arith, size)) up starts known
    (line_by x came node sent upto log pieces seat (is_connected talk) (omega (arith, size)) up starts known s))

-- ---- the log

pub running_adds : (setting : Setting) (hands : List Hand) (b : Bool) → is_running setting.game hands ≡ b
    → (b ≡ true → further_lines setting.game setting.title.hands setting.names hands ≡ [])
running_adds setting hands true e h = ap (λ (y : Bool). if y then [] else last_line setting.game setting.names hands (finished_count setting.game hands) ++ score_of setting.game setting.title.hands setting.names hands) e
running_adds setting hands false e h = absurd (cc)

-- what a command that takes effect adds to the log
pub adds_if : (g : Given) (setting : Setting) (before : List Command) (command : Command) (b : Bool) → fits setting before command ≡ b
    → log_of setting (command ∷ before)
    ≡ log_of setting before ++ (if b then further_lines setting.game setting.title.hands setting.names (hands_after setting (command ∷ before)) else [])
adds_if g setting before command true e =
    g.adds setting.game setting.title setting.names before command
    ∙ ap (λ (b : Bool). log_of setting before ++ (if b then further_lines setting.game setting.title.hands setting.names (hands_of setting.game setting.title.hands (command ∷ before)) else [])) e
adds_if g setting before command false e =
    g.adds setting.game setting.title setting.names before command
    ∙ ap (λ (b : Bool). log_of setting before ++ (if b then further_lines setting.game setting.title.hands setting.names (hands_of setting.game setting.title.hands (command ∷ before)) else [])) e

pub adds_nothing : (g : Given) (setting : Setting) (before : List Command) (command : Command) → fits setting before command ≡ false
    → log_of setting (command ∷ before) ≡ log_of setting before
adds_nothing g setting before command e = adds_if g setting before command false e ∙ append-nil (log_of setting before)

log_by : (x : Scope) (came : List Arrival) (node : Node) (sent : List Message) (before : List Command) (command : Command) (pieces : List Piece) (b : Bool)
    → is_running x.place.setting.game (hands_after x.place.setting (command ∷ before)) ≡ b → fits x.place.setting before command ≡ true
    → node.up ≡ true → node.starts ≡ x.start → KnowsCommands node.known (command ∷ before)
    → Shows x came node sent (command ∷ before) (log_of x.place.setting before) pieces
    → Shows x came node sent (command ∷ before) (log_of x.place.setting (command ∷ before))
    (pieces ++ (if b then [] else (record { reader = Log; text = further_lines x.place.setting.game x.place.setting.title.hands x.place.setting.names (hands_after x.place.setting (command ∷ before)) }) ∷ []))
log_by x came node sent before command pieces true e fit up starts known s =
    let same : log_of x.place.setting before ≡ log_of x.place.setting (command ∷ before) =
    sym (adds_if x.given x.place.setting before command true fit ∙ ap (λ (l : List ℕ). log_of x.place.setting before ++ l) (running_adds x.place.setting (hands_after x.place.setting (command ∷ before)) true e refl)
    ∙ append-nil (log_of x.place.setting before)) in
    subst (λ (l : List ℕ). Shows x came node sent (command ∷ before) l (pieces ++ [])) same
    (subst (Shows x came node sent (command ∷ before) (log_of x.place.setting before)) (sym (append-nil pieces)) s)
log_by x came node sent before command pieces false e fit up starts known s =
    let added : List ℕ = further_lines x.place.setting.game x.place.setting.title.hands x.place.setting.names (hands_after x.place.setting (command ∷ before)) in
    let same : log_of x.place.setting before ++ added ≡ log_of x.place.setting (command ∷ before) = sym (adds_if x.given x.place.setting before command true fit) in
    subst (λ (l : List ℕ). Shows x came node sent (command ∷ before) l (pieces ++ (record { reader = Log; text = added }) ∷ [])) same
    (show x came node sent (command ∷ before) (log_of x.place.setting before) pieces (record { reader = Log; text = added }) (log_of x.place.setting (command ∷ before)) up starts known refl
    (ap (λ (l : List ℕ). record { reader = Log; text = l }) same) s)

-- all that a command that takes effect shows
pub show_news : (x : Scope) (came : List Arrival) (node : Node) (sent : List Message) (before : List Command) (command : Command) (pieces : List Piece) (talks : List (Option Talk))
    → length talks ≡ x.place.setting.game.players → fits x.place.setting before command ≡ true
    → node.up ≡ true → node.starts ≡ x.start → KnowsCommands node.known (command ∷ before)
    → Shows x came node sent (command ∷ before) (log_of x.place.setting before) pieces
    → Shows x came node sent (command ∷ before) (log_of x.place.setting (command ∷ before)) (pieces ++ news x.place.setting talks (hands_after x.place.setting (command ∷ before)))
show_news x came node sent before command pieces talks size fit up starts known s =
    let hands : List Hand = hands_after x.place.setting (command ∷ before) in
    subst (Shows x came node sent (command ∷ before) (log_of x.place.setting (command ∷ before)))
    (append_assoc pieces (seat_lines x.place.setting hands 0 talks) (log_piece x.place.setting hands))
    (log_by x came node sent before command (pieces ++ seat_lines x.place.setting hands 0 talks) (is_running x.place.setting.game hands) refl fit up starts known
    (lines x came node sent (command ∷ before) (log_of x.place.setting before) pieces 0 talks (omega (arith, size)) up starts known s))
