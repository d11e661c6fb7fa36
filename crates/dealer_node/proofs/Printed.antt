-- What is written for a reader is what the rules have him shown.
use Rattle.std.proofs.Common.{◌≡◌, ℕ, ◌<◌, Bool, true, false, List, [], ◌∷◌, refl, ap, sym, ◌∙◌, arith, length}
use Rattle.std.specs.Prelude.{map, if◌then◌else◌}
use Rattle.std.proofs.lemmas.List.{append-nil}
use Rattle.game_def.specs.Game.{Game}
use Rattle.slot_log.specs.Hand.{Hand}
use Rattle.slot_log.specs.Dealer.{is_running}
use Rattle.matchstate.specs.View.{view_of, position_of}
use Rattle.matchstate.specs.Line.{line_text, seat_text}
use Rattle.match_log.specs.Lines.{header_line}
use Rattle.match_log.specs.Further.{further_lines}
use Rattle.protocol_model.specs.Dealers as model
use Rattle.dealer_kind.specs.Kind.{Setting}
use Rattle.node_rules.specs.Showing.{seat_line, log_piece, header}
use Rattle.dealer_node.specs.declared.reader.Reader.{Reader}
use Rattle.dealer_node.specs.declared.reader.Reader.TheVariants.{Seat, Log}
use Rattle.dealer_node.specs.Texts.{Marked}
use Rattle.dealer_node.specs.Turned.{printed}

abbrev pub marked : Reader → List ℕ → List (Marked Reader)
marked reader text = (record { mark = reader; text = text }) ∷ []

line_of_game : (setting : Setting) (hands : List Hand) (seat : ℕ) → 0 < length hands
    → marked (Seat seat) (seat_text setting.game hands seat) ≡ map printed (seat_line setting hands seat)
line_of_game setting [] seat some = absurd (omega arith)
line_of_game setting (newest ∷ earlier) seat some =
    ap (marked (Seat seat)) (append-nil (line_text (view_of setting.game (position_of setting.game.players (length earlier) seat) (length earlier) newest)))

-- a seat's line
pub line_printed : (setting : Setting) (game : Game) (hands : List Hand) (seat : ℕ) → game ≡ setting.game → 0 < length hands
    → marked (Seat seat) (seat_text game hands seat) ≡ map printed (seat_line setting hands seat)
line_printed setting game hands seat same some = ap (λ g. marked (Seat seat) (seat_text g hands seat)) same ∙ line_of_game setting hands seat some

log_of_game : (setting : Setting) (hands : List Hand) (runs : Bool) → runs ≡ false → (let text : List ℕ = further_lines setting.game setting.title.hands setting.names hands in
    marked Log text ≡ map printed (if runs then [] else (record { reader = model.Log; text = text }) ∷ []))
log_of_game setting hands true stands = cc
log_of_game setting hands false stands = refl

-- what the log has further
pub log_printed : (setting : Setting) (game : Game) (count : ℕ) (names : List (List ℕ)) (hands : List Hand) → game ≡ setting.game → count ≡ setting.title.hands → names ≡ setting.names → is_running game hands ≡ false
    → marked Log (further_lines game count names hands) ≡ map printed (log_piece setting hands)
log_printed setting game count names hands same few all stands =
    ap (λ g. marked Log (further_lines g count names hands)) same
    ∙ ap (λ c. marked Log (further_lines setting.game c names hands)) few
    ∙ ap (λ ns. marked Log (further_lines setting.game setting.title.hands ns hands)) all
    ∙ log_of_game setting hands (is_running setting.game hands) (ap (λ g. is_running g hands) (sym same) ∙ stands)

-- the header
pub header_printed : (setting : Setting) (name word : List ℕ) (hands : ℕ) → name ≡ setting.title.name → word ≡ setting.title.game → hands ≡ setting.title.hands
    → marked Log (header_line name word hands) ≡ map printed (header setting ∷ [])
header_printed setting name word hands a b c =
    ap (λ n. marked Log (header_line n word hands)) a ∙ ap (λ w. marked Log (header_line setting.title.name w hands)) b
    ∙ ap (λ h. marked Log (header_line setting.title.name setting.title.game h)) c
