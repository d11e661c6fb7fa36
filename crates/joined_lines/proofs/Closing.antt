-- Where a relay knows that the match is over, a node told so that had told its seat all lines up to the last.
use Rattle.std.proofs.Common.{◌≡◌, ◌⊎◌, ℕ, Bool, true, false, if◌then◌else◌, List, [], ◌∷◌, ◌++◌, map, refl, sym, ap, ◌∙◌, subst, inl, inr}
use Rattle.std.specs.List.{AllByRecursion}
use Rattle.slot_log.specs.Dealer.{hands_of, is_match_over}
use Rattle.slot_log.specs.Laws.{CommandsMakeHands}
use Rattle.slot_log.specs.declared.command.Command.{Command}
use Rattle.line_cursor.specs.Laws.{NextCursorStays}
use Rattle.line_cursor.specs.Past.{PastIsABeginning}
use Rattle.line_cursor.specs.Telling.{CursorsTellTheLines}
use Rattle.seat_relay.specs.Relaying.{Standing, Event, Begins, Ends, Tells, Closes, Says, Pushes, link_at, is_taken, is_news, is_kept, is_even, with_link, with_news, with_old, with_answer, happens, after}
use Rattle.seat_relay.specs.declared.link.Link.TheVariants.{Said}
use Rattle.seat_relay.specs.Laws.{told_over, CloseAtTheEnd}
use Rattle.dealer_kind.specs.Kind.{Setting}
use Rattle.dealer_kind.specs.Plans.{IsSetting}
use Rattle.stations.specs.Tables.{ShowsBeginning}
use Rattle.joined_lines.specs.Chosen.{lines_by}
use Rattle.joined_lines.specs.Bringing.{IsOfPlaced, text_in}
use Rattle.joined_lines.proofs.Gathering.{all_front, AtEach, at_place}
use Rattle.joined_lines.proofs.Parts.{placed_over}
use Rattle.joined_lines.proofs.Courses.{IsToldAll, Closing}
use Rattle.joined_lines.proofs.Ending.{over_here, back_told}

-- ---- the machine

if_open : (b : Bool) (one other : Standing) → one.over ≡ false → other.over ≡ false → (if b then one else other).over ≡ false
if_open b one other p q = elim b as (λ (c : Bool). (if c then one else other).over ≡ false) [ true ↦ p | false ↦ q ]

-- an event leaves it open whether the match is over, or a node says that it is
stays_open : (s : Standing) (e : Event) → s.over ≡ false → ((happens s e).over ≡ false) ⊎ ((node : ℕ) × (e ≡ Closes node))
unfolding happens
stays_open s (Begins node) open_is = inl open_is
stays_open s (Ends node) open_is = inl open_is
stays_open s (Tells node line) open_is =
    inl (if_open (is_taken s.mode.newest s.last (link_at s.links node) line.place) (if is_news s.last line then with_news s node line else with_old s node line) s
    (if_open (is_news s.last line) (with_news s node line) (with_old s node line) refl open_is) open_is)
stays_open s (Closes node) open_is = inr (node, refl)
stays_open s (Says text) open_is = inl (if_open (is_kept s text) (with_answer s text) s open_is open_is)
stays_open s (Pushes node) open_is = inl (if_open (is_even (link_at s.links node)) (with_link s node Said) s open_is open_is)

pub record IsClosed (events : List Event) : Type 0 where
  pub node : ℕ
  pub front : List Event
  pub behind : List Event
  pub whole : events ≡ front ++ Closes node ∷ behind

is_closed : (s : Standing) (events : List Event) → s.over ≡ false → (after s events).over ≡ true → IsClosed events
unfolding after
is_closed s [] open_is over = let wrong : false ≡ true = sym open_is ∙ over in absurd cc
is_closed s (e ∷ more) open_is over = elim (stays_open s e open_is) as (λ _. IsClosed (e ∷ more)) [
  | inl still ↦
      let later = is_closed (happens s e) more still over in
      record { node = later.node; front = e ∷ later.front; behind = later.behind; whole = ap (λ (l : List Event). e ∷ l) later.whole }
  | inr closes ↦ record { node = closes.0; front = []; behind = more; whole = ap (λ (first : Event). first ∷ more) closes.1 }
]

-- ---- what follows

module _ (make : CommandsMakeHands) (past : PastIsABeginning) (stays : NextCursorStays) where
  pub match_over : (setting : Setting) → IsSetting setting → (seat : ℕ) (commands : List Command) (s : Standing) (events : List Event) → s.over ≡ false → (after s events).over ≡ true
      → AtEach (Closing (ShowsBeginning setting commands) seat) [] events → is_match_over setting.game setting.title.hands (hands_of setting.game setting.title.hands commands) ≡ true
  match_over setting is seat commands s events open_is over each =
      let closed = is_closed s events open_is over in
      let all : IsToldAll (ShowsBeginning setting commands) seat (map text_in (told_over closed.node closed.front)) =
      at_place (Closing (ShowsBeginning setting commands) seat) [] closed.front closed.behind (Closes closed.node) (subst (AtEach (Closing (ShowsBeginning setting commands) seat) []) closed.whole each) in
      (over_here make past stays setting is seat commands all.table all.next all.is all.behind).0

  pub close_at_the_end : CursorsTellTheLines → (setting : Setting) → (is : IsSetting setting) → (seat : ℕ) (commands : List Command) (events : List Event) → AtEach (Closing (ShowsBeginning setting commands) seat) [] events
      → AllByRecursion IsOfPlaced events → CloseAtTheEnd (lines_by setting seat commands) events
  close_at_the_end law setting is seat commands events each placed node front behind whole =
      let all : IsToldAll (ShowsBeginning setting commands) seat (map text_in (told_over node front)) =
      at_place (Closing (ShowsBeginning setting commands) seat) [] front behind (Closes node) (subst (AtEach (Closing (ShowsBeginning setting commands) seat) []) whole each) in
      let none = (over_here make past stays setting is seat commands all.table all.next all.is all.behind).1 in
      let are = placed_over node front (all_front IsOfPlaced front (Closes node ∷ behind) (subst (AllByRecursion IsOfPlaced) whole placed)) in
      back_told make past stays setting is seat commands law all.start all.next (told_over node front) all.told are none
