-- Which bots are told to come again later, call by call.
use Rattle.std.proofs.Common.{◌≡◌, ◌⊎◌, inl, inr, ℕ, ◌≤◌, Bool, true, false, List, refl, ap, sym, subst, ◌∙◌, arith}
use Rattle.std.proofs.lemmas.Bool.Decides.{eqb_tells}
use Rattle.std.specs.Prelude.{Option, Some, None}
use Rattle.slot_log.specs.Hand.{Match}
use Rattle.line_cursor.specs.declared.cursor.Cursor.{Cursor}
use Rattle.node_seats.specs.declared.bot.Bot.{Bot}
use Rattle.node_seats.specs.declared.bot.Parting.{Parting}
use Rattle.node_seats.specs.declared.bot.Parting.TheVariants.{Over, Other, Wait}
use Rattle.node_seats.specs.declared.seat.Seat.{Seat}
use Rattle.node_seats.specs.declared.seat_notice.SeatNotice.{SeatNotice}
use Rattle.node_seats.specs.declared.seat_notice.SeatNotice.TheVariants as notices
use Rattle.node_seats.specs.Seating.{bot_at, Changes}
use Rattle.node_seats.specs.Telling.{TellsBot, Begins, Parts, SaysAt}
use Rattle.node_service.specs.Apartness.{WasApart, MovesOn, PutsOffBy, PutsOff, PutsOffApart}
use Rattle.node_service.specs.declared.apart.Apart.{Apart}

-- ---- the node

pub stays : (apart : Apart) → MovesOn apart apart
stays apart = record { times = omega arith; is = λ is. inl is }

was_on : (one two three : Apart) → two.times ≤ three.times → WasApart one two → WasApart one three
was_on one two three most (inl is) = inl is
was_on one two three most (inr less) = inr (omega (arith, most, less))

was_before : (one two three : Apart) → MovesOn one two → two.times ≤ three.times → WasApart two three → WasApart one three
was_before one two three first most (inl is) = was_on one two three most (first.is is)
was_before one two three first most (inr less) = let least = first.times in inr (omega (arith, least, less))

-- ---- its bots

pub none_put_off : (apart : Bool) (seats : List Seat) → PutsOff apart seats seats
none_put_off apart seats seat is = inl is

pub put_off_by : (one two : Type 0) → (one → two) → (were are : List Seat) → PutsOffBy one were are → PutsOffBy two were are
put_off_by one two change were are puts seat is = elim (puts seat is) as (λ _. ((bot_at were seat).parting ≡ Some Wait) ⊎ two) [ inl before ↦ inl before | inr so ↦ inr (change so) ]

put_off_then : (so : Type 0) (a b c : List Seat) → PutsOffBy so a b → PutsOffBy so b c → PutsOffBy so a c
put_off_then so a b c first then_on seat is =
    elim (then_on seat is) as (λ _. ((bot_at a seat).parting ≡ Some Wait) ⊎ so) [ inl before ↦ first seat before | inr now ↦ inr now ]

pub put_off_on : (apart : Bool) (a b c : List Seat) → PutsOff apart a b → PutsOff apart b c → PutsOff apart a c
put_off_on apart a b c first then_on = put_off_then (apart ≡ true) a b c first then_on

never : {A : Type 0} → false ≡ true → A
never e = absurd cc

-- where none was told so one by which that depends on whether the node is apart
pub none_in_any : (apart : Bool) (were are : List Seat) → PutsOff false were are → PutsOff apart were are
none_in_any apart were are puts = put_off_by (false ≡ true) (apart ≡ true) (λ wrong. never wrong) were are puts

-- ---- both

pub waits_same : (apart : Apart) (seats : List Seat) → PutsOffApart apart apart seats seats
waits_same apart seats = record { moves = stays apart; told = λ seat is. inl is }

pub waits_still : (old new : Apart) (seats : List Seat) → new ≡ old → PutsOffApart old new seats seats
waits_still old new seats same = subst (λ (a : Apart). PutsOffApart old a seats seats) (sym same) (waits_same old seats)

pub waits_moved : (old new : Apart) (seats : List Seat) → MovesOn old new → PutsOffApart old new seats seats
waits_moved old new seats moves = record { moves = moves; told = λ seat is. inl is }

-- the node stays as it is
pub waits_by : (apart : Apart) (were are : List Seat) → PutsOff apart.is_apart were are → PutsOffApart apart apart were are
waits_by apart were are puts = record { moves = stays apart; told = put_off_by (apart.is_apart ≡ true) (WasApart apart apart) (λ is. inl is) were are puts }

pub waits_on : (one two three : Apart) (a b c : List Seat) → PutsOffApart one two a b → PutsOffApart two three b c → PutsOffApart one three a c
waits_on one two three a b c first then_on = record {
  moves = record {
    times = let early = first.moves.times in let late = then_on.moves.times in omega (arith, early, late);
    is = λ is. was_before one two three first.moves then_on.moves.times (then_on.moves.is is);
  };
  told =
      put_off_then (WasApart one three) a b c (put_off_by (WasApart one two) (WasApart one three) (was_on one two three then_on.moves.times) a b first.told)
      (put_off_by (WasApart two three) (WasApart one three) (was_before one two three first.moves then_on.moves.times) b c then_on.told);
}

-- ---- one bot

-- of all other seats it is as it was
put_off_at : (so : Type 0) (number : ℕ) (were are : List Seat) → ((bot_at are number).parting ≡ Some Wait → ((bot_at were number).parting ≡ Some Wait) ⊎ so) → ((seat : ℕ) → (seat ≡ number → ⊥) → bot_at are seat ≡ bot_at were seat)
    → PutsOffBy so were are
put_off_at so number were are here others seat is = elim (eqb_tells seat number) as (λ _. ((bot_at were seat).parting ≡ Some Wait) ⊎ so) [
  | inl same ↦
      subst (λ (n : ℕ). ((bot_at were n).parting ≡ Some Wait) ⊎ so) (sym same.1) (here (subst (λ (n : ℕ). (bot_at are n).parting ≡ Some Wait) same.1 is))
  | inr differs ↦ inl (sym (ap (λ (b : Bot). b.parting) (others seat differs.1)) ∙ is)
]

not_wait : Some Other ≡ Some Wait → ⊥
not_wait e = cc

not_wait_over : Some Over ≡ Some Wait → ⊥
not_wait_over e = cc

none_waits : {A : Type 0} → None ≡ Some Wait → A
none_waits e = absurd cc

begins_here : (at : Cursor) (old new : Bot) → Begins at old new → new.parting ≡ Some Wait → old.parting ≡ Some Wait
begins_here at old new (inl same) is = sym (ap (λ (b : Bot). b.parting) same) ∙ is
begins_here at old new (inr (named, (silent, (none, e)))) is = sym (ap (λ (b : Bot). b.parting) e) ∙ is

pub begun_off : (at : Cursor) (seat : ℕ) (old new : List Seat) → Begins at (bot_at old seat) (bot_at new seat) → SaysAt seat old new → PutsOff false old new
begun_off at seat old new begins says = put_off_at (false ≡ true) seat old new (λ is. inl (begins_here at (bot_at old seat) (bot_at new seat) begins is)) says.bots

parts_here : (parting : Parting) (old new : Bot) → (Some parting ≡ Some Wait → ⊥) → Parts parting old new → new.parting ≡ Some Wait → old.parting ≡ Some Wait
parts_here parting old new other (inl same) is = sym (ap (λ (b : Bot). b.parting) same) ∙ is
parts_here parting old new other (inr (none, (may, e))) is = absurd (other (sym (ap (λ (b : Bot). b.parting) e) ∙ is))

pub refused_off : (seat : ℕ) (old new : List Seat) → Parts Other (bot_at old seat) (bot_at new seat) → SaysAt seat old new → PutsOff false old new
refused_off seat old new parts says = put_off_at (false ≡ true) seat old new (λ is. inl (parts_here Other (bot_at old seat) (bot_at new seat) not_wait parts is)) says.bots

pub over_off : (seat : ℕ) (old new : List Seat) → Parts Over (bot_at old seat) (bot_at new seat) → SaysAt seat old new → PutsOff false old new
over_off seat old new parts says = put_off_at (false ≡ true) seat old new (λ is. inl (parts_here Over (bot_at old seat) (bot_at new seat) not_wait_over parts is)) says.bots

pub told_off : (table : Match) (seat : ℕ) (old new : List Seat) → TellsBot table seat (bot_at old seat) (bot_at new seat) → SaysAt seat old new → PutsOff false old new
told_off table seat old new tells says = put_off_at (false ≡ true) seat old new (λ is. inl (sym tells.parting ∙ is)) says.bots

pub waits_off : (seat : ℕ) (old new : List Seat) → SaysAt seat old new → PutsOff true old new
waits_off seat old new says = put_off_at (true ≡ true) seat old new (λ is. inr refl) says.bots

-- something came, or a bot was let go of
pub changed_off : (notice : Option SeatNotice) (old new : List Seat) → Changes notice old new → PutsOff false old new
changed_off None old new is = λ seat waits. inl (sym (ap (λ (b : Bot). b.parting) (is seat)) ∙ waits)
changed_off (Some (notices.Piece number bytes)) old new is = put_off_at (false ≡ true) number old new (λ waits. inl (sym (ap (λ (b : Bot). b.parting) is.0) ∙ waits)) is.1
changed_off (Some (notices.Gone number)) old new is = put_off_at (false ≡ true) number old new (λ waits. inl (sym (ap (λ (b : Bot). b.parting) is.0) ∙ waits)) is.1
changed_off (Some (notices.Came number)) old new is =
    put_off_at (false ≡ true) number old new (λ waits. none_waits (sym (ap (λ (b : Bot). b.parting) is.1.0) ∙ waits)) is.1.1
changed_off (Some other) old new is = λ seat waits. inl (sym (ap (λ (b : Bot). b.parting) (is seat)) ∙ waits)

pub waits_changed : (apart : Apart) (notice : Option SeatNotice) (old new : List Seat) → Changes notice old new → PutsOffApart apart apart old new
waits_changed apart notice old new is = waits_by apart old new (none_in_any apart.is_apart old new (changed_off notice old new is))
