-- What the bots of a process's seats are told, call by call.
use Rattle.std.proofs.Common.{◌≡◌, inl, inr, ℕ, zero, suc, Bool, true, false, List, [], ◌∷◌, ◌++◌, ◌==◌, if◌then◌else◌, nat_lt, length, take, append_assoc, append-nil, refl, ap, sym, subst, ◌∙◌}
use Rattle.std.proofs.lemmas.Bool.Decides.{eqb_tells}
use Rattle.std.specs.Prelude.{Option, Some, None, IsSomeAnd}
use Rattle.promise_store.specs.declared.disk.Disk.{Ghosts}
use Rattle.slot_log.specs.Beginnings.{IsBeginning}
use Rattle.slot_log.specs.Hand.{Match}
use Rattle.line_cursor.specs.declared.cursor.Cursor.{Cursor}
use Rattle.line_cursor.specs.Cursors.{next_cursor}
use Rattle.protocol_model.specs.Sets.{In}
use Rattle.protocol_model.proofs.Sets.{in_first, in_later, in_split, only_in}
use Rattle.dealer_node.specs.Nodes.{Node}
use Rattle.dealer_node.specs.Seeing.{table_in}
use Rattle.stations.specs.Moments.{Moment, moment_now}
use Rattle.stations.specs.Stations.{Look, Has}
use Rattle.stations.specs.Tables.{HadTable}
use Rattle.stations.specs.Looking.{look_of}
use Rattle.stations.specs.declared.station.Station.{Station}
use Rattle.node_seats.specs.declared.bot.Bot.{Bot}
use Rattle.node_seats.specs.declared.bot.Parting.{Parting}
use Rattle.node_seats.specs.declared.bot.Parting.TheVariants.{Over, Other, Wait}
use Rattle.node_seats.specs.declared.bot.Telling.{Telling}
use Rattle.node_seats.specs.declared.seat.Seat.{Seat}
use Rattle.node_seats.specs.declared.seat_notice.SeatNotice.{SeatNotice}
use Rattle.node_seats.specs.declared.seat_notice.SeatNotice.TheVariants as notices
use Rattle.node_seats.specs.declared.words.Asked.{Asked}
use Rattle.node_seats.specs.declared.words.Asked.TheVariants as asks
use Rattle.node_seats.specs.Words.{Reading, text_of, is_skipped, word_of, with_word, with_word_of, with_asked, over, cleared, with_line, with_byte, with_bytes}
use Rattle.node_seats.specs.declared.limits.TheConstants.{WORDS}
use Rattle.node_seats.specs.Seating.{no_bot, newcomer, gone, heard, bot_at, asks_once, Changes}
use Rattle.node_seats.specs.Telling.{lines_of, TellsFrom, telling_from, TellsMore, TellsBot, Begins, Parts, SaysAt}
use Rattle.node_seats.proofs.Telling.{tells_both}
use Rattle.node_service.specs.Bots.{StartsBy, IsRefusedBy, IsBehindAll, IsStill, IsToldBy, IsStarted, IsOverFor, IsParted, IsBotOf, AreBotsOf, HadTableSince, BeginsSince, PartsSince, IsSince, KeepBots}

-- lines off such tables are lines off all of which that holds
tells_such : (such also : Match → Type 0) → ((table : Match) → such table → also table) → (seat : ℕ) (at : Cursor) (lines : List (List ℕ)) (next : Cursor) → TellsFrom such seat at lines next → TellsFrom also seat at lines next
tells_such such also change seat at [] next is = is
tells_such such also change seat at (line ∷ lines) next is = (is.0, (change is.0 is.1.0, (is.1.1.0, tells_such such also change seat (next_cursor is.0.game is.0.hands at) lines next is.1.1.1)))

pub some_of : {A : Type 0} (P : A → Type 0) (o : Option A) → IsSomeAnd o P → (x : A) × ((o ≡ Some x) × P x)
some_of P None is = absurd is
some_of P (Some x) is = (x, (refl, is))

-- ---- who sits there still

pub still : (bot : Bot) → IsStill bot bot
still bot = record { sits = λ is. is; words = refl }

still_on : (one two three : Bot) → IsStill one two → IsStill two three → IsStill one three
still_on one two three first then_on = record { sits = λ is. first.sits (then_on.sits is); words = then_on.words ∙ first.words }

begun_on : (was : Option Telling) (mid telling : Telling) → mid.start ≡ telling.start → IsSomeAnd was (λ first. first.start ≡ mid.start) → IsSomeAnd was (λ first. first.start ≡ telling.start)
begun_on None mid telling e is = absurd is
begun_on (Some first) mid telling e is = is ∙ e

-- nobody sits where a bot is gone
never : {A : Type 0} → false ≡ true → A
never e = absurd cc

-- ---- one who asked has asked, whatever more it says

pub resumes_asks : (asked : Asked) → asks_once asked ≡ true → asked ≡ asks.Nothing → ⊥
resumes_asks asks.Nothing once is = absurd cc
resumes_asks asks.First once is = absurd cc
resumes_asks asks.Newest once is = absurd cc
resumes_asks asks.Line once is = absurd cc
resumes_asks asks.Other once is = absurd cc

asks_word : (r : Reading) (word : List ℕ) (asked : Asked) → r.asked ≡ asked → (r.asked ≡ asks.Nothing → ⊥) → (with_word r word asked).asked ≡ asks.Nothing → ⊥
asks_word r word asks.Nothing e has is = has e
asks_word r word asks.First e has is = absurd cc
asks_word r word asks.Newest e has is = absurd cc
asks_word r word asks.Line e has is = absurd cc
asks_word r word asks.Other e has is = absurd cc

asks_word_of : (r : Reading) (word : Option (List ℕ)) → (r.asked ≡ asks.Nothing → ⊥) → (with_word_of r word).asked ≡ asks.Nothing → ⊥
asks_word_of r None has is = has is
asks_word_of r (Some word) has is = asks_word r word r.asked refl has is

asks_line : (r : Reading) (skipped : Bool) → (r.asked ≡ asks.Nothing → ⊥) → (cleared (if skipped then with_asked r else over r r.asked)).asked ≡ asks.Nothing → ⊥
asks_line r true has is = asks_word_of r (word_of (text_of r.line)) has is
asks_line r false has is = has is

asks_further : (r : Reading) (byte : ℕ) (room : Bool) → (r.asked ≡ asks.Nothing → ⊥)
    → (if room then record { line = r.line ++ byte ∷ []; named = r.named; asked = r.asked; is_over = r.is_over } else over r asks.Other).asked ≡ asks.Nothing → ⊥
asks_further r byte true has is = has is
asks_further r byte false has is = absurd cc

asks_byte_by : (r : Reading) (byte : ℕ) (is_over ends : Bool) → (r.asked ≡ asks.Nothing → ⊥)
    → (if is_over then r else if ends then with_line r
    else if nat_lt (length r.line) WORDS then record { line = r.line ++ byte ∷ []; named = r.named; asked = r.asked; is_over = r.is_over } else over r asks.Other).asked ≡ asks.Nothing → ⊥
asks_byte_by r byte true ends has is = has is
asks_byte_by r byte false true has is = asks_line r (is_skipped r.line) has is
asks_byte_by r byte false false has is = asks_further r byte (nat_lt (length r.line) WORDS) has is

pub asks_bytes : (r : Reading) (bytes : List ℕ) → (r.asked ≡ asks.Nothing → ⊥) → (with_bytes r bytes).asked ≡ asks.Nothing → ⊥
asks_bytes r [] has is = has is
asks_bytes r (byte ∷ more) has is = asks_bytes (with_byte r byte) more (asks_byte_by r byte r.is_over (byte == 10) has) is

-- nothing more is read behind the version
over_by : (over : Bool) (r : Reading) (byte : ℕ) → r.is_over ≡ over → over ≡ true → with_byte r byte ≡ r
over_by true r byte is e = rw is refl
over_by false r byte is e = absurd cc

over_reads : (r : Reading) (bytes : List ℕ) → r.is_over ≡ true → with_bytes r bytes ≡ r
over_reads r [] over = refl
over_reads r (byte ∷ bytes) over = ap (λ (m : Reading). with_bytes m bytes) (over_by true r byte over refl) ∙ over_reads r bytes over

reads_still : (bot : Bot) (bytes : List ℕ) → bot.words.is_over ≡ true → IsStill bot (heard bytes bot)
reads_still bot bytes over = record { sits = λ is. is; words = over_reads bot.words bytes over }

-- ---- the tables of a node

in_take : (n : ℕ) (moments : List Moment) (moment : Moment) → In moment (take n moments) → In moment moments
in_take zero moments moment there = absurd there
in_take (suc n) [] moment there = absurd there
in_take (suc n) (first ∷ moments) moment (inl is) = inl is
in_take (suc n) (first ∷ moments) moment (inr there) = inr (in_take n moments moment there)

in_since : (since first : List Moment) (moment : Moment) → In moment (since ++ take 1 first) → In moment (since ++ first)
in_since since first moment there = elim (in_split since (take 1 first) moment there) as (λ _. In moment (since ++ first)) [
  | inl newer ↦ in_first since first moment newer
  | inr newest ↦ in_later since first moment (in_take 1 first moment newest)
]

-- since the newest of some moments, and since the newest of those before these
newest_of : (since more first : List Moment) (moment : Moment) → In moment (since ++ take 1 (more ++ first)) → In moment ((since ++ more) ++ take 1 first)
newest_of since [] first moment there = subst (λ (ms : List Moment). In moment (ms ++ take 1 first)) (sym (append-nil since)) there
newest_of since (newest ∷ more) first moment there = elim (in_split since (newest ∷ []) moment there) as (λ _. In moment ((since ++ newest ∷ more) ++ take 1 first)) [
  | inl newer ↦ in_first (since ++ newest ∷ more) (take 1 first) moment (in_first since (newest ∷ more) moment newer)
  | inr is ↦ in_first (since ++ newest ∷ more) (take 1 first) moment (in_later since (newest ∷ more) moment (inl (only_in moment newest is)))
]

module _ {N : Type 0} where
  pub has_had : {first : List Moment} {look : Look N} {table : Match} → HadTableSince first look table → HadTable look table
  has_had {first} {look} had = record {
    moment = had.moment;
    was = subst (λ (moments : List Moment). In had.moment moments) (sym had.moments) (in_since had.since first had.moment had.was);
    table_is = had.table_is;
  }

module _ {D : Type 0} {g : Ghosts D} where
  -- the table of a node now
  pub had_now : (station now : Station D g) (node : Node D) (table : Match) → now ≡ station → Has g (look_of now) → node ≡ (look_of station).node → table ≡ table_in node
      → HadTableSince (look_of station).moments (look_of station) table
  had_now station now node table is has same seen =
      let look = look_of station in
      let here : Has g look = subst (λ (st : Station D g). Has g (look_of st)) is has in
      let moment = moment_now look.node look.deeds in
      record {
        since = [];
        moments = refl;
        moment = moment;
        was = subst (λ (moments : List Moment). In moment moments) (sym (ap (λ (moments : List Moment). take 1 moments) here.newest)) (inl refl);
        table_is = sym (seen ∙ ap table_in same);
      }

module _ {N : Type 0} where
  -- the same process of the same node, once it did more
  abbrev pub LooksOn : (old new : Look N) → Type 0
  LooksOn old new = IsBeginning old.moments new.moments

  pub as_before : (old new : Look N) → new ≡ old → LooksOn old new
  as_before old new same = ([], ap (λ (l : Look N). l.moments) same)

  -- what a node had it has had then
  had_then : (old new : Look N) → LooksOn old new → (table : Match) → HadTable old table → HadTable new table
  had_then old new on table had = record {
    moment = had.moment;
    was = subst (λ (moments : List Moment). In had.moment moments) (sym on.1) (in_later on.0 old.moments had.moment had.was);
    table_is = had.table_is;
  }

  since_then : (first : List Moment) (old new : Look N) → LooksOn old new → (table : Match) → HadTableSince first old table → HadTableSince first new table
  since_then first old new on table had = record {
    since = on.0 ++ had.since;
    moments = on.1 ∙ (ap (λ (m : List Moment). on.0 ++ m) had.moments ∙ sym (append_assoc on.0 had.since first));
    moment = had.moment;
    was = subst (λ (moments : List Moment). In had.moment moments) (sym (append_assoc on.0 had.since (take 1 first))) (in_later on.0 (had.since ++ take 1 first) had.moment had.was);
    table_is = had.table_is;
  }

  -- and since a moment before
  since_before : (one two look : Look N) → LooksOn one two → (table : Match) → HadTableSince two.moments look table → HadTableSince one.moments look table
  since_before one two look on table had = record {
    since = had.since ++ on.0;
    moments = had.moments ∙ (ap (λ (m : List Moment). had.since ++ m) on.1 ∙ sym (append_assoc had.since on.0 one.moments));
    moment = had.moment;
    was = newest_of had.since on.0 one.moments had.moment (subst (λ (m : List Moment). In had.moment (had.since ++ take 1 m)) on.1 had.was);
    table_is = had.table_is;
  }

  told_then : (old new : Look N) → ((table : Match) → HadTable old table → HadTable new table) → (seat : ℕ) (telling : Option Telling) → IsToldBy old seat telling → IsToldBy new seat telling
  told_then old new change seat None is = tt
  told_then old new change seat (Some telling) is = tells_such (HadTable old) (HadTable new) change seat telling.start (lines_of telling) telling.next is

  started_then : (old new : Look N) → ((table : Match) → HadTable old table → HadTable new table) → (seat : ℕ) (words : Reading) (telling : Option Telling) → IsStarted old seat words telling → IsStarted new seat words telling
  started_then old new change seat words None is = tt
  started_then old new change seat words (Some telling) is = (is.0, (is.1.0, (change is.1.0 is.1.1.0, is.1.1.1)))

  over_then : (old new : Look N) → ((table : Match) → HadTable old table → HadTable new table) → (seat : ℕ) (words : Reading) (telling : Option Telling) → IsOverFor old seat words telling → IsOverFor new seat words telling
  over_then old new change seat words None is = absurd is
  over_then old new change seat words (Some telling) is = (is.0, (is.1.0, (change is.1.0 is.1.1.0, is.1.1.1)))

  parted_then : (old new : Look N) → ((table : Match) → HadTable old table → HadTable new table) → (seat : ℕ) (bot : Bot) (parting : Option Parting) → IsParted old seat bot parting → IsParted new seat bot parting
  parted_then old new change seat bot None is = tt
  parted_then old new change seat bot (Some Over) is = over_then old new change seat bot.words bot.telling is
  parted_then old new change seat bot (Some Wait) is = is
  parted_then old new change seat bot (Some Other) is = (is.0, (is.1.0, (is.1.1.0, (change is.1.1.0 is.1.1.1.0, is.1.1.1.1))))

  are_then : (old new : Look N) → LooksOn old new → (seats : List Seat) → AreBotsOf old seats → AreBotsOf new seats
  are_then old new on seats are seat =
      let is = are seat in
      let bot = bot_at seats seat in
      record {
        told = told_then old new (had_then old new on) seat bot.telling is.told;
        started = started_then old new (had_then old new on) seat bot.words bot.telling is.started;
        parted = parted_then old new (had_then old new on) seat bot bot.parting is.parted;
      }

-- ---- since a moment

module _ {N : Type 0} where
  begins_still : (first : List Moment) (look : Look N) (seat : ℕ) (old new : Bot) (telling : Option Telling) → IsStill old new → old.telling ≡ telling → BeginsSince first look seat old new telling
  begins_still first look seat old new None is e = tt
  begins_still first look seat old new (Some telling) is e = inl (is, subst (λ (t : Option Telling). IsSomeAnd t (λ was. was.start ≡ telling.start)) (sym e) refl)

  parts_still : (first : List Moment) (look : Look N) (seat : ℕ) (old new : Bot) (parting : Option Parting) → IsStill old new → old.parting ≡ parting → PartsSince first look seat old new parting
  parts_still first look seat old new None is e = tt
  parts_still first look seat old new (Some Over) is e = tt
  parts_still first look seat old new (Some Wait) is e = tt
  parts_still first look seat old new (Some Other) is e = inl (is, e)

  -- more lines
  more_since : (first : List Moment) (look : Look N) (table : Match) (seat : ℕ) (old new : Bot) (was now : Option Telling) → IsStill old new → old.telling ≡ was → TellsMore table seat was now → BeginsSince first look seat old new now
  more_since first look table seat old new None now is e none = subst (BeginsSince first look seat old new) (sym none) tt
  more_since first look table seat old new (Some was) now is e (after, (same, (start, more))) =
      subst (BeginsSince first look seat old new) (sym same) (inl (is, subst (λ (t : Option Telling). IsSomeAnd t (λ old. old.start ≡ after.start)) (sym e) (sym start)))

  -- one moment after another
  begins_on : (one two three : Look N) → LooksOn one two → LooksOn two three → (seat : ℕ) (a b c : Bot) (mid telling : Option Telling) → b.telling ≡ mid → BeginsSince one.moments two seat a b mid
      → BeginsSince two.moments three seat b c telling → BeginsSince one.moments three seat a c telling
  begins_on one two three on_two on_three seat a b c mid None e first then_on = tt
  begins_on one two three on_two on_three seat a b c mid (Some telling) e first (inr (table, (had, starts))) = inr (table, (since_before one two three on_two table had, starts))
  begins_on one two three on_two on_three seat a b c None (Some telling) e first (inl (is, start)) =
      absurd (subst (λ (t : Option Telling). IsSomeAnd t (λ was. was.start ≡ telling.start)) e start)
  begins_on one two three on_two on_three seat a b c (Some mid) (Some telling) e first (inl (is, start)) =
      let same : mid.start ≡ telling.start = subst (λ (t : Option Telling). IsSomeAnd t (λ was. was.start ≡ telling.start)) e start in
      elim first as (λ _. BeginsSince one.moments three seat a c (Some telling)) [
        | inl had ↦ inl (still_on a b c had.0 is, begun_on a.telling mid telling same had.1)
        | inr by ↦ inr (
          by.0,
          (
            since_then one.moments two three on_three by.0 by.1.0,
            subst (λ (w : Reading). StartsBy by.0 seat w.asked w.named telling.start) (sym is.words) (subst (StartsBy by.0 seat b.words.asked b.words.named) same by.1.1),
          ),
        )
      ]

  parts_on : (one two three : Look N) → LooksOn one two → LooksOn two three → (seat : ℕ) (a b c : Bot) (parting : Option Parting) → PartsSince one.moments two seat a b b.parting
      → PartsSince two.moments three seat b c parting → PartsSince one.moments three seat a c parting
  parts_on one two three on_two on_three seat a b c None first then_on = tt
  parts_on one two three on_two on_three seat a b c (Some Over) first then_on = tt
  parts_on one two three on_two on_three seat a b c (Some Wait) first then_on = tt
  parts_on one two three on_two on_three seat a b c (Some Other) first (inr (table, (had, refused))) = inr (table, (since_before one two three on_two table had, refused))
  parts_on one two three on_two on_three seat a b c (Some Other) first (inl (is, e)) =
      let parted : PartsSince one.moments two seat a b (Some Other) = subst (PartsSince one.moments two seat a b) e first in
      elim parted as (λ _. PartsSince one.moments three seat a c (Some Other)) [
        | inl had ↦ inl (still_on a b c had.0 is, had.1)
        | inr by ↦ inr (
          by.0,
          (since_then one.moments two three on_three by.0 by.1.0, subst (λ (w : Reading). IsRefusedBy by.0 seat w.asked w.named) (sym is.words) by.1.1),
        )
      ]

module _ {N : Type 0} where
  -- a bot that is told nothing more
  is_still : (first : List Moment) (look : Look N) (seat : ℕ) (old new : Bot) → IsStill old new → new.telling ≡ old.telling → new.parting ≡ old.parting → IsSince first look seat old new
  is_still first look seat old new is telling parting = record {
    begins = begins_still first look seat old new new.telling is (sym telling);
    parts = parts_still first look seat old new new.parting is (sym parting);
  }

  is_same : (first : List Moment) (look : Look N) (seat : ℕ) (old new : Bot) → new ≡ old → IsSince first look seat old new
  is_same first look seat old new same =
      subst (IsSince first look seat old) (sym same) (is_still first look seat old old (still old) refl refl)

  pub keep_on : {one two three : Look N} {a b c : List Seat} → LooksOn one two → LooksOn two three → KeepBots one two a b → KeepBots two three b c → KeepBots one three a c
  keep_on {one} {two} {three} {a} {b} {c} on_two on_three first then_on = record {
    stay = λ are. then_on.stay (first.stay are);
    since = λ are seat.
        let mid = first.since are seat in
        let end = then_on.since (first.stay are) seat in
        record {
          begins = begins_on one two three on_two on_three seat (bot_at a seat) (bot_at b seat) (bot_at c seat) (bot_at b seat).telling (bot_at c seat).telling refl mid.begins end.begins;
          parts = parts_on one two three on_two on_three seat (bot_at a seat) (bot_at b seat) (bot_at c seat) (bot_at c seat).parting mid.parts end.parts;
        };
  }

  -- where its bots are told nothing
  pub bots_then : (old new : Look N) → LooksOn old new → (seats : List Seat) → KeepBots old new seats seats
  bots_then old new on seats = record {
    stay = are_then old new on seats;
    since = λ are seat. is_same old.moments new seat (bot_at seats seat) (bot_at seats seat) refl;
  }

  pub bots_still : (look : Look N) (seats : List Seat) → KeepBots look look seats seats
  bots_still look seats = bots_then look look (as_before look look refl) seats

  -- ---- one bot

  -- of one that is gone all is as it was
  gone_by : (look : Look N) (seat : ℕ) (bot : Bot) (parting : Option Parting) → bot.parting ≡ parting → IsBotOf look seat bot → IsBotOf look seat (gone bot)
  gone_by look seat bot None e is = record { told = is.told; started = is.started; parted = subst (IsParted look seat (gone bot)) (sym e) tt }
  gone_by look seat bot (Some Over) e is =
      let over : IsOverFor look seat bot.words bot.telling = subst (IsParted look seat bot) e is.parted in
      record { told = is.told; started = is.started; parted = subst (IsParted look seat (gone bot)) (sym e) over }
  gone_by look seat bot (Some Wait) e is =
      let asked : IsParted look seat bot (Some Wait) = subst (IsParted look seat bot) e is.parted in
      record { told = is.told; started = is.started; parted = subst (IsParted look seat (gone bot)) (sym e) asked }
  gone_by look seat bot (Some Other) e is =
      let other : IsParted look seat (gone bot) (Some Other) = subst (IsParted look seat bot) e is.parted in
      record { told = is.told; started = is.started; parted = subst (IsParted look seat (gone bot)) (sym e) other }

  bot_gone : (look : Look N) (seat : ℕ) (bot : Bot) → IsBotOf look seat bot → IsBotOf look seat (gone bot)
  bot_gone look seat bot is = gone_by look seat bot bot.parting refl is

  gone_since : (first : List Moment) (look : Look N) (seat : ℕ) (bot : Bot) → IsSince first look seat bot (gone bot)
  gone_since first look seat bot = is_still first look seat bot (gone bot) (record { sits = λ is. never is; words = refl }) refl refl

  bot_new : (look : Look N) (seat : ℕ) → IsBotOf look seat newcomer
  bot_new look seat = record { told = tt; started = tt; parted = tt }

  -- of one that was heard: one that is told lines has named the version, and nothing more is read of it
  heard_by : (look : Look N) (seat : ℕ) (bytes : List ℕ) (bot : Bot) (telling : Option Telling) (parting : Option Parting) → bot.telling ≡ telling → bot.parting ≡ parting → IsBotOf look seat bot → IsBotOf look seat (heard bytes bot)
  heard_by look seat bytes bot (Some telling) parting e f is =
      let started : IsStarted look seat bot.words (Some telling) = subst (IsStarted look seat bot.words) e is.started in
      subst (λ (w : Reading). IsBotOf look seat (record { sits = bot.sits; words = w; telling = bot.telling; parting = bot.parting })) (sym (over_reads bot.words bytes started.0)) is
  heard_by look seat bytes bot None None e f is = record {
    told = subst (IsToldBy look seat) (sym e) tt;
    started = subst (IsStarted look seat (heard bytes bot).words) (sym e) tt;
    parted = subst (IsParted look seat (heard bytes bot)) (sym f) tt;
  }
  heard_by look seat bytes bot None (Some Over) e f is =
      let over : IsOverFor look seat bot.words bot.telling = subst (IsParted look seat bot) f is.parted in
      absurd (subst (IsOverFor look seat bot.words) e over)
  heard_by look seat bytes bot None (Some Wait) e f is =
      let asked : IsParted look seat bot (Some Wait) = subst (IsParted look seat bot) f is.parted in
      record {
        told = subst (IsToldBy look seat) (sym e) tt;
        started = subst (IsStarted look seat (heard bytes bot).words) (sym e) tt;
        parted = subst (IsParted look seat (heard bytes bot)) (sym f) (asks_bytes bot.words bytes asked);
      }
  heard_by look seat bytes bot None (Some Other) e f is =
      let other : IsParted look seat bot (Some Other) = subst (IsParted look seat bot) f is.parted in
      subst (λ (w : Reading). IsBotOf look seat (record { sits = bot.sits; words = w; telling = bot.telling; parting = bot.parting })) (sym (over_reads bot.words bytes other.1.0)) is

  bot_heard : (look : Look N) (seat : ℕ) (bytes : List ℕ) (bot : Bot) → IsBotOf look seat bot → IsBotOf look seat (heard bytes bot)
  bot_heard look seat bytes bot is = heard_by look seat bytes bot bot.telling bot.parting refl refl is

  heard_since_by : (first : List Moment) (look : Look N) (seat : ℕ) (bytes : List ℕ) (bot : Bot) (telling : Option Telling) (parting : Option Parting) → bot.telling ≡ telling → bot.parting ≡ parting → IsBotOf look seat bot
      → IsSince first look seat bot (heard bytes bot)
  heard_since_by first look seat bytes bot (Some telling) parting e f is =
      let started : IsStarted look seat bot.words (Some telling) = subst (IsStarted look seat bot.words) e is.started in
      is_still first look seat bot (heard bytes bot) (reads_still bot bytes started.0) refl refl
  heard_since_by first look seat bytes bot None None e f is = record {
    begins = subst (BeginsSince first look seat bot (heard bytes bot)) (sym e) tt;
    parts = subst (PartsSince first look seat bot (heard bytes bot)) (sym f) tt;
  }
  heard_since_by first look seat bytes bot None (Some Over) e f is = record {
    begins = subst (BeginsSince first look seat bot (heard bytes bot)) (sym e) tt;
    parts = subst (PartsSince first look seat bot (heard bytes bot)) (sym f) tt;
  }
  heard_since_by first look seat bytes bot None (Some Wait) e f is = record {
    begins = subst (BeginsSince first look seat bot (heard bytes bot)) (sym e) tt;
    parts = subst (PartsSince first look seat bot (heard bytes bot)) (sym f) tt;
  }
  heard_since_by first look seat bytes bot None (Some Other) e f is =
      let other : IsParted look seat bot (Some Other) = subst (IsParted look seat bot) f is.parted in
      is_still first look seat bot (heard bytes bot) (reads_still bot bytes other.1.0) refl refl

  heard_since : (first : List Moment) (look : Look N) (seat : ℕ) (bytes : List ℕ) (bot : Bot) → IsBotOf look seat bot → IsSince first look seat bot (heard bytes bot)
  heard_since first look seat bytes bot is = heard_since_by first look seat bytes bot bot.telling bot.parting refl refl is

  new_since : (first : List Moment) (look : Look N) (seat : ℕ) (bot : Bot) → IsSince first look seat bot newcomer
  new_since first look seat bot = record { begins = tt; parts = tt }

  -- ---- something came, or a bot was let go of

  -- of one look
  pub keep_here : {look : Look N} {a b c : List Seat} → KeepBots look look a b → KeepBots look look b c → KeepBots look look a c
  keep_here {look} first then_on = keep_on (as_before look look refl) (as_before look look refl) first then_on

module _ {N : Type 0} where
  -- one bot goes on, by what holds now
  record GoesOnBot (look : Look N) (seat : ℕ) (old new : Bot) : Type 0 where
    stays : IsBotOf look seat old → IsBotOf look seat new
    since : IsBotOf look seat old → IsSince look.moments look seat old new

module _ {N : Type 0} where
  goes_same : (look : Look N) (seat : ℕ) (old new : Bot) → new ≡ old → GoesOnBot look seat old new
  goes_same look seat old new same = record { stays = λ is. subst (IsBotOf look seat) (sym same) is; since = λ is. is_same look.moments look seat old new same }

  -- so it is at all seats
  goes_all : (look : Look N) (old new : List Seat) → ((seat : ℕ) → GoesOnBot look seat (bot_at old seat) (bot_at new seat)) → KeepBots look look old new
  goes_all look old new each = record { stay = λ are seat. (each seat).stays (are seat); since = λ are seat. (each seat).since (are seat) }

  -- and where that is so of one seat, and the others are as they were
  goes_at : (look : Look N) (number : ℕ) (old new : List Seat) → GoesOnBot look number (bot_at old number) (bot_at new number) → ((seat : ℕ) → (seat ≡ number → ⊥) → bot_at new seat ≡ bot_at old seat) → KeepBots look look old new
  goes_at look number old new here others =
      goes_all look old new
      (λ seat. elim (eqb_tells seat number) as (λ _. GoesOnBot look seat (bot_at old seat) (bot_at new seat)) [
        | inl is ↦ subst (λ (n : ℕ). GoesOnBot look n (bot_at old n) (bot_at new n)) (sym is.1) here
        | inr not ↦ goes_same look seat (bot_at old seat) (bot_at new seat) (others seat not.1)
      ])

  goes_heard : (look : Look N) (seat : ℕ) (bytes : List ℕ) (old new : Bot) → new ≡ heard bytes old → GoesOnBot look seat old new
  goes_heard look seat bytes old new e =
      subst (GoesOnBot look seat old) (sym e) (record { stays = bot_heard look seat bytes old; since = heard_since look.moments look seat bytes old })

  goes_new : (look : Look N) (seat : ℕ) (old new : Bot) → new ≡ newcomer → GoesOnBot look seat old new
  goes_new look seat old new e = subst (GoesOnBot look seat old) (sym e) (record { stays = λ is. bot_new look seat; since = λ is. new_since look.moments look seat old })

  goes_gone : (look : Look N) (seat : ℕ) (old new : Bot) → new ≡ gone old → GoesOnBot look seat old new
  goes_gone look seat old new e = subst (GoesOnBot look seat old) (sym e) (record { stays = bot_gone look seat old; since = λ is. gone_since look.moments look seat old })

  pub bots_changed : (look : Look N) (notice : Option SeatNotice) (old new : List Seat) → Changes notice old new → KeepBots look look old new
  bots_changed look None old new changes = goes_all look old new (λ seat. goes_same look seat (bot_at old seat) (bot_at new seat) (changes seat))
  bots_changed look (Some (notices.Piece number bytes)) old new changes = goes_at look number old new (goes_heard look number bytes.items (bot_at old number) (bot_at new number) changes.0) changes.1
  bots_changed look (Some (notices.Came number)) old new changes = goes_at look number old new (goes_new look number (bot_at old number) (bot_at new number) changes.1.0) changes.1.1
  bots_changed look (Some (notices.Gone number)) old new changes = goes_at look number old new (goes_gone look number (bot_at old number) (bot_at new number) changes.0) changes.1
  bots_changed look (Some other) old new changes = goes_all look old new (λ seat. goes_same look seat (bot_at old seat) (bot_at new seat) (changes seat))

  -- ---- one of them was told something

  begun_there : (look : Look N) (table : Match) (seat : ℕ) (at : Cursor) (old new : Bot) → HadTable look table → StartsBy table seat old.words.asked old.words.named at → Begins at old new → IsBotOf look seat old → IsBotOf look seat new
  begun_there look table seat at old new had starts (inl same) is = subst (IsBotOf look seat) (sym same) is
  begun_there look table seat at old new had starts (inr (over, (silent, (none, e)))) is =
      subst (IsBotOf look seat) (sym e)
      (record {
        told = refl;
        started = (over, (table, (had, starts)));
        parted = subst (IsParted look seat (record old { telling = Some (telling_from at) })) (sym none) tt;
      })

  begun_since : (look : Look N) (table : Match) (seat : ℕ) (at : Cursor) (old new : Bot) → HadTableSince look.moments look table → StartsBy table seat old.words.asked old.words.named at → Begins at old new → IsSince look.moments look seat old new
  begun_since look table seat at old new had starts (inl same) = is_same look.moments look seat old new same
  begun_since look table seat at old new had starts (inr (over, (silent, (none, e)))) =
      subst (IsSince look.moments look seat old) (sym e)
      (record {
        begins = inr (table, (had, starts));
        parts = subst (PartsSince look.moments look seat old (record old { telling = Some (telling_from at) })) (sym none) tt;
      })

  pub bots_begun : (look : Look N) (table : Match) (seat : ℕ) (at : Cursor) (old new : List Seat) → HadTableSince look.moments look table → StartsBy table seat (bot_at old seat).words.asked (bot_at old seat).words.named at
      → Begins at (bot_at old seat) (bot_at new seat) → SaysAt seat old new → KeepBots look look old new
  bots_begun look table seat at old new had starts begins says =
      goes_at look seat old new
      (record { stays = λ is. begun_there look table seat at (bot_at old seat) (bot_at new seat) (has_had had) starts begins is; since = λ is. begun_since look table seat at (bot_at old seat) (bot_at new seat) had starts begins }) says.bots

  -- that its line is none
  other_there : (look : Look N) (table : Match) (seat : ℕ) (old new : Bot) → HadTable look table → IsRefusedBy table seat old.words.asked old.words.named → Parts Other old new → IsBotOf look seat old → IsBotOf look seat new
  other_there look table seat old new had refused (inl same) is = subst (IsBotOf look seat) (sym same) is
  other_there look table seat old new had refused (inr (none, (silent, e))) is =
      subst (IsBotOf look seat) (sym e) (record { told = is.told; started = is.started; parted = (silent.0, (silent.1, (table, (had, refused)))) })

  other_since : (look : Look N) (table : Match) (seat : ℕ) (old new : Bot) → HadTableSince look.moments look table → IsRefusedBy table seat old.words.asked old.words.named → Parts Other old new → IsSince look.moments look seat old new
  other_since look table seat old new had refused (inl same) = is_same look.moments look seat old new same
  other_since look table seat old new had refused (inr (none, (silent, e))) =
      subst (IsSince look.moments look seat old) (sym e)
      (record {
        begins = begins_still look.moments look seat old (record old { parting = Some Other }) old.telling (record { sits = λ sits. sits; words = refl }) refl;
        parts = inr (table, (had, refused));
      })

  pub bots_refused : (look : Look N) (table : Match) (seat : ℕ) (old new : List Seat) → HadTableSince look.moments look table → IsRefusedBy table seat (bot_at old seat).words.asked (bot_at old seat).words.named
      → Parts Other (bot_at old seat) (bot_at new seat) → SaysAt seat old new → KeepBots look look old new
  bots_refused look table seat old new had refused parts says =
      goes_at look seat old new
      (record { stays = λ is. other_there look table seat (bot_at old seat) (bot_at new seat) (has_had had) refused parts is; since = λ is. other_since look table seat (bot_at old seat) (bot_at new seat) had refused parts }) says.bots

  -- to come again later
  wait_there : (look : Look N) (seat : ℕ) (old new : Bot) → Parts Wait old new → IsBotOf look seat old → IsBotOf look seat new
  wait_there look seat old new (inl same) is = subst (IsBotOf look seat) (sym same) is
  wait_there look seat old new (inr (none, (resumed, e))) is =
      subst (IsBotOf look seat) (sym e) (record { told = is.told; started = is.started; parted = resumes_asks old.words.asked resumed })

  wait_since : (first : List Moment) (look : Look N) (seat : ℕ) (old new : Bot) → Parts Wait old new → IsSince first look seat old new
  wait_since first look seat old new (inl same) = is_same first look seat old new same
  wait_since first look seat old new (inr (none, (resumed, e))) =
      subst (IsSince first look seat old) (sym e)
      (record { begins = begins_still first look seat old (record old { parting = Some Wait }) old.telling (record { sits = λ sits. sits; words = refl }) refl; parts = tt })

  pub bots_put_off : (look : Look N) (seat : ℕ) (old new : List Seat) → Parts Wait (bot_at old seat) (bot_at new seat) → SaysAt seat old new → KeepBots look look old new
  bots_put_off look seat old new parts says =
      goes_at look seat old new
      (record { stays = λ is. wait_there look seat (bot_at old seat) (bot_at new seat) parts is; since = λ is. wait_since look.moments look seat (bot_at old seat) (bot_at new seat) parts }) says.bots

  -- that the match is over
  is_over_for : (look : Look N) (table : Match) (seat : ℕ) (at : Cursor) (words : Reading) (telling : Option Telling) (found : Telling) → telling ≡ Some found → found.next ≡ at → HadTable look table → (words.asked ≡ asks.Nothing → ⊥) → IsBehindAll table seat at
      → IsOverFor look seat words telling
  is_over_for look table seat at words telling found e f had asked behind =
      subst (IsOverFor look seat words) (sym e) (asked, (table, (had, subst (IsBehindAll table seat) (sym f) behind)))

  over_there : (look : Look N) (table : Match) (seat : ℕ) (at : Cursor) (old new : Bot) (found : Telling) → old.telling ≡ Some found → found.next ≡ at → HadTable look table → (old.words.asked ≡ asks.Nothing → ⊥) → IsBehindAll table seat at → Parts Over old new
      → IsBotOf look seat old → IsBotOf look seat new
  over_there look table seat at old new found e f had asked behind (inl same) is = subst (IsBotOf look seat) (sym same) is
  over_there look table seat at old new found e f had asked behind (inr (none, (may, is_new))) is =
      subst (IsBotOf look seat) (sym is_new) (record { told = is.told; started = is.started; parted = is_over_for look table seat at old.words old.telling found e f had asked behind })

  over_since : (first : List Moment) (look : Look N) (seat : ℕ) (old new : Bot) → Parts Over old new → IsSince first look seat old new
  over_since first look seat old new (inl same) = is_same first look seat old new same
  over_since first look seat old new (inr (none, (may, e))) =
      subst (IsSince first look seat old) (sym e)
      (record { begins = begins_still first look seat old (record old { parting = Some Over }) old.telling (record { sits = λ sits. sits; words = refl }) refl; parts = tt })

  pub bots_over : (look : Look N) (table : Match) (seat : ℕ) (at : Cursor) (old new : List Seat) (found : Telling) → (bot_at old seat).telling ≡ Some found → found.next ≡ at → HadTableSince look.moments look table
      → ((bot_at old seat).words.asked ≡ asks.Nothing → ⊥) → IsBehindAll table seat at → Parts Over (bot_at old seat) (bot_at new seat) → SaysAt seat old new → KeepBots look look old new
  bots_over look table seat at old new found e f had asked behind parts says =
      goes_at look seat old new
      (record { stays = λ is. over_there look table seat at (bot_at old seat) (bot_at new seat) found e f (has_had had) asked behind parts is; since = λ is. over_since look.moments look seat (bot_at old seat) (bot_at new seat) parts }) says.bots

  -- lines
  more_told : (look : Look N) (table : Match) (seat : ℕ) (old new : Option Telling) → HadTable look table → TellsMore table seat old new → IsToldBy look seat old → IsToldBy look seat new
  more_told look table seat None new had is told = subst (IsToldBy look seat) (sym is) tt
  more_told look table seat (Some old) new had (after, (is, (start, (lines, (more, tells))))) told =
      subst (IsToldBy look seat) (sym is)
      (subst (λ (c : Cursor). TellsFrom (HadTable look) seat c (lines_of after) after.next) (sym start)
      (subst (λ (ls : List (List ℕ)). TellsFrom (HadTable look) seat old.start ls after.next) (sym more)
      (tells_both (HadTable look) seat old.start old.next after.next (lines_of old) lines told
      (tells_such (λ other. other ≡ table) (HadTable look) (λ other same. subst (HadTable look) (sym same) had) seat old.next lines after.next tells))))

  more_started : (look : Look N) (table : Match) (seat : ℕ) (words : Reading) (old new : Option Telling) → HadTable look table → TellsMore table seat old new → IsStarted look seat words old → IsStarted look seat words new
  more_started look table seat words None new had is started = subst (IsStarted look seat words) (sym is) tt
  more_started look table seat words (Some old) new had (after, (is, (start, more))) started =
      subst (IsStarted look seat words) (sym is)
      (started.0, (started.1.0, (started.1.1.0, subst (StartsBy started.1.0 seat words.asked words.named) (sym start) started.1.1.1)))

  told_there : (look : Look N) (table : Match) (seat : ℕ) (old new : Bot) (parting : Option Parting) → old.parting ≡ parting → HadTable look table → TellsBot table seat old new → IsBotOf look seat old → IsBotOf look seat new
  told_there look table seat old new (Some parting) e had tells is = subst (IsBotOf look seat) (sym (tells.parted parting e)) is
  told_there look table seat old new None e had tells is = record {
    told = more_told look table seat old.telling new.telling had tells.told is.told;
    started = subst (λ (w : Reading). IsStarted look seat w new.telling) (sym tells.words) (more_started look table seat old.words old.telling new.telling had tells.told is.started);
    parted = subst (IsParted look seat new) (sym (tells.parting ∙ e)) tt;
  }

  told_since : (first : List Moment) (look : Look N) (table : Match) (seat : ℕ) (old new : Bot) → TellsBot table seat old new → IsSince first look seat old new
  told_since first look table seat old new tells =
      let is : IsStill old new = record { sits = λ sits. sym tells.sits ∙ sits; words = tells.words } in
      record {
        begins = more_since first look table seat old new old.telling new.telling is refl tells.told;
        parts = parts_still first look seat old new new.parting is (sym tells.parting);
      }

  pub bots_told : (look : Look N) (table : Match) (seat : ℕ) (old new : List Seat) → HadTableSince look.moments look table → TellsBot table seat (bot_at old seat) (bot_at new seat) → SaysAt seat old new → KeepBots look look old new
  bots_told look table seat old new had tells says =
      goes_at look seat old new
      (record { stays = λ is. told_there look table seat (bot_at old seat) (bot_at new seat) (bot_at old seat).parting refl (has_had had) tells is; since = λ is. told_since look.moments look table seat (bot_at old seat) (bot_at new seat) tells }) says.bots

  -- ---- where nothing was told

  pub bots_none : (look : Look N) (seats : List Seat) → ((seat : ℕ) → bot_at seats seat ≡ no_bot) → AreBotsOf look seats
  bots_none look seats none seat = subst (IsBotOf look seat) (sym (none seat)) (record { told = tt; started = tt; parted = tt })
