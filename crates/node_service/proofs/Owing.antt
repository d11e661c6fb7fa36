-- What there is to tell the bots of seats was told, call by call.
use Rattle.std.proofs.Common.{◌≡◌, inl, inr, ℕ, ◌<◌, ◌≤◌, ◌+◌, true, false, List, ◌++◌, length, ap, sym, subst, ◌∙◌, arith}
use Rattle.std.proofs.lemmas.Bool.Decides.{eqb_tells}
use Rattle.std.proofs.lemmas.List.{length-append}
use Rattle.std.specs.Prelude.{Option, Some, None, IfSome, IsSome, IsSomeAnd}
use Rattle.slot_log.specs.Hand.{Match}
use Rattle.line_cursor.specs.declared.cursor.Cursor.{Cursor}
use Rattle.dealer_node.specs.Nodes.{Node}
use Rattle.dealer_node.specs.Seeing.{table_in}
use Rattle.stations.specs.Stations.{Look}
use Rattle.node_seats.specs.declared.bot.Bot.{Bot}
use Rattle.node_seats.specs.declared.bot.Parting.{Parting}
use Rattle.node_seats.specs.declared.bot.Parting.TheVariants.{Over}
use Rattle.node_seats.specs.declared.bot.Telling.{Telling}
use Rattle.node_seats.specs.declared.seat.Seat.{Seat}
use Rattle.node_seats.specs.Seating.{bot_at, waits_at, KeepsOtherBots}
use Rattle.node_seats.specs.Telling.{HasAll, IsToldAll, Parts, SaysMore}
use Rattle.node_service.specs.Bots.{IsBehindAll, IsToldOver, OfTable, IsServedAt, AreServed}

-- ---- one bot

-- it was told the end, or nothing
more_waits : (table : Match) (seat : ℕ) (telling : Option Telling) (waits more waiting : List ℕ) → waiting ≡ waits ++ more → IfSome telling (λ (t : Telling). HasAll table seat t waits) → IfSome telling (λ (t : Telling). HasAll table seat t waiting)
more_waits table seat None waits more waiting e all = tt
more_waits table seat (Some telling) waits more waiting e (inl none) = inl none
more_waits table seat (Some telling) waits more waiting e (inr full) = inr (omega (arith, full, ap length e ∙ length-append waits more))

pub told_ended : (seat : ℕ) (old new : Bot) (waits_old waits_new : List ℕ) → Parts Over old new → SaysMore old new waits_old waits_new → (table : Match) → IsToldAll table seat old waits_old → IsToldAll table seat new waits_new
told_ended seat old new waits_old waits_new (inl same) says table all =
    subst (λ (b : Bot). IsToldAll table seat b waits_new) (sym same) (λ sits none. more_waits table seat old.telling waits_old says.more waits_new says.waits (all sits none))
told_ended seat old new waits_old waits_new (inr (none_old, (may, e))) says table all = λ sits none. absurd (cc (ap (λ (b : Bot). b.parting) e, none))

-- its next line is not behind all lines of the table
not_behind : (table : Match) (seat : ℕ) (next : Cursor) (telling : Option Telling) (parting : Option Parting) → IsSomeAnd telling (λ (t : Telling). t.next ≡ next)
    → (IsBehindAll table seat next → ⊥) → IfSome telling (λ (t : Telling). IsBehindAll table seat t.next → IsSome parting)
not_behind table seat next None parting found before = absurd found
not_behind table seat next (Some telling) parting found before = λ behind. absurd (before (subst (IsBehindAll table seat) found behind))

not_both : (parting : Option Parting) → IsSome parting → parting ≡ None → ⊥
not_both None some none = absurd cc
not_both (Some parting) some none = absurd cc

over_parted : (table : Match) (seat : ℕ) (telling : Option Telling) (parting : Option Parting) → IsSome parting → IfSome telling (λ (t : Telling). IsBehindAll table seat t.next → IsSome parting)
over_parted table seat None parting some = tt
over_parted table seat (Some telling) parting some = λ behind. some

-- ---- by the table of a node

module _ {D : Type 0} where
  pub over_before : (look : Look (Node D)) (node : Node D) (table : Match) (seat : ℕ) (next : Cursor) (bot : Bot) → node ≡ look.node → table ≡ table_in node
      → IsSomeAnd bot.telling (λ (t : Telling). t.next ≡ next) → (IsBehindAll table seat next → ⊥) → OfTable look (λ table. seat < table.game.players → IsToldOver table seat bot)
  over_before look node table seat next bot same is found before within sits asked =
      not_behind (table_in look.node) seat next bot.telling bot.parting found
      (λ behind. before (subst (λ (t : Match). IsBehindAll t seat next) (sym (is ∙ ap table_in same)) behind))

  pub served_gone : (look : Look (Node D)) (seat : ℕ) (bot : Bot) (waits : List ℕ) → bot.sits ≡ false → IsServedAt look seat bot waits
  served_gone look seat bot waits gone_is within ready =
      (λ sits over none silent. absurd (cc (gone_is, sits)), λ sits none. absurd (cc (gone_is, sits)), λ sits asked. absurd (cc (gone_is, sits)))

  -- one that sits there was told why it is told no lines
  pub served_parted : (look : Look (Node D)) (seat : ℕ) (bot : Bot) (waits : List ℕ) → (bot.sits ≡ true → IsSome bot.parting) → IsServedAt look seat bot waits
  served_parted look seat bot waits parted within ready = (
    λ sits over none silent. absurd (not_both bot.parting (parted sits) none),
    λ sits none. absurd (not_both bot.parting (parted sits) none),
    λ sits asked. over_parted (table_in look.node) seat bot.telling bot.parting (parted sits),
  )

  -- ---- one seat after the other

  pub served_next : (look : Look (Node D)) (number : ℕ) (old new : List Seat) → ((seat : ℕ) → seat < number → IsServedAt look seat (bot_at old seat) (waits_at old seat)) → KeepsOtherBots number old new
      → IsServedAt look number (bot_at new number) (waits_at new number) → (seat : ℕ) → seat < number + 1 → IsServedAt look seat (bot_at new seat) (waits_at new seat)
  served_next look number old new before others here seat within = elim (eqb_tells seat number) as (λ _. IsServedAt look seat (bot_at new seat) (waits_at new seat)) [
    | inl same ↦ subst (λ (n : ℕ). IsServedAt look n (bot_at new n) (waits_at new n)) (sym same.1) here
    | inr differs ↦
        let kept = others seat differs.1 in
        subst (λ (b : Bot). IsServedAt look seat b (waits_at new seat)) (sym kept.0) (subst (λ (w : List ℕ). IsServedAt look seat (bot_at old seat) w) (sym kept.1) (before seat (omega (arith, within, differs.1))))
  ]

  pub all_served : (look : Look (Node D)) (count : ℕ) (seats : List Seat) → ((seat : ℕ) → seat < count → IsServedAt look seat (bot_at seats seat) (waits_at seats seat)) → look.config.setting.game.players ≤ count → AreServed look seats
  all_served look count seats served most seat within ready = served seat (omega (arith, within, most)) within ready

pub others_on : (number : ℕ) (one two three : List Seat) → KeepsOtherBots number one two → KeepsOtherBots number two three → KeepsOtherBots number one three
others_on number one two three first then_on seat differs =
    let early = first seat differs in
    let late = then_on seat differs in
    (late.0 ∙ early.0, late.1 ∙ early.1)
