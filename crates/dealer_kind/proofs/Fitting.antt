-- What fits the protocol's dealer fits the table.
use Rattle.std.proofs.Common.{◌≡◌, ◌↔◌, true, Option, Some, None, List, refl, ap}
use Rattle.std.specs.Prelude.{is_none}
use Rattle.slot_log.specs.Dealer.{Fits, reason_of}
use Rattle.slot_log.specs.declared.command.Command.{Command}
use Rattle.slot_log.specs.Laws.{FitsWithoutReason}
use Rattle.dealer_kind.specs.Kind.{Setting, hands_after, fits}

pub none_then : {X : Type 0} (found : Option X) → is_none found ≡ true → found ≡ None
none_then None is = refl
none_then (Some x) is = absurd cc

pub fitting : FitsWithoutReason → (setting : Setting) (before : List Command) (command : Command)
    → (fits setting before command ≡ true) ↔ Fits setting.game setting.title.hands (hands_after setting before) command
fitting law setting before command =
    let exact = law setting.game setting.title.hands (hands_after setting before) command in (
      (λ is. exact.1 (none_then (reason_of setting.game setting.title.hands (hands_after setting before) command) is)),
      (λ fits. ap is_none (exact.0 fits)),
    )
