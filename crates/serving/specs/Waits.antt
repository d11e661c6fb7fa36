-- Of what waits there is one proof at most.
use Rattle.std.specs.Prelude.{◌≡◌, ℕ, List, length, Option, Some}
use Rattle.std.specs.Coded.{Coded, Coded-set, coded_ℕ, coded_list, coded×, coded_option, code_by, ×_prop, Π_prop, →_prop, Unit-prop}
use Rattle.std.proofs.Common.{refl}
use Rattle.dealer_world.specs.declared.event.Event.{Event}
use Rattle.dealer_world.specs.declared.event.Event.TheVariants as event
use Rattle.dealer_world.specs.Records.{Frame}
use Rattle.dealer_world.specs.Stepping.{View, for_prop}
use Rattle.serving.specs.declared.waiting.Waiting.{Waiting}
use Rattle.serving.specs.Turning.{IsSent, IsWaiting}

coded_frame : Coded Frame
coded_frame = code_by (ℕ × (ℕ × List ℕ)) (coded× coded_ℕ (coded× coded_ℕ (coded_list coded_ℕ))) (λ f. (f.from, (f.to, f.bytes)))
    (λ p. record { from = p.0; to = p.1.0; bytes = p.1.1 }) (λ _. refl)

sent_prop : (sent : List Frame) (number : ℕ) (e : Event) → IsProp (IsSent sent number e)
sent_prop sent number (event.Frame from to bytes) = Coded-set (coded_option coded_frame) _ _
sent_prop sent number (event.Line node seat bytes) = Unit-prop
sent_prop sent number (event.Tick node) = Unit-prop
sent_prop sent number (event.Away node) = Unit-prop
sent_prop sent number (event.Connect node seat) = Unit-prop
sent_prop sent number (event.Drop node seat) = Unit-prop
sent_prop sent number (event.Stop node pick) = Unit-prop
sent_prop sent number (event.Start node) = Unit-prop

waiting_prop : {N : Type 0} (view : View N) (w : Waiting) → IsProp (IsWaiting view w)
waiting_prop view w = ×_prop (for_prop (length view.config.sources) view.config.setting.game.players w.event) (sent_prop view.all.sent w.number w.event)

-- of an event that waits, if any
pub waits_prop : {N : Type 0} (view : View N) (waiting : Option Waiting) → IsProp ((w : Waiting) → waiting ≡ Some w → IsWaiting view w)
waits_prop view waiting = Π_prop (λ w. →_prop (waiting_prop view w))
