-- What a relay knows is what follows from what happened to it.
use Rattle.std.proofs.Common.{◌≡◌, ℕ, List, [], ◌∷◌, ◌++◌, refl, sym, ap, ◌∙◌}
use Rattle.seat_relay.specs.declared.mode.Mode.{Mode}
use Rattle.seat_relay.specs.Relaying.{Standing, Event, happens, after}
use Rattle.seat_relay.specs.Laws.{fresh}

after_and : (s : Standing) (events : List Event) (e : Event) → after s (events ++ e ∷ []) ≡ happens (after s events) e
unfolding after
after_and s [] e = refl
after_and s (first ∷ events) e = after_and (happens s first) events e

pub after_nothing : (mode : Mode) (nodes : ℕ) (now : Standing) (events : List Event) → now ≡ fresh mode nodes → events ≡ [] → now ≡ after (fresh mode nodes) events
unfolding after
after_nothing mode nodes now events is none = is ∙ ap (after (fresh mode nodes)) (sym none)

pub after_one_more : (mode : Mode) (nodes : ℕ) (old now : Standing) (events more : List Event) (e : Event) → old ≡ after (fresh mode nodes) events → now ≡ happens old e → more ≡ events ++ e ∷ []
    → now ≡ after (fresh mode nodes) more
after_one_more mode nodes old now events more e was happened put =
    happened ∙ (ap (λ (at : Standing). happens at e) was ∙ (sym (after_and (fresh mode nodes) events e) ∙ ap (after (fresh mode nodes)) (sym put)))
