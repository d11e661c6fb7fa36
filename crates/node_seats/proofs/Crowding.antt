-- Who was turned away, call by call.
use Rattle.std.proofs.Common.{◌≡◌, ℕ, Bool, false, Option, None, refl, sym, subst}
use Rattle.node_seats.specs.declared.crowds.Crowds.{Crowds}
use Rattle.node_seats.specs.Crowding.{CountsAway, MakesRoom, CountsCalled}

pub nobody_counted : (turned_away : Bool) (made_room : Option ℕ) (seat now : ℕ) (crowds : Crowds) → turned_away ≡ false → made_room ≡ None → CountsCalled turned_away made_room seat now crowds crowds
nobody_counted turned_away made_room seat now crowds stays none =
    (crowds, (subst (λ (is : Bool). CountsAway is seat now crowds crowds) (sym stays) refl, subst (λ (room : Option ℕ). MakesRoom room now crowds crowds) (sym none) refl))
