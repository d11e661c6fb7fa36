-- Cards from the highest down are different cards.
use Rattle.std.proofs.Common.{◌≡◌, ℕ, ◌<◌, [], ◌∷◌, false, nat_eq, arith}
use Rattle.std.specs.List.{IsDistinct}
use Rattle.std.proofs.lemmas.Bool.{ne_eqb}

lower : (x y : ℕ) → y < x → nat_eq x y ≡ false
lower x y less = ne_eqb x y (λ same. omega arith)

pub down_is_distinct : (a b c d e f g : ℕ) → b < a → c < b → d < c → e < d → f < e → g < f → IsDistinct nat_eq (a ∷ b ∷ c ∷ d ∷ e ∷ f ∷ g ∷ [])
unfolding IsDistinct
down_is_distinct a b c d e f g hb hc hd he hf hg = (
  (lower a b (omega arith), (lower a c (omega arith), (lower a d (omega arith), (lower a e (omega arith), (lower a f (omega arith), (lower a g (omega arith), tt)))))),
  (
    (lower b c (omega arith), (lower b d (omega arith), (lower b e (omega arith), (lower b f (omega arith), (lower b g (omega arith), tt))))),
    (
      (lower c d (omega arith), (lower c e (omega arith), (lower c f (omega arith), (lower c g (omega arith), tt)))),
      (
        (lower d e (omega arith), (lower d f (omega arith), (lower d g (omega arith), tt))),
        (
          (lower e f (omega arith), (lower e g (omega arith), tt)),
          (
            (lower f g (omega arith), tt),
            (tt, tt),
          ),
        ),
      ),
    ),
  ),
)
