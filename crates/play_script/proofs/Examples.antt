-- What lines of a script say, worked out: each example computes, and a near miss says nothing.
use Rattle.std.proofs.Common.{◌≡◌, ℕ, ◌<◌, ◌≤◌, List, [], ◌∷◌, ◌++◌, refl, sym, subst, arith}
use Rattle.std.specs.Prelude.{codes}
use Rattle.std.specs.Fmt.{digits}
use Rattle.hex.specs.Hex.{encode_with}
use Rattle.play_script.specs.declared.bounds.Bounds.{Bounds}
use Rattle.play_script.specs.declared.order.Order.TheVariants.{Tick, Away, Flush, Connect}
use Rattle.matchstate.specs.Free.{IsFreeOf}
use Rattle.play_script.specs.Orders.{IsNumber, Names, NamesSeat, AddressesSeat, SaysBehind, Says}
use Rattle.play_script.specs.Shown.{whole_line, frame_text, seat_text, node_text}
use Rattle.play_script.proofs.Numbers.{number_free}

abbrev bounds : Bounds
bounds = record { nodes = 3; seats = 2; frames = 10 }

-- ---- numbers

nine : IsNumber (codes "0009") 9
nine = record { digits = refl; some = omega arith; value = refl; fits = omega arith }

zero_is_a_number : IsNumber (codes "0") 0
zero_is_a_number = record { digits = refl; some = omega arith; value = refl; fits = omega arith }

no_digits : IsNumber [] 0 → ⊥
no_digits is = let some : 1 ≤ 0 = is.some in absurd (omega arith)

no_sign : (number : ℕ) → ¬ (IsNumber (codes "+0") number)
no_sign number is = let e = is.digits in cc

-- ---- lines

second_ticks : Says bounds (codes "tick 2") (Tick 2)
second_ticks = (codes "2", refl, (record { digits = refl; some = omega arith; value = refl; fits = omega arith }, omega arith))

first_is_ordered : Says bounds (codes "away 0") (Away 0)
first_is_ordered = (codes "0", refl, (zero_is_a_number, omega arith))

-- an order is to one of the nodes
no_order_elsewhere : SaysBehind bounds (codes "3") (Away 3) → ⊥
no_order_elsewhere says = let node : 3 < 3 = says.1 in absurd (omega arith)

flushes : Says bounds (codes "flush 0009") (Flush 9)
flushes = (codes "0009", refl, nine)

both_numbers : Says bounds (codes "connect 0 1") (Connect 0 1)
both_numbers = (
  codes "0 1",
  refl,
  (
    codes "0",
    codes "1",
    refl,
    (zero_is_a_number, omega arith),
    (record { digits = refl; some = omega arith; value = refl; fits = omega arith }, omega arith),
  ),
)

-- the text is all that stands behind the second space
text_with_a_space : AddressesSeat bounds (codes "0 0  a ") 0 0 (codes " a ")
text_with_a_space = (codes "0", codes "0", refl, (zero_is_a_number, omega arith), (zero_is_a_number, omega arith))

-- of three nodes none is the fourth
no_fourth_node : (number : ℕ) → ¬ (Names 3 (codes "3") number)
no_fourth_node number names = omega (arith, names.0.value, names.1)

no_pick_for_a_connection : SaysBehind bounds (codes "0 7") (Connect 0 7) → ⊥
no_pick_for_a_connection says = let seat : 7 < 2 = says.4.1 in absurd (omega arith)

-- two spaces between two numbers are one too many
one_space : (node seat : ℕ) → ¬ (NamesSeat bounds (codes "0  1") node seat)
one_space node seat says = split says.0 says.1 node seat says.2 says.3.0 says.4.0
  where
    split : (front behind : List ℕ) (node seat : ℕ) → codes "0  1" ≡ front ++ 32 ∷ behind → IsNumber front node → IsNumber behind seat → ⊥
    split [] behind node seat is first second = let some : 1 ≤ 0 = first.some in absurd (omega arith)
    split (a ∷ []) behind node seat is first second =
        let rest : 32 ∷ 49 ∷ [] ≡ behind = cc in
        let free = subst (IsFreeOf 32) (sym rest) (number_free behind seat second) in
        free.0 refl
    split (a ∷ b ∷ front) behind node seat is first second =
        let space : b ≡ 32 = cc in
        (number_free (a ∷ b ∷ front) node first).1.0 space

-- ---- what comes of it

frame : whole_line (frame_text 9 0 1 (0 ∷ 171 ∷ [])) ≡ codes "frame 9 0>1 00ab\n"
unfolding digits encode_with
frame = refl

line_of_a_seat : whole_line (seat_text 0 1 (codes "MATCHSTATE:1:0::|8hTc")) ≡ codes "0 1 MATCHSTATE:1:0::|8hTc\n"
unfolding digits
line_of_a_seat = refl

line_of_a_log : whole_line (node_text 2 (codes "L") (codes "SCORE:0|0:a|b")) ≡ codes "2 L SCORE:0|0:a|b\n"
unfolding digits
line_of_a_log = refl

fault_of_a_seat : whole_line (seat_text 1 0 (codes "E " ++ codes "83 NotYourTurn")) ≡ codes "1 0 E 83 NotYourTurn\n"
unfolding digits
fault_of_a_seat = refl
