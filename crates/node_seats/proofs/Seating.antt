-- What waits for a seat, and who sits there, where one of the seats is another.
use Rattle.std.proofs.Common.{◌≡◌, ◌≢◌, ◌⊎◌, inl, inr, ℕ, ◌<◌, ◌≤◌, true, false, eqb, List, [], ◌∷◌, ◌++◌, zero, suc, refl, set, get_or, length, ap, sym, ◌∙◌, arith}
use Rattle.std.specs.Prelude.{Option}
use Rattle.std.proofs.lemmas.Bool.Decides.{eqb_tells}
use Rattle.std.proofs.lemmas.List.{get_or-set_same, get_or-set_other, get_or_default, get_or_past}
use Rattle.node_wires.specs.Passages.{Passage}
use Rattle.node_seats.specs.declared.seat.Seat.{Seat}
use Rattle.node_seats.specs.declared.seat_notice.SeatNotice.{SeatNotice}
use Rattle.node_seats.specs.Passing.{ReadsSeat}
use Rattle.node_seats.specs.Seating.{nobody, no_bot, waits_at, bot_at, sits_at}

pub waits_here : (seats : List Seat) (number : ℕ) (seat : Seat) → number < length seats → waits_at (set seats number seat) number ≡ seat.waiting.waiting
waits_here seats number seat within = ap (λ (s : Seat). s.waiting.waiting) (get_or-set_same seats number seat nobody within)

pub waits_elsewhere : (seats : List Seat) (number other : ℕ) (seat : Seat) → other ≢ number → waits_at (set seats number seat) other ≡ waits_at seats other
waits_elsewhere seats number other seat differs = ap (λ (s : Seat). s.waiting.waiting) (get_or-set_other seats number other seat nobody differs)

pub bot_here : (seats : List Seat) (number : ℕ) (seat : Seat) → number < length seats → bot_at (set seats number seat) number ≡ seat.bot
bot_here seats number seat within = ap (λ (s : Seat). s.bot) (get_or-set_same seats number seat nobody within)

pub bot_elsewhere : (seats : List Seat) (number other : ℕ) (seat : Seat) → other ≢ number → bot_at (set seats number seat) other ≡ bot_at seats other
bot_elsewhere seats number other seat differs = ap (λ (s : Seat). s.bot) (get_or-set_other seats number other seat nobody differs)

bot_by : (seats : List Seat) (number q : ℕ) (seat : Seat) → number < length seats → seat.bot ≡ bot_at seats number → ((eqb q number ≡ true) × (q ≡ number)) ⊎ ((eqb q number ≡ false) × (q ≢ number))
    → bot_at (set seats number seat) q ≡ bot_at seats q
bot_by seats number q seat within same (inl here) =
    ap (λ (n : ℕ). bot_at (set seats number seat) n) here.1 ∙ (bot_here seats number seat within ∙ (same ∙ ap (λ (n : ℕ). bot_at seats n) (sym here.1)))
bot_by seats number q seat within same (inr elsewhere) = bot_elsewhere seats number q seat elsewhere.1

pub bots_alike : (seats : List Seat) (number : ℕ) (seat : Seat) → number < length seats → seat.bot ≡ bot_at seats number → (q : ℕ) → bot_at (set seats number seat) q ≡ bot_at seats q
bots_alike seats number seat within same q = bot_by seats number q seat within same (eqb_tells q number)

-- one seat more for which nothing waits
pub one_empty : (seats : List Seat) (one : Seat) → one.waiting.waiting ≡ [] → ((seat : ℕ) → waits_at seats seat ≡ []) → (seat : ℕ) → waits_at (seats ++ one ∷ []) seat ≡ []
one_empty [] one empty none zero = empty
one_empty [] one empty none (suc seat) = refl
one_empty (first ∷ seats) one empty none zero = none 0
one_empty (first ∷ seats) one empty none (suc seat) = one_empty seats one empty (λ other. none (suc other)) seat

-- and where nobody sits
pub one_nobody : (seats : List Seat) (one : Seat) → one.bot ≡ no_bot → ((seat : ℕ) → bot_at seats seat ≡ no_bot) → (seat : ℕ) → bot_at (seats ++ one ∷ []) seat ≡ no_bot
one_nobody [] one empty none zero = empty
one_nobody [] one empty none (suc seat) = refl
one_nobody (first ∷ seats) one empty none zero = none 0
one_nobody (first ∷ seats) one empty none (suc seat) = one_nobody seats one empty (λ other. none (suc other)) seat

-- ---- where somebody sits

-- of one of the seats it is read as of that one alone
pub reads_there : (seats : List Seat) (number : ℕ) (seat : Seat) (notice : Option SeatNotice) (old new : List Passage) → number < length seats → seat ≡ get_or seats number seat → (seat.bot.sits ≡ true → ReadsSeat number notice old new)
    → sits_at seats number ≡ true → ReadsSeat number notice old new
reads_there seats number seat notice old new within found reads sits = reads (ap (λ (s : Seat). s.bot.sits) (found ∙ get_or_default seats number seat nobody within) ∙ sits)

-- nobody sits beyond them
pub sits_within : (seats : List Seat) (number : ℕ) → sits_at seats number ≡ true → number < length seats
sits_within [] number sits = let never : false ≡ true = ap (λ (s : Seat). s.bot.sits) (sym (get_or_past [] number nobody (omega arith))) ∙ sits in absurd cc
sits_within (first ∷ seats) zero sits = omega arith
sits_within (first ∷ seats) (suc number) sits = let within : number < length seats = sits_within seats number sits in omega (arith, within)

pub reads_nowhere : (seats : List Seat) (number : ℕ) (notice : Option SeatNotice) (old new : List Passage) → length seats ≤ number → sits_at seats number ≡ true → ReadsSeat number notice old new
reads_nowhere seats number notice old new beyond sits = let within : number < length seats = sits_within seats number sits in absurd (omega (arith, beyond, within))
