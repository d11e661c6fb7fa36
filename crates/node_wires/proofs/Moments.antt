-- What one more passage leaves of the order of moments.
use Rattle.std.proofs.Common.{◌≡◌, ℕ, ◌≤◌, Bool, true, false, List, [], ◌∷◌, ◌++◌, refl, ap, ◌∙◌, arith}
use Rattle.std.specs.Prelude.{◌&&◌, nat_le}
use Rattle.std.proofs.lemmas.Bool.{leb-true, le-leb}
use Rattle.node_wires.specs.declared.line.Line.{Line}
use Rattle.node_wires.specs.declared.way.Way.{Way}
use Rattle.node_wires.specs.declared.halt.Halt.{Halt}
use Rattle.node_wires.specs.declared.halt.Halt.TheVariants as halts
use Rattle.node_wires.specs.Passages.{Passage, Began, Came, Wrote, Gave, Logged, Tried, Ended, Closed, Saw, Waited, Called, halted_as, latest_by, latest_behind, latest_in, comes_behind, come_behind}
use Rattle.node_wires.specs.Moments.{IsTimely}

latest_both : (before : ℕ) (xs : List Passage) (p : Passage) → latest_behind before (xs ++ p ∷ []) ≡ latest_by (latest_behind before xs) p
latest_both before [] p = refl
latest_both before (x ∷ xs) p = latest_both (latest_by before x) xs p

and_true : (b : Bool) → (b && true) ≡ b
and_true true = refl
and_true false = refl

-- a passage that is no look at the clock
order_both : (before : ℕ) (xs : List Passage) (p : Passage) → ((n : ℕ) → comes_behind n p ≡ true) → come_behind before (xs ++ p ∷ []) ≡ come_behind before xs
order_both before [] p is = ap (λ (b : Bool). b && true) (is before)
order_both before (x ∷ xs) p is = ap (λ (b : Bool). comes_behind before x && b) (order_both (latest_by before x) xs p is)

pub latest_began : (passed : List Passage) (line : Line) → latest_in (passed ++ Began line ∷ []) ≡ latest_in passed
latest_began passed line = latest_both 0 passed (Began line)

pub order_began : (passed : List Passage) (line : Line) → come_behind 0 (passed ++ Began line ∷ []) ≡ come_behind 0 passed
order_began passed line = order_both 0 passed (Began line) (λ n. refl)

pub latest_came : (passed : List Passage) (line : Line) (bytes : List ℕ) → latest_in (passed ++ Came line bytes ∷ []) ≡ latest_in passed
latest_came passed line bytes = latest_both 0 passed (Came line bytes)

pub order_came : (passed : List Passage) (line : Line) (bytes : List ℕ) → come_behind 0 (passed ++ Came line bytes ∷ []) ≡ come_behind 0 passed
order_came passed line bytes = order_both 0 passed (Came line bytes) (λ n. refl)

pub latest_wrote : (passed : List Passage) (line : Line) (bytes : List ℕ) → latest_in (passed ++ Wrote line bytes ∷ []) ≡ latest_in passed
latest_wrote passed line bytes = latest_both 0 passed (Wrote line bytes)

pub order_wrote : (passed : List Passage) (line : Line) (bytes : List ℕ) → come_behind 0 (passed ++ Wrote line bytes ∷ []) ≡ come_behind 0 passed
order_wrote passed line bytes = order_both 0 passed (Wrote line bytes) (λ n. refl)

pub latest_gave : (passed : List Passage) (place seat : ℕ) → latest_in (passed ++ Gave place seat ∷ []) ≡ latest_in passed
latest_gave passed place seat = latest_both 0 passed (Gave place seat)

pub order_gave : (passed : List Passage) (place seat : ℕ) → come_behind 0 (passed ++ Gave place seat ∷ []) ≡ come_behind 0 passed
order_gave passed place seat = order_both 0 passed (Gave place seat) (λ n. refl)

pub latest_logged : (passed : List Passage) (text : List ℕ) → latest_in (passed ++ Logged text ∷ []) ≡ latest_in passed
latest_logged passed text = latest_both 0 passed (Logged text)

pub order_logged : (passed : List Passage) (text : List ℕ) → come_behind 0 (passed ++ Logged text ∷ []) ≡ come_behind 0 passed
order_logged passed text = order_both 0 passed (Logged text) (λ n. refl)

pub latest_closed : (passed : List Passage) (line : Line) → latest_in (passed ++ Closed line ∷ []) ≡ latest_in passed
latest_closed passed line = latest_both 0 passed (Closed line)

pub order_closed : (passed : List Passage) (line : Line) → come_behind 0 (passed ++ Closed line ∷ []) ≡ come_behind 0 passed
order_closed passed line = order_both 0 passed (Closed line) (λ n. refl)

pub latest_waited : (passed : List Passage) (most : ℕ) → latest_in (passed ++ Waited most ∷ []) ≡ latest_in passed
latest_waited passed most = latest_both 0 passed (Waited most)

pub order_waited : (passed : List Passage) (most : ℕ) → come_behind 0 (passed ++ Waited most ∷ []) ≡ come_behind 0 passed
order_waited passed most = order_both 0 passed (Waited most) (λ n. refl)

pub latest_called : (passed : List Passage) → latest_in (passed ++ Called ∷ []) ≡ latest_in passed
latest_called passed = latest_both 0 passed Called

pub order_called : (passed : List Passage) → come_behind 0 (passed ++ Called ∷ []) ≡ come_behind 0 passed
order_called passed = order_both 0 passed Called (λ n. refl)

pub latest_halted : (passed : List Passage) (way : Way) (line : Line) (halt : Halt) → latest_in (passed ++ halted_as way line halt ∷ []) ≡ latest_in passed
latest_halted passed way line halts.Later = latest_both 0 passed (Tried line way)
latest_halted passed way line halts.Ended = latest_both 0 passed (Ended line way)

pub order_halted : (passed : List Passage) (way : Way) (line : Line) (halt : Halt) → come_behind 0 (passed ++ halted_as way line halt ∷ []) ≡ come_behind 0 passed
order_halted passed way line halts.Later = order_both 0 passed (Tried line way) (λ n. refl)
order_halted passed way line halts.Ended = order_both 0 passed (Ended line way) (λ n. refl)

both_true : (x y z : Bool) → (x && y) ≡ true → (y ≡ true → z ≡ true) → (x && z) ≡ true
both_true true y z are then = then are
both_true false y z are then = are

-- a look at it that shows this moment
order_seen : (before : ℕ) (xs : List Passage) (moment : ℕ) → come_behind before xs ≡ true → nat_le (latest_behind before xs) moment ≡ true → come_behind before (xs ++ Saw moment ∷ []) ≡ true
order_seen before [] moment are is = ap (λ (b : Bool). b && true) is
order_seen before (x ∷ xs) moment are is = both_true (comes_behind before x) (come_behind (latest_by before x) xs) (come_behind (latest_by before x) (xs ++ Saw moment ∷ [])) are (λ rest. order_seen (latest_by before x) xs moment rest is)

pub timely_seen : (moment : ℕ) (old new : List Passage) → new ≡ old ++ Saw moment ∷ [] → IsTimely moment old → IsTimely moment new
timely_seen moment old new is timely =
    let e : latest_in new ≡ moment = ap latest_in is ∙ latest_both 0 old (Saw moment) in
    (ap (come_behind 0) is ∙ order_seen 0 old moment timely.0 timely.1, ap (λ (n : ℕ). nat_le n moment) e ∙ le-leb moment moment (omega arith))

-- at a later moment
pub timely_later : (moment later : ℕ) (passed : List Passage) → moment ≤ later → IsTimely moment passed → IsTimely later passed
timely_later moment later passed within timely =
    let reached : latest_in passed ≤ moment = leb-true (latest_in passed) moment timely.1 in
    (timely.0, le-leb (latest_in passed) later (omega (arith, reached, within)))

pub reached : (moment : ℕ) (passed : List Passage) → IsTimely moment passed → latest_in passed ≤ moment
reached moment passed timely = leb-true (latest_in passed) moment timely.1
