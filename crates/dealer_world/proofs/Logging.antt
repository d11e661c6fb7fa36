-- The log of a start, piece by piece.
use Rattle.std.proofs.Common.{◌≡◌, ℕ, zero, suc, ◌+◌, Some, List, [], ◌∷◌, ◌++◌, reverse, take, slice_get, ap, sym, ◌∙◌, append_assoc, arith}
use Rattle.std.proofs.lemmas.List.{reverse-append, append-nil}
use Rattle.std.proofs.lemmas.Option.{same_Some}
use Rattle.dealer_world.specs.Records.{Piece, logged_by, log_in, log_of}

-- what came later stands behind
log_in_append : (later before : List Piece) (node start : ℕ) → log_in (later ++ before) node start ≡ log_in before node start ++ log_in later node start
log_in_append [] before node start = sym (append-nil (log_in before node start))
log_in_append (latest ∷ later) before node start =
    ap (λ log. log ++ logged_by latest.reader latest node start) (log_in_append later before node start)
    ∙ append_assoc (log_in before node start) (log_in later node start) (logged_by latest.reader latest node start)

log_of_append : (first more : List Piece) (node start : ℕ) → log_of (first ++ more) node start ≡ log_of first node start ++ log_of more node start
log_of_append first more node start =
    ap (λ pieces. log_in pieces node start) (reverse-append first more) ∙ log_in_append (reverse more) (reverse first) node start

-- a log that has these pieces, and then those behind them
pub joined : (first more : List Piece) (node start : ℕ) (old now after : List ℕ) → now ≡ old ++ log_of first node start → after ≡ now ++ log_of more node start
    → after ≡ old ++ log_of (first ++ more) node start
joined first more node start old now after is added =
    added
    ∙ (ap (λ log. log ++ log_of more node start) is
    ∙ (append_assoc old (log_of first node start) (log_of more node start) ∙ ap (λ log. old ++ log) (sym (log_of_append first more node start))))

-- what stands there, and then the log of a piece and of those behind it
pub moved_on : (piece : Piece) (more : List Piece) (node start : ℕ) (now after : List ℕ) → after ≡ now ++ logged_by piece.reader piece node start
    → after ++ log_of more node start ≡ now ++ log_of (piece ∷ more) node start
moved_on piece more node start now after added =
    ap (λ log. log ++ log_of more node start) added
    ∙ (append_assoc now (logged_by piece.reader piece node start) (log_of more node start)
    ∙ ap (λ log. now ++ log) (sym (log_of_append (piece ∷ []) more node start)))

-- a list up to a place, and what stands there
pub take_next : {A : Type 0} (xs : List A) (n : ℕ) (x : A) → slice_get xs n ≡ Some x → take (suc n) xs ≡ take n xs ++ x ∷ []
take_next [] n x is = cc
take_next (y ∷ ys) zero x is = ap (λ z. z ∷ []) (same_Some y x is)
take_next (y ∷ ys) (suc n) x is = ap (λ zs. y ∷ zs) (take_next ys n x is)

-- a log that has the pieces below a number has that piece too
pub next_piece : (pieces : List Piece) (number : ℕ) (piece : Piece) (node start : ℕ) (old now after : List ℕ) → slice_get pieces number ≡ Some piece
    → now ≡ old ++ log_of (take number pieces) node start → after ≡ now ++ logged_by piece.reader piece node start
    → after ≡ old ++ log_of (take (number + 1) pieces) node start
next_piece pieces number piece node start old now after at is added =
    let next : suc number ≡ number + 1 = omega arith in
    let more : take number pieces ++ piece ∷ [] ≡ take (number + 1) pieces = sym (take_next pieces number piece at) ∙ ap (λ n. take n pieces) next in
    joined (take number pieces) (piece ∷ []) node start old now after is added ∙ ap (λ ps. old ++ log_of ps node start) more
