-- Sums of what deals pay.
use Rattle.std.proofs.Common.{◌≡◌, ℕ, ◌+◌, ◌<◌, ◌≤◌, ℤ, pos, ◌+ℤ◌, Bool, List, [], ◌∷◌, ◌++◌, length, get_or, sym, ◌∙◌, ap, inl, inr, arith}
use Rattle.std.proofs.lemmas.Bool.{cases_lt}
use Rattle.std.proofs.lemmas.Int.{ints}
use Rattle.std.proofs.lemmas.List.{get_or-take, get_or_past, length-append}
use Rattle.std.proofs.lemmas.List.FromFn.{get_or-map-range_with_len}
use Rattle.match_log.proofs.Adding.{IsAddedUpto}
use Rattle.luck.specs.Means.{pay, paid}
use Rattle.luck.specs.Sums.{AddsPaid}
use Rattle.luck.specs.declared.sums.Sums.{Sums}

plus_none : (z : ℤ) → z ≡ z +ℤ pos 0
plus_none z = omega (arith, ints)

pub added_each : (old new payoffs : List ℤ) (deals count : ℕ) → length payoffs ≤ count → IsAddedUpto old new deals (λ position. get_or payoffs position (pos 0)) count
    → (position : ℕ) → position < 10 → get_or new position (pos 0) ≡ get_or old position (pos 0) +ℤ get_or payoffs position (pos 0)
added_each old new payoffs deals count all added position within =
    elim (cases_lt position count) [
      | inl below ↦
          sym (get_or-take count new position (pos 0) below)
          ∙ ap (λ (xs : List ℤ). get_or xs position (pos 0)) added.so_far
          ∙ get_or-map-range_with_len (λ s. get_or old s (pos 0) +ℤ get_or payoffs s (pos 0)) 0 count position position (pos 0) below (omega arith)
      | inr above ↦
          added.others position above
          ∙ plus_none (get_or old position (pos 0))
          ∙ ap (λ z. get_or old position (pos 0) +ℤ z) (sym (get_or_past payoffs position (pos 0) (omega arith)))
    ]

-- ---- what is paid over deals in turn

pub paid_both : (spent : List ℕ) (folded : List Bool) (position : ℕ) (deals others : List (List ℕ)) → paid spent folded position (deals ++ others) ≡ paid spent folded position deals +ℤ paid spent folded position others
unfolding paid
paid_both spent folded position [] others = omega (arith, ints)
paid_both spent folded position (deal ∷ deals) others =
    let first : ℤ = get_or (pay spent folded deal) position (pos 0) in
    let more = paid_both spent folded position deals others in
    omega (arith, ints, more)

pub adds_none : (spent : List ℕ) (folded : List Bool) (sums : Sums) → AddsPaid spent folded [] sums sums
unfolding paid
adds_none spent folded sums = record { count = omega arith; each = λ position within. plus_none (get_or sums.amounts position (pos 0)) }

pub adds_both : (spent : List ℕ) (folded : List Bool) (deals others : List (List ℕ)) (old middle new : Sums) → AddsPaid spent folded deals old middle → AddsPaid spent folded others middle new → AddsPaid spent folded (deals ++ others) old new
adds_both spent folded deals others old middle new first second = record {
  count = omega (arith, first.count, second.count, length-append deals others);
  each = λ position within. omega (arith, ints, first.each position within, second.each position within, paid_both spent folded position deals others);
}

pub adds_one : (spent : List ℕ) (folded : List Bool) (deal : List ℕ) (payoffs : List ℤ) (old new : Sums) → new.deals ≡ old.deals + 1 → payoffs ≡ pay spent folded deal
    → ((position : ℕ) → position < 10 → get_or new.amounts position (pos 0) ≡ get_or old.amounts position (pos 0) +ℤ get_or payoffs position (pos 0)) → AddsPaid spent folded (deal ∷ []) old new
unfolding paid
adds_one spent folded deal payoffs old new count is each = record {
  count = count;
  each = λ position within.
      each position within
      ∙ ap (λ (xs : List ℤ). get_or old.amounts position (pos 0) +ℤ get_or xs position (pos 0)) is
      ∙ ap (λ z. get_or old.amounts position (pos 0) +ℤ z) (plus_none (get_or (pay spent folded deal) position (pos 0)));
}
