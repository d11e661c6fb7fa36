use Rattle.std.proofs.Common.{◌+◌, List, drop, arith, rules, subst}
use Rattle.promise_store.specs.declared.placed.Placed.{Placed}
use Rattle.promise_store.specs.Index.{IsPosition}
use Rattle.promise_store.proofs.Ordered.{From, above_more, past_end, rise_insert, put_inserted, replaced}
use Rattle.promise_store.proofs.Ranges.{range_put}
use Rattle.promise_store.proofs.index.put.Goals as goal
use Rattle.promise_store.proofs.index.put.Goals.{else-place-len-via-then-place-len+else-index-placed, else-place-len-via-else-place-len}

pub returns-then-index-placed-clause-rising : goal.returns-then-index-placed-clause-rising
returns-then-index-placed-clause-rising c =
    let old = c.index.result.now in
    let place : IsPosition c.args.placed.slot c.args.entries.now.items c.position-place.result = subst (λ (l : List Placed). IsPosition c.args.placed.slot l c.position-place.result) c.deref.ensures.value c.position-place.ensures in
    (replaced c.args.entries.now.items c.replace.new.entries.items c.position-place.result old c.args.placed c.requires.rising place (search rules) c.index.ensures c.if-index-placed.true
    (c.replace.ensures.kept old c.index.ensures) (c.replace.ensures.replaced old c.index.ensures)).0

pub returns-then-index-placed-clause-found : goal.returns-then-index-placed-clause-found
returns-then-index-placed-clause-found c =
    let old = c.index.result.now in
    let place : IsPosition c.args.placed.slot c.args.entries.now.items c.position-place.result = subst (λ (l : List Placed). IsPosition c.args.placed.slot l c.position-place.result) c.deref.ensures.value c.position-place.ensures in
    (replaced c.args.entries.now.items c.replace.new.entries.items c.position-place.result old c.args.placed c.requires.rising place (search rules) c.index.ensures c.if-index-placed.true
    (c.replace.ensures.kept old c.index.ensures) (c.replace.ensures.replaced old c.index.ensures)).1

pub returns-clause-rising : goal.returns-clause-rising
returns-clause-rising c =
    let xs = c.args.entries.now.items in
    let k = c.position-place.result in
    let place : IsPosition c.args.placed.slot xs k = subst (λ (l : List Placed). IsPosition c.args.placed.slot l k) c.deref.ensures.value c.position-place.ensures in
    let above : From (c.args.placed.slot + 1) (drop k xs) = elim c.else-place-len.branch [
      | else-place-len-via-then-place-len+else-index-placed w ↦ above_more c.args.placed.slot xs k w.index.result.now c.requires.rising place.above (search rules) w.index.ensures w.if-index-placed.false
      | else-place-len-via-else-place-len w ↦ past_end (c.args.placed.slot + 1) xs k (search rules)
    ] in
    rw c.in-Ok.ensures.items (rise_insert 0 xs k c.args.placed c.requires.rising (omega arith) place.below above)

pub returns-clause-found : goal.returns-clause-found
returns-clause-found c slot =
    let xs = c.args.entries.now.items in
    let k = c.position-place.result in
    let place : IsPosition c.args.placed.slot xs k = subst (λ (l : List Placed). IsPosition c.args.placed.slot l k) c.deref.ensures.value c.position-place.ensures in
    let above : From (c.args.placed.slot + 1) (drop k xs) = elim c.else-place-len.branch [
      | else-place-len-via-then-place-len+else-index-placed w ↦ above_more c.args.placed.slot xs k w.index.result.now c.requires.rising place.above (search rules) w.index.ensures w.if-index-placed.false
      | else-place-len-via-else-place-len w ↦ past_end (c.args.placed.slot + 1) xs k (search rules)
    ] in
    rw c.in-Ok.ensures.items (put_inserted slot xs k c.args.placed place above)

pub returns-then-index-placed-clause-range : goal.returns-then-index-placed-clause-range
returns-then-index-placed-clause-range c ballot slot all =
    range_put c.args.entries.now.items c.replace.new.entries.items c.args.placed ballot slot all (returns-then-index-placed-clause-found c)

pub returns-clause-range : goal.returns-clause-range
returns-clause-range c ballot slot all =
    range_put c.args.entries.now.items c.insert.new.self.items c.args.placed ballot slot all (returns-clause-found c)
