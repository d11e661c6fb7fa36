use Rattle.std.proofs.Common.{◌≡◌, ◌++◌, List, ℕ, Ok, Err, codes, ap, ◌∙◌, append_assoc}
use Rattle.std.specs.Prelude.{Result, OnOk, is_ok, if◌then◌else◌}
use Rattle.std.proofs.lemmas.Result.{on_ok_weaker}
use Rattle.operator_notes.specs.Shown.{shown}
use Rattle.operator_notes.proofs.note.put_unused.Goals as goal

-- what a list is after a call that went well
where_ok : {T E : Type 0} (answer : Result T E) (list whole before : List ℕ) → list ≡ (if is_ok answer then whole else before) → OnOk answer (list ≡ whole)
where_ok (Ok done) list whole before is = is
where_ok (Err why) list whole before is = tt

pub returns : goal.returns
returns c =
    let out = c.args.out.now.items in
    let key : List ℕ = shown c.args.key.now in
    let unused : List ℕ = codes " in the match file, ignored" in
    let before : List ℕ = c.put_named.new.out.items in
    let after : List ℕ = c.extend_from_slice.new.self.items in
    on_ok_weaker c.extend_from_slice.result
    (λ all. all ∙ (ap (λ (z : List ℕ). z ++ unused) c.in_ok-put_named.ensures ∙ (append_assoc out (codes "unknown key " ++ key) unused ∙ ap (λ (z : List ℕ). out ++ z) (append_assoc (codes "unknown key ") key unused))))
    (where_ok c.extend_from_slice.result after (before ++ unused) before c.extend_from_slice.ensures.items)
