-- Cutting bytes into texts.
use Rattle.std.proofs.Common.{◌≡◌, ℕ, ◌+◌, ◌-◌, ◌≤◌, List, [], ◌∷◌, ◌++◌, length, take, drop, refl, sym, ◌∙◌, ap, arith, length-append, Vec, Global, vec_len}
use Rattle.std.proofs.lemmas.List.{length-drop, length-take, take-append-le, drop-append-le, take_all}
use Rattle.dealer_node.specs.declared.texts.Run.{Run}
use Rattle.dealer_node.specs.Texts.{Marked, cut, run_total, byte_total}

none_left : (bytes : List ℕ) → 0 ≡ length bytes → bytes ≡ []
none_left [] e = refl
none_left (byte ∷ bytes) e = absurd (omega arith)

-- what stands behind is cut by the runs behind
pub cut-append : {T : Type 0} (runs more : List (Run T)) (bytes others : List ℕ) → run_total runs ≡ length bytes → cut (runs ++ more) (bytes ++ others) ≡ cut runs bytes ++ cut more others
cut-append [] more bytes others e = ap (λ bs. cut more (bs ++ others)) (none_left bytes e)
cut-append {T} (run ∷ runs) more bytes others e =
    let short : run.len ≤ length bytes = omega arith in
    let left : run_total runs ≡ length (drop run.len bytes) = omega (arith, length-drop run.len bytes) in
    let front : take run.len (bytes ++ others) ≡ take run.len bytes = take-append-le run.len bytes others short in
    let back : drop run.len (bytes ++ others) ≡ drop run.len bytes ++ others = drop-append-le run.len bytes others short in
    let first : List ℕ → Marked T = λ text. record { mark = run.mark; text = text } in
    ap (λ t. first t ∷ cut (runs ++ more) (drop run.len (bytes ++ others))) front
    ∙ ap (λ bs. first (take run.len bytes) ∷ cut (runs ++ more) bs) back
    ∙ ap (λ ps. first (take run.len bytes) ∷ ps) (cut-append runs more (drop run.len bytes) others left)

pub run_total-append : {T : Type 0} (runs more : List (Run T)) → run_total (runs ++ more) ≡ run_total runs + run_total more
run_total-append [] more = omega arith
run_total-append (run ∷ runs) more = let e = run_total-append runs more in omega arith

pub length-cut : {T : Type 0} (runs : List (Run T)) (bytes : List ℕ) → length (cut runs bytes) ≡ length runs
length-cut [] bytes = refl
length-cut (run ∷ runs) bytes = let e = length-cut runs (drop run.len bytes) in omega arith

pub byte_total-cut : {T : Type 0} (runs : List (Run T)) (bytes : List ℕ) → run_total runs ≡ length bytes → byte_total (cut runs bytes) ≡ length bytes
byte_total-cut [] bytes e = e
byte_total-cut (run ∷ runs) bytes e =
    let left : run_total runs ≡ length (drop run.len bytes) = omega (arith, length-drop run.len bytes) in
    let more = byte_total-cut runs (drop run.len bytes) left in
    omega (arith, more, length-drop run.len bytes, length-take run.len bytes)

-- one run more for what was written behind
pub grown : {T : Type 0} (runs now_runs : List (Run T)) (bytes now text : List ℕ) (run : Run T) → run_total runs ≡ length bytes → now_runs ≡ runs ++ run ∷ [] → now ≡ bytes ++ text → run.len ≡ length now - length bytes
    → (run_total now_runs ≡ length now) × (cut now_runs now ≡ cut runs bytes ++ (record { mark = run.mark; text = text }) ∷ [])
grown {T} runs now_runs bytes now text run all is_runs is_bytes len =
    let sum : length now ≡ length bytes + length text = ap length is_bytes ∙ length-append bytes text in
    let whole : run.len ≡ length text = omega arith in
    let last : List ℕ → Marked T = λ t. record { mark = run.mark; text = t } in (
      (let e : run_total now_runs ≡ run_total (runs ++ run ∷ []) = ap run_total is_runs in omega (arith, run_total-append runs (run ∷ []))),
      ap (λ rs. cut rs now) is_runs ∙ ap (λ bs. cut (runs ++ run ∷ []) bs) is_bytes ∙ cut-append runs (run ∷ []) bytes text all
          ∙ ap (λ t. cut runs bytes ++ last t ∷ []) (take_all run.len text (omega (arith, whole))),
    )

pub byte_total-append : {T : Type 0} (texts more : List (Marked T)) → byte_total (texts ++ more) ≡ byte_total texts + byte_total more
byte_total-append [] more = omega arith
byte_total-append (one ∷ texts) more = let e = byte_total-append texts more in omega arith

-- one text more
pub longer : {T : Type 0} (texts new : List (Marked T)) (one : Marked T) → new ≡ texts ++ one ∷ [] → (length new ≡ length texts + 1) × (byte_total new ≡ byte_total texts + length one.text)
longer texts new one e =
    let count = ap length e ∙ length-append texts (one ∷ []) in
    let all = ap byte_total e ∙ byte_total-append texts (one ∷ []) in
    (omega (arith, count), omega (arith, all))

-- as many texts as runs, and as many bytes
pub length_of : {T : Type 0} (runs : List (Run T)) (bytes : List ℕ) (texts : List (Marked T)) → cut runs bytes ≡ texts → length texts ≡ length runs
length_of runs bytes texts e = sym (ap length e) ∙ length-cut runs bytes

pub size_of : {T : Type 0} (runs : List (Run T)) (bytes : List ℕ) (texts : List (Marked T)) → run_total runs ≡ length bytes → cut runs bytes ≡ texts → byte_total texts ≡ length bytes
size_of runs bytes texts all e = sym (ap byte_total e) ∙ byte_total-cut runs bytes all

-- the texts of both
pub both : {T : Type 0} (runs more now_runs : List (Run T)) (bytes others now : List ℕ) (texts later : List (Marked T)) → run_total runs ≡ length bytes
    → now_runs ≡ runs ++ more → now ≡ bytes ++ others → cut runs bytes ≡ texts → cut more others ≡ later → cut now_runs now ≡ texts ++ later
both runs more now_runs bytes others now texts later all is_runs is_bytes first second =
    ap (λ rs. cut rs now) is_runs ∙ ap (λ bs. cut (runs ++ more) bs) is_bytes ∙ cut-append runs more bytes others all
    ∙ ap (λ t. t ++ cut more others) first ∙ ap (λ t. texts ++ t) second

-- one text more was written behind
pub written : {T : Type 0} (runs now_runs : List (Run T)) (bytes now text : List ℕ) (run : Run T) (old_len new_len : ℕ) → run_total runs ≡ old_len → old_len ≡ length bytes → new_len ≡ length now
    → now_runs ≡ runs ++ run ∷ [] → now ≡ bytes ++ text → run.len ≡ new_len - old_len
    → (run_total now_runs ≡ new_len) × (cut now_runs now ≡ cut runs bytes ++ (record { mark = run.mark; text = text }) ∷ [])
written runs now_runs bytes now text run old_len new_len kept is_old is_new is_runs is_bytes len =
    let all : run_total runs ≡ length bytes = kept ∙ is_old in
    let more : run.len ≡ length now - length bytes = omega (arith, len, is_old, is_new) in
    let grew = grown runs now_runs bytes now text run all is_runs is_bytes more in
    (grew.0 ∙ sym is_new, grew.1)

-- runs and bytes hold one text behind these
abbrev pub HoldsAlso : {T : Type 0} → List (Run T) → Vec ℕ Global → List (Marked T) → Marked T → Type 0
HoldsAlso runs bytes texts one =
    (run_total runs ≡ vec_len bytes) × (cut runs bytes.items ≡ texts ++ one ∷ [])
    × (length (cut runs bytes.items) ≡ length texts + 1) × (byte_total (cut runs bytes.items) ≡ byte_total texts + length one.text)

-- the same of bytes in a vector, and of texts that are known, with their count and their bytes
pub put : {T : Type 0} (runs now_runs : List (Run T)) (bytes now : Vec ℕ Global) (text : List ℕ) (mark : T) (start past : ℕ) (texts : List (Marked T)) → run_total runs ≡ vec_len bytes → start ≡ vec_len bytes → past ≡ vec_len now
    → now_runs ≡ runs ++ (record { mark = mark; len = past - start }) ∷ [] → now.items ≡ bytes.items ++ text → cut runs bytes.items ≡ texts
    → HoldsAlso now_runs now texts (record { mark = mark; text = text })
put {T} runs now_runs bytes now text mark start past texts kept is_start is_past is_runs is_bytes view =
    let run : Run T = record { mark = mark; len = past - start } in
    let was : vec_len bytes ≡ length bytes.items = omega (arith, bytes.ok.0) in
    let is : vec_len now ≡ length now.items = omega (arith, now.ok.0) in
    let len : past - start ≡ vec_len now - vec_len bytes = omega (arith, is_start, is_past) in
    let wrote = written runs now_runs bytes.items now.items text run (vec_len bytes) (vec_len now) kept was is is_runs is_bytes len in
    let one : Marked T = record { mark = mark; text = text } in
    let all : cut now_runs now.items ≡ texts ++ one ∷ [] = wrote.1 ∙ ap (λ t. t ++ one ∷ []) view in
    let more = longer texts (cut now_runs now.items) one all in
    (wrote.0, all, more.0, more.1)

-- no more bytes were added than were allowed
pub added : (old new : Vec ℕ Global) (text : List ℕ) (most : ℕ) → new.items ≡ old.items ++ text → vec_len new ≤ vec_len old + most → length text ≤ most
added old new text most e few = let sum = ap length e ∙ length-append old.items text in omega (arith, sum, few, old.ok.0, new.ok.0)
