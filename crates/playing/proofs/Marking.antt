-- Marks of frames.
use Rattle.std.proofs.Common.{◌≡◌, ℕ, ◌+◌, ◌-◌, ◌≤◌, Bool, false, List, ◌++◌, length, replicate, ap, sym, ◌∙◌, arith, append_assoc}
use Rattle.std.proofs.lemmas.List.{replicate-append-replicate, append-nil}
use Rattle.playing.specs.PlayingInside.{marks_of}

-- marks of all frames
pub marked_all : (count : ℕ) (marks : List Bool) → length marks ≡ count → marks_of count marks ≡ marks
marked_all count marks all = ap (λ (n : ℕ). marks ++ replicate n false) (let none : count - length marks ≡ 0 = omega (arith, all) in none) ∙ append-nil marks

-- more frames, none of which was delivered
pub marked_more : (count more : ℕ) (marks : List Bool) → length marks ≤ count → marks_of (count + more) marks ≡ marks_of count marks ++ replicate more false
marked_more count more marks within =
    let split : (count + more) - length marks ≡ (count - length marks) + more = omega (arith, within) in
    ap (λ (n : ℕ). marks ++ replicate n false) split
    ∙ ap (λ z. marks ++ z) (sym (replicate-append-replicate (count - length marks) more false))
    ∙ sym (append_assoc marks (replicate (count - length marks) false) (replicate more false))
