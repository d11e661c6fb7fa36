-- What a name's fields keep, and that they are got back from the list of its bytes.
use Rattle.std.specs.Prelude.{◌≡◌, ℕ, ◌-◌, ◌++◌, length, take, List, replicate}
use Rattle.std.proofs.Common.{sym, ◌∙◌, ap}
use Rattle.match_log.specs.Names.{IsName}
use Rattle.match_log.specs.declared.name.Name.TheInside.{Inside}

-- the name's bytes stand in front, and 0 in each place behind them
pub record IsKept (d : Inside) : Type 0 where
  pub name : IsName (take d.len d.bytes)
  pub count : length (take d.len d.bytes) ≡ d.len
  pub rest : d.bytes ≡ take d.len d.bytes ++ replicate (32 - d.len) 0

-- the bytes with 0 behind them
abbrev pub inside_bytes : List ℕ → List ℕ
inside_bytes name = name ++ replicate (32 - length name) 0

-- the fields of a name
abbrev pub inside_of : List ℕ → Inside
inside_of name = record { bytes = inside_bytes name; len = length name }

pub inside_of-view : (d : Inside) → IsKept d → inside_of (take d.len d.bytes) ≡ d
inside_of-view d kept =
    let bytes : inside_bytes (take d.len d.bytes) ≡ d.bytes = rw kept.count (sym kept.rest) in
    let count : length (take d.len d.bytes) ≡ d.len = kept.count in
    ap (λ (b : List ℕ). let i : Inside = record { bytes = b; len = length (take d.len d.bytes) } in i) bytes
    ∙ ap (λ (n : ℕ). let i : Inside = record { bytes = d.bytes; len = n } in i) count
