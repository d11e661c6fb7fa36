use Rattle.std.proofs.Common.{List, ℕ, ap}
use Rattle.rand_chacha.specs.ChaCha.{ChaCha}
use Rattle.peer_codes.specs.Codes.{pad}
use Rattle.peer_codes.proofs.way.fill.Goals as goal

pub returns-clause-bytes : goal.returns-clause-bytes
unfolding pad
returns-clause-bytes c = ap (λ (p : List ℕ × ChaCha). p.0) c.fill_bytes_via_u32.ensures

pub returns-clause-seal : goal.returns-clause-seal
unfolding pad
returns-clause-seal c = ap (λ (p : List ℕ × ChaCha). p.1) c.fill_bytes_via_u32.ensures
