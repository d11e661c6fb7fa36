-- What a call answered that writes bytes into a buffer, with them as a list.
use Rattle.std.specs.Prelude.{◌≡◌, ℕ, List, Result, Ok, Err}
use Rattle.arrayvec.specs.ArrayVec.{ArrayVec}
use Rattle.peer_codes.specs.declared.connection_fault.ConnectionFault.{ConnectionFault}

abbrev pub Answers : Result (Unit {0}) ConnectionFault → ArrayVec ℕ → Result (List ℕ) ConnectionFault → Type 0
Answers (Ok done) bytes read = read ≡ Ok bytes.items
Answers (Err fault) bytes read = read ≡ Err fault
