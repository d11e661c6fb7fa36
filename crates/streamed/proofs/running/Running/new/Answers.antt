use Rattle.std.proofs.Common.{refl, []}
use Rattle.std.proofs.KnownBytes.{Appends-nil}
use Rattle.streamed.proofs.running.Running.new.Goals as goal

pub returns : goal.returns
returns c = λ now. record {
  lines = [];
  rest = [];
  says = [];
  are_lines = record { joined = refl; whole = tt; partial = tt };
  say_in_turn = tt;
  stands = c.new.ensures;
  kept = c.new-2.ensures;
  written = Appends-nil now;
}
