-- How much room is left once something was made.
use Rattle.std.proofs.Common.{◌≡◌, ℕ, ◌+◌, ◌*◌, ◌≤◌, List, length, arith, ap, sym, subst, vec_len}
use Rattle.std.proofs.lemmas.Nat.{mul-le}
use Rattle.paxos_wire.specs.declared.limits.TheConstants.{NODES, RUN_FRONT, MOST_COMMAND, MOST_SINGLE_FRAME}
use Rattle.slot_log.specs.declared.command.Command.{Command}
use Rattle.dealer_node.specs.declared.limits.TheConstants.{FRAMES_TO_ALL}
use Rattle.dealer_node.specs.declared.running.Running.{Running}
use Rattle.dealer_node.specs.declared.made.Made.{Made}
use Rattle.dealer_node.specs.declared.made.Need.{Need}
use Rattle.dealer_node.specs.Texts.{Written}
use Rattle.dealer_node.specs.Rooms.{Grows}
use Rattle.dealer_node.specs.Running.{Learns, CanLearn}
use Rattle.dealer_node.specs.Working.{HasLeft}

-- the frames of so many commands to all others take no more bytes than those of one command each
pub run_bytes : (commands : List Command) (nodes : ℕ) → 1 ≤ length commands → nodes ≤ NODES
    → (RUN_FRONT + MOST_COMMAND * length commands) * nodes ≤ MOST_SINGLE_FRAME * (FRAMES_TO_ALL * length commands)
run_bytes commands nodes some few =
    let all = mul-le (RUN_FRONT + MOST_COMMAND * length commands) nodes (MOST_SINGLE_FRAME * length commands) FRAMES_TO_ALL (omega (arith, some)) (omega (arith, few)) in
    omega (arith, all)

-- votes were told and counted, for no more commands than there was room for
pub voted_left : (old new : Running) (earlier later : Made) (need : Need) (answers more frames told asked : ℕ) → told ≤ asked → Learns told old new earlier later
    → Grows earlier.frames later.frames FRAMES_TO_ALL (MOST_SINGLE_FRAME * (FRAMES_TO_ALL * told)) → 1 ≤ told
    → later ≡ record earlier { frames = later.frames; shown = later.shown } → HasLeft old earlier need (answers + 1) (more + asked) (frames + FRAMES_TO_ALL * asked) → HasLeft new later need answers more frames
voted_left old new earlier later need answers more frames told asked few learns grows some rest left =
    let same : vec_len later.faults ≡ vec_len earlier.faults = ap (λ (m : Made). vec_len m.faults) rest in
    record {
      learn = record {
        counted = omega (arith, left.learn.counted, learns.counted);
        known = omega (arith, left.learn.known, learns.known, few);
        table = omega (arith, left.learn.table, learns.table, learns.ahead, few);
        texts = omega (arith, left.learn.texts, learns.shown.text_room, learns.ahead, few);
        bytes = omega (arith, left.learn.bytes, learns.shown.byte_room, learns.ahead, few);
      };
      texts = omega (arith, left.texts, grows.text_room, few, some);
      bytes = omega (arith, left.bytes, grows.byte_room, few);
      frames_made = omega (arith, left.frames_made, grows.len, few, some);
      bytes_made = omega (arith, left.bytes_made, grows.size, few);
      texts_shown = omega (arith, left.texts_shown, learns.shown.len, learns.ahead, few);
      bytes_shown = omega (arith, left.bytes_shown, learns.shown.size, learns.ahead, few);
      faults_told = omega (arith, left.faults_told, same);
    }

-- the ballots that it saw and its campaign take no room
pub left_beside : (old seeing leading : Running) (made : Made) (need : Need) (answers commands frames : ℕ) → HasLeft old made need answers commands frames
    → HasLeft (record old { seen = seeing.seen; proposer = leading.proposer }) made need answers commands frames
left_beside old seeing leading made need answers commands frames left = record {
  learn = record { counted = left.learn.counted; known = left.learn.known; table = left.learn.table; texts = left.learn.texts; bytes = left.learn.bytes };
  texts = left.texts;
  bytes = left.bytes;
  frames_made = left.frames_made;
  bytes_made = left.bytes_made;
  texts_shown = left.texts_shown;
  bytes_shown = left.bytes_shown;
  faults_told = left.faults_told;
}

-- less was asked for
pub less_left : (running : Running) (made : Made) (need : Need) (answers commands frames counted known more : ℕ) → answers ≤ counted → commands ≤ known → frames ≤ more
    → HasLeft running made need counted known more → HasLeft running made need answers commands frames
less_left running made need answers commands frames counted known more less few fewer left = record {
  learn = record {
    counted = omega (arith, left.learn.counted, less);
    known = omega (arith, left.learn.known, few);
    table = omega (arith, left.learn.table, few);
    texts = omega (arith, left.learn.texts, few);
    bytes = omega (arith, left.learn.bytes, few);
  };
  texts = omega (arith, left.texts, fewer);
  bytes = omega (arith, left.bytes, fewer);
  frames_made = omega (arith, left.frames_made, fewer);
  bytes_made = omega (arith, left.bytes_made, fewer);
  texts_shown = omega (arith, left.texts_shown, few);
  bytes_shown = omega (arith, left.bytes_shown, few);
  faults_told = left.faults_told;
}

-- fewer commands and frames, and another ballot
pub fewer_left : (old new : Running) (made : Made) (need : Need) (answers commands known frames more : ℕ) → commands ≤ known → frames ≤ more → new ≡ record old { proposer = new.proposer }
    → HasLeft old made need answers known more → HasLeft new made need answers commands frames
fewer_left old new made need answers commands known frames more few fewer rest left =
    subst (λ (r : Running). HasLeft r made need answers commands frames) (sym rest)
    (left_beside old old new made need answers commands frames (less_left old made need answers commands frames answers known more (omega arith) few fewer left))

-- frames to others were sent, no more than they count as
pub sent_left : (running : Running) (earlier : Made) (new : Written ℕ) (need : Need) (answers commands frames more texts many : ℕ) → texts ≤ many → many + frames ≤ more
    → Grows earlier.frames new texts (MOST_SINGLE_FRAME * many) → HasLeft running earlier need answers commands more → HasLeft running (record earlier { frames = new }) need answers commands frames
sent_left running earlier new need answers commands frames more texts many less few grows left = record {
  learn = record { counted = left.learn.counted; known = left.learn.known; table = left.learn.table; texts = left.learn.texts; bytes = left.learn.bytes };
  texts = omega (arith, left.texts, grows.text_room, few, less);
  bytes = omega (arith, left.bytes, grows.byte_room, few);
  frames_made = omega (arith, left.frames_made, grows.len, few, less);
  bytes_made = omega (arith, left.bytes_made, grows.size, few);
  texts_shown = left.texts_shown;
  bytes_shown = left.bytes_shown;
  faults_told = left.faults_told;
}

-- less is to be learned
pub less_learn : (running : Running) (made : Made) (answers commands counted known : ℕ) → answers ≤ counted → commands ≤ known → CanLearn running made counted known → CanLearn running made answers commands
less_learn running made answers commands counted known less few learn = record {
  counted = omega (arith, learn.counted, less);
  known = omega (arith, learn.known, few);
  table = omega (arith, learn.table, few);
  texts = omega (arith, learn.texts, few);
  bytes = omega (arith, learn.bytes, few);
}

-- fewer commands, by another ballot
pub fewer_learn : (old new : Running) (made : Made) (answers commands known : ℕ) → commands ≤ known → new ≡ record old { proposer = new.proposer } → CanLearn old made answers known → CanLearn new made answers commands
fewer_learn old new made answers commands known few rest learn =
    let less = less_learn old made answers commands answers known (omega arith) few learn in
    subst (λ (r : Running). CanLearn r made answers commands) (sym rest) (record { counted = less.counted; known = less.known; table = less.table; texts = less.texts; bytes = less.bytes })
