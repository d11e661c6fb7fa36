-- How far a script of `play` was read and answered, byte by byte and line by line.
use Rattle.std.proofs.Common.{◌≡◌, ◌≢◌, ℕ, List, [], ◌∷◌, ◌++◌, sym, ◌∙◌, ap, subst, refl, append_assoc}
use Rattle.std.specs.Prelude.{Option}
use Rattle.std.specs.Io.KnownBytes.{Appends, Consumes, IsAtEnd}
use Rattle.std.proofs.lemmas.List.{append-nil}
use Rattle.std.proofs.KnownBytes.{Appends-trans, Consumes-trans}
use Rattle.dealer_kind.specs.Plans.{Plan}
use Rattle.playing.specs.declared.playing.Playing.{Playing}
use Rattle.playing.specs.Playing.{Scene, Begins, Answers, Plays, HasOneList, begun, answered}
use Rattle.playing.specs.PlayingInside.{scene_of}
use Rattle.streamed.specs.Script.{AreLines}
use Rattle.match_runs.specs.Played.{Played}
use Rattle.match_runs.specs.Scripted.{Reaches, BeginsPlay}
use Rattle.match_runs.specs.PlayOutcome.{AnswersPlay}
use Rattle.match_runs.specs.declared.scripted.Scripted.{Scripted}
use Rattle.streamed.proofs.Lines.{line_ends, line_goes_on}

-- before the first byte
no_lines : AreLines [] [] []
no_lines = record { joined = refl; whole = tt; partial = tt }

-- the headers are written
pub headers_written : (plan : Plan) (text : List ℕ) (start now : Option (List ℕ)) (r : Scripted) → Begins plan text (scene_of r.playing) → HasOneList (scene_of r.playing)
    → r.line.items ≡ [] → Appends start now text → Reaches plan start [] r now
headers_written plan text start now r begins one empty sent = record {
  lines = [];
  output = text;
  are_lines = subst (λ (rest : List ℕ). AreLines [] [] rest) (sym empty) no_lines;
  plays = begun [] text (scene_of r.playing) refl begins;
  shows = one;
  written = sent;
}

-- or a beginning of them
pub headers_begun : (plan : Plan) (text shown missing : List ℕ) (start now : Option (List ℕ)) (scene : Scene) → Begins plan text scene → HasOneList scene
    → text ≡ shown ++ missing → Appends start now shown → BeginsPlay plan start [] now
headers_begun plan text shown missing start now scene begins one parts sent = record {
  front = [];
  behind = [];
  front_read = refl;
  output = text;
  played = record { lines = []; rest = []; last = scene; are_lines = no_lines; plays = begun [] text scene refl begins; shows = one };
  shown = shown;
  missing = missing;
  front_shown = parts;
  written = sent;
}

-- the answers so far are what is to be written for what was read
pub played_so_far : (plan : Plan) (start now : Option (List ℕ)) (seen : List ℕ) (r : Scripted) → (reaches : Reaches plan start seen r now) → Played plan seen reaches.output
played_so_far plan start now seen r reaches = record {
  lines = reaches.lines;
  rest = r.line.items;
  last = scene_of r.playing;
  are_lines = reaches.are_lines;
  plays = reaches.plays;
  shows = reaches.shows;
}

-- and they are a beginning of it, whatever is read behind
pub plays_so_far : (plan : Plan) (start now : Option (List ℕ)) (seen behind : List ℕ) (r : Scripted) → Reaches plan start seen r now → BeginsPlay plan start (seen ++ behind) now
plays_so_far plan start now seen behind r reaches = record {
  front = seen;
  behind = behind;
  front_read = refl;
  output = reaches.output;
  played = played_so_far plan start now seen r reaches;
  shown = reaches.output;
  missing = [];
  front_shown = sym (append-nil reaches.output);
  written = reaches.written;
}

pub plays_here : (plan : Plan) (start now : Option (List ℕ)) (seen : List ℕ) (r : Scripted) → Reaches plan start seen r now → BeginsPlay plan start seen now
plays_here plan start now seen r reaches = record {
  front = seen;
  behind = [];
  front_read = sym (append-nil seen);
  output = reaches.output;
  played = played_so_far plan start now seen r reaches;
  shown = reaches.output;
  missing = [];
  front_shown = sym (append-nil reaches.output);
  written = reaches.written;
}

-- they are all of it at the script's end
pub plays_all : (plan : Plan) (left here after start now : Option (List ℕ)) (seen piece : List ℕ) (r : Scripted) → Consumes left here seen
    → Consumes here after piece → (piece ≡ []) × IsAtEnd after → Reaches plan start seen r now → AnswersPlay plan left after start now
plays_all plan left here after start now seen piece r read last none reaches = record {
  bytes = seen;
  read = subst (Consumes left after) (append-nil seen) (Consumes-trans left here after seen [] read (subst (Consumes here after) none.0 last));
  at_end = none.1;
  output = reaches.output;
  played = played_so_far plan start now seen r reaches;
  written = reaches.written;
}

-- a beginning stays one where more is read
pub plays_still : (plan : Plan) (start now : Option (List ℕ)) (read more : List ℕ) → BeginsPlay plan start read now → BeginsPlay plan start (read ++ more) now
plays_still plan start now read more begins = record {
  front = begins.front;
  behind = begins.behind ++ more;
  front_read = ap (λ z. z ++ more) begins.front_read ∙ append_assoc begins.front begins.behind more;
  output = begins.output;
  played = begins.played;
  shown = begins.shown;
  missing = begins.missing;
  front_shown = begins.front_shown;
  written = begins.written;
}

-- a byte that is no line feed
pub play_byte_kept : (plan : Plan) (start now : Option (List ℕ)) (seen : List ℕ) (byte : ℕ) (r after : Scripted) → byte ≢ 10 → after.playing ≡ r.playing
    → after.line.items ≡ r.line.items ++ byte ∷ [] → Reaches plan start seen r now → Reaches plan start (seen ++ byte ∷ []) after now
play_byte_kept plan start now seen byte r after other same line reaches = record {
  lines = reaches.lines;
  output = reaches.output;
  are_lines = subst (AreLines (seen ++ byte ∷ []) reaches.lines) (sym line) (line_goes_on seen reaches.lines r.line.items byte other reaches.are_lines);
  plays = subst (λ (p : Playing). Plays plan reaches.lines reaches.output (scene_of p)) (sym same) reaches.plays;
  shows = subst (λ (p : Playing). HasOneList (scene_of p)) (sym same) reaches.shows;
  written = reaches.written;
}

-- a line and its answer, by lines and texts that are the same
pub answers_as : (before after : Scene) (line same text shown : List ℕ) → line ≡ same → shown ≡ text → Answers before line text after → Answers before same shown after
answers_as before after line same text shown lines texts answers =
    subst (λ (l : List ℕ). Answers before l shown after) lines (subst (λ (t : List ℕ). Answers before line t after) (sym texts) answers)

-- a line feed whose answer is written
pub play_line_answered : (plan : Plan) (start now then : Option (List ℕ)) (seen text : List ℕ) (r after : Scripted) → Answers (scene_of r.playing) r.line.items text (scene_of after.playing)
    → HasOneList (scene_of after.playing) → after.line.items ≡ [] → Appends now then text → Reaches plan start seen r now
    → Reaches plan start (seen ++ 10 ∷ []) after then
play_line_answered plan start now then seen text r after answers one empty sent reaches = record {
  lines = r.line.items ∷ reaches.lines;
  output = reaches.output ++ text;
  are_lines = subst (AreLines (seen ++ 10 ∷ []) (r.line.items ∷ reaches.lines)) (sym empty) (line_ends seen reaches.lines r.line.items reaches.are_lines);
  plays = answered reaches.lines r.line.items reaches.output text (scene_of r.playing) (r.line.items ∷ reaches.lines) (reaches.output ++ text) (scene_of after.playing) reaches.plays answers refl refl;
  shows = one;
  written = Appends-trans start now then reaches.output text reaches.written sent;
}

-- a line feed whose answer is written in part
pub play_line_begun : (plan : Plan) (start now then : Option (List ℕ)) (seen text shown missing : List ℕ) (r : Scripted) (scene : Scene) → Answers (scene_of r.playing) r.line.items text scene
    → HasOneList scene → text ≡ shown ++ missing → Appends now then shown → Reaches plan start seen r now → BeginsPlay plan start (seen ++ 10 ∷ []) then
play_line_begun plan start now then seen text shown missing r scene answers one parts sent reaches = record {
  front = seen ++ 10 ∷ [];
  behind = [];
  front_read = sym (append-nil (seen ++ 10 ∷ []));
  output = reaches.output ++ text;
  played = record {
    lines = r.line.items ∷ reaches.lines;
    rest = [];
    last = scene;
    are_lines = line_ends seen reaches.lines r.line.items reaches.are_lines;
    plays = answered reaches.lines r.line.items reaches.output text (scene_of r.playing) (r.line.items ∷ reaches.lines) (reaches.output ++ text) scene reaches.plays answers refl refl;
    shows = one;
  };
  shown = reaches.output ++ shown;
  missing = missing;
  front_shown = ap (λ z. reaches.output ++ z) parts ∙ sym (append_assoc reaches.output shown missing);
  written = Appends-trans start now then reaches.output shown reaches.written sent;
}
