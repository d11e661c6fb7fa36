-- Lines that are skipped in front of a stream.
use Rattle.std.proofs.Common.{◌≡◌, ℕ, ◌<◌, true, List, [], ◌∷◌, ◌++◌, length, refl, sym, ◌∙◌, ap, arith, append_assoc}
use Rattle.std.specs.List.{AllByRecursion}
use Rattle.std.proofs.lemmas.List.{append-nil, length-append}
use Rattle.seat_session.specs.Lines.{Breaks, BeginsWith, text_of}
use Rattle.seat_session.specs.Skipped.{is_skipped, IsSkippedLine, on_stream, Skips}

pub skips_none : (stream : List ℕ) → Skips stream stream
skips_none stream = record { lines = []; each = tt; joined = refl }

AllSkipped-append : (xs ys : List (List ℕ)) → AllByRecursion IsSkippedLine xs → AllByRecursion IsSkippedLine ys → AllByRecursion IsSkippedLine (xs ++ ys)
AllSkipped-append [] ys first second = second
AllSkipped-append (x ∷ xs) ys first second = (first.0, AllSkipped-append xs ys first.1 second)

pub on_stream-append : (xs ys : List (List ℕ)) → on_stream (xs ++ ys) ≡ on_stream xs ++ on_stream ys
on_stream-append [] ys = refl
on_stream-append (x ∷ xs) ys = ap (λ (l : List ℕ). (x ++ 10 ∷ []) ++ l) (on_stream-append xs ys) ∙ sym (append_assoc (x ++ 10 ∷ []) (on_stream xs) (on_stream ys))

-- skipping goes on
pub skips_on : (stream rest more : List ℕ) → Skips stream rest → Skips rest more → Skips stream more
skips_on stream rest more first second = record {
  lines = first.lines ++ second.lines;
  each = AllSkipped-append first.lines second.lines first.each second.each;
  joined = first.joined ∙ ap (λ (l : List ℕ). on_stream first.lines ++ l) second.joined ∙ sym (append_assoc (on_stream first.lines) (on_stream second.lines) more) ∙ ap (λ (l : List ℕ). l ++ more) (sym (on_stream-append first.lines second.lines));
}

-- what comes later is no matter
pub skips_before : (stream rest more : List ℕ) → Skips stream rest → Skips (stream ++ more) (rest ++ more)
skips_before stream rest more skips = record {
  lines = skips.lines;
  each = skips.each;
  joined = ap (λ (l : List ℕ). l ++ more) skips.joined ∙ append_assoc (on_stream skips.lines) rest more;
}

-- one more line that is skipped
pub skips_line : (stream line rest : List ℕ) → BeginsWith stream line rest → is_skipped (text_of line) ≡ true → Skips stream rest
skips_line stream line rest begins skipped = record {
  lines = line ∷ [];
  each = (record { one_line = begins.breaks.one_line; short = begins.short; skipped = skipped }, tt);
  joined = begins.breaks.joined ∙ sym (append_assoc line (10 ∷ []) rest) ∙ ap (λ (l : List ℕ). l ++ rest) (sym (append-nil (line ++ 10 ∷ [])));
}

pub shorter : (stream line rest : List ℕ) → Breaks stream line rest → length rest < length stream
shorter stream line rest breaks = omega (arith, ap length breaks.joined, length-append line (10 ∷ rest))
