-- What a call shows, as the record has it.
use Rattle.std.proofs.Common.{◌≡◌, ℕ, ◌+◌, ◌<◌, Bool, List, [], ◌∷◌, ◌++◌, map, length, get_or, Some, refl, ap, sym, ◌∙◌, subst, arith}
use Rattle.std.proofs.lemmas.List.{append-nil, length-map}
use Rattle.std.proofs.lemmas.Option.{slice_get-get_or}
use Rattle.std.specs.Prelude.{Option, slice_get}
use Rattle.dealer_node.specs.declared.most_shown.MostShown.{MostShown}
use Rattle.dealer_node.specs.declared.reader.Reader.{Reader}
use Rattle.dealer_node.specs.Nodes.{Node}
use Rattle.dealer_node.specs.Texts.{Marked, byte_total}
use Rattle.dealer_node.specs.Outs.{Told, nothing_told}
use Rattle.dealer_node.specs.Most.{ShowsWithin}
use Rattle.dealer_world.specs.Records.{Record, Arrived, last_start}
use Rattle.dealer_world.specs.Recordings.{text_by, made_by}
use Rattle.dealer_world.specs.Views.{piece_of, starts_after, grown}
use Rattle.dealer_world.specs.Stepping.{View}
use Rattle.dealer_world.specs.Shows.{text_total, GrowsWithin, most_of}

-- nothing was made
pub none_shown : (most : MostShown) (told : Told) → told ≡ nothing_told → ShowsWithin most nothing_told told
none_shown most told nothing = record {
  more = [];
  behind = ap (λ (t : Told). t.shown) nothing;
  pieces = omega arith;
  bytes = omega arith;
}

-- behind nothing
pub shown_first : (most : MostShown) (earlier later : Told) → earlier ≡ nothing_told → ShowsWithin most earlier later → ShowsWithin most nothing_told later
shown_first most earlier later nothing shows = subst (λ (t : Told). ShowsWithin most t later) nothing shows

-- the record has the bytes that were shown
total_of : (i start : ℕ) (shown : List (Marked Reader)) → text_total (map (piece_of i start) (map text_by shown)) ≡ byte_total shown
total_of i start [] = refl
total_of i start (one ∷ shown) = ap (λ n. length one.text + n) (total_of i start shown)

count_of : (i start : ℕ) (shown : List (Marked Reader)) → length (map (piece_of i start) (map text_by shown)) ≡ length shown
count_of i start shown = length-map (map text_by shown) (piece_of i start) ∙ length-map shown text_by

-- where the record is as before
pub same_shown : (most : MostShown) (old new : Record) → new ≡ old → GrowsWithin most old new
same_shown most old new same = record {
  more = [];
  behind = ap (λ (r : Record). r.shown) same ∙ sym (append-nil old.shown);
  pieces = omega arith;
  bytes = omega arith;
}

-- what a call made is in the record
pub more_shown : (most : MostShown) (old between new : Record) (i : ℕ) (arrived : List Arrived) (told : Told) (began : Bool)
    → new ≡ grown between i arrived (made_by i told began) → between ≡ old → ShowsWithin most nothing_told told → GrowsWithin most old new
more_shown most old between new i arrived told began grew same shows =
    let start = last_start (starts_after between.starts i began) i in
    let all : told.shown ≡ shows.more = shows.behind in
    record {
      more = map (piece_of i start) (map text_by told.shown);
      behind = ap (λ (r : Record). r.shown) grew ∙ ap (λ (r : Record). r.shown ++ map (piece_of i start) (map text_by told.shown)) same;
      pieces = omega (arith, count_of i start told.shown, ap length all, shows.pieces);
      bytes = omega (arith, total_of i start told.shown, ap byte_total all, shows.bytes);
    }

-- by the node of this number
pub most_at : {D : Type 0} (most : Node D → MostShown) (view : View (Node D)) (i : ℕ) (node : Node D) → i < length view.nodes → get_or view.nodes i node ≡ node → most node ≡ most_of most (slice_get view.nodes i)
most_at {D} most view i node within is = ap (λ (o : Option (Node D)). most_of most o) (sym (slice_get-get_or view.nodes i node within ∙ ap Some is))
