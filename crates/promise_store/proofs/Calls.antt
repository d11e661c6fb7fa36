-- What calls make of a file in memory.
use Rattle.std.proofs.Common.{Vec, Global, ◌≡◌, inl, inr, ℕ, zero, suc, ◌+◌, ◌-◌, ◌≤◌, min, max, Bool, true, false, List, [], ◌∷◌, ◌++◌, length, take, drop, map, reverse, refl, sym, ◌∙◌, ap, subst, arith, length-append, length-drop}
use Rattle.std.specs.Prelude.{◌%◌, ◌/◌, replicate}
use Rattle.std.proofs.lemmas.Bool.{cases_lt}
use Rattle.std.proofs.lemmas.List.{take_min, take-take, take-append-le, drop-append-le, take_rest, drop_at, drop_all, length-take-le, length-replicate, reverse-append, map-append, append-nil}
use Rattle.promise_store.specs.Disks.{Torn, TornFrom, Within}
use Rattle.promise_store.specs.declared.call.Call.{Call}
use Rattle.promise_store.specs.declared.call.Call.TheVariants.{Wrote, Synced}
use Rattle.promise_store.specs.Calls.{Event, wrote, synced, stopped, event_of, events, grown, landed, redone, replayed, Write, write_of, picked, Contents, contents, Reaches, IsImage, IsTied}

pub torn_same : (at n : ℕ) (file : List ℕ) → Torn at n file file
torn_same at n file = record { before = take_min at file; after = refl; no_shorter = omega arith; no_longer = omega arith }

length-grown : (file : List ℕ) (end : ℕ) → length (grown file end) ≡ max (length file) end
length-grown file end = omega (arith, length-append file (replicate (end - length file) 0), length-replicate {A = ℕ} (end - length file) 0)

no_zeros : (file : List ℕ) (end : ℕ) → end ≤ length file → replicate {A = ℕ} (end - length file) 0 ≡ []
no_zeros file end within = let none : end - length file ≡ 0 = omega arith in ap (λ (k : ℕ). replicate {A = ℕ} k 0) none

drop_grown : (file : List ℕ) (end : ℕ) → drop end (grown file end) ≡ drop end file
drop_grown file end = elim (cases_lt (length file) end) [
  | inl past ↦ drop_all end (grown file end) (omega (arith, length-grown file end)) ∙ sym (drop_all end file (omega arith))
  | inr within ↦ ap (λ (l : List ℕ). drop end (file ++ l)) (no_zeros file end within) ∙ ap (λ (l : List ℕ). drop end l) (append-nil file)
]

torn_grown : (at n : ℕ) (file : List ℕ) → Torn at n file (grown file (at + n))
torn_grown at n file = record {
  before = take-append-le (min at (length file)) file (replicate (at + n - length file) 0) (omega arith) ∙ take_min at file;
  after = drop_grown file (at + n);
  no_shorter = omega (arith, length-grown file (at + n));
  no_longer = omega (arith, length-grown file (at + n));
}

module _ (at n : ℕ) (file piece : List ℕ) (size : length piece ≡ n) where
  abbrev big : List ℕ
  big = grown file (at + n)

  front : length (take at big) ≡ at
  front = length-take-le at big (omega (arith, length-grown file (at + n)))

  torn_over : Torn at n file (take at big ++ piece ++ drop (at + n) big)
  torn_over =
      let m = min at (length file) in
      let ends : length (take at big ++ piece) ≡ at + n = omega (arith, length-append (take at big) piece, front, size) in
      record {
        before =
            take-append-le m (take at big ++ piece) (drop (at + n) big) (omega (arith, ends))
            ∙ take-append-le m (take at big) piece (omega (arith, front))
            ∙ take-take m at big (omega arith)
            ∙ (torn_grown at n file).before;
        after = drop_at (take at big ++ piece) (drop (at + n) big) (at + n) ends ∙ drop_grown file (at + n);
        no_shorter = omega (arith, length-append (take at big ++ piece) (drop (at + n) big), ends, length-drop (at + n) big, length-grown file (at + n));
        no_longer = omega (arith, length-append (take at big ++ piece) (drop (at + n) big), ends, length-drop (at + n) big, length-grown file (at + n));
      }

pub torn_landed : (digit : ℕ) (file : List ℕ) (at : ℕ) (bytes : List ℕ) → Torn at (length bytes) file (landed digit file at bytes)
torn_landed zero file at bytes = torn_grown at (length bytes) file
torn_landed (suc zero) file at bytes = torn_over at (length bytes) file bytes refl
torn_landed (suc (suc digit)) file at bytes =
    let same : length (replicate (length bytes) 1) ≡ length bytes = length-replicate (length bytes) 1 in
    let torn = torn_over at (length bytes) file (replicate (length bytes) 1) same in
    subst (λ (k : ℕ). Torn at (length bytes) file (take at (grown file (at + length bytes)) ++ replicate (length bytes) 1 ++ drop (at + k) (grown file (at + length bytes)))) (sym same) torn

pub reaches_picked : (file : List ℕ) (writes : List Write) (pick : ℕ) → Reaches file writes (picked file writes pick)
reaches_picked file [] pick = refl
reaches_picked file (write ∷ writes) pick =
    (landed (pick % 3) file write.0 write.1, torn_landed (pick % 3) file write.0 write.1, reaches_picked (landed (pick % 3) file write.0 write.1) writes (pick / 3))

-- through one write more
reaches_more : (file : List ℕ) (writes : List Write) (write : Write) (image : List ℕ) → Reaches file (writes ++ write ∷ []) image → (between : List ℕ) × Reaches file writes between × Torn write.0 (length write.1) between image
reaches_more file [] write image (between, torn, is) = (file, refl, subst (λ (l : List ℕ). Torn write.0 (length write.1) file l) (sym is) torn)
reaches_more file (first ∷ writes) write image (between, torn, reaches) =
    let rest = reaches_more between writes write image reaches in (rest.0, (between, torn, rest.1), rest.2)

module _ (calls : List Event) where
  seen_write : (at : ℕ) (bytes : List ℕ) (done : Bool) → Torn at (length bytes) (contents calls).seen (contents (wrote at bytes done ∷ calls)).seen
  seen_write at bytes true = torn_landed 1 (contents calls).seen at bytes
  seen_write at bytes false = torn_same at (length bytes) (contents calls).seen

  pub write_follows : (at : ℕ) (bytes : List ℕ) (done : Bool) → Within (TornFrom at (length bytes) (IsImage (contents calls))) (IsImage (contents (wrote at bytes done ∷ calls)))
  write_follows at bytes done image (inl is) =
      ((contents calls).seen, inl refl, subst (λ (l : List ℕ). Torn at (length bytes) (contents calls).seen l) (sym is) (seen_write at bytes done))
  write_follows at bytes done image (inr reaches) =
      let more = reaches_more (contents calls).base (contents calls).pending (at, bytes) image reaches in (more.0, inr more.1, more.2)

  pub stop_leaves : (pick : ℕ) → IsImage (contents calls) (contents (stopped pick ∷ calls)).seen
  stop_leaves pick = inr (reaches_picked (contents calls).base (contents calls).pending pick)

  pub only_stopped : (pick : ℕ) (image : List ℕ) → IsImage (contents (stopped pick ∷ calls)) image → IsImage (contents calls) image
  only_stopped pick image (inl is) = subst (IsImage (contents calls)) (sym is) (stop_leaves pick)
  only_stopped pick image (inr is) = subst (IsImage (contents calls)) (sym is) (stop_leaves pick)

pub events_push : (calls : List Call) (call : Call) → events (calls ++ call ∷ []) ≡ event_of call ∷ events calls
events_push calls call = ap reverse (map-append event_of calls (call ∷ [])) ∙ reverse-append (map event_of calls) (event_of call ∷ [])

-- ---- what a file in memory keeps

pub replayed_append : (file : List ℕ) (before after : List Call) → replayed file (before ++ after) ≡ replayed (replayed file before) after
replayed_append file [] after = refl
replayed_append file (call ∷ before) after = replayed_append (redone call file) before after

pub write_noted : (calls noted : List Call) (at : ℕ) (copy : Vec ℕ Global) (bytes : List ℕ) (done : Bool)
    → noted ≡ calls ++ Wrote at copy done ∷ [] → copy.items ≡ bytes
    → Within (TornFrom at (length bytes) (IsImage (contents (events calls)))) (IsImage (contents (events noted)))
write_noted calls noted at copy bytes done more same =
    let step : events noted ≡ wrote at bytes done ∷ events calls = ap events more ∙ events_push calls (Wrote at copy done) ∙ ap (λ (l : List ℕ). wrote at l done ∷ events calls) same in
    subst (λ (l : List Event). Within (TornFrom at (length bytes) (IsImage (contents (events calls)))) (IsImage (contents l))) (sym step) (write_follows (events calls) at bytes done)

module _ (bytes base : List ℕ) (based unsynced begun : ℕ) (calls : List Call) (tied : IsTied bytes base based unsynced begun calls) where
  dropped : (n : ℕ) (call : Call) → n ≤ length calls → drop n (calls ++ call ∷ []) ≡ drop n calls ++ call ∷ []
  dropped n call le = drop-append-le n calls (call ∷ []) le

  synced_part : (call : Call) → replayed base (take (unsynced - based) (drop based (calls ++ call ∷ []))) ≡ (contents (events calls)).base
  synced_part call =
      ap (λ (l : List Call). replayed base (take (unsynced - based) l)) (dropped based call (omega (arith, tied.ordered, tied.within)))
      ∙ ap (replayed base) (take-append-le (unsynced - based) (drop based calls) (call ∷ []) (omega (arith, tied.ordered, tied.within, length-drop based calls)))
      ∙ tied.is_base

  one_more : (call : Call) → replayed base (drop based (calls ++ call ∷ [])) ≡ redone call bytes
  one_more call =
      ap (replayed base) (dropped based call (omega (arith, tied.ordered, tied.within)))
      ∙ replayed_append base (drop based calls) (call ∷ [])
      ∙ ap (redone call) tied.is_replayed

  longer : (call : Call) → length (calls ++ call ∷ []) ≡ length calls + 1
  longer call = length-append calls (call ∷ [])

  wrote_more : (at : ℕ) (new : Vec ℕ Global) (done : Bool) → IsTied (redone (Wrote at new done) bytes) base based unsynced begun (calls ++ Wrote at new done ∷ [])
  wrote_more at new done =
      let call : Call = Wrote at new done in
      let more : contents (events (calls ++ call ∷ [])) ≡ contents (event_of call ∷ events calls) = ap contents (events_push calls call) in
      record {
        is_seen = ap (redone call) tied.is_seen ∙ sym (ap (λ (c : Contents). c.seen) more);
        is_base = synced_part call ∙ sym (ap (λ (c : Contents). c.base) more);
        is_replayed = one_more call;
        ordered = tied.ordered;
        within = omega (arith, tied.within, longer call);
        is_pending =
            ap (map write_of) (dropped unsynced call tied.within)
            ∙ map-append write_of (drop unsynced calls) (call ∷ [])
            ∙ ap (λ (l : List Write). l ++ write_of call ∷ []) tied.is_pending
            ∙ sym (ap (λ (c : Contents). c.pending) more);
        has_begun = omega (arith, tied.has_begun, longer call);
      }

  pub tied_wrote : (at : ℕ) (new : Vec ℕ Global) (done : Bool) (file : List ℕ) (noted : List Call)
      → file ≡ redone (Wrote at new done) bytes → noted ≡ calls ++ Wrote at new done ∷ []
      → IsTied file base based unsynced begun noted
  tied_wrote at new done file noted is more =
      subst (λ (l : List Call). IsTied file base based unsynced begun l) (sym more)
      (subst (λ (l : List ℕ). IsTied l base based unsynced begun (calls ++ Wrote at new done ∷ [])) (sym is) (wrote_more at new done))

  synced_more : IsTied bytes base based (length (calls ++ Synced ∷ [])) begun (calls ++ Synced ∷ [])
  synced_more =
      let more : contents (events (calls ++ Synced ∷ [])) ≡ contents (synced ∷ events calls) = ap contents (events_push calls Synced) in
      record {
        is_seen = tied.is_seen ∙ sym (ap (λ (c : Contents). c.seen) more);
        is_base =
            ap (replayed base) (take_rest (calls ++ Synced ∷ []) based)
            ∙ one_more Synced ∙ tied.is_seen
            ∙ sym (ap (λ (c : Contents). c.base) more);
        is_replayed = one_more Synced;
        ordered = omega (arith, tied.ordered, tied.within, longer Synced);
        within = omega arith;
        is_pending = ap (map write_of) (drop_all (length (calls ++ Synced ∷ [])) (calls ++ Synced ∷ []) (omega arith)) ∙ sym (ap (λ (c : Contents). c.pending) more);
        has_begun = omega (arith, tied.has_begun, longer Synced);
      }

  pub tied_synced : (noted : List Call) (end : ℕ) → noted ≡ calls ++ Synced ∷ [] → end ≡ length noted → IsTied bytes base based end begun noted
  tied_synced noted end more is =
      subst (λ (n : ℕ). IsTied bytes base based n begun noted) (sym is)
      (subst (λ (l : List Call). IsTied bytes base based (length l) begun l) (sym more) synced_more)
