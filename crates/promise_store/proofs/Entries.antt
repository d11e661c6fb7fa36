-- Where a slot's command stands in a journal, also inside a run.
use Rattle.std.proofs.Common.{◌≡◌, ◌⊎◌, inl, inr, ℕ, ◌+◌, ◌-◌, ◌≤◌, min, refl, sym, ◌∙◌, ap, subst, List, [], ◌∷◌, ◌++◌, length, take, drop, true, false, Bool, arith, append_assoc, length-append}
use Rattle.std.specs.Prelude.{◌==◌, ◌/◌, ◌%◌, if◌then◌else◌, Option, Some, None}
use Rattle.std.specs.List.{flat_map, AllByRecursion}
use Rattle.std.proofs.lemmas.Bool.Decides.{nat_tests}
use Rattle.std.proofs.lemmas.Bool.{cases_eq}
use Rattle.std.proofs.lemmas.List.{drop_at, append-nil}
use Rattle.std.proofs.lemmas.List.Concat.{flat_map-cons}
use Rattle.std.proofs.lemmas.Option.{same_Some}
use Rattle.std.proofs.Math.Seq.{take-append-add}
use Rattle.paxos_wire.specs.Fits.{IsInRange, IsDealt, IsCommand}
use Rattle.paxos_wire.specs.Order.{is_below}
use Rattle.paxos_wire.specs.Spelling.{ballot_text, slot_text, command_text}
use Rattle.slot_log.specs.declared.command.Command.{Command}
use Rattle.protocol_model.specs.Sets.{put}
use Rattle.protocol_model.specs.Messages.{Vote}
use Rattle.promise_store.specs.declared.placed.Placed.{Placed}
use Rattle.promise_store.specs.declared.held.Held.{Held}
use Rattle.promise_store.specs.Index.{found, later}
use Rattle.promise_store.specs.declared.records.Record.{Record}
use Rattle.promise_store.specs.declared.records.Record.TheVariants.{Promised, VotedOne, Opened, Voted}
use Rattle.promise_store.specs.Records.{payload, IsRecord, record_text}
use Rattle.promise_store.specs.Stages.{head_of}
use Rattle.promise_store.specs.Journals.{gated, IsJournal}
use Rattle.promise_store.specs.Holding.{Kept, Holding, nothing_held, first_at, next_at, ballot_of, with_votes, with_record, held_from, holding, vote_of, store_of, placed_of, Indexes}
use Rattle.promise_store.proofs.Gated.{command_most}
use Rattle.promise_store.proofs.Stages.{head_long}

-- the payload has the command of an entry where the entry says
pub record Contains (r : Record) (kept : Kept) : Type 0 where
  pub front : List ℕ
  pub rest : List ℕ
  pub text : payload r ≡ front ++ (command_text kept.command ++ rest)
  pub inside : kept.placed.inside ≡ length front
  pub is : IsRecord r → IsCommand kept.command

-- its record is among these, the first of which stands behind this gate
pub record Stands (gate : ℕ) (records : List Record) (kept : Kept) : Type 0 where
  pub before : List Record
  pub whole : Record
  pub after : List Record
  pub is : records ≡ before ++ whole ∷ after
  pub place : kept.placed.place ≡ gate + length (gated before) + 3
  pub long : kept.placed.length ≡ length (payload whole)
  pub has : Contains whole kept

-- an entry is one of a record's, the first of which stands here
record Among (placed : Placed) (cs : List Command) (kept : Kept) : Type 0 where
  front : List Command
  command : Command
  rest : List Command
  is : cs ≡ front ++ command ∷ rest
  command_is : kept.command ≡ command
  place_is : kept.placed.place ≡ placed.place
  size_is : kept.placed.length ≡ placed.length
  inside_is : kept.placed.inside ≡ placed.inside + length (flat_map command_text front)

later_is : (old : Option Kept) (new : Kept) → (later ballot_of old new ≡ new) ⊎ (old ≡ Some (later ballot_of old new))
later_is None new = inl refl
later_is (Some old) new = by (is_below (ballot_of new) (ballot_of old))
  where
    by : (test : Bool) → ((if test then old else new) ≡ new) ⊎ (Some old ≡ Some (if test then old else new))
    by true = inr refl
    by false = inl refl

put_is : (entries : ℕ → Option Kept) (slot : ℕ) (new : Kept) (k : ℕ) (kept : Kept) → put entries slot (Some (later ballot_of (entries slot) new)) k ≡ Some kept → (entries k ≡ Some kept) ⊎ (new ≡ kept)
put_is entries slot new k kept is = elim (cases_eq k slot) [
  | inl here ↦ at_slot here (later_is (entries slot) new)
  | inr other ↦ inl (let test : (k == slot) ≡ false = grind (arith, nat_tests, other) in let same : put entries slot (Some chosen) k ≡ entries k = rw test refl in sym same ∙ is)
]
  where
    chosen : Kept
    chosen = later ballot_of (entries slot) new

    is_chosen : k ≡ slot → chosen ≡ kept
    is_chosen here =
        let test : (k == slot) ≡ true = grind (arith, nat_tests, here) in
        let same : put entries slot (Some chosen) k ≡ Some chosen = rw test refl in
        same_Some chosen kept (sym same ∙ is)

    at_slot : k ≡ slot → (chosen ≡ new) ⊎ (entries slot ≡ Some chosen) → (entries k ≡ Some kept) ⊎ (new ≡ kept)
    at_slot here (inl fresh) = inr (sym fresh ∙ is_chosen here)
    at_slot here (inr old) = inl (ap entries here ∙ old ∙ ap (λ (x : Kept). Some x) (is_chosen here))

votes_from : (placed : Placed) (cs : List Command) (entries : ℕ → Option Kept) (k : ℕ) (kept : Kept)
    → with_votes placed cs entries k ≡ Some kept → (entries k ≡ Some kept) ⊎ Among placed cs kept
votes_from placed [] entries k kept is = inl is
votes_from placed (c ∷ cs) entries k kept is =
    elim (votes_from (next_at placed c) cs (put entries placed.slot (Some (later ballot_of (entries placed.slot) new))) k kept is) [
      | inl was ↦ elim (put_is entries placed.slot new k kept was) [
        | inl before ↦ inl before
        | inr same ↦ inr (record {
          front = [];
          command = c;
          rest = cs;
          is = refl;
          command_is = sym (ap (λ (x : Kept). x.command) same);
          place_is = sym (ap (λ (x : Kept). x.placed.place) same);
          size_is = sym (ap (λ (x : Kept). x.placed.length) same);
          inside_is = sym (ap (λ (x : Kept). x.placed.inside) same) ∙ (let none : placed.inside ≡ placed.inside + 0 = omega arith in none);
        })
      ]
      | inr m ↦ inr (record {
        front = c ∷ m.front;
        command = m.command;
        rest = m.rest;
        is = ap (λ (l : List Command). c ∷ l) m.is;
        command_is = m.command_is;
        place_is = m.place_is;
        size_is = m.size_is;
        inside_is = (let long : length (flat_map command_text (c ∷ m.front)) ≡ length (command_text c) + length (flat_map command_text m.front) = ap length (flat_map-cons command_text c m.front) ∙ length-append (command_text c) (flat_map command_text m.front) in omega (arith, m.inside_is, long));
      })
    ]
  where
    new : Kept
    new = record { command = c; placed = placed }

flat_split : (front : List Command) (c : Command) (rest : List Command) → flat_map command_text (front ++ c ∷ rest) ≡ flat_map command_text front ++ (command_text c ++ flat_map command_text rest)
flat_split [] c rest = flat_map-cons command_text c rest
flat_split (d ∷ front) c rest =
    flat_map-cons command_text d (front ++ c ∷ rest) ∙ ap (λ (w : List ℕ). command_text d ++ w) (flat_split front c rest)
    ∙ sym (append_assoc (command_text d) (flat_map command_text front) (command_text c ++ flat_map command_text rest))
    ∙ ap (λ (w : List ℕ). w ++ (command_text c ++ flat_map command_text rest)) (sym (flat_map-cons command_text d front))

one_in : (front : List Command) (c : Command) (rest : List Command) → AllByRecursion IsInRange (front ++ c ∷ rest) → AllByRecursion IsDealt (front ++ c ∷ rest) → IsCommand c
one_in [] c rest range dealt = record { numbers = range.0; cards = dealt.0 }
one_in (d ∷ front) c rest range dealt = one_in front c rest range.1 dealt.1

contains : (r : Record) (front : List ℕ) (cs : List Command) (placed : Placed) (kept : Kept) → placed.inside ≡ length front → payload r ≡ front ++ flat_map command_text cs
    → (IsRecord r → AllByRecursion IsInRange cs) → (IsRecord r → AllByRecursion IsDealt cs) → Among placed cs kept → Contains r kept
contains r front cs placed kept begins text range dealt m = record {
  front = front ++ flat_map command_text m.front;
  rest = flat_map command_text m.rest;
  text = text ∙ ap (λ (l : List Command). front ++ flat_map command_text l) m.is ∙ ap (λ (w : List ℕ). front ++ w) (flat_split m.front m.command m.rest)
      ∙ sym (append_assoc front (flat_map command_text m.front) (command_text m.command ++ flat_map command_text m.rest))
      ∙ ap (λ (c : Command). (front ++ flat_map command_text m.front) ++ (command_text c ++ flat_map command_text m.rest)) (sym m.command_is);
  inside = m.inside_is ∙ ap (λ (n : ℕ). n + length (flat_map command_text m.front)) begins ∙ sym (length-append front (flat_map command_text m.front));
  is = λ is. subst IsCommand (sym m.command_is) (one_in m.front m.command m.rest (subst (AllByRecursion IsInRange) m.is (range is)) (subst (AllByRecursion IsDealt) m.is (dealt is)));
}

one_record : (gate : ℕ) (held : Holding) (x : Record) (records : List Record) (k : ℕ) (kept : Kept) → (with_record gate held x).entries k ≡ Some kept → (held.entries k ≡ Some kept) ⊎ Stands gate (x ∷ records) kept
one_record gate held (Promised ballot) records k kept is = inl is
one_record gate held Opened records k kept is = inl is
one_record gate held (VotedOne ballot slot command) records k kept is =
    let r = VotedOne ballot slot command in
    let placed = first_at gate (length (payload r)) 10 ballot slot in
    elim (votes_from placed (command ∷ []) held.entries k kept is) [
      | inl was ↦ inl was
      | inr m ↦ inr (record {
        before = [];
        whole = r;
        after = records;
        is = refl;
        place = m.place_is ∙ (let none : gate + 3 ≡ gate + 0 + 3 = omega arith in none);
        long = m.size_is;
        has = contains r (2 ∷ (ballot_text ballot ++ slot_text slot)) (command ∷ []) placed kept refl
            (ap (λ (w : List ℕ). 2 ∷ (ballot_text ballot ++ (slot_text slot ++ w))) (sym (append-nil (command_text command)) ∙ sym (flat_map-cons command_text command [])))
            (λ is. (is.2.numbers, tt)) (λ is. (is.2.cards, tt)) m;
      })
    ]
one_record gate held (Voted ballot slot commands) records k kept is =
    let r = Voted ballot slot commands in
    let placed = first_at gate (length (payload r)) 11 ballot slot in
    elim (votes_from placed commands held.entries k kept is) [
      | inl was ↦ inl was
      | inr m ↦ inr (record {
        before = [];
        whole = r;
        after = records;
        is = refl;
        place = m.place_is ∙ (let none : gate + 3 ≡ gate + 0 + 3 = omega arith in none);
        long = m.size_is;
        has = contains r (4 ∷ (ballot_text ballot ++ (slot_text slot ++ length commands ∷ []))) commands placed kept refl refl (λ is. is.1.each) (λ is. is.2) m;
      })
    ]

-- an entry that is held was held before, or its record is among these
held_stands : (gate : ℕ) (held : Holding) (records : List Record) (k : ℕ) (kept : Kept) → (held_from gate held records).entries k ≡ Some kept → (held.entries k ≡ Some kept) ⊎ Stands gate records kept
held_stands gate held [] k kept is = inl is
held_stands gate held (x ∷ records) k kept is = elim (held_stands (gate + length (gated (x ∷ []))) (with_record gate held x) records k kept is) [
  | inl was ↦ one_record gate held x records k kept was
  | inr stands ↦ inr (record {
    before = x ∷ stands.before;
    whole = stands.whole;
    after = stands.after;
    is = ap (λ (l : List Record). x ∷ l) stands.is;
    place = omega (arith, stands.place, length-append (payload x) [], length-append (payload x) (gated stands.before));
    long = stands.long;
    has = stands.has;
  })
]

pub kept_stands : (head : List ℕ) (records : List Record) (k : ℕ) (kept : Kept) → (holding head records).entries k ≡ Some kept → Stands (length head) records kept
kept_stands head records k kept is = elim (held_stands (length head) nothing_held records k kept is) [
  | inl none ↦ absurd (let e : None ≡ Some kept = none in cc)
  | inr stands ↦ stands
]

gated_append : (before after : List Record) → gated (before ++ after) ≡ gated before ++ gated after
gated_append [] after = refl
gated_append (x ∷ before) after =
    ap (λ (l : List ℕ). 1 ∷ l) (ap (λ (l : List ℕ). record_text x ++ l) (gated_append before after) ∙ sym (append_assoc (record_text x) (gated before) (gated after)))

each_in : (before : List Record) (r : Record) (after : List Record) → AllByRecursion IsRecord (before ++ r ∷ after) → IsRecord r
each_in [] r after each = each.0
each_in (x ∷ before) r after each = each_in before r after each.1

-- the first bytes of a list that begins with others
take_front : (front rest : List ℕ) (count : ℕ) → length front ≤ count → take count (front ++ rest) ≡ front ++ take (count - length front) rest
take_front front rest count fits =
    let same : count ≡ length front + (count - length front) = omega (arith, fits) in
    ap (λ (k : ℕ). take k (front ++ rest)) same ∙ take-append-add front rest (count - length front)

-- of the bytes of a journal, at most 31 from where an entry's command begins, inside its record's payload, begin with that command
pub record HasCommand (bytes : List ℕ) (placed : Placed) (command : Command) : Type 0 where
  pub is : IsCommand command
  pub within : placed.place + placed.inside ≤ length bytes
  pub rest : List ℕ
  pub text : take (min 31 (placed.length - placed.inside)) (drop (placed.place + placed.inside) bytes) ≡ command_text command ++ rest

module _ (head bytes : List ℕ) (records : List Record) (journal : IsJournal head bytes records) (slot : ℕ) where
  -- what is read at an entry's place begins with its command
  entry_stands : (kept : Kept) → (holding head records).entries slot ≡ Some kept → HasCommand bytes kept.placed kept.command
  entry_stands kept held =
      let first = journal.0 in
      let j = journal.2 in
      let stands = kept_stands head records slot kept held in
      let r = stands.whole in
      let start = head_of first head in
      let front = (start ++ gated stands.before) ++ 1 ∷ (length (payload r) / 256) ∷ (length (payload r) % 256) ∷ [] in
      let rest = gated stands.after ++ j.gate ∷ j.rest in
      let is_r : IsRecord r = each_in stands.before r stands.after (subst (λ (l : List Record). AllByRecursion IsRecord l) stands.is j.each) in
      let is_c = stands.has.is is_r in
      let c = kept.command in
      let parts : gated records ≡ gated stands.before ++ 1 ∷ (record_text r ++ gated stands.after) = ap gated stands.is ∙ gated_append stands.before (r ∷ stands.after) in
      let split : bytes ≡ front ++ (payload r ++ rest) = j.text ∙ ap (λ (l : List ℕ). (start ++ l) ++ j.gate ∷ j.rest) parts ∙ simp append_assoc in
      let inner = stands.has.front in
      let whole : front ++ (payload r ++ rest) ≡ (front ++ inner) ++ (command_text c ++ (stands.has.rest ++ rest)) =
      ap (λ (l : List ℕ). front ++ (l ++ rest)) stands.has.text ∙ simp append_assoc in
      let size : length (front ++ inner) ≡ kept.placed.place + kept.placed.inside =
      omega (arith, stands.place, stands.has.inside, length-append front inner, length-append (start ++ gated stands.before) (1 ∷ (length (payload r) / 256) ∷ (length (payload r) % 256) ∷ []), length-append start (gated stands.before), head_long first head) in
      let long = ap length stands.has.text in
      let fits : length (command_text c) ≤ min 31 (kept.placed.length - kept.placed.inside) =
      omega (arith, stands.long, stands.has.inside, long, length-append inner (command_text c ++ stands.has.rest), length-append (command_text c) stands.has.rest, command_most c is_c.cards) in
      record {
        is = is_c;
        within = omega (arith, size, ap length (split ∙ whole), length-append (front ++ inner) (command_text c ++ (stands.has.rest ++ rest)));
        rest = take (min 31 (kept.placed.length - kept.placed.inside) - length (command_text c)) (stands.has.rest ++ rest);
        text =
            ap (λ (l : List ℕ). take (min 31 (kept.placed.length - kept.placed.inside)) (drop (kept.placed.place + kept.placed.inside) l)) (split ∙ whole)
            ∙ ap (λ (l : List ℕ). take (min 31 (kept.placed.length - kept.placed.inside)) l) (drop_at (front ++ inner) (command_text c ++ (stands.has.rest ++ rest)) (kept.placed.place + kept.placed.inside) size)
            ∙ take_front (command_text c) (stands.has.rest ++ rest) (min 31 (kept.placed.length - kept.placed.inside)) fits;
      }

  -- an entry that the index has is that of the slot's vote, and its command stands where it says
  pub indexed : (index : Held) (placed : Placed) → Indexes index (holding head records) → found slot index.entries.items ≡ Some placed
      → (command : Command) × ((store_of (holding head records)).votes slot ≡ Some (record { ballot = placed.ballot; command = command })) × HasCommand bytes placed command
  indexed index placed indexes is = by ((holding head records).entries slot) refl
    where
      by : (entry : Option Kept) → (holding head records).entries slot ≡ entry
          → (command : Command) × ((store_of (holding head records)).votes slot ≡ Some (record { ballot = placed.ballot; command = command })) × HasCommand bytes placed command
      by None there = absurd (let e : Some placed ≡ None = sym is ∙ indexes.entries slot ∙ ap placed_of there in cc)
      by (Some kept) there =
          let same : kept.placed ≡ placed = same_Some kept.placed placed (sym (sym is ∙ indexes.entries slot ∙ ap placed_of there)) in (
            kept.command,
            ap vote_of there ∙ ap (λ (p : Placed). let v : Vote = record { ballot = p.ballot; command = kept.command } in Some v) same,
            subst (λ (p : Placed). HasCommand bytes p kept.command) same (entry_stands kept there),
          )
