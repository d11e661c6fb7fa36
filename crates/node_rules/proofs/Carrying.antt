-- Frames carry what is sent.
use Rattle.std.proofs.Common.{◌≡◌, ◌≢◌, ℕ, zero, suc, ◌<◌, ◌≤◌, ◌⊎◌, inl, inr, Bool, true, false, ◌==◌, if◌then◌else◌, List, [], ◌∷◌, ◌++◌, refl, sym, ap, subst, ◌∙◌, arith}
use Rattle.std.proofs.lemmas.Bool.{eqb-true, eqb-false}
use Rattle.paxos_wire.specs.declared.message.Message.{Message as Wire}
use Rattle.protocol_model.specs.Sets.{In}
use Rattle.protocol_model.specs.Messages.{Message, Prepare, Promise, Refuse, Accept, Accepted, Chosen, Ask, Forward, Said, sender_of}
use Rattle.protocol_model.specs.Frames.{carried}
use Rattle.node_rules.specs.Sending.{Frame, one, to_first}
use Rattle.node_rules.specs.Called.{IsNote, IsForAll, IsSaidTo, IsSaid, Carry, CarryAll}
use Rattle.protocol_model.proofs.Sets.{in_later, in_first, in_split, only_in, last_or_below}

pub nothing_carried : (n i : ℕ) → Carry n i [] []
nothing_carried n i = record {
  others = λ f h. absurd h;
  said = λ m h. absurd (h.1.1);
  own = λ m h. absurd h;
  accepted = λ s b k c h. absurd h;
  accepts = λ b k c h. absurd (h.1.1);
}

pub nothing_lost : (n i : ℕ) → CarryAll n i [] []
nothing_lost n i = record { covers = λ m h. absurd h; to_all = λ m h. absurd h }

-- ---- more frames say more

said_first : (i : ℕ) (fs gs : List Frame) (m : Message) → IsSaid i fs m → IsSaid i (fs ++ gs) m
said_first i fs gs m h = (h.0, (h.1.0, in_first fs gs h.1.0 h.1.1, h.1.2, h.1.3))

pub said_later : (i : ℕ) (fs gs : List Frame) (m : Message) → IsSaid i gs m → IsSaid i (fs ++ gs) m
said_later i fs gs m h = (h.0, (h.1.0, in_later fs gs h.1.0 h.1.1, h.1.2, h.1.3))

said_to_first : (i : ℕ) (fs gs : List Frame) (to : ℕ) (m : Message) → IsSaidTo i fs to m → IsSaidTo i (fs ++ gs) to m
said_to_first i fs gs to m h = (h.0, in_first fs gs h.0 h.1, h.2, h.3)

said_to_later : (i : ℕ) (fs gs : List Frame) (to : ℕ) (m : Message) → IsSaidTo i gs to m → IsSaidTo i (fs ++ gs) to m
said_to_later i fs gs to m h = (h.0, in_later fs gs h.0 h.1, h.2, h.3)

pub said_split : (i : ℕ) (fs gs : List Frame) (m : Message) → IsSaid i (fs ++ gs) m → IsSaid i fs m ⊎ IsSaid i gs m
said_split i fs gs m h = elim (in_split fs gs h.1.0 h.1.1) [ inl a ↦ inl (h.0, (h.1.0, a, h.1.2, h.1.3)) | inr b ↦ inr (h.0, (h.1.0, b, h.1.2, h.1.3)) ]

-- ---- frames behind others, and what was sent after it

pub joined_carry : (n i : ℕ) (fs gs : List Frame) (sent later : List Message) → Carry n i fs sent → Carry n i gs later → Carry n i (fs ++ gs) (later ++ sent)
joined_carry n i fs gs sent later a b = record {
  others = λ f h. elim (in_split fs gs f h) [ inl x ↦ a.others f x | inr x ↦ b.others f x ];
  said = λ m h. elim (said_split i fs gs m h) [ inl x ↦ in_later later sent m (a.said m x) | inr x ↦ in_first later sent m (b.said m x) ];
  own = λ m h. elim (in_split later sent m h) [ inl x ↦ b.own m x | inr x ↦ a.own m x ];
  accepted = λ s l k c h. elim (in_split later sent (Accepted s l k c) h) [
    | inl x ↦ said_later i fs gs (Accepted s l k c) (b.accepted s l k c x)
    | inr x ↦ said_first i fs gs (Accepted s l k c) (a.accepted s l k c x)
  ];
  accepts = λ l k c h. elim (said_split i fs gs (Accept l k c) h) [
    | inl x ↦ said_first i fs gs (Accepted i l k c) (a.accepts l k c x)
    | inr x ↦ said_later i fs gs (Accepted i l k c) (b.accepts l k c x)
  ];
}

pub joined_all : (n i : ℕ) (fs gs : List Frame) (sent later : List Message) → CarryAll n i fs sent → CarryAll n i gs later → CarryAll n i (fs ++ gs) (later ++ sent)
joined_all n i fs gs sent later a b = record {
  covers = λ m h. elim (in_split later sent m h) [
    | inl x ↦ elim (b.covers m x) [ inl note ↦ inl note | inr said ↦ inr (said_later i fs gs m said) ]
    | inr x ↦ elim (a.covers m x) [ inl note ↦ inl note | inr said ↦ inr (said_first i fs gs m said) ]
  ];
  to_all = λ m h all to below other. elim (in_split later sent m h) [
    | inl x ↦ said_to_later i fs gs to m (b.to_all m x all to below other)
    | inr x ↦ said_to_first i fs gs to m (a.to_all m x all to below other)
  ];
}

-- ---- one frame, with what goes to one node alone

one_said : (i to : ℕ) (w : Wire) (m other : Message) → carried i w ≡ m ∷ [] → IsSaid i (one to w) other → other ≡ m
one_said i to w m other e h =
    let same : h.1.0 ≡ record { to = to; message = w } = only_in h.1.0 (record { to = to; message = w }) h.1.1 in
    only_in other m (subst (λ (l : List Message). In other l) (ap (λ (f : Frame). carried i f.message) same ∙ e) h.1.3)

says_one : (i to : ℕ) (w : Wire) (m : Message) → carried i w ≡ m ∷ [] → IsSaidTo i (one to w) to m
says_one i to w m e = (record { to = to; message = w }, inl refl, refl, subst (λ (l : List Message). In m l) (sym e) (inl refl))

pub one_carry : (n i to : ℕ) (w : Wire) (m : Message) → carried i w ≡ m ∷ [] → (IsForAll m → ⊥) → sender_of m ≡ i → to < n → to ≢ i → Carry n i (one to w) (m ∷ [])
one_carry n i to w m e alone own below other = record {
  others = λ f h. let same : f ≡ record { to = to; message = w } = only_in f (record { to = to; message = w }) h in
      (subst (λ (g : Frame). g.to < n) (sym same) below, subst (λ (g : Frame). g.to ≢ i) (sym same) other);
  said = λ o h. inl (one_said i to w m o e h);
  own = λ o h. ap sender_of (only_in o m h) ∙ own;
  accepted = λ s b k c h. absurd (alone (subst IsForAll (only_in (Accepted s b k c) m h) tt));
  accepts = λ b k c h. absurd (alone (subst IsForAll (one_said i to w m (Accept b k c) e h) tt));
}

pub one_all : (n i to : ℕ) (w : Wire) (m : Message) → carried i w ≡ m ∷ [] → (IsForAll m → ⊥) → CarryAll n i (one to w) (m ∷ [])
one_all n i to w m e alone = record {
  covers = λ o h. inr (to, subst (λ (k : Message). IsSaidTo i (one to w) to k) (sym (only_in o m h)) (says_one i to w m e));
  to_all = λ o h all. absurd (alone (subst IsForAll (only_in o m h) all));
}

-- ---- a note

pub note_carry : (n i : ℕ) (m : Message) → IsNote m → sender_of m ≡ i → Carry n i [] (m ∷ [])
note_carry n i m note own = record {
  others = λ f h. absurd h;
  said = λ o h. absurd (h.1.1);
  own = λ o h. ap sender_of (only_in o m h) ∙ own;
  accepted = λ s b k c h. absurd (subst IsNote (sym (only_in (Accepted s b k c) m h)) note);
  accepts = λ b k c h. absurd (h.1.1);
}

note_not_for_all : (m : Message) → IsNote m → IsForAll m → ⊥
note_not_for_all (Prepare b s) a f = a
note_not_for_all (Promise k b s t) a f = f
note_not_for_all (Refuse k b s p) a f = a
note_not_for_all (Accept b s c) a f = a
note_not_for_all (Accepted k b s c) a f = a
note_not_for_all (Chosen k s c) a f = a
note_not_for_all (Ask k s) a f = a
note_not_for_all (Forward k c) a f = a
note_not_for_all (Said k c) a f = f

pub note_all : (n i : ℕ) (m : Message) → IsNote m → CarryAll n i [] (m ∷ [])
note_all n i m note = record {
  covers = λ o h. inl (subst IsNote (sym (only_in o m h)) note);
  to_all = λ o h all. absurd (note_not_for_all m note (subst IsForAll (only_in o m h) all));
}

-- ---- a frame to each other node

to_step : (n k i : ℕ) (w : Wire) (f : Frame) (b : Bool) → (k == i) ≡ b → k < n → (In f (to_first k i w) → (f.to < n) × (f.to ≢ i) × (f.message ≡ w))
    → In f (to_first k i w ++ (if b then [] else one k w)) → (f.to < n) × (f.to ≢ i) × (f.message ≡ w)
to_step n k i w f true e l ih h = elim (in_split (to_first k i w) [] f h) [ inl x ↦ ih x | inr x ↦ absurd x ]
to_step n k i w f false e l ih h = elim (in_split (to_first k i w) (one k w) f h) [
  | inl x ↦ ih x
  | inr x ↦ (let same : f ≡ record { to = k; message = w } = only_in f (record { to = k; message = w }) x in
      (subst (λ (g : Frame). g.to < n) (sym same) l, subst (λ (g : Frame). g.to ≢ i) (sym same) (eqb-false k i e), ap (λ (g : Frame). g.message) same))
]

pub in_to : (n k i : ℕ) (w : Wire) (f : Frame) → k ≤ n → In f (to_first k i w) → (f.to < n) × (f.to ≢ i) × (f.message ≡ w)
unfolding to_first
in_to n zero i w f l h = absurd h
in_to n (suc k) i w f l h = to_step n k i w f (k == i) refl (omega arith) (in_to n k i w f (omega arith)) h

has_step : (k i to : ℕ) (w : Wire) (b : Bool) → (k == i) ≡ b → to < suc k → to ≢ i → (to < k → In (record { to = to; message = w }) (to_first k i w))
    → (to ≡ k) ⊎ (to < k) → In (record { to = to; message = w }) (to_first k i w ++ (if b then [] else one k w))
has_step k i to w true e l ne ih (inl same) = absurd (ne (same ∙ eqb-true k i e))
has_step k i to w false e l ne ih (inl same) = in_later (to_first k i w) (one k w) (record { to = to; message = w }) (inl (ap (λ (j : ℕ). record { to = j; message = w }) same))
has_step k i to w b e l ne ih (inr below) = in_first (to_first k i w) (if b then [] else one k w) (record { to = to; message = w }) (ih below)

pub has_to : (k i to : ℕ) (w : Wire) → to < k → to ≢ i → In (record { to = to; message = w }) (to_first k i w)
unfolding to_first
has_to zero i to w l ne = absurd (omega arith)
has_to (suc k) i to w l ne = has_step k i to w (k == i) refl l ne (λ below. has_to k i to w below ne) (last_or_below k to l)

others_said : (n i : ℕ) (w : Wire) (m other : Message) → carried i w ≡ m ∷ [] → IsSaid i (to_first n i w) other → other ≡ m
others_said n i w m other e h =
    let t = in_to n n i w h.1.0 (omega arith) h.1.1 in
    only_in other m (subst (λ (l : List Message). In other l) (ap (carried i) t.2 ∙ e) h.1.3)

says_to : (n i to : ℕ) (w : Wire) (m : Message) → carried i w ≡ m ∷ [] → to < n → to ≢ i → IsSaidTo i (to_first n i w) to m
says_to n i to w m e l ne = (record { to = to; message = w }, has_to n i to w l ne, refl, subst (λ (x : List Message). In m x) (sym e) (inl refl))

-- there is another node
pub another : (i : ℕ) → (j : ℕ) × (j < 2) × (j ≢ i)
another zero = (1, omega arith, λ e. absurd (omega (arith, e)))
another (suc i) = (0, omega arith, λ e. absurd (omega (arith, e)))

pub said_by_others : (n i : ℕ) (w : Wire) (m : Message) → 3 ≤ n → carried i w ≡ m ∷ [] → IsSaid i (to_first n i w) m
said_by_others n i w m three e = let j = another i in (j.0, says_to n i j.0 w m e (let l = j.1 in omega (arith, three, l)) j.2)

-- that isn't a proposal
abbrev pub IsNoProposal : Message → Type 0
IsNoProposal (Prepare ballot slot) = Unit {0}
IsNoProposal (Promise sender ballot slot told) = Unit {0}
IsNoProposal (Refuse sender ballot slot promised) = Unit {0}
IsNoProposal (Accept ballot slot command) = ⊥
IsNoProposal (Accepted sender ballot slot command) = Unit {0}
IsNoProposal (Chosen sender slot command) = Unit {0}
IsNoProposal (Ask sender slot) = Unit {0}
IsNoProposal (Forward sender command) = Unit {0}
IsNoProposal (Said sender command) = Unit {0}

pub others_carry : (n i : ℕ) (w : Wire) (m : Message) → 3 ≤ n → carried i w ≡ m ∷ [] → IsNoProposal m → sender_of m ≡ i → Carry n i (to_first n i w) (m ∷ [])
others_carry n i w m three e other own = record {
  others = λ f h. let t = in_to n n i w f (omega arith) h in (t.0, t.1);
  said = λ o h. inl (others_said n i w m o e h);
  own = λ o h. ap sender_of (only_in o m h) ∙ own;
  accepted = λ s b k c h. subst (λ (x : Message). IsSaid i (to_first n i w) x) (sym (only_in (Accepted s b k c) m h)) (said_by_others n i w m three e);
  accepts = λ b k c h. absurd (subst IsNoProposal (sym (others_said n i w m (Accept b k c) e h)) other);
}

pub others_all : (n i : ℕ) (w : Wire) (m : Message) → 3 ≤ n → carried i w ≡ m ∷ [] → CarryAll n i (to_first n i w) (m ∷ [])
others_all n i w m three e = record {
  covers = λ o h. inr (subst (λ (x : Message). IsSaid i (to_first n i w) x) (sym (only_in o m h)) (said_by_others n i w m three e));
  to_all = λ o h all to below other. subst (λ (x : Message). IsSaidTo i (to_first n i w) to x) (sym (only_in o m h)) (says_to n i to w m e below other);
}
