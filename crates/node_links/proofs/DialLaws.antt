-- When something is due of a connection that is dialled.
use Rattle.std.proofs.Common.{◌≡◌, inl, inr, ℕ, ◌+◌, ◌-◌, ◌<◌, ◌≤◌, Bool, true, false, cond, leb, List, [], ◌∷◌, Some, refl, ap, subst, ◌∙◌, arith}
use Rattle.std.proofs.lemmas.Bool.{leb-true, leb-false, le-leb, lt-leb}
use Rattle.node_links.specs.declared.limits.TheConstants.{GREET, REDIAL}
use Rattle.node_links.specs.declared.dial.Dial.TheVariants as dials
use Rattle.node_links.specs.declared.dial.DialDue.{DialDue}
use Rattle.node_links.specs.declared.dial.DialDue.TheVariants as dues
use Rattle.std.specs.Prelude.{◌⊎◌}
use Rattle.peer_codes.specs.declared.version.Version.TheVariants.{First, Second}
use Rattle.node_links.specs.declared.turning.DialEnd.{DialEnd}
use Rattle.node_links.specs.declared.turning.DialEnd.TheVariants as ends
use Rattle.node_links.specs.declared.turning.Turn.{Turn}
use Rattle.node_links.specs.declared.turning.Turn.TheVariants as turns
use Rattle.node_links.specs.Versions.{version_of, is_probe, behind_first, behind_silence, next_turn, turn_behind, HasSaidFirst, HasClosed, FirstIsForOlder, OlderIsMet, NewerIsMet}
use Rattle.node_links.specs.Dialling.{after_pause, due_of, IsDue, WaitsEnd, DialsAreApart, PausesAreKept}

-- nothing is due that is to wait
nothing_due : (what : DialDue) (wait : ℕ) → what ≡ dues.Nothing wait → IsDue what → ⊥
nothing_due what wait e due = subst IsDue e due

wait_is : (a b : ℕ) → dues.Nothing a ≡ dues.Nothing b → a ≡ b
wait_is a b e = cc

due_by : (late : Bool) (what : DialDue) (left wait : ℕ) → cond late what (dues.Nothing left) ≡ dues.Nothing wait → IsDue what → (late ≡ false) × (left ≡ wait)
due_by true what left wait e due = absurd (nothing_due what wait e due)
due_by false what left wait e due = (refl, wait_is left wait e)

-- at the end of the wait it is due
due_then : (since pause now wait : ℕ) (what : DialDue) → since ≤ now → after_pause since pause now what ≡ dues.Nothing wait → IsDue what → IsDue (after_pause since pause (now + wait) what)
due_then since pause now wait what ahead e due =
    let parts = due_by (leb pause (now - since)) what (pause - (now - since)) wait e due in
    let late : leb pause ((now + wait) - since) ≡ true = le-leb _ _ (omega (arith, ahead, parts.1)) in
    rw late due

-- and at no moment before
not_before : (since pause now wait early : ℕ) (what : DialDue) → since ≤ now → early < now + wait → after_pause since pause now what ≡ dues.Nothing wait → IsDue what
    → IsDue (after_pause since pause early what) → ⊥
not_before since pause now wait early what ahead before e due is =
    let parts = due_by (leb pause (now - since)) what (pause - (now - since)) wait e due in
    let waits : now - since < pause = leb-false _ _ parts.0 in
    let soon : leb pause (early - since) ≡ false = lt-leb _ _ (omega (arith, ahead, before, waits, parts.1)) in
    subst IsDue (ap (λ (late : Bool). cond late what (dues.Nothing (pause - (early - since)))) soon) is

pub waits_end : WaitsEnd
waits_end (dials.Waits since pause) now wait shut ahead e = (due_then since pause now wait dues.Dial ahead e tt, λ early before is. not_before since pause now wait early dues.Dial ahead before e tt is)
waits_end (dials.Dialled since most) now wait shut ahead e = (due_then since most now wait dues.GiveUp ahead e tt, λ early before is. not_before since most now wait early dues.GiveUp ahead before e tt is)
waits_end (dials.Answered since at) now wait shut ahead e = (due_then at GREET now wait dues.GiveUp ahead e tt, λ early before is. not_before at GREET now wait early dues.GiveUp ahead before e tt is)
waits_end (dials.Open since) now wait shut ahead e = absurd cc

-- what is dialled is so behind the pause
passed_by : (late : Bool) (left : ℕ) → cond late dues.Dial (dues.Nothing left) ≡ dues.Dial → late ≡ true
passed_by true left e = refl
passed_by false left e = absurd cc

apart_by : (at since later : ℕ) → Some at ≡ Some since → due_of (dials.Waits at REDIAL) later ≡ dues.Dial → REDIAL ≤ later - since
apart_by at since later is e =
    let same : at ≡ since = cc in
    let passed : REDIAL ≤ later - at = leb-true _ _ (passed_by (leb REDIAL (later - at)) (REDIAL - (later - at)) e) in
    subst (λ (m : ℕ). REDIAL ≤ later - m) same passed

pub dials_are_apart : DialsAreApart
dials_are_apart (dials.Dialled at most) since ended later is e = apart_by at since later is e
dials_are_apart (dials.Answered at answered) since ended later is e = apart_by at since later is e
dials_are_apart (dials.Open at) since ended later is e = apart_by at since later is e
dials_are_apart (dials.Waits at pause) since ended later is e = absurd cc

pub pauses_are_kept : PausesAreKept
pauses_are_kept d ended pause later e = leb-true _ _ (passed_by (leb pause (later - ended)) (pause - (later - ended)) e)

-- ---- versions

-- the version in which a peer is dialled behind one of these ends
-- what a turn comes of
again_by : (end : DialEnd) (turn : Turn) → next_turn turn end ≡ turns.Again → (end ≡ ends.Greeted First) × (turn ≡ turns.Probe)
again_by ends.Opened turn is = absurd cc
again_by ends.Failed turn is = absurd cc
again_by (ends.Greeted Second) turn is = absurd cc
again_by (ends.Greeted First) turns.Second is = absurd cc
again_by (ends.Greeted First) turns.Probe is = (refl, refl)
again_by (ends.Greeted First) turns.Again is = absurd cc
again_by (ends.Greeted First) turns.First is = absurd cc
again_by ends.Silent turns.Second is = absurd cc
again_by ends.Silent turns.Probe is = absurd cc
again_by ends.Silent turns.Again is = absurd cc
again_by ends.Silent turns.First is = absurd cc

probe_by : (end : DialEnd) (turn : Turn) → next_turn turn end ≡ turns.Probe → (end ≡ ends.Silent) × (turn ≡ turns.Second)
probe_by ends.Opened turn is = absurd cc
probe_by ends.Failed turn is = absurd cc
probe_by (ends.Greeted Second) turn is = absurd cc
probe_by (ends.Greeted First) turns.Second is = absurd cc
probe_by (ends.Greeted First) turns.Probe is = absurd cc
probe_by (ends.Greeted First) turns.Again is = absurd cc
probe_by (ends.Greeted First) turns.First is = absurd cc
probe_by ends.Silent turns.Second is = (refl, refl)
probe_by ends.Silent turns.Probe is = absurd cc
probe_by ends.Silent turns.Again is = absurd cc
probe_by ends.Silent turns.First is = absurd cc

-- the dials behind which one is made as a probe, or again
probed : (dials : List DialEnd) → turn_behind dials ≡ turns.Probe → (before : List DialEnd) × ((dials ≡ ends.Silent ∷ before) × (turn_behind before ≡ turns.Second))
probed [] is = absurd cc
probed (end ∷ before) is = let parts = probe_by end (turn_behind before) is in (before, (ap (λ (e : DialEnd). e ∷ before) parts.0, parts.1))

again : (dials : List DialEnd) → turn_behind dials ≡ turns.Again → (before : List DialEnd) × ((dials ≡ ends.Greeted First ∷ ends.Silent ∷ before) × (turn_behind before ≡ turns.Second))
again [] is = absurd cc
again (end ∷ before) is =
    let parts = again_by end (turn_behind before) is in
    let behind = probed before parts.1 in
    (behind.0, (ap (λ (e : DialEnd). e ∷ before) parts.0 ∙ ap (λ (ds : List DialEnd). ends.Greeted First ∷ ds) behind.1.0, behind.1.1))

behind_greeted : (before : List DialEnd) (turn : Turn) → turn_behind before ≡ turn → version_of (behind_first turn) ≡ First → (is_probe (behind_first (turn_behind before)) ≡ true) ⊎ (HasSaidFirst (ends.Greeted First ∷ before) ⊎ HasClosed (ends.Greeted First ∷ before))
behind_greeted before turns.Second at is = inr (inl (before, (refl, ap version_of at)))
behind_greeted before turns.Probe at is = absurd cc
behind_greeted before turns.Again at is = inr (inl (before, (refl, ap version_of at)))
behind_greeted before turns.First at is = absurd cc

behind_silent : (before : List DialEnd) (turn : Turn) → turn_behind before ≡ turn → version_of (behind_silence turn) ≡ First → (is_probe (behind_silence (turn_behind before)) ≡ true) ⊎ (HasSaidFirst (ends.Silent ∷ before) ⊎ HasClosed (ends.Silent ∷ before))
behind_silent before turns.Second at is = inl (ap (λ (t : Turn). is_probe (behind_silence t)) at)
behind_silent before turns.Probe at is = absurd cc
behind_silent before turns.Again at is =
    let behind = again before at in
    inr (inr (behind.0, (ap (λ (ds : List DialEnd). ends.Silent ∷ ds) behind.1.0, behind.1.1)))
behind_silent before turns.First at is = absurd cc

first_by : (end : DialEnd) (before : List DialEnd) → version_of (next_turn (turn_behind before) end) ≡ First → (is_probe (next_turn (turn_behind before) end) ≡ true) ⊎ (HasSaidFirst (end ∷ before) ⊎ HasClosed (end ∷ before))
first_by ends.Opened before is = absurd cc
first_by ends.Failed before is = absurd cc
first_by (ends.Greeted Second) before is = absurd cc
first_by (ends.Greeted First) before is = behind_greeted before (turn_behind before) refl is
first_by ends.Silent before is = behind_silent before (turn_behind before) refl is

pub first_is_for_older : FirstIsForOlder
first_is_for_older [] is = absurd cc
first_is_for_older (end ∷ before) is = first_by end before is

pub older_is_met : OlderIsMet
older_is_met true turns.Second = inr (inl refl)
older_is_met true turns.Probe = inr (inr (inl refl))
older_is_met true turns.Again = inr (inl refl)
older_is_met true turns.First = inl refl
older_is_met false turns.Second = inr (inr (inr (inl refl)))
older_is_met false turns.Probe = inr (inr (inl refl))
older_is_met false turns.Again = inr (inl refl)
older_is_met false turns.First = inl refl

pub newer_is_met : NewerIsMet
newer_is_met turns.Second = inl refl
newer_is_met turns.Probe = inr (inl refl)
newer_is_met turns.Again = inl refl
newer_is_met turns.First = inl refl
