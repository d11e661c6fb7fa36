-- What is printed, and what counts as delivered, on values that are written out, with near misses.
use Rattle.std.proofs.Common.{◌≡◌, ℕ, zero, suc, ◌<◌, Bool, true, false, List, [], ◌∷◌, ◌++◌, refl, Ok, arith}
use Rattle.std.specs.Prelude.{Option, Some, None, codes}
use Rattle.std.specs.Fmt.{digits}
use Rattle.hex.specs.Hex.{encode_with}
use Rattle.dealer_node.specs.Texts.{Marked}
use Rattle.play_script.specs.declared.bounds.Bounds.{Bounds}
use Rattle.play_script.specs.declared.order.Order.{Order}
use Rattle.play_script.specs.declared.order.Order.TheVariants.{Tick, Away, Deliver, Flush, Connect, Drop, Line, Stop, Start}
use Rattle.play_script.specs.Orders.{Says}
use Rattle.protocol_model.specs.Dealers.{Log}
use Rattle.playing.specs.Marks.{AreDelivered, IsFirstMissing}
use Rattle.playing.specs.Playing.{Scene, Answers, bad_script, obeyed}
use Rattle.playing.specs.Showing.{frames_text, text_for, answer_text}

-- ---- what is printed

-- frames of a node to nodes 0 and 2
abbrev two_frames : List (Marked ℕ)
two_frames = record { mark = 0; text = 0 ∷ 171 ∷ [] } ∷ record { mark = 2; text = 1 ∷ [] } ∷ []

-- their numbers rise from the first of the call, whichever that is
numbers_rise : frames_text 1 7 two_frames ≡ codes "frame 7 1>0 00ab\nframe 8 1>2 01\n"
unfolding digits encode_with
numbers_rise = refl

numbers_begin_with_0 : frames_text 1 0 two_frames ≡ codes "frame 0 1>0 00ab\nframe 1 1>2 01\n"
unfolding digits encode_with
numbers_begin_with_0 = refl

no_frames : frames_text 1 7 [] ≡ []
no_frames = refl

-- each line of a log has the node in front
two_log_lines : text_for 2 Log (codes "a\nb\n") ≡ codes "2 L a\n2 L b\n"
unfolding digits
two_log_lines = refl

nothing_of_ok : answer_text 0 (Ok tt) ≡ []
nothing_of_ok = refl

-- ---- what counts as delivered

-- of four frames the first and the third were delivered
abbrev some_delivered : List Bool
some_delivered = true ∷ false ∷ true ∷ false ∷ []

first_delivered : AreDelivered some_delivered 1
first_delivered zero below = refl
first_delivered (suc number) below = absurd (omega (arith, below))

second_is_missing : IsFirstMissing some_delivered 1
second_is_missing = record { missing = refl; before = first_delivered }

-- the last wasn't delivered either, and isn't the first of these
last_is_not_the_first : ¬ (IsFirstMissing some_delivered 3)
last_is_not_the_first is = let delivered : ◌≡◌ {A = Option Bool} (Some false) (Some true) = is.before 1 (omega arith) in cc

-- one that was delivered isn't missing, though all before it were
delivered_is_not_missing : ¬ (IsFirstMissing some_delivered 0)
delivered_is_not_missing is = let missing : ◌≡◌ {A = Option Bool} (Some true) (Some false) = is.missing in cc

-- nor is one that was never sent
unsent_is_not_missing : ¬ (IsFirstMissing (true ∷ []) 1)
unsent_is_not_missing is = let missing : ◌≡◌ {A = Option Bool} None (Some false) = is.missing in cc

-- ---- lines that say nothing

front_letter : (x y : ℕ) (xs ys : List ℕ) → x ∷ xs ≡ y ∷ ys → x ≡ y
front_letter x y xs ys same = cc

second_letter : (x y z w : ℕ) (xs ys : List ℕ) → x ∷ z ∷ xs ≡ y ∷ w ∷ ys → z ≡ w
second_letter x y z w xs ys same = cc

-- no word begins so
no_such_word : (bounds : Bounds) (order : Order) → ¬ (Says bounds (codes "tock 0") order)
no_such_word bounds (Tick node) says = omega (arith, second_letter _ _ _ _ _ _ says.1)
no_such_word bounds (Away node) says = omega (arith, front_letter _ _ _ _ says.1)
no_such_word bounds (Deliver frame) says = omega (arith, front_letter _ _ _ _ says.1)
no_such_word bounds (Flush most) says = omega (arith, front_letter _ _ _ _ says.1)
no_such_word bounds (Connect node seat) says = omega (arith, front_letter _ _ _ _ says.1)
no_such_word bounds (Drop node seat) says = omega (arith, front_letter _ _ _ _ says.1)
no_such_word bounds (Line node seat line) says = omega (arith, front_letter _ _ _ _ says.1)
no_such_word bounds (Stop node pick) says = omega (arith, front_letter _ _ _ _ says.1)
no_such_word bounds (Start node) says = omega (arith, front_letter _ _ _ _ says.1)

-- it is told, and nothing changes
bad_line_is_told : (scene : Scene) → Answers scene (codes "tock 0") (codes "E 110 BadScript\n") scene
bad_line_is_told scene = bad_script (no_such_word _) refl refl

-- silence is no answer to it
no_silence : (scene new : Scene) → ¬ (Answers scene (codes "tock 0") [] new)
no_silence scene new (bad_script nothing text same) = cc
no_silence scene new (obeyed order says obeys) = no_such_word _ order says
