-- What was handed over and what is said on values, and near misses.
use Rattle.std.proofs.Common.{◌≡◌, inl, inr, ℕ, List, [], ◌∷◌, ◌++◌, length, replicate, Option, Some, None, refl}
use Rattle.peer_codes.specs.declared.version.Version.TheVariants.{First, Second}
use Rattle.peer_codes.specs.declared.frame.Frame.{Frame}
use Rattle.peer_codes.specs.declared.hello.Hello.{Hello}
use Rattle.peer_codes.specs.declared.hello.Link.TheVariants as links
use Rattle.peer_codes.specs.declared.key.Key.{Key}
use Rattle.peer_codes.specs.declared.records.Record.{Record}
use Rattle.peer_codes.specs.declared.records.Record.TheVariants as record_of
use Rattle.peer_codes.specs.declared.role.Role.TheVariants.{Caller, Called}
use Rattle.peer_codes.specs.declared.way.Way.{Way}
use Rattle.peer_codes.specs.Codes.{after, coded}
use Rattle.peer_codes.specs.Spelling.{kind, body, record_text}
use Rattle.node_links.specs.Frames.{frame_of}
use Rattle.node_links.specs.Talks.{their_way, their_proof}
use Rattle.node_links.specs.Speaking.{Given, OwnHello, FrameFor, IsOneOf, IsOwn, frames_for, IsSaidTo, IsPlainTo, GreetsFirst, our_way, our_proof, way_on, coded_on, IsSoFar, said_to}

-- ---- node 0 and node 1

abbrev hello_by : ℕ → ℕ → Hello
hello_by from to =
    record { version = Second; ends = record { from = from; to = to; nodes = 3 }; digest = record { bytes = replicate 32 9 }; life = record { bytes = replicate 16 5 }; kept = None; promised = None; link = links.Coded (record { bytes = replicate 32 3 }) }

abbrev zero_says : Hello
zero_says = hello_by 0 1

abbrev one_says : Hello
one_says = hello_by 1 0

abbrev vote : List ℕ
vote = 0 ∷ 0 ∷ 0 ∷ 6 ∷ 2 ∷ 7 ∷ 0 ∷ 0 ∷ 0 ∷ 1 ∷ []

-- ---- both sides

-- where one side speaks the other hears
pub ways_meet : (key : Key) → our_way key Caller one_says zero_says ≡ their_way key Called zero_says one_says
ways_meet key = refl

pub called_ways_meet : (key : Key) → our_way key Called zero_says one_says ≡ their_way key Caller one_says zero_says
called_ways_meet key = refl

pub proofs_meet : (key : Key) → (our_proof key Caller one_says zero_says).tag ≡ their_proof key Called zero_says one_says
proofs_meet key = refl

-- ---- what was handed over

pub frame_handed : frames_for (Some 1) (frame_of vote ∷ []) [] ≡ FrameFor 1 vote ∷ []
frame_handed = refl

-- to a node that isn't known yet none is
pub none_to_nobody : frames_for None (frame_of vote ∷ []) [] ≡ []
none_to_nobody = refl

pub vote_said : IsSaidTo (FrameFor 1 vote ∷ []) (Some one_says) (record_of.Frame (frame_of vote))
vote_said = inl refl

-- the vote is for node 2
pub other_nodes_vote : IsSaidTo (FrameFor 2 vote ∷ []) (Some one_says) (record_of.Frame (frame_of vote)) → ⊥
other_nodes_vote (inl e) = absurd cc
other_nodes_vote (inr never) = never

-- it has a byte more
pub byte_more : IsSaidTo (FrameFor 1 vote ∷ []) (Some one_says) (record_of.Frame (frame_of (vote ++ 0 ∷ []))) → ⊥
byte_more (inl e) = absurd cc
byte_more (inr never) = never

-- no Hello came
pub said_too_soon : IsSaidTo (FrameFor 1 vote ∷ []) None (record_of.Frame (frame_of vote)) → ⊥
said_too_soon is = is

-- the own Hello isn't known
pub nobody_known : said_to None (Some one_says) ≡ None
nobody_known = refl

-- no Hello and no proof is coded
pub coded_hello : (given : List Given) → IsSaidTo given (Some one_says) (record_of.Hello zero_says) → ⊥
coded_hello given is = is

-- the Hello that was handed over, in the version of the one that came
pub own_in_the_first : IsOwn (OwnHello zero_says ∷ []) (record zero_says { version = First })
own_in_the_first = record { hello = zero_says; version = First; among = inl refl; mine_is = refl }

-- ---- without codes

pub own_said_plain : IsPlainTo (OwnHello zero_says ∷ []) None (record_of.Hello zero_says)
own_said_plain = record { hello = zero_says; version = Second; among = inl refl; mine_is = refl }

-- who dialled says something in front of its Hello, or nothing waits
pub frame_first : GreetsFirst (Some 1) (Some zero_says) (record_of.Frame (frame_of vote) ∷ record_of.Hello zero_says ∷ []) → ⊥
frame_first is = is

pub nothing_first : GreetsFirst (Some 1) None [] → ⊥
nothing_first is = is

pub hello_waits : GreetsFirst (Some 1) (Some zero_says) []
hello_waits = tt

-- ---- with codes

-- of two records the first is coded on the way as it was, and the second behind it
pub coded_in_order : (way : Way) (one two : Record) → coded_on way (two ∷ one ∷ []) ≡ coded way (kind one) (body one) ++ coded (after way (length (body one))) (kind two) (body two)
coded_in_order way one two = refl

pub way_goes_on : (way : Way) (one two : Record) → (way_on way (two ∷ one ∷ [])).number ≡ (after (after way (length (body one))) (length (body two))).number
way_goes_on way one two = refl

-- before a Hello came the own one is all
pub hello_alone : (key : Key) → IsSoFar key Caller (Some one_says) None [] None None (record_text (record_of.Hello one_says))
hello_alone key = (refl, refl, inr (refl, refl))

-- nothing is coded before
pub coded_too_soon : (key : Key) (one : Record) (text : List ℕ) → IsSoFar key Caller (Some one_says) None (one ∷ []) None None text → ⊥
coded_too_soon key one text (no_proof, none, either) = absurd cc

-- who said the proof of the other side didn't prove itself
pub other_proof : (key : Key) (text : List ℕ) → IsSoFar key Caller (Some one_says) (Some zero_says) [] None (Some (our_proof key Called one_says zero_says)) text → our_proof key Called one_says zero_says ≡ our_proof key Caller one_says zero_says
other_proof key text is = is.0

-- the Hello waits, so no proof was said
pub proof_first : (key : Key) (text : List ℕ) → IsSoFar key Caller (Some one_says) (Some zero_says) [] (Some one_says) None text → ⊥
proof_first key text is = is
