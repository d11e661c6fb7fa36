-- Records as they are written byte for byte, and bytes that are none.
use Rattle.std.proofs.Common.{◌≡◌, ℕ, true, false, lit<, List, [], ◌∷◌, ◌++◌, replicate, Some, None, Ok, Err, refl, codes, arith}
use Rattle.byteorder.specs.Endian.{big_bytes}
use Rattle.paxos_wire.specs.Reading.{ballot_at}
use Rattle.peer_codes.specs.declared.limits.TheConstants.{PLAIN_HELLO_BYTES, CODED_HELLO_BYTES, MOST_LENGTH}
use Rattle.peer_codes.specs.declared.fault.RecordFault.TheVariants.{BadLength, BadKind, BadHello}
use Rattle.peer_codes.specs.declared.version.Version.TheVariants.{First, Second}
use Rattle.peer_codes.specs.declared.hello.Link.{Link}
use Rattle.peer_codes.specs.declared.hello.Link.TheVariants.{Plain, Coded}
use Rattle.peer_codes.specs.declared.hello.Hello.{Hello}
use Rattle.peer_codes.specs.declared.beat.Beat.{Beat}
use Rattle.peer_codes.specs.declared.records.Record.TheVariants as record_of
use Rattle.peer_codes.specs.declared.kind.Kind.TheVariants as kind_of
use Rattle.peer_codes.specs.declared.connection_fault.ConnectionFault.TheVariants as faults
use Rattle.peer_codes.specs.declared.role.Role.TheVariants.{Caller, Called}
use Rattle.peer_codes.specs.declared.way.Way.{Way}
use Rattle.peer_codes.specs.Versions.{magic_of, version_told, same_version}
use Rattle.peer_codes.specs.Mores.{is_more}
use Rattle.peer_codes.specs.Kinds.{kind_byte, kind_told}
use Rattle.peer_codes.specs.Lines.{record_fault_code, record_fault_line, connection_fault_code, connection_fault_line}
use Rattle.peer_codes.specs.Hmac.{padded, inner_pad, outer_pad}
use Rattle.peer_codes.specs.Codes.{role_byte, coded_text as text_of_a_tag, seal_text, xored, fresh_way, after, uncovered}
use Rattle.peer_codes.specs.Fits.{IsFrame, IsMore}
use Rattle.peer_codes.specs.Spelling.{hello_text, beat_text, enveloped, record_text}
use Rattle.peer_codes.specs.Reading.{ends_at, life_at, kept_at, promised_at, greeting_at, lives_at, link_at, hello_of, beat_of, content_of}
use Rattle.peer_codes.specs.Faults.{needed, kind_in, reading, IsPartial}

-- ---- kinds and faults

pub magic_is_hdn1 : big_bytes 4 (magic_of First) ≡ codes "HDN1"
magic_is_hdn1 = refl

pub magic_is_hdn2 : big_bytes 4 (magic_of Second) ≡ codes "HDN2"
magic_is_hdn2 = refl

pub hdn2_is_the_second : version_told 0x48444e32 ≡ Some Second
hdn2_is_the_second = refl

pub hdn3-none : version_told 0x48444e33 ≡ None
hdn3-none = refl

pub versions_differ : same_version First Second ≡ false
versions_differ = refl

pub third_kind : kind_told 3 ≡ Some kind_of.Beat
third_kind = refl

pub fourth_kind : kind_told 4 ≡ Some (kind_of.More 4)
fourth_kind = refl

pub last_kind : kind_told 255 ≡ Some (kind_of.More 255)
last_kind = refl

pub kind_108-none : kind_told 108 ≡ None
kind_108-none = refl

pub byte_of_a_further_kind : kind_byte (kind_of.More 109) ≡ 109
byte_of_a_further_kind = refl

-- a beat's byte is that of no further kind
pub kind_3-not_further : is_more 3 ≡ false
kind_3-not_further = refl

-- with kind 108 a number and nothing sent would be what the seal is made from
pub seal_as_a_record : text_of_a_tag 0x48444e3120736561 (kind_of.More 108) [] ≡ seal_text
seal_as_a_record = refl

pub bad_hello_is_122 : record_fault_code BadHello ≡ 122
bad_hello_is_122 = refl

pub bad_hello_line : record_fault_line BadHello ≡ codes "122 BadHello"
bad_hello_line = refl

pub plain_hellos_have_77 : PLAIN_HELLO_BYTES ≡ 77
plain_hellos_have_77 = refl

pub coded_hellos_have_109 : CODED_HELLO_BYTES ≡ 109
coded_hellos_have_109 = refl

pub lengths_go_to_4133 : MOST_LENGTH ≡ 4133
lengths_go_to_4133 = refl

-- ---- Hellos: node 1 speaks to node 0 of three, keeps a life of it, and promised the ballot (7, 2)

abbrev digest : List ℕ
digest = replicate 32 9

abbrev own : List ℕ
own = replicate 16 5

abbrev others : List ℕ
others = replicate 16 6

abbrev nonce : List ℕ
nonce = replicate 32 8

abbrev said : Link → Hello
said link = record { version = First; ends = record { from = 1; to = 0; nodes = 3 }; digest = record { bytes = digest }; life = record { bytes = own }; kept = Some (record { bytes = others }); promised = Some (record { round = 7; node = 2 }); link = link }

abbrev plain_text : List ℕ
plain_text = 72 ∷ 68 ∷ 78 ∷ 49 ∷ 0 ∷ 1 ∷ 0 ∷ 3 ∷ (digest ++ (own ++ (others ++ (0 ∷ 0 ∷ 0 ∷ 7 ∷ 2 ∷ []))))

abbrev coded_text : List ℕ
coded_text = 72 ∷ 68 ∷ 78 ∷ 49 ∷ 1 ∷ 1 ∷ 0 ∷ 3 ∷ (digest ++ (own ++ (others ++ (0 ∷ 0 ∷ 0 ∷ 7 ∷ 2 ∷ nonce))))

pub plain_hello : hello_text (said Plain) ≡ plain_text
plain_hello = refl

pub coded_hello : hello_text (said (Coded (record { bytes = nonce }))) ≡ coded_text
coded_hello = refl

pub plain_hello_reads : hello_of plain_text ≡ Some (said Plain)
unfolding hello_of greeting_at ends_at lives_at life_at kept_at promised_at ballot_at link_at
plain_hello_reads = refl

pub coded_hello_reads : hello_of coded_text ≡ Some (said (Coded (record { bytes = nonce })))
unfolding hello_of greeting_at ends_at lives_at life_at kept_at promised_at ballot_at link_at
coded_hello_reads = refl

-- a Hello of the second version differs in one byte
abbrev second_text : List ℕ
second_text = 72 ∷ 68 ∷ 78 ∷ 50 ∷ 1 ∷ 1 ∷ 0 ∷ 3 ∷ (digest ++ (own ++ (others ++ (0 ∷ 0 ∷ 0 ∷ 7 ∷ 2 ∷ nonce))))

abbrev said_second : Hello
said_second = record (said (Coded (record { bytes = nonce }))) { version = Second }

pub second_hello : hello_text said_second ≡ second_text
second_hello = refl

pub second_hello_reads : hello_of second_text ≡ Some said_second
unfolding hello_of greeting_at ends_at lives_at life_at kept_at promised_at ballot_at link_at
second_hello_reads = refl

-- a version that there isn't
pub hdn0-none : hello_of (72 ∷ 68 ∷ 78 ∷ 48 ∷ 0 ∷ 1 ∷ 0 ∷ 3 ∷ (digest ++ (own ++ (others ++ (0 ∷ 0 ∷ 0 ∷ 7 ∷ 2 ∷ []))))) ≡ None
unfolding hello_of greeting_at ends_at lives_at life_at kept_at promised_at ballot_at link_at
hdn0-none = refl

-- a byte more
pub longer-none : hello_of (plain_text ++ 0 ∷ []) ≡ None
unfolding hello_of greeting_at ends_at lives_at life_at kept_at promised_at ballot_at link_at
longer-none = refl

-- a kind of connection that there isn't
pub link_2-none : hello_of (72 ∷ 68 ∷ 78 ∷ 49 ∷ 2 ∷ 1 ∷ 0 ∷ 3 ∷ (digest ++ (own ++ (others ++ (0 ∷ 0 ∷ 0 ∷ 7 ∷ 2 ∷ nonce))))) ≡ None
unfolding hello_of greeting_at ends_at lives_at life_at kept_at promised_at ballot_at link_at
link_2-none = refl

-- a node that speaks to itself
pub itself-none : ends_at (1 ∷ 1 ∷ 3 ∷ []) ≡ None
unfolding ends_at
itself-none = refl

pub node_3_of_3-none : ends_at (3 ∷ 0 ∷ 3 ∷ []) ≡ None
unfolding ends_at
node_3_of_3-none = refl

pub many_nodes-none : ends_at (1 ∷ 0 ∷ 200 ∷ []) ≡ None
unfolding ends_at
many_nodes-none = refl

-- a life of zeros
pub no_life-none : life_at (replicate 16 0) ≡ None
unfolding life_at
no_life-none = refl

pub no_life_kept : kept_at (replicate 16 0) ≡ Some (None, [])
unfolding kept_at
no_life_kept = refl

pub nothing_promised : promised_at (replicate 5 0) ≡ Some (None, [])
unfolding promised_at
nothing_promised = refl

-- a ballot of round 0 is none, and not nothing
pub round_0-none : promised_at (0 ∷ 0 ∷ 0 ∷ 0 ∷ 1 ∷ []) ≡ None
unfolding promised_at ballot_at
round_0-none = refl

-- ---- beats

abbrev beat : Beat
beat = record { number = 1; got = 0; front = 37; campaigns = true; over = false; seats = 5 }

pub beat_is_written : beat_text beat ≡ 0 ∷ 0 ∷ 0 ∷ 1 ∷ 0 ∷ 0 ∷ 0 ∷ 0 ∷ 0 ∷ 0 ∷ 0 ∷ 37 ∷ 1 ∷ 0 ∷ 5 ∷ []
beat_is_written = refl

pub beat_reads : beat_of (0 ∷ 0 ∷ 0 ∷ 1 ∷ 0 ∷ 0 ∷ 0 ∷ 0 ∷ 0 ∷ 0 ∷ 0 ∷ 37 ∷ 1 ∷ 0 ∷ 5 ∷ []) ≡ Ok beat
unfolding beat_of
beat_reads = refl

pub flags_4-bad_kind : beat_of (0 ∷ 0 ∷ 0 ∷ 1 ∷ 0 ∷ 0 ∷ 0 ∷ 0 ∷ 0 ∷ 0 ∷ 0 ∷ 37 ∷ 4 ∷ 0 ∷ 5 ∷ []) ≡ Err BadKind
unfolding beat_of
flags_4-bad_kind = refl

pub shorter_beat-bad_length : beat_of (0 ∷ 0 ∷ 0 ∷ 1 ∷ 0 ∷ 0 ∷ 0 ∷ 0 ∷ 0 ∷ 0 ∷ 0 ∷ 37 ∷ 1 ∷ 0 ∷ []) ≡ Err BadLength
unfolding beat_of
shorter_beat-bad_length = refl

-- ---- records

abbrev ask : List ℕ
ask = 0 ∷ 0 ∷ 0 ∷ 6 ∷ 1 ∷ 7 ∷ 0 ∷ 0 ∷ 0 ∷ 1 ∷ []

pub frame_in_a_record : record_text (record_of.Frame (record { bytes = record { items = ask } })) ≡ 0 ∷ 0 ∷ 0 ∷ 11 ∷ 2 ∷ ask
unfolding enveloped
frame_in_a_record = refl

pub frame_reads : reading (0 ∷ 0 ∷ 0 ∷ 11 ∷ 2 ∷ ask) ≡ Ok (record_of.Frame (record { bytes = record { items = ask } }))
unfolding reading kind_in content_of
frame_reads = refl

pub five_bytes-no_frame : IsFrame (0 ∷ 0 ∷ 0 ∷ 1 ∷ 1 ∷ []) → ⊥
five_bytes-no_frame h = let least = h.least in absurd (omega arith)

pub short_frame-bad_length : reading (0 ∷ 0 ∷ 0 ∷ 6 ∷ 2 ∷ 0 ∷ 0 ∷ 0 ∷ 1 ∷ 1 ∷ []) ≡ Err BadLength
unfolding reading kind_in content_of
short_frame-bad_length = refl

pub kind_108-bad_kind : reading (0 ∷ 0 ∷ 0 ∷ 1 ∷ 108 ∷ []) ≡ Err BadKind
unfolding reading kind_in
kind_108-bad_kind = refl

-- a record of a further kind, of two bytes
pub more_in_a_record : record_text (record_of.More (record { kind = 200; bytes = record { items = 7 ∷ 8 ∷ [] } })) ≡ 0 ∷ 0 ∷ 0 ∷ 3 ∷ 200 ∷ 7 ∷ 8 ∷ []
unfolding enveloped
more_in_a_record = refl

pub more_reads : reading (0 ∷ 0 ∷ 0 ∷ 3 ∷ 200 ∷ 7 ∷ 8 ∷ []) ≡ Ok (record_of.More (record { kind = 200; bytes = record { items = 7 ∷ 8 ∷ [] } }))
unfolding reading kind_in content_of
more_reads = refl

-- and of none
pub empty_more_reads : reading (0 ∷ 0 ∷ 0 ∷ 1 ∷ 4 ∷ []) ≡ Ok (record_of.More (record { kind = 4; bytes = record { items = [] } }))
unfolding reading kind_in content_of
empty_more_reads = refl

pub beat_as_more-none : IsMore (record { kind = 3; bytes = record { items = [] } }) → ⊥
beat_as_more-none h = let no : false ≡ true = h.kind in absurd cc

-- a length of 0, and one of 4134, are at fault as soon as they are there
pub length_0 : needed (0 ∷ 0 ∷ 0 ∷ 0 ∷ []) ≡ 4
unfolding needed
length_0 = refl

pub length_4134 : needed (0 ∷ 0 ∷ 16 ∷ 38 ∷ []) ≡ 4
unfolding needed
length_4134 = refl

pub length_4134-bad_length : reading (0 ∷ 0 ∷ 16 ∷ 38 ∷ []) ≡ Err BadLength
unfolding reading kind_in
length_4134-bad_length = refl

-- and one of 4133 waits for as many bytes
pub length_4133 : needed (0 ∷ 0 ∷ 16 ∷ 37 ∷ []) ≡ 4137
unfolding needed
length_4133 = refl

pub half_a_record : IsPartial (0 ∷ 0 ∷ 0 ∷ 11 ∷ 2 ∷ 0 ∷ [])
unfolding needed
half_a_record = lit< tt

pub whole-not_partial : IsPartial (0 ∷ 0 ∷ 0 ∷ 1 ∷ 4 ∷ []) → ⊥
unfolding needed
whole-not_partial h = absurd (omega (arith, h))

-- ---- codes

pub caller_is_0 : role_byte Caller ≡ 0
caller_is_0 = refl

pub called_is_1 : role_byte Called ≡ 1
called_is_1 = refl

-- a key is as good as that with zeros behind it, up to a block
pub padded_key : padded inner_pad (11 ∷ []) ≡ 61 ∷ replicate 63 54
padded_key = refl

pub padded_key_outside : padded outer_pad (11 ∷ []) ≡ 87 ∷ replicate 63 92
padded_key_outside = refl

pub xored_bytes : xored (1 ∷ 2 ∷ 255 ∷ []) (3 ∷ 3 ∷ 15 ∷ 9 ∷ []) ≡ 2 ∷ 1 ∷ 240 ∷ []
xored_bytes = refl

abbrev way : ℕ → Way
way number = record { version = First; key = replicate 32 1; number = number; seal = record { key = []; stream = 0; word_pos = 0 } }

-- each record has the next number
pub next_number : (after (way 7) 10).number ≡ 8
next_number = refl

pub first_number : (fresh_way First (replicate 32 1)).number ≡ 0
first_number = refl

-- without room for a tag
pub no_room_for_a_code : uncovered (way 7) kind_of.Frame (replicate 31 0) ≡ Err (faults.Record BadLength)
unfolding uncovered
no_room_for_a_code = refl

-- no record has the last number
pub behind_the_last_number : uncovered (way 18446744073709551615) kind_of.Frame (replicate 40 0) ≡ Err faults.UnexpectedRecord
unfolding uncovered
behind_the_last_number = refl

pub wrong_proof_is_124 : connection_fault_code faults.WrongProof ≡ 124
wrong_proof_is_124 = refl

pub wrong_tag_line : connection_fault_line faults.WrongTag ≡ codes "125 WrongTag"
wrong_tag_line = refl
