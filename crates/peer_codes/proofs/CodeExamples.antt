-- Codes and seals by the vectors of their standards, and what they are made from.
use Rattle.std.proofs.Common.{◌≡◌, ℕ, ◌+◌, length, List, [], ◌∷◌, ◌++◌, replicate, codes, Err, refl}
use Rattle.peer_codes.specs.declared.connection_fault.ConnectionFault.TheVariants as faults
use Rattle.byteorder.specs.Endian.{big_bytes}
use Rattle.sha2.specs.Sha256.{first_words, schedule, rounds, compress, hash_after, digest_bytes, sha256}
use Rattle.rand_core.specs.Steps.{word_bytes, u32_at}
use Rattle.rand_chacha.specs.Block.{quarter_round, column_round, diagonal_round, double_rounds, block_word}
use Rattle.rand_chacha.specs.ChaCha.{of_seed}
use Rattle.peer_codes.specs.declared.version.Version.TheVariants.{First}
use Rattle.peer_codes.specs.declared.role.Role.{Role}
use Rattle.peer_codes.specs.declared.role.Role.TheVariants.{Caller, Called}
use Rattle.peer_codes.specs.declared.hellos.Hellos.{Hellos}
use Rattle.peer_codes.specs.declared.kind.Kind.{Kind}
use Rattle.peer_codes.specs.declared.kind.Kind.TheVariants as kind_of
use Rattle.peer_codes.specs.declared.way.Way.{Way}
use Rattle.peer_codes.specs.Kinds.{kind_byte}
use Rattle.peer_codes.specs.Spelling.{hello_text}
use Rattle.peer_codes.specs.Hmac.{hmac}
use Rattle.peer_codes.specs.Codes.{after, masked, xored, proof_tag, way_key, way_of, seal_of, pad, record_tag, uncovered}

-- RFC 4231, test cases 1, 2 and 3
pub rfc_4231_case_1 : hmac (replicate 20 0x0b) (codes "Hi There") ≡
    0xB0 ∷ 0x34 ∷ 0x4C ∷ 0x61 ∷ 0xD8 ∷ 0xDB ∷ 0x38 ∷ 0x53 ∷ 0x5C ∷ 0xA8 ∷ 0xAF ∷ 0xCE ∷ 0xAF ∷
    0x0B ∷ 0xF1 ∷ 0x2B ∷ 0x88 ∷ 0x1D ∷ 0xC2 ∷ 0x00 ∷ 0xC9 ∷ 0x83 ∷ 0x3D ∷ 0xA7 ∷ 0x26 ∷ 0xE9 ∷
    0x37 ∷ 0x6C ∷ 0x2E ∷ 0x32 ∷ 0xCF ∷ 0xF7 ∷ []
unfolding hmac first_words schedule rounds compress hash_after digest_bytes sha256
rfc_4231_case_1 = refl

pub rfc_4231_case_2 : hmac (codes "Jefe") (codes "what do ya want for nothing?") ≡
    0x5B ∷ 0xDC ∷ 0xC1 ∷ 0x46 ∷ 0xBF ∷ 0x60 ∷ 0x75 ∷ 0x4E ∷ 0x6A ∷ 0x04 ∷ 0x24 ∷ 0x26 ∷ 0x08 ∷
    0x95 ∷ 0x75 ∷ 0xC7 ∷ 0x5A ∷ 0x00 ∷ 0x3F ∷ 0x08 ∷ 0x9D ∷ 0x27 ∷ 0x39 ∷ 0x83 ∷ 0x9D ∷ 0xEC ∷
    0x58 ∷ 0xB9 ∷ 0x64 ∷ 0xEC ∷ 0x38 ∷ 0x43 ∷ []
unfolding hmac first_words schedule rounds compress hash_after digest_bytes sha256
rfc_4231_case_2 = refl

pub rfc_4231_case_3 : hmac (replicate 20 0xaa) (replicate 50 0xdd) ≡
    0x77 ∷ 0x3E ∷ 0xA9 ∷ 0x1E ∷ 0x36 ∷ 0x80 ∷ 0x0E ∷ 0x46 ∷ 0x85 ∷ 0x4D ∷ 0xB8 ∷ 0xEB ∷ 0xD0 ∷
    0x91 ∷ 0x81 ∷ 0xA7 ∷ 0x29 ∷ 0x59 ∷ 0x09 ∷ 0x8B ∷ 0x3E ∷ 0xF8 ∷ 0xC1 ∷ 0x22 ∷ 0xD9 ∷ 0x63 ∷
    0x55 ∷ 0x14 ∷ 0xCE ∷ 0xD5 ∷ 0x65 ∷ 0xFE ∷ []
unfolding hmac first_words schedule rounds compress hash_after digest_bytes sha256
rfc_4231_case_3 = refl

-- RFC 8439, A.1, test vector 1: the key stream of zeros; of the last word two bytes are dropped
pub stream_of_zeros : (pad 18 (of_seed (replicate 32 0))).0 ≡
    0x76 ∷ 0xB8 ∷ 0xE0 ∷ 0xAD ∷ 0xA0 ∷ 0xF1 ∷ 0x3D ∷ 0x90 ∷ 0x40 ∷ 0x5D ∷ 0x6A ∷ 0xE5 ∷ 0x53 ∷
    0x86 ∷ 0xBD ∷ 0x28 ∷ 0xBD ∷ 0xD2 ∷ []
unfolding pad word_bytes u32_at quarter_round column_round diagonal_round double_rounds block_word
stream_of_zeros = refl

-- and the next record has whole words from there on
pub next_whole_word : (pad 18 (of_seed (replicate 32 0))).1.word_pos ≡ 5
unfolding pad word_bytes
next_whole_word = refl

-- what a proof, the key of a way, a seal and a tag are made from, byte for byte
pub proof_of_the_caller : (key : List ℕ) (h : Hellos) → proof_tag key Caller h ≡ hmac key (72 ∷ 68 ∷ 78 ∷ 49 ∷ 32 ∷ 112 ∷ 114 ∷ 111 ∷ 111 ∷ 102 ∷ 0 ∷ (hello_text h.caller ++ hello_text h.called))
proof_of_the_caller key h = refl

pub proof_of_the_called : (key : List ℕ) (h : Hellos) → proof_tag key Called h ≡ hmac key (72 ∷ 68 ∷ 78 ∷ 49 ∷ 32 ∷ 112 ∷ 114 ∷ 111 ∷ 111 ∷ 102 ∷ 1 ∷ (hello_text h.caller ++ hello_text h.called))
proof_of_the_called key h = refl

pub way_of_the_caller : (key : List ℕ) (h : Hellos) → way_key key Caller h ≡ hmac key (72 ∷ 68 ∷ 78 ∷ 49 ∷ 32 ∷ 119 ∷ 97 ∷ 121 ∷ 0 ∷ (hello_text h.caller ++ hello_text h.called))
way_of_the_caller key h = refl

pub way_of_the_called : (key : List ℕ) (h : Hellos) → way_key key Called h ≡ hmac key (72 ∷ 68 ∷ 78 ∷ 49 ∷ 32 ∷ 119 ∷ 97 ∷ 121 ∷ 1 ∷ (hello_text h.caller ++ hello_text h.called))
way_of_the_called key h = refl

-- at its beginning a way has its own key and that key's seal
pub way_begins : (key : List ℕ) (role : Role) (h : Hellos) → way_of key role h ≡ record { version = h.caller.version; key = way_key key role h; number = 0; seal = seal_of (way_key key role h) }
way_begins key role h = refl

pub seal_of_a_way : (key : List ℕ) → seal_of key ≡ of_seed (hmac key (72 ∷ 68 ∷ 78 ∷ 49 ∷ 32 ∷ 115 ∷ 101 ∷ 97 ∷ 108 ∷ []))
seal_of_a_way key = refl

abbrev way : ℕ → Way
way number = record { version = First; key = replicate 32 1; number = number; seal = record { key = []; stream = 0; word_pos = 0 } }

pub code_of_the_seventh : record_tag (way 7) kind_of.Beat (9 ∷ 8 ∷ []) ≡ hmac (replicate 32 1) (0 ∷ 0 ∷ 0 ∷ 0 ∷ 0 ∷ 0 ∷ 0 ∷ 7 ∷ 3 ∷ 9 ∷ 8 ∷ [])
code_of_the_seventh = refl

-- of each record the whole of what is sent is coded, with its number and its kind, under the key of its way
pub code_of_a_record : (w : Way) (kind : Kind) (sent : List ℕ) → record_tag w kind sent ≡ hmac w.key (big_bytes 8 w.number ++ (kind_byte kind ∷ sent))
code_of_a_record w kind sent = refl

-- of each body each byte is hidden, and the way goes on behind as many bytes
pub each_byte_is_hidden : (w : Way) (body : List ℕ) → masked w body ≡ xored body (pad (length body) w.seal).0
each_byte_is_hidden w body = refl

pub goes_on_behind : (w : Way) (count : ℕ) → after w count ≡ record { version = w.version; key = w.key; number = w.number + 1; seal = (pad count w.seal).1 }
goes_on_behind w count = refl

abbrev zeros : Way
zeros = record { version = First; key = replicate 32 1; number = 0; seal = of_seed (replicate 32 0) }

-- what is sent is hidden
pub hidden : masked zeros (replicate 18 0) ≡
    0x76 ∷ 0xB8 ∷ 0xE0 ∷ 0xAD ∷ 0xA0 ∷ 0xF1 ∷ 0x3D ∷ 0x90 ∷ 0x40 ∷ 0x5D ∷ 0x6A ∷ 0xE5 ∷ 0x53 ∷
    0x86 ∷ 0xBD ∷ 0x28 ∷ 0xBD ∷ 0xD2 ∷ []
unfolding pad word_bytes u32_at quarter_round column_round diagonal_round double_rounds block_word
hidden = refl

-- and the next record goes on behind it
pub seal_goes_on : (after zeros 18).seal.word_pos ≡ 5
unfolding pad word_bytes
seal_goes_on = refl

pub seal_goes_on_by_words : (after zeros 100).seal.word_pos ≡ 25
unfolding pad word_bytes
seal_goes_on_by_words = refl

-- bytes that are no tag of what is sent
pub wrong_tag : uncovered (way 7) kind_of.Frame (replicate 40 0) ≡ Err faults.WrongTag
unfolding uncovered hmac first_words schedule rounds compress hash_after digest_bytes sha256
wrong_tag = refl
