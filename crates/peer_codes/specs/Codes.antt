-- What the two sides of a connection prove, and how what they send is coded and sealed.
use Rattle.std.specs.Prelude.{ℕ, ◌+◌, ◌-◌, nat_lt, nat_le, if◌then◌else◌, List, [], ◌∷◌, ◌++◌, length, take, drop, codes, bit_xor, Result, Ok, Err}
use Rattle.std.specs.Str.{bytes_eq}
use Rattle.byteorder.specs.Endian.{big_bytes}
use Rattle.rand_core.specs.Steps.{fill_via_u32}
use Rattle.rand_chacha.specs.ChaCha.{ChaCha, next_word, of_seed}
use Rattle.peer_codes.specs.declared.limits.TheConstants.{TAG_BYTES, LAST_NUMBER}
use Rattle.peer_codes.specs.declared.fault.RecordFault.TheVariants.{BadLength}
use Rattle.peer_codes.specs.declared.connection_fault.ConnectionFault.{ConnectionFault}
use Rattle.peer_codes.specs.declared.connection_fault.ConnectionFault.TheVariants as faults
use Rattle.peer_codes.specs.declared.version.Version.{Version}
use Rattle.peer_codes.specs.declared.role.Role.{Role}
use Rattle.peer_codes.specs.declared.role.Role.TheVariants.{Caller, Called}
use Rattle.peer_codes.specs.declared.hellos.Hellos.{Hellos}
use Rattle.peer_codes.specs.declared.kind.Kind.{Kind}
use Rattle.peer_codes.specs.declared.way.Way.{Way}
use Rattle.peer_codes.specs.Kinds.{kind_byte}
use Rattle.peer_codes.specs.Spelling.{hello_text, enveloped}
use Rattle.peer_codes.specs.Hmac.{hmac}

abbrev pub role_byte : Role → ℕ
role_byte Caller = 0
role_byte Called = 1

-- both Hellos, the caller's first
abbrev pub hellos_text : Hellos → List ℕ
hellos_text h = hello_text h.caller ++ hello_text h.called

-- what a proof is a tag of
abbrev pub proof_text : Role → Hellos → List ℕ
proof_text role hellos = codes "HDN1 proof" ++ (role_byte role ∷ hellos_text hellos)

-- what the key of a way is a tag of
abbrev pub way_text : Role → Hellos → List ℕ
way_text role hellos = codes "HDN1 way" ++ (role_byte role ∷ hellos_text hellos)

-- what the seed of a seal is a tag of, under the key of its way
abbrev pub seal_text : List ℕ
seal_text = codes "HDN1 seal"

-- what the tag of a record is one of, under the same key
abbrev pub coded_text : ℕ → Kind → List ℕ → List ℕ
coded_text number kind sent = big_bytes 8 number ++ (kind_byte kind ∷ sent)

-- what a side in this role has to say to show that it has the key
abbrev pub proof_tag : List ℕ → Role → Hellos → List ℕ
proof_tag key role hellos = hmac key (proof_text role hellos)

-- the key of the way on which the side in this role speaks
abbrev pub way_key : List ℕ → Role → Hellos → List ℕ
way_key key role hellos = hmac key (way_text role hellos)

-- the seal of a way is the stream of ChaCha20 from this seed
abbrev pub seal_of : List ℕ → ChaCha
seal_of key = of_seed (hmac key seal_text)

-- a way on which nothing was said
abbrev pub fresh_way : Version → List ℕ → Way
fresh_way version key = record { version = version; key = key; number = 0; seal = seal_of key }

-- its version is that of both Hellos
abbrev pub way_of : List ℕ → Role → Hellos → Way
way_of key role hellos = fresh_way hellos.caller.version (way_key key role hellos)

-- the next bytes of a seal, and the seal behind them; ChaCha20 makes ten double rounds for a block
unfoldable pub pad : ℕ → ChaCha → List ℕ × ChaCha
pad count seal = fill_via_u32 (next_word 10) count seal

-- each byte with one of the others; what is longer stays
abbrev pub xored : List ℕ → List ℕ → List ℕ
xored [] others = []
xored (x ∷ xs) [] = x ∷ xs
xored (x ∷ xs) (y ∷ ys) = bit_xor x y ∷ xored xs ys

-- bytes under the seal of a way, or from under it
abbrev pub masked : Way → List ℕ → List ℕ
masked way bytes = xored bytes (pad (length bytes) way.seal).0

-- the tag of what is sent, under the way's key, with the record's number and its kind
abbrev pub record_tag : Way → Kind → List ℕ → List ℕ
record_tag way kind sent = hmac way.key (coded_text way.number kind sent)

-- what stands in a coded record behind its kind: the body under the seal, and the tag of that
abbrev pub covered : Way → Kind → List ℕ → List ℕ
covered way kind body = masked way body ++ record_tag way kind (masked way body)

-- a coded record
abbrev pub coded : Way → Kind → List ℕ → List ℕ
coded way kind body = enveloped kind (covered way kind body)

-- a way behind a record whose body has so many bytes
abbrev pub after : Way → ℕ → Way
after way count = record { version = way.version; key = way.key; number = way.number + 1; seal = (pad count way.seal).1 }

-- what was sent, of what stands behind a kind
abbrev pub sent_in : List ℕ → List ℕ
sent_in content = take (length content - TAG_BYTES) content

-- its tag
abbrev pub tag_in : List ℕ → List ℕ
tag_in content = drop (length content - TAG_BYTES) content

-- the body of a coded record, or its fault
unfoldable pub uncovered : Way → Kind → List ℕ → Result (List ℕ) ConnectionFault
uncovered way kind content =
    if nat_le LAST_NUMBER way.number then Err faults.UnexpectedRecord
    else (if nat_lt (length content) TAG_BYTES then Err (faults.Record BadLength)
    else (if bytes_eq (tag_in content) (record_tag way kind (sent_in content)) then Ok (masked way (sent_in content))
    else Err faults.WrongTag))
