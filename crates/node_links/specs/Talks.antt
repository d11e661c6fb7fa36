-- What came over a connection and was written to it, and what it goes by that it tells.
use Rattle.std.specs.Prelude.{◌≡◌, ℕ, List, [], ◌∷◌, ◌++◌, length, drop, Option, Some, None, Ok}
use Rattle.peer_codes.specs.declared.beat.Beat.{Beat}
use Rattle.peer_codes.specs.declared.frame.Frame.{Frame}
use Rattle.peer_codes.specs.declared.hello.Hello.{Hello}
use Rattle.peer_codes.specs.declared.hellos.Hellos.{Hellos}
use Rattle.peer_codes.specs.declared.key.Key.{Key}
use Rattle.peer_codes.specs.declared.kind.Kind.{Kind}
use Rattle.peer_codes.specs.declared.kind.Kind.TheVariants as kind_of
use Rattle.peer_codes.specs.declared.more.More.{More}
use Rattle.peer_codes.specs.declared.records.Record.{Record}
use Rattle.peer_codes.specs.declared.records.Record.TheVariants as record_of
use Rattle.peer_codes.specs.declared.role.Role.{Role}
use Rattle.peer_codes.specs.declared.role.Role.TheVariants.{Caller, Called}
use Rattle.peer_codes.specs.declared.way.Way.{Way}
use Rattle.peer_codes.specs.Codes.{proof_tag, way_of, after, covered}
use Rattle.peer_codes.specs.Faults.{kind_in}
use Rattle.peer_codes.specs.Fits.{IsRecord}
use Rattle.peer_codes.specs.Histories.{across, IsCoded}
use Rattle.peer_codes.specs.Reading.{hello_of, beat_of}
use Rattle.peer_codes.specs.Spelling.{record_text}
use Rattle.peer_codes.specs.Steps.{only_coded}
use Rattle.node_links.specs.declared.own.Own.{Own}
use Rattle.node_links.specs.declared.own.Met.{Met}
use Rattle.node_links.specs.declared.further.Further.{Further}
use Rattle.node_links.specs.declared.heard.Heard.{Heard}
use Rattle.node_links.specs.declared.heard.Heard.TheVariants as heards
use Rattle.node_links.specs.Hearing.{AreSaid, texts}
use Rattle.node_links.specs.Judging.{judged, judged_match, judged_known}
use Rattle.node_links.specs.Telling.{read_behind}

-- a connection: whom this node dialled by it, nobody where the other dialled; all that came over it, and all that was
-- written to it
pub record Talk : Type 0 where
  pub dialled : Option ℕ
  pub came : List ℕ
  pub wrote : List ℕ

-- ---- without codes

-- this node took this Hello, as that of the node that it dialled, or of one who dialled it
abbrev pub Takes : Own → Option ℕ → Hello → Type 0
Takes own dialled hello = (met : List Met) × (judged own dialled met hello ≡ Ok tt)

-- the Hello of this node came first, which was taken, and this record is among what came behind it
pub record SaysPlain (own : Own) (from : ℕ) (last : Record) (dialled : Option ℕ) (came : List ℕ) : Type 0 where
  pub hello : Hello
  pub is : IsRecord (record_of.Hello hello)
  pub from_is : hello.ends.from ≡ from
  pub takes : Takes own dialled hello
  pub said : List Record
  pub are : AreSaid hello said
  pub last_is : IsRecord last
  pub rest : List ℕ
  pub text : came ≡ record_text (record_of.Hello hello) ++ (texts said ++ (record_text last ++ rest))

-- ---- with codes

-- these bytes are a record of this kind, with this behind the kind
abbrev pub IsOfKind : Kind → List ℕ → List ℕ → Type 0
IsOfKind kind content bytes = (kind_in bytes ≡ Ok kind) × (drop 5 bytes ≡ content)

-- these are one with this Hello, which has a nonce
abbrev pub IsHelloIn : Hello → List ℕ → Type 0
IsHelloIn hello bytes = (kind_in bytes ≡ Ok kind_of.Hello) × (only_coded (hello_of (drop 5 bytes)) ≡ Some hello)

-- a record that came on a way: its kind, its body from under the seal, and its bytes
pub record Piece : Type 0 where
  pub kind : Kind
  pub body : List ℕ
  pub bytes : List ℕ

-- a way behind such records, the newest first
abbrev pub way_behind : Way → List Piece → Way
way_behind way [] = way
way_behind way (piece ∷ earlier) = after (way_behind way earlier) (length piece.body)

-- each is coded as the next of the way
abbrev pub AreCodedOn : Way → List Piece → Type 0
AreCodedOn way [] = Unit {0}
AreCodedOn way (piece ∷ earlier) = IsOfKind piece.kind (covered (way_behind way earlier) piece.kind piece.body) piece.bytes × AreCodedOn way earlier

abbrev pub bytes_of : List Piece → List ℕ
bytes_of [] = []
bytes_of (piece ∷ earlier) = bytes_of earlier ++ piece.bytes

-- who dialled is the caller
abbrev pub role_of : Option ℕ → Role
role_of None = Called
role_of (Some number) = Caller

-- both Hellos of a connection on which this side has this role
abbrev pub hellos_of : Role → Hello → Hello → Hellos
hellos_of Caller mine theirs = record { caller = mine; called = theirs }
hellos_of Called mine theirs = record { caller = theirs; called = mine }

-- the way on which the other speaks
abbrev pub their_way : Key → Role → Hello → Hello → Way
their_way key role mine theirs = way_of key.bytes (across role) (hellos_of role mine theirs)

-- what the other says to prove itself
abbrev pub their_proof : Key → Role → Hello → Hello → List ℕ
their_proof key role mine theirs = proof_tag key.bytes (across role) (hellos_of role mine theirs)

-- what was written begins with the whole of this Hello
abbrev pub IsWritten : Hello → List ℕ → Type 0
IsWritten mine wrote = (more : List ℕ) × (wrote ≡ record_text (record_of.Hello mine) ++ more)

-- this node found this Hello to be of its match and of the node that it dialled, or of one who dials it, and then took it
pub record TakesCoded (own : Own) (dialled : Option ℕ) (hello : Hello) : Type 0 where
  pub matches : judged_match own dialled hello ≡ Ok tt
  pub met : List Met
  pub known : judged_known own met hello ≡ Ok tt

-- This node's own Hello, with a nonce, is the first that it wrote here. There came: the Hello of the node that says the
-- record, with a nonce and of the same version; its proof under the key over both; then records, each coded as the next of
-- its way of these two Hellos; and this record, of this kind and with this body, coded as the next of them.
pub record SaysCoded (key : Key) (own : Own) (from : ℕ) (kind : Kind) (body : List ℕ) (talk : Talk) : Type 0 where
  pub mine : Hello
  pub nonce : IsCoded mine
  pub first : IsWritten mine talk.wrote
  pub theirs : Hello
  pub version : mine.version ≡ theirs.version
  pub from_is : theirs.ends.from ≡ from
  pub takes : TakesCoded own talk.dialled theirs
  pub hello : List ℕ
  pub hello_is : IsHelloIn theirs hello
  pub proof : List ℕ
  pub proof_is : IsOfKind kind_of.Proof (their_proof key (role_of talk.dialled) mine theirs) proof
  pub said : List Piece
  pub are : AreCodedOn (their_way key (role_of talk.dialled) mine theirs) said
  pub last : List ℕ
  pub last_is : IsOfKind kind (covered (way_behind (their_way key (role_of talk.dialled) mine theirs) said) kind body) last
  pub rest : List ℕ
  pub text : talk.came ≡ hello ++ (proof ++ (bytes_of said ++ (last ++ rest)))

-- ---- connections that are open

-- the Hello of this node came first, which was taken
pub record OpensPlain (own : Own) (theirs : Hello) (dialled : Option ℕ) (came : List ℕ) : Type 0 where
  pub is : IsRecord (record_of.Hello theirs)
  pub takes : Takes own dialled theirs
  pub rest : List ℕ
  pub text : came ≡ record_text (record_of.Hello theirs) ++ rest

-- as where a frame is told: this node's own Hello, the other's, which was taken, and its proof under the key over both
pub record OpensCoded (key : Key) (own : Own) (theirs : Hello) (talk : Talk) : Type 0 where
  pub mine : Hello
  pub nonce : IsCoded mine
  pub first : IsWritten mine talk.wrote
  pub version : mine.version ≡ theirs.version
  pub takes : TakesCoded own talk.dialled theirs
  pub hello : List ℕ
  pub hello_is : IsHelloIn theirs hello
  pub proof : List ℕ
  pub proof_is : IsOfKind kind_of.Proof (their_proof key (role_of talk.dialled) mine theirs) proof
  pub rest : List ℕ
  pub text : talk.came ≡ hello ++ (proof ++ rest)

abbrev pub OpensBy : Option Key → Own → Hello → Talk → Type 0
OpensBy None own theirs talk = OpensPlain own theirs talk.dialled talk.came
OpensBy (Some key) own theirs talk = OpensCoded key own theirs talk

-- the node with this Hello has opened a connection: with a key by its proof, and without one by its Hello alone
abbrev pub Opens : Own → Hello → Talk → Type 0
Opens own theirs talk = OpensBy own.key own theirs talk

-- ---- of both kinds

-- with a key each frame that is told came coded under it, and without one uncoded
abbrev pub SaysBy : Option Key → Own → ℕ → Frame → Talk → Type 0
SaysBy None own from frame talk = SaysPlain own from (record_of.Frame frame) talk.dialled talk.came
SaysBy (Some key) own from frame talk = SaysCoded key own from kind_of.Frame frame.bytes.items talk

abbrev pub Says : Own → ℕ → Frame → Talk → Type 0
Says own from frame talk = SaysBy own.key own from frame talk

-- and so did each beat
abbrev pub SaysBeat : Option Key → Own → ℕ → Beat → Talk → Type 0
SaysBeat None own from beat talk = SaysPlain own from (record_of.Beat beat) talk.dialled talk.came
SaysBeat (Some key) own from beat talk = (body : List ℕ) × (beat_of body ≡ Ok beat) × SaysCoded key own from kind_of.Beat body talk

-- and each record of a further kind, which tells this behind the Hello of who said it
abbrev pub SaysFurther : Option Key → Own → ℕ → Further → Talk → Type 0
SaysFurther None own from further talk = (more : More) × (says : SaysPlain own from (record_of.More more) talk.dialled talk.came) × (read_behind says.hello more ≡ Ok further)
SaysFurther (Some key) own from further talk = (more : More) × (says : SaysCoded key own from (kind_of.More more.kind) more.bytes.items talk) × (read_behind says.theirs more ≡ Ok further)

-- what is told of frames, beats and records of further kinds came so; a Hello and that its proof is right are told otherwise
abbrev pub HeardBy : Option Key → Own → ℕ → Heard → Talk → Type 0
HeardBy key own from (heards.Frame frame) talk = SaysBy key own from frame talk
HeardBy key own from (heards.Beat beat) talk = SaysBeat key own from beat talk
HeardBy key own from (heards.Further further) talk = SaysFurther key own from further talk
HeardBy key own from (heards.Hello hello) talk = Unit {0}
HeardBy key own from (heards.Proved hello) talk = Unit {0}

-- the node with this number said what is told over its connection
abbrev pub SaysHeard : Own → ℕ → Heard → Talk → Type 0
SaysHeard own from heard talk = HeardBy own.key own from heard talk
