-- What was handed over stays so where more is.
use Rattle.std.proofs.Common.{inr, ℕ, List, [], ◌∷◌, Option, Some, None, IfSome}
use Rattle.peer_codes.specs.declared.frame.Frame.{Frame}
use Rattle.peer_codes.specs.declared.hello.Hello.{Hello}
use Rattle.peer_codes.specs.declared.records.Record.{Record}
use Rattle.peer_codes.specs.declared.records.Record.TheVariants as record_of
use Rattle.node_links.specs.Speaking.{Given, OwnHello, FrameFor, IsOneOf, IsOwn, frames_for, IsSaidTo, AreSaidTo, IsPlainTo, ArePlainTo}

-- each of these is one of those
abbrev pub Within : List Given → List Given → Type 0
Within given more = (one : Given) → IsOneOf one given → IsOneOf one more

pub within_own : (given : List Given) (mine : Hello) → Within given (OwnHello mine ∷ given)
within_own given mine one is = inr is

pub within_frames : (to : Option ℕ) (frames : List Frame) (given : List Given) → Within given (frames_for to frames given)
within_frames None frames given one is = is
within_frames (Some to) [] given one is = is
within_frames (Some to) (frame ∷ more) given one is = inr (within_frames (Some to) more given one is)

pub if_some : {A : Type 0} (P Q : A → Type 0) (o : Option A) → ((a : A) → P a → Q a) → IfSome o P → IfSome o Q
if_some P Q None so is = tt
if_some P Q (Some a) so is = so a is

pub own_within : (given more : List Given) → Within given more → (mine : Hello) → IsOwn given mine → IsOwn more mine
own_within given more within mine own = record { hello = own.hello; version = own.version; among = within (OwnHello own.hello) own.among; mine_is = own.mine_is }

pub said_within : (given more : List Given) → Within given more → (theirs : Option Hello) (said : Record) → IsSaidTo given theirs said → IsSaidTo more theirs said
said_within given more within None said is = is
said_within given more within (Some theirs) (record_of.Frame frame) is = within (FrameFor theirs.ends.from frame.bytes.items) is
said_within given more within (Some theirs) (record_of.Beat beat) is = tt
said_within given more within (Some theirs) (record_of.More record_more) is = tt
said_within given more within (Some theirs) (record_of.Hello hello) is = is
said_within given more within (Some theirs) (record_of.Proof proof) is = is

pub are_within : (given more : List Given) → Within given more → (theirs : Option Hello) (said : List Record) → AreSaidTo given theirs said → AreSaidTo more theirs said
are_within given more within theirs [] are = tt
are_within given more within theirs (one ∷ said) are = (said_within given more within theirs one are.0, are_within given more within theirs said are.1)

plain_within : (given more : List Given) → Within given more → (theirs : Option Hello) (said : Record) → IsPlainTo given theirs said → IsPlainTo more theirs said
plain_within given more within theirs (record_of.Hello hello) is = own_within given more within hello is
plain_within given more within theirs (record_of.Frame frame) is = said_within given more within theirs (record_of.Frame frame) is
plain_within given more within theirs (record_of.Beat beat) is = said_within given more within theirs (record_of.Beat beat) is
plain_within given more within theirs (record_of.More record_more) is = said_within given more within theirs (record_of.More record_more) is
plain_within given more within theirs (record_of.Proof proof) is = is

pub plains_within : (given more : List Given) → Within given more → (theirs : Option Hello) (said : List Record) → ArePlainTo given theirs said → ArePlainTo more theirs said
plains_within given more within theirs [] are = tt
plains_within given more within theirs (one ∷ said) are = (plain_within given more within theirs one are.0, plains_within given more within theirs said are.1)
