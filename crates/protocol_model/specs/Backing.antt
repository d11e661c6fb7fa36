-- What a store must hold for a message of its node to be in the open.
use Rattle.std.specs.Prelude.{◌≡◌, ℕ, ◌⊎◌, Some, List}
use Rattle.protocol_model.specs.Sets.{In}
use Rattle.protocol_model.specs.Ballots.{Below, AtMost}
use Rattle.protocol_model.specs.Messages.{Vote, Message, Prepare, Promise, Refuse, Accept, Accepted, Chosen, Ask, Forward, Said}
use Rattle.protocol_model.specs.Stores.{Store}

-- the store has at the slot this vote, or one of a greater ballot
abbrev pub HasVote : Store → ℕ → Vote → Type 0
HasVote store slot vote = (found : Vote) × (store.votes slot ≡ Some found) × ((found ≡ vote) ⊎ Below vote.ballot found.ballot)

-- a start that finds the store goes on to keep what the message says: no lower ballot is promised than that of a Prepare, Promise, Accept or Accepted, and
-- a command of the last two isn't forgotten but for one of a greater ballot; of all others nothing is to be kept
abbrev pub Backs : Store → Message → Type 0
Backs store (Prepare ballot slot) = AtMost ballot store.promise
Backs store (Promise sender ballot slot told) = AtMost ballot store.promise
Backs store (Refuse sender ballot slot greater) = Unit {0}
Backs store (Accept ballot slot command) = AtMost ballot store.promise × HasVote store slot (record { ballot = ballot; command = command })
Backs store (Accepted sender ballot slot command) = AtMost ballot store.promise × HasVote store slot (record { ballot = ballot; command = command })
Backs store (Chosen sender slot command) = Unit {0}
Backs store (Ask sender slot) = Unit {0}
Backs store (Forward sender command) = Unit {0}
Backs store (Said sender command) = Unit {0}

-- the slot has no other vote of the vote's ballot
abbrev pub HasNoOther : Store → ℕ → Vote → Type 0
HasNoOther store slot vote = (found : Vote) → store.votes slot ≡ Some found → found.ballot ≡ vote.ballot → found ≡ vote

-- no vote is of a ballot above the promise
abbrev pub IsWithinPromise : Store → Type 0
IsWithinPromise store = (slot : ℕ) (vote : Vote) → store.votes slot ≡ Some vote → AtMost vote.ballot store.promise

-- where the message is a proposal, its node has accepted it too
abbrev pub IsAcceptedToo : List Message → Message → Type 0
IsAcceptedToo ever (Prepare ballot slot) = Unit {0}
IsAcceptedToo ever (Promise sender ballot slot told) = Unit {0}
IsAcceptedToo ever (Refuse sender ballot slot greater) = Unit {0}
IsAcceptedToo ever (Accept ballot slot command) = In (Accepted ballot.node ballot slot command) ever
IsAcceptedToo ever (Accepted sender ballot slot command) = Unit {0}
IsAcceptedToo ever (Chosen sender slot command) = Unit {0}
IsAcceptedToo ever (Ask sender slot) = Unit {0}
IsAcceptedToo ever (Forward sender command) = Unit {0}
IsAcceptedToo ever (Said sender command) = Unit {0}
