-- Entries that say no tokens.
use Rattle.std.proofs.Common.{◌≡◌, ℕ, true, false, List, length, Some, None, Ok, Err, sym, subst, ◌∙◌}
use Rattle.std.specs.declared.net.socket_addr.SocketAddr.{SocketAddr}
use Rattle.hex.specs.Hex.{decode_sized}
use Rattle.hex.specs.declared.error.FromHexError.{FromHexError}
use Rattle.toml.specs.Data.{Data, Members, string, array}
use Rattle.toml.specs.View.{items_of}
use Rattle.match_file.specs.declared.key.Key.TheVariants.{Tokens}
use Rattle.match_file.specs.Said.{IsAbsent, EachSays}
use Rattle.match_file.specs.Matches.{entry_at}
use Rattle.match_file.specs.Tokens.{is_open, SaysDigest, SaysTokens}
use Rattle.match_file.proofs.Each.{each-length}
use Rattle.match_file.proofs.Told.{each_of}

-- a text that isn't the digits of 32 bytes
pub no_digest : (d : Data) (digits : List ℕ) (fault : FromHexError) → d ≡ string digits → decode_sized digits 32 ≡ Err fault → IsAbsent (SaysDigest d)
no_digest d digits fault is wrong = λ digest says.
    let both : string digits ≡ string says.digits = sym is ∙ says.text in
    let same : says.digits ≡ digits = cc in
    let read : decode_sized digits 32 ≡ Ok digest = subst (λ (t : List ℕ). decode_sized t 32 ≡ Ok digest) same says.bytes in
    let clash : Err fault ≡ Ok digest = sym wrong ∙ read in
    cc

-- no list
pub no_list : (players : ℕ) (seats : List SocketAddr) (table : Members) (d : Data) → entry_at Tokens table ≡ Some d → IsAbsent (λ items. d ≡ array items)
    → IsAbsent (SaysTokens players seats table)
no_list players seats table d there none None says = let clash : Some d ≡ None = sym there ∙ says.0 in absurd cc
no_list players seats table d there none (Some digests) says =
    let both : Some d ≡ Some (array (items_of says.0.0)) = sym there ∙ says.0.1 in
    let same : d ≡ array (items_of says.0.0) = cc in
    none (items_of says.0.0) same

-- a list of which one item is no digest, or of another length
pub no_digests : (players : ℕ) (seats : List SocketAddr) (table : Members) (ds : List Data) → entry_at Tokens table ≡ Some (array (items_of ds)) → IsAbsent (EachSays SaysDigest ds)
    → IsAbsent (SaysTokens players seats table)
no_digests players seats table ds there none None says = let clash : Some (array (items_of ds)) ≡ None = sym there ∙ says.0 in absurd cc
no_digests players seats table ds there none (Some digests) says = none digests (each_of SaysDigest (entry_at Tokens table) ds digests there says.0)

pub other_count : (players : ℕ) (seats : List SocketAddr) (table : Members) (ds : List Data) → entry_at Tokens table ≡ Some (array (items_of ds)) → (¬ (length ds ≡ players))
    → IsAbsent (SaysTokens players seats table)
other_count players seats table ds there other None says = let clash : Some (array (items_of ds)) ≡ None = sym there ∙ says.0 in absurd cc
other_count players seats table ds there other (Some digests) says =
    other (each-length SaysDigest ds digests (each_of SaysDigest (entry_at Tokens table) ds digests there says.0) ∙ says.1)

-- none where bots come from elsewhere
pub none_for_far : (players : ℕ) (seats : List SocketAddr) (table : Members) → entry_at Tokens table ≡ None → is_open table seats ≡ true → IsAbsent (SaysTokens players seats table)
none_for_far players seats table none far None says = let clash : true ≡ false = sym far ∙ says.1 in absurd cc
none_for_far players seats table none far (Some digests) says = let clash : None ≡ Some (array (items_of says.0.0)) = sym none ∙ says.0.1 in absurd cc

-- a digest for each
pub has_digests : (players : ℕ) (seats : List SocketAddr) (table : Members) (ds : List Data) (digests : List (List ℕ)) → entry_at Tokens table ≡ Some (array (items_of ds)) → length ds ≡ players
    → EachSays SaysDigest ds digests → SaysTokens players seats table (Some digests)
has_digests players seats table ds digests there many each = ((ds, there, each), sym (each-length SaysDigest ds digests each) ∙ many)
