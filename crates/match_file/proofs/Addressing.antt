-- Texts that say no address, and tables that say none.
use Rattle.std.proofs.Common.{◌≡◌, ℕ, Bool, true, false, List, Some, None, sym, subst, ◌∙◌}
use Rattle.std.proofs.NetLemmas.Theorems.{IsSocketText_unique}
use Rattle.std.specs.declared.net.socket_addr.SocketAddr.{SocketAddr}
use Rattle.std.specs.Net.Grammar.{IsSocketText}
use Rattle.toml.specs.Data.{Data, string, get}
use Rattle.match_file.specs.declared.key.Key.{Key}
use Rattle.match_file.specs.Keys.{key_text}
use Rattle.match_file.specs.Said.{IsAbsent}
use Rattle.match_file.specs.Addresses.{is_usable, IsAddress, SaysAddress}

-- the text of an address that can't be used is that of no other
pub not_usable : (keyed : Bool) (ports : ℕ) (text : List ℕ) (address : SocketAddr) → IsSocketText text address → is_usable keyed address ports ≡ false → IsAbsent (IsAddress keyed ports text)
not_usable keyed ports text address is refused = λ other has.
    let same : other ≡ address = IsSocketText_unique text other address has.text_of is in
    let yes : is_usable keyed address ports ≡ true = subst (λ (a : SocketAddr). is_usable keyed a ports ≡ true) same has.usable in
    let wrong : false ≡ true = sym refused ∙ yes in
    absurd cc

pub not_parsed : (keyed : Bool) (ports : ℕ) (text : List ℕ) → IsAbsent (IsSocketText text) → IsAbsent (IsAddress keyed ports text)
not_parsed keyed ports text none = λ other has. none other has.text_of

-- nothing stands at the key
pub not_there : (keyed : Bool) (key : Key) (ports : ℕ) (entry : Data) → get (key_text key) entry ≡ None → IsAbsent (SaysAddress keyed key ports entry)
not_there keyed key ports entry none = λ address says.
    let wrong : Some (string says.0) ≡ None = sym says.1 ∙ none in
    absurd cc

-- what stands there is no text
pub no_text : (keyed : Bool) (key : Key) (ports : ℕ) (entry found : Data) → get (key_text key) entry ≡ Some found → IsAbsent (λ text. found ≡ string text) → IsAbsent (SaysAddress keyed key ports entry)
no_text keyed key ports entry found is none = λ address says.
    let both : Some found ≡ Some (string says.0) = sym is ∙ says.1 in
    let same : found ≡ string says.0 = cc in
    absurd (none says.0 same)

-- what stands there is a text that is no address
pub no_address : (keyed : Bool) (key : Key) (ports : ℕ) (entry : Data) (text : List ℕ) → get (key_text key) entry ≡ Some (string text) → IsAbsent (IsAddress keyed ports text) → IsAbsent (SaysAddress keyed key ports entry)
no_address keyed key ports entry text is none = λ address says.
    let both : Some (string text) ≡ Some (string says.0) = sym is ∙ says.1 in
    let same : says.0 ≡ text = cc in
    absurd (none address (subst (λ (t : List ℕ). IsAddress keyed ports t address) same says.2))
