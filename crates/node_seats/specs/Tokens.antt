-- What a bot says first by which it shows the token of its seat.
use Rattle.std.specs.Prelude.{◌≡◌, ◌⊎◌, ℕ, nat_lt, nat_le, ◌==◌, ◌&&◌, ◌||◌, not, if◌then◌else◌, Bool, IsTrue, List, [], ◌∷◌, ◌++◌, length, take, codes, bytes_eq}
use Rattle.std.specs.List.{list_all, list_any}
use Rattle.sha2.specs.Sha256.{sha256}
use Rattle.node_seats.specs.declared.limits.TheConstants.{TOKEN_LINE}

-- a hexadecimal digit, small where it is a letter
abbrev pub is_token_digit : ℕ → Bool
is_token_digit byte = (nat_le 48 byte && nat_le byte 57) || (nat_le 97 byte && nat_le byte 102)

-- LF, or CR LF
abbrev pub IsLineEnd : List ℕ → Type 0
IsLineEnd end = (end ≡ 10 ∷ []) ⊎ (end ≡ 13 ∷ 10 ∷ [])

-- what stands in front of a token, its digits, and the end of its line
abbrev pub IsForm : List ℕ → List ℕ → List ℕ → Type 0
IsForm word digits end = (word ≡ codes "#TOKEN ") × IsLineEnd end × IsTrue (list_all is_token_digit digits)

-- the line, with its end, that shows a token: 64 digits of which SHA-256 is this digest
pub record IsTokenLine (digest line : List ℕ) : Type 0 where
  pub digits : List ℕ
  pub count : length digits ≡ 64
  pub are : IsTrue (list_all is_token_digit digits)
  pub right : sha256 digits ≡ digest
  pub end : List ℕ
  pub ends : IsLineEnd end
  pub text : line ≡ codes "#TOKEN " ++ (digits ++ end)

-- ---- a line of which more may come

-- as far as it came, it begins as a line that shows a token
abbrev pub begins_well : List ℕ → Bool
begins_well line = if nat_lt (length line) 7 then bytes_eq line (take (length line) (codes "#TOKEN ")) else bytes_eq (take 7 line) (codes "#TOKEN ")

-- a line feed came
abbrev pub has_end : List ℕ → Bool
has_end line = list_any (λ byte. byte == 10) line

-- it came to its end, or is too long
abbrev pub is_whole : List ℕ → Bool
is_whole line = nat_le TOKEN_LINE (length line) || has_end line

-- nothing is wrong so far, and more of it may come
abbrev pub is_open : List ℕ → Bool
is_open line = begins_well line && not (is_whole line)
