-- Addresses that are trusted, and near misses.
use Rattle.std.proofs.Common.{◌≡◌, ℕ, true, false, [], ◌∷◌, refl}
use Rattle.std.specs.declared.net.socket_addr.SocketAddr.{SocketAddr}
use Rattle.std.specs.declared.net.socket_addr.SocketAddr.TheVariants.{V4, V6}
use Rattle.match_file.specs.Addresses.{own_v6, is_trusted_v4, is_trusted_v6, is_usable}

-- ---- IPv4: of each network its first and its last address, and its neighbours outside

below_127-no : is_trusted_v4 (126 ∷ 255 ∷ 255 ∷ 255 ∷ []) ≡ false
below_127-no = refl

first_of_127 : is_trusted_v4 (127 ∷ 0 ∷ 0 ∷ 0 ∷ []) ≡ true
first_of_127 = refl

own_machine : is_trusted_v4 (127 ∷ 0 ∷ 0 ∷ 1 ∷ []) ≡ true
own_machine = refl

last_of_127 : is_trusted_v4 (127 ∷ 255 ∷ 255 ∷ 255 ∷ []) ≡ true
last_of_127 = refl

above_127-no : is_trusted_v4 (128 ∷ 0 ∷ 0 ∷ 0 ∷ []) ≡ false
above_127-no = refl

below_10-no : is_trusted_v4 (9 ∷ 255 ∷ 255 ∷ 255 ∷ []) ≡ false
below_10-no = refl

first_of_10 : is_trusted_v4 (10 ∷ 0 ∷ 0 ∷ 0 ∷ []) ≡ true
first_of_10 = refl

last_of_10 : is_trusted_v4 (10 ∷ 255 ∷ 255 ∷ 255 ∷ []) ≡ true
last_of_10 = refl

above_10-no : is_trusted_v4 (11 ∷ 0 ∷ 0 ∷ 0 ∷ []) ≡ false
above_10-no = refl

below_172_16-no : is_trusted_v4 (172 ∷ 15 ∷ 255 ∷ 255 ∷ []) ≡ false
below_172_16-no = refl

first_of_172_16 : is_trusted_v4 (172 ∷ 16 ∷ 0 ∷ 0 ∷ []) ≡ true
first_of_172_16 = refl

last_of_172_16 : is_trusted_v4 (172 ∷ 31 ∷ 255 ∷ 255 ∷ []) ≡ true
last_of_172_16 = refl

above_172_16-no : is_trusted_v4 (172 ∷ 32 ∷ 0 ∷ 0 ∷ []) ≡ false
above_172_16-no = refl

below_192_168-no : is_trusted_v4 (192 ∷ 167 ∷ 255 ∷ 255 ∷ []) ≡ false
below_192_168-no = refl

first_of_192_168 : is_trusted_v4 (192 ∷ 168 ∷ 0 ∷ 0 ∷ []) ≡ true
first_of_192_168 = refl

last_of_192_168 : is_trusted_v4 (192 ∷ 168 ∷ 255 ∷ 255 ∷ []) ≡ true
last_of_192_168 = refl

above_192_168-no : is_trusted_v4 (192 ∷ 169 ∷ 0 ∷ 0 ∷ []) ≡ false
above_192_168-no = refl

below_100_64-no : is_trusted_v4 (100 ∷ 63 ∷ 255 ∷ 255 ∷ []) ≡ false
below_100_64-no = refl

first_of_100_64 : is_trusted_v4 (100 ∷ 64 ∷ 0 ∷ 0 ∷ []) ≡ true
first_of_100_64 = refl

last_of_100_64 : is_trusted_v4 (100 ∷ 127 ∷ 255 ∷ 255 ∷ []) ≡ true
last_of_100_64 = refl

above_100_64-no : is_trusted_v4 (100 ∷ 128 ∷ 0 ∷ 0 ∷ []) ≡ false
above_100_64-no = refl

-- all addresses of a machine, as a server may bind them; those of a link; all machines of a link
any-no : is_trusted_v4 (0 ∷ 0 ∷ 0 ∷ 0 ∷ []) ≡ false
any-no = refl

link_local_v4-no : is_trusted_v4 (169 ∷ 254 ∷ 0 ∷ 1 ∷ []) ≡ false
link_local_v4-no = refl

broadcast-no : is_trusted_v4 (255 ∷ 255 ∷ 255 ∷ 255 ∷ []) ≡ false
broadcast-no = refl

-- ---- IPv6

own_machine_v6 : is_trusted_v6 own_v6 ≡ true
own_machine_v6 = refl

any_v6-no : is_trusted_v6 (0 ∷ 0 ∷ 0 ∷ 0 ∷ 0 ∷ 0 ∷ 0 ∷ 0 ∷ 0 ∷ 0 ∷ 0 ∷ 0 ∷ 0 ∷ 0 ∷ 0 ∷ 0 ∷ []) ≡ false
any_v6-no = refl

above_own_v6-no : is_trusted_v6 (0 ∷ 0 ∷ 0 ∷ 0 ∷ 0 ∷ 0 ∷ 0 ∷ 0 ∷ 0 ∷ 0 ∷ 0 ∷ 0 ∷ 0 ∷ 0 ∷ 0 ∷ 2 ∷ []) ≡ false
above_own_v6-no = refl

below_unique_local-no : is_trusted_v6 (251 ∷ 255 ∷ 255 ∷ 255 ∷ 255 ∷ 255 ∷ 255 ∷ 255 ∷ 255 ∷ 255 ∷ 255 ∷ 255 ∷ 255 ∷ 255 ∷ 255 ∷ 255 ∷ []) ≡ false
below_unique_local-no = refl

first_unique_local : is_trusted_v6 (252 ∷ 0 ∷ 0 ∷ 0 ∷ 0 ∷ 0 ∷ 0 ∷ 0 ∷ 0 ∷ 0 ∷ 0 ∷ 0 ∷ 0 ∷ 0 ∷ 0 ∷ 0 ∷ []) ≡ true
first_unique_local = refl

last_unique_local : is_trusted_v6 (253 ∷ 255 ∷ 255 ∷ 255 ∷ 255 ∷ 255 ∷ 255 ∷ 255 ∷ 255 ∷ 255 ∷ 255 ∷ 255 ∷ 255 ∷ 255 ∷ 255 ∷ 255 ∷ []) ≡ true
last_unique_local = refl

above_unique_local-no : is_trusted_v6 (254 ∷ 0 ∷ 0 ∷ 0 ∷ 0 ∷ 0 ∷ 0 ∷ 0 ∷ 0 ∷ 0 ∷ 0 ∷ 0 ∷ 0 ∷ 0 ∷ 0 ∷ 0 ∷ []) ≡ false
above_unique_local-no = refl

link_local-no : is_trusted_v6 (254 ∷ 128 ∷ 0 ∷ 0 ∷ 0 ∷ 0 ∷ 0 ∷ 0 ∷ 0 ∷ 0 ∷ 0 ∷ 0 ∷ 0 ∷ 0 ∷ 0 ∷ 1 ∷ []) ≡ false
link_local-no = refl

-- an IPv4 address inside an IPv6 one, be it of this machine
mapped_own_machine-no : is_trusted_v6 (0 ∷ 0 ∷ 0 ∷ 0 ∷ 0 ∷ 0 ∷ 0 ∷ 0 ∷ 0 ∷ 0 ∷ 255 ∷ 255 ∷ 127 ∷ 0 ∷ 0 ∷ 1 ∷ []) ≡ false
mapped_own_machine-no = refl

compatible_own_machine-no : is_trusted_v6 (0 ∷ 0 ∷ 0 ∷ 0 ∷ 0 ∷ 0 ∷ 0 ∷ 0 ∷ 0 ∷ 0 ∷ 0 ∷ 0 ∷ 127 ∷ 0 ∷ 0 ∷ 1 ∷ []) ≡ false
compatible_own_machine-no = refl

-- ---- ports

abbrev at_own : ℕ → SocketAddr
at_own port = V4 (record { ip = record { octets = 127 ∷ 0 ∷ 0 ∷ 1 ∷ [] }; port = port })

first_port : is_usable false (at_own 1) 1 ≡ true
first_port = refl

port_0-no : is_usable false (at_own 0) 1 ≡ false
port_0-no = refl

last_port : is_usable false (at_own 65535) 1 ≡ true
last_port = refl

last_of_two : is_usable false (at_own 65534) 2 ≡ true
last_of_two = refl

one_too_few-no : is_usable false (at_own 65535) 2 ≡ false
one_too_few-no = refl

last_of_ten : is_usable false (at_own 65526) 10 ≡ true
last_of_ten = refl

nine_for_ten-no : is_usable false (at_own 65527) 10 ≡ false
nine_for_ten-no = refl

untrusted-no : is_usable false (V4 (record { ip = record { octets = 8 ∷ 8 ∷ 8 ∷ 8 ∷ [] }; port = 7000 })) 1 ≡ false
untrusted-no = refl

-- a scope is of no account
abbrev at_scope : ℕ → ℕ → SocketAddr
at_scope first scope = V6 (record { ip = record { segments = first ∷ 0 ∷ 0 ∷ 0 ∷ 0 ∷ 0 ∷ 0 ∷ 1 ∷ [] }; port = 7000; flowinfo = 0; scope_id = scope })

unique_local_with_a_scope : is_usable false (at_scope 0xfd00 3) 1 ≡ true
unique_local_with_a_scope = refl

link_local_with_a_scope-no : is_usable false (at_scope 0xfe80 3) 1 ≡ false
link_local_with_a_scope-no = refl
