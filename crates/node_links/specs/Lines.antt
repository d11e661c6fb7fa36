-- What faults print as.
use Rattle.std.specs.Prelude.{ℕ, ◌^◌, nat_lt, false, if◌then◌else◌, List, [], ◌++◌, codes, decimal}
use Rattle.std.specs.Fmt.{digits}
use Rattle.peer_codes.specs.Lines.{record_fault_code, record_fault_line}
use Rattle.node_links.specs.declared.peer_fault.Mismatch.{Mismatch}
use Rattle.node_links.specs.declared.peer_fault.Mismatch.TheVariants.{Digest, Nodes, Number}
use Rattle.node_links.specs.declared.peer_fault.Numbers.{Numbers}
use Rattle.node_links.specs.declared.peer_fault.WrongNumber.{WrongNumber}
use Rattle.node_links.specs.declared.peer_fault.WrongNumber.TheVariants.{Speaker, Called, Caller}
use Rattle.node_links.specs.declared.peer_fault.Digests.{Digests}
use Rattle.node_links.specs.declared.peer_fault.PeerFault.{PeerFault}
use Rattle.node_links.specs.declared.peer_fault.PeerFault.TheVariants as faults

-- the number that a fault is known by
abbrev pub peer_fault_code : PeerFault → ℕ
peer_fault_code (faults.Record fault) = record_fault_code fault
peer_fault_code (faults.OtherMatch what) = 123
peer_fault_code faults.WrongProof = 124
peer_fault_code faults.WrongTag = 125
peer_fault_code faults.UnexpectedRecord = 126
peer_fault_code (faults.StoreReplaced whose) = 127
peer_fault_code faults.AlreadyHere = 128
peer_fault_code (faults.StoreOlder whose) = 130

-- the zeros in front of the hexadecimal digits of a number below 2 ^ 32, so that there are eight
abbrev pub zeros : ℕ → List ℕ
zeros n =
    if nat_lt n (2 ^ 4) then codes "0000000"
    else (if nat_lt n (2 ^ 8) then codes "000000"
    else (if nat_lt n (2 ^ 12) then codes "00000"
    else (if nat_lt n (2 ^ 16) then codes "0000"
    else (if nat_lt n (2 ^ 20) then codes "000"
    else (if nat_lt n (2 ^ 24) then codes "00"
    else (if nat_lt n (2 ^ 28) then codes "0"
    else []))))))

abbrev pub eight_digits : ℕ → List ℕ
eight_digits n = zeros n ++ digits 16 false n

-- the heads of both digests
abbrev pub digests_line : Digests → List ℕ
digests_line d = codes "here " ++ (eight_digits d.here ++ (codes ", there " ++ eight_digits d.there))

abbrev pub numbers_of : WrongNumber → Numbers
numbers_of (Speaker numbers) = numbers
numbers_of (Called numbers) = numbers
numbers_of (Caller numbers) = numbers

abbrev pub between : WrongNumber → List ℕ
between (Speaker numbers) = codes ", not "
between (Called numbers) = codes " called, not "
between (Caller numbers) = codes ", not above "

-- the number that came, then the one that was expected
abbrev pub wrong_number_line : WrongNumber → List ℕ
wrong_number_line wrong = decimal (numbers_of wrong).said ++ (between wrong ++ decimal (numbers_of wrong).expected)

-- in what they differ, and what both say
abbrev pub mismatch_line : Mismatch → List ℕ
mismatch_line (Digest heads) = codes "digest: " ++ digests_line heads
mismatch_line (Nodes n) = codes "nodes " ++ (decimal n.said ++ (codes ", not " ++ decimal n.expected))
mismatch_line (Number wrong) = codes "number " ++ wrong_number_line wrong

-- a fault prints as its number and its name, and 123 with what differs
abbrev pub peer_fault_line : PeerFault → List ℕ
peer_fault_line (faults.Record fault) = record_fault_line fault
peer_fault_line (faults.OtherMatch what) = codes "123 OtherMatch " ++ mismatch_line what
peer_fault_line faults.WrongProof = codes "124 WrongProof"
peer_fault_line faults.WrongTag = codes "125 WrongTag"
peer_fault_line faults.UnexpectedRecord = codes "126 UnexpectedRecord"
peer_fault_line (faults.StoreReplaced whose) = codes "127 StoreReplaced"
peer_fault_line faults.AlreadyHere = codes "128 AlreadyHere"
peer_fault_line (faults.StoreOlder whose) = codes "130 StoreOlder"
