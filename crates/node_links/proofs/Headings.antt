-- The version of the Hello that came first.
use Rattle.std.proofs.Common.{◌≡◌, ℕ, List, ◌++◌, drop, Option, Some, None, IfSome, IsSomeAnd, Result, Ok, Err, IfOk, refl, ap}
use Rattle.peer_codes.specs.declared.fault.RecordFault.{RecordFault}
use Rattle.peer_codes.specs.declared.hello.Hello.{Hello}
use Rattle.peer_codes.specs.declared.records.Record.{Record}
use Rattle.peer_codes.specs.declared.records.Record.TheVariants as record_of
use Rattle.peer_codes.specs.Fits.{IsRecord}
use Rattle.peer_codes.specs.Spelling.{record_text}
use Rattle.node_links.specs.Versions.{IsSaid, said_in, said_of, said_by}

in_record : (bytes rest : List ℕ) (said : Record) → IsRecord said → bytes ≡ record_text said ++ rest → IfSome (said_in said) (λ version. IsSaid version bytes)
in_record bytes rest (record_of.Hello hello) is text = (hello, (rest, (is, (refl, text))))
in_record bytes rest (record_of.Proof proof) is text = tt
in_record bytes rest (record_of.Frame frame) is text = tt
in_record bytes rest (record_of.Beat beat) is text = tt
in_record bytes rest (record_of.More more) is text = tt

pub is_said : (bytes : List ℕ) (read : Option (Result Record RecordFault × ℕ)) → IfSome read (λ x. IfOk x.0 (λ r. IsRecord r × (bytes ≡ record_text r ++ drop x.1 bytes))) → IfSome (said_by read) (λ version. IsSaid version bytes)
is_said bytes None found = tt
is_said bytes (Some (Ok said, end)) found = in_record bytes (drop end bytes) said found.0 found.1
is_said bytes (Some (Err fault, end)) found = tt

pub is_all : (bytes rest : List ℕ) (hello : Hello) (read : Option (Result Record RecordFault × ℕ)) → IsSomeAnd read (λ x. (x.0 ≡ Ok (record_of.Hello hello)) × (drop x.1 bytes ≡ rest)) → said_by read ≡ Some hello.version
is_all bytes rest hello None only = absurd only
is_all bytes rest hello (Some read) only = ap said_of only.0
