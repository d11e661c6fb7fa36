-- Versions that are the same, and a Hello that is taken in its version.
use Rattle.std.proofs.Common.{◌≡◌, Bool, true, false, cond, Option, Some, None, IfSome, refl, ap, ◌∙◌}
use Rattle.std.proofs.lemmas.Option.{same_Some}
use Rattle.peer_codes.specs.declared.version.Version.{Version}
use Rattle.peer_codes.specs.declared.version.Version.TheVariants.{First, Second}
use Rattle.peer_codes.specs.declared.hello.Hello.{Hello}
use Rattle.peer_codes.specs.Versions.{same_version}
use Rattle.peer_codes.specs.Steps.{of_version}

pub same_is : (a b : Version) → same_version a b ≡ true → a ≡ b
same_is First First e = refl
same_is First Second e = absurd cc
same_is Second First e = absurd cc
same_is Second Second e = refl

pub is_same : (a b : Version) → a ≡ b → same_version a b ≡ true
is_same First First e = refl
is_same First Second e = absurd cc
is_same Second First e = absurd cc
is_same Second Second e = refl

pub not_same : (a b : Version) → (a ≡ b → ⊥) → same_version a b ≡ false
not_same First First differ = absurd (differ refl)
not_same First Second differ = refl
not_same Second First differ = refl
not_same Second Second differ = absurd (differ refl)

abbrev OfVersion : Option Hello → Hello → Type 0
OfVersion own theirs = IfSome own (λ mine. mine.version ≡ theirs.version)

taken_by : (same : Bool) (own found theirs : Hello) → same_version own.version found.version ≡ same → ◌≡◌ {A = Option Hello} (cond same (Some found) None) (Some theirs)
    → (◌≡◌ {A = Option Hello} (Some found) (Some theirs)) × (own.version ≡ theirs.version)
taken_by true own found theirs is e = (e, same_is own.version found.version is ∙ ap (λ (h : Hello). h.version) (same_Some found theirs e))
taken_by false own found theirs is e = absurd cc

-- what is taken is what was read, of the version in which this side called
pub of_version_is : (own read : Option Hello) (theirs : Hello) → of_version own read ≡ Some theirs → (read ≡ Some theirs) × OfVersion own theirs
of_version_is None read theirs e = (e, tt)
of_version_is (Some own) None theirs e = absurd cc
of_version_is (Some own) (Some found) theirs e = taken_by (same_version own.version found.version) own found theirs refl e
