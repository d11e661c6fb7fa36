-- Why the system refused a file or an address, in words.
use Rattle.std.specs.Prelude.{ℕ, List, [], codes}
use Rattle.std.specs.declared.io.ErrorKind.{ErrorKind}
use Rattle.std.specs.declared.io.ErrorKind.TheVariants as kind
use Rattle.operator_notes.specs.declared.cause.Cause.{Cause}
use Rattle.operator_notes.specs.declared.cause.Cause.TheVariants.{InUse, NotHere, NotFound, NoFolder, NoPermission, NoRoom, ThereAlready, NotAFolder, Failed, Unknown}

-- by the system's kind of error; a lock that another process holds is an operation that would wait
abbrev pub cause_of : ErrorKind → Cause
cause_of kind.AddrInUse = InUse
cause_of kind.WouldBlock = InUse
cause_of kind.AddrNotAvailable = NotHere
cause_of kind.NotFound = NotFound
cause_of kind.PermissionDenied = NoPermission
cause_of kind.StorageFull = NoRoom
cause_of kind.QuotaExceeded = NoRoom
cause_of kind.AlreadyExists = ThereAlready
cause_of kind.NotADirectory = NotAFolder
cause_of _ = Failed

-- what stands behind a file or an address: nothing where the cause isn't known
abbrev pub cause_text : Cause → List ℕ
cause_text InUse = codes ": in use"
cause_text NotHere = codes ": not an address of this machine"
cause_text NotFound = codes ": not found"
cause_text NoFolder = codes ": no such folder"
cause_text NoPermission = codes ": no permission"
cause_text NoRoom = codes ": no room"
cause_text ThereAlready = codes ": there already"
cause_text NotAFolder = codes ": not a folder"
cause_text Failed = codes ": failed"
cause_text Unknown = []
