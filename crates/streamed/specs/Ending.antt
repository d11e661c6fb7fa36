-- How a run of the program ends: its exit status, and what standard error gets.
use Rattle.std.specs.Prelude.{ℕ, List, [], ◌++◌, codes}
use Rattle.game_def.specs.Fault.{fault_text}
use Rattle.match_file.specs.Fault.{fault_text as match_fault_text}
use Rattle.match_file.specs.Kept.{difference_text}
use Rattle.promise_store.specs.FaultText.{fault_text as store_fault_text}
use Rattle.streamed.specs.declared.ending.Ending.{Ending}
use Rattle.streamed.specs.declared.ending.Ending.TheVariants.{Done, SaidNo, Refused, Match, StoreExists, Store, StoreInUse, OtherMatch, Unreadable, OutOfMemory, StreamFailed, WrongWords}
use Rattle.operator_notes.specs.declared.stop.Stop.{Stop}
use Rattle.operator_notes.specs.declared.stop.Stop.TheVariants as stop
use Rattle.streamed.specs.declared.wrong_words.WrongWords.{WrongWords as Wrong}
use Rattle.streamed.specs.declared.wrong_words.WrongWords.TheVariants.{NotText, GameWord, Incomplete, Told}

-- the exit status
abbrev pub status_of : Ending → ℕ
status_of Done = 0
status_of (SaidNo fault) = 1
status_of (Refused fault) = 2
status_of (Match fault) = 2
status_of StoreExists = 2
status_of (Store fault) = 2
status_of StoreInUse = 2
status_of (OtherMatch difference) = 2
status_of Unreadable = 2
status_of OutOfMemory = 2
status_of StreamFailed = 2
status_of (WrongWords words) = 2

-- how a run of a script ends that stopped before the script's end: for want of memory, or because a stream failed
abbrev pub stopped : Stop → Ending
stopped stop.OutOfMemory = OutOfMemory
stopped stop.StreamFailed = StreamFailed

-- what standard error gets of a command line that is wrong, beside what its reader has told
abbrev pub words_text : Wrong → List ℕ
words_text NotText = codes "error: the words of the command line must be text in UTF-8"
words_text GameWord = codes "error: with --log GAME must be 1 to 200 printable ASCII characters without space"
words_text Incomplete = codes "error: the command line lacks its command, or a word of it"
words_text Told = []

-- what standard error gets: nothing with status 0 or 1
abbrev pub ending_text : Ending → List ℕ
ending_text Done = []
ending_text (SaidNo fault) = []
ending_text (Refused fault) = fault_text fault
ending_text (Match fault) = match_fault_text fault
ending_text StoreExists = codes "103 StoreExists"
ending_text (Store fault) = store_fault_text fault
ending_text StoreInUse = codes "108 StoreInUse"
ending_text (OtherMatch difference) = codes "109 OtherMatch " ++ difference_text difference
ending_text Unreadable = codes "104 Unreadable"
ending_text OutOfMemory = codes "92 OutOfMemory"
ending_text StreamFailed = codes "107 StreamFailed"
ending_text (WrongWords words) = words_text words
