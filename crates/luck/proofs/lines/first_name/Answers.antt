use Rattle.std.proofs.Common.{◌+◌, length, refl, sym, inl, inr, arith}
use Rattle.std.proofs.lemmas.Bool.{cases_lt, false≢true}
use Rattle.match_log.proofs.Free.{name_free}
use Rattle.match_log.proofs.Naming.{next_name, last_name}
use Rattle.luck.proofs.lines.first_name.Goals as goal

pub returns-in-Some : goal.returns-in-Some
returns-in-Some c = λ names place within all is.
    elim (cases_lt (place + 1) (length names)) [
      | inl more ↦
          let next = next_name names place c.args.bytes.now more all is in
          let cut = c.in-Some.ensures.only _ _ next.free next.is in
          (cut.0, λ still. cut.1)
      | inr end ↦
          let last = last_name names place c.args.bytes.now (omega arith) all is in
          absurd (false≢true (sym (c.in-Some.ensures.missing.1 (name_free 124 refl c.args.bytes.now last.0))))
    ]

pub returns-in-None : goal.returns-in-None
returns-in-None c = λ names place within all is.
    elim (cases_lt (place + 1) (length names)) [
      | inl more ↦
          let next = next_name names place c.args.bytes.now more all is in
          absurd (c.in-None.ensures.only _ _ next.free next.is)
      | inr end ↦
          let last = last_name names place c.args.bytes.now (omega arith) all is in
          (last.1, λ more. absurd (omega arith))
    ]
