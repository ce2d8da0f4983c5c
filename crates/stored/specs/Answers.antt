-- The answers: of the judge of a field, of a read and of a write. Each is a value or what is refused; the names here are those
-- values, so that a definition or a theorem reads as the rules say it. Assumes nothing.
use Rattle.std.specs.Prelude.{ℕ, Result, Ok, Err}
use Rattle.rules.specs.declared.Place.{Place}
use Rattle.stored.specs.declared.Fault.{Fault}
use Rattle.stored.specs.declared.Misread.{Misread}
use Rattle.stored.specs.declared.Unwritten.{Unwritten}
use Rattle.stored.specs.declared.Unwritten.TheVariants.{Uncounted, NoRoom}

-- The judge's answer on the field at the start of the rest of a file: the field that is due, with a value of so many bytes,
-- or what is wrong.
abbrev pub FieldAnswer : Type 0
FieldAnswer = Result ℕ Fault

abbrev pub sound : ℕ → FieldAnswer
sound n = Ok n

abbrev pub faulty : Fault → FieldAnswer
faulty f = Err f

-- A read's answer: the file is a table, or it is refused with this fault at this offset.
abbrev pub ReadAnswer : Type 0
ReadAnswer = Result (Unit {0}) Misread

abbrev pub whole : ReadAnswer
whole = Ok tt

abbrev pub misread : Fault → ℕ → Misread
misread f at = record { fault = f; offset = at }

abbrev pub refused : Fault → ℕ → ReadAnswer
refused f at = Err (misread f at)

-- A write's answer: the file stands at the buffer's start, with so many bytes, or why it was not written.
abbrev pub WriteAnswer : Type 0
WriteAnswer = Result ℕ Unwritten

abbrev pub stands : ℕ → WriteAnswer
stands n = Ok n

abbrev pub uncounted : Place → WriteAnswer
uncounted p = Err (Uncounted p)

abbrev pub no_room : WriteAnswer
no_room = Err NoRoom
