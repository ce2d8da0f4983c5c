-- The judgement of a file: document 01's number and the two numbers of its place, and these as bytes. Assumes nothing.
use Rattle.std.specs.Prelude.{ℕ, ◌*◌, Ok, Err}
use mathlib.Core.List.{List, [], ◌∷◌, flat_map}
use Rattle.table.specs.Meaning.{System, meaning}
use Rattle.rules.specs.Judged.{Judged}
use Rattle.rules.specs.Refusal.{refusal}
use Rattle.rules.specs.Rules.{judge_of}
use Rattle.stored.specs.declared.FileRefusal.{FileRefusal}
use Rattle.stored.specs.Answers.{ReadAnswer}
use Rattle.stored.specs.Numbers.{number_size}
use Rattle.stored.specs.File.{number_bytes}
use Rattle.stored.specs.Read.{file_refusal, read_of}
use Rattle.offsets.specs.declared.Judgement.{Judgement}

-- A refused file: 11 to 15, and the offset.
abbrev pub file_judgement : FileRefusal → Judgement
file_judgement r = record { number = r.number; first = r.offset; second = 0 }

-- A table that was judged so: 1 to 5, and subsystem and task; 0 at 0 0 where it is admitted.
unfoldable pub table_judgement : Judged → Judgement
table_judgement j =
    record { number = (refusal j).number; first = (refusal j).subsystem; second = (refusal j).task }

-- A file that was read so, with what its table means.
abbrev pub judgement_for : ReadAnswer → System → Judgement
judgement_for (Err r) sys = file_judgement (file_refusal (Err r))
judgement_for (Ok _) sys = table_judgement (judge_of sys)

unfoldable pub judgement_of : List ℕ → Judgement
judgement_of file = judgement_for (read_of file).answer (meaning (read_of file).table)

-- The place as bytes.
abbrev pub place_size : ℕ
place_size = 2 * number_size

unfoldable pub place_bytes : Judgement → List ℕ
place_bytes j = flat_map number_bytes (j.first ∷ j.second ∷ [])
