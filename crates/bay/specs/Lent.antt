-- What a foreign caller gets: the number that each function returns, and what the lent buffer holds at the end.
-- Assumes nothing.
use Rattle.std.specs.Prelude.{ℕ, cond, ltb, length, Option, unwrap_or, Ok, Err}
use Rattle.std.specs.Result.{result_unwrap_or}
use mathlib.Core.List.{List, flat_map}
use Rattle.table.specs.Meaning.{System, meaning}
use Rattle.stored.specs.Answers.{ReadAnswer, WriteAnswer}
use Rattle.stored.specs.File.{number_bytes}
use Rattle.stored.specs.Read.{read_of}
use Rattle.stored.specs.Write.{written, write_of, buffer_after}
use Rattle.text.specs.Text.{printed_of}
use Rattle.offsets.specs.Judgement.{judgement_of, place_size, place_bytes}
use Rattle.offsets.specs.Figures.{figures_in, report_size}

-- A buffer with bytes at its start and the rest as it was, or all as it was where it is shorter than `size`.
unfoldable pub lent : ℕ → List ℕ → List ℕ → List ℕ
lent size bytes buf = cond (ltb (length buf) size) buf (written bytes buf)

-- `size`, or 0 where the buffer is shorter.
unfoldable pub filled : ℕ → ℕ → ℕ
filled size room = cond (ltb room size) 0 size

------------------------------------------------------------------------
-- The text

-- How many bytes of text were printed: none where the buffer had no room.
abbrev pub printed_by : Option ℕ → ℕ
printed_by printed = unwrap_or printed 0

unfoldable pub text_size : List ℕ → ℕ → ℕ
text_size file room = printed_by (printed_of file room)

------------------------------------------------------------------------
-- The place of a judgement

unfoldable pub place_after : List ℕ → List ℕ → List ℕ
place_after file buf = lent place_size (place_bytes (judgement_of file)) buf

------------------------------------------------------------------------
-- The figures of a report

unfoldable pub figures_after : List ℕ → List ℕ → List ℕ
figures_after file buf = lent report_size (flat_map number_bytes (figures_in file)) buf

------------------------------------------------------------------------
-- A table that is read and written back

-- How many bytes a write put: none where it did not write.
abbrev pub put_by : WriteAnswer → ℕ
put_by answer = result_unwrap_or answer 0

-- The bytes put, and the buffer, for a file that was read so, with what its table means.
abbrev pub rewrite_for : ReadAnswer → System → ℕ → ℕ
rewrite_for (Err _) sys room = 0
rewrite_for (Ok _) sys room = put_by (write_of sys room)

abbrev pub rewrite_left : ReadAnswer → System → List ℕ → List ℕ
rewrite_left (Err _) sys buf = buf
rewrite_left (Ok _) sys buf = buffer_after sys buf

unfoldable pub rewrite_of : List ℕ → ℕ → ℕ
rewrite_of file room = rewrite_for (read_of file).answer (meaning (read_of file).table) room

unfoldable pub rewrite_after : List ℕ → List ℕ → List ℕ
rewrite_after file buf = rewrite_left (read_of file).answer (meaning (read_of file).table) buf
