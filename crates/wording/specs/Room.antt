-- How much room the text of any file has: a buffer of so many bytes holds it. Assumes nothing.
use Rattle.std.specs.Prelude.{ℕ, ◌+◌}

-- A row's line takes no more than this: its first five figures, and the rest of it. Neither does a line of refusal.
abbrev pub start_most : ℕ
start_most = 80

abbrev pub end_most : ℕ
end_most = 80

abbrev pub line_most : ℕ
line_most = start_most + end_most

-- What a buffer must hold: the verdict's line and eight rows take no more (text/proofs/TextShape.antt, text-most).
abbrev pub text_room : ℕ
text_room = 2048
