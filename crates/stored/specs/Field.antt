-- A field: one-byte tag, two-byte length, value. And the parts of the field at the start of a list of bytes.
-- Assumes nothing.
use Rattle.std.specs.Prelude.{ℕ, ◌+◌, ◌-◌, ◌*◌, List, [], ◌∷◌, ◌++◌, length, get_or, take, drop}
use Rattle.stored.specs.Numbers.{big_endian, spelled, number_size}

-- The field with a tag and a value.
unfoldable pub field : ℕ → List ℕ → List ℕ
field tag value = (tag ∷ []) ++ (big_endian 2 (length value) ++ value)

-- Tag and length take three bytes.
abbrev pub start_size : ℕ
start_size = 3

-- How many bytes a field with a value of so many bytes has.
abbrev pub field_size : ℕ → ℕ
field_size len = start_size + len

-- The field at the start of a list of bytes: its tag, the length that it states, and its value of so many bytes.
unfoldable pub tag_of : List ℕ → ℕ
tag_of rest = get_or rest 0 0

unfoldable pub stated_length : List ℕ → ℕ
stated_length rest = spelled (take 2 (drop 1 rest))

unfoldable pub value_of : ℕ → List ℕ → List ℕ
value_of len rest = take len (drop start_size rest)

-- The three kinds of field: tag, and the length that is due. A task's depends on M.
abbrev pub header_tag : ℕ
header_tag = 0x01

abbrev pub header_length : ℕ
header_length = 3

abbrev pub subsystem_tag : ℕ
subsystem_tag = 0x02

abbrev pub subsystem_length : ℕ
subsystem_length = 9

-- Where n stands in a subsystem's value: it is the last byte.
abbrev pub count_at : ℕ
count_at = subsystem_length - 1

abbrev pub task_tag : ℕ
task_tag = 0x03

abbrev pub task_length : ℕ → ℕ
task_length m = 12 + number_size * m

-- The version of the stored form.
abbrev pub version : ℕ
version = 1
