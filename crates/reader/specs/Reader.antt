-- What the reader leaves in the grid that it is lent, field by field. A line, a block or a grid may hold anything before; it
-- keeps its shape, and where something is refused nothing else is said of it. What stands behind the numbers that a field
-- gives means nothing. Indices count from 0. Assumes nothing.
use Rattle.std.specs.Prelude.{ℕ, ◌≤◌, ◌≡◌, List, length, Result, Ok, Err}
use Rattle.std.proofs.Math.Option.{Option, none}
use Rattle.table.specs.Meaning.{subsystem_m, meaning}
use Rattle.table.specs.Grid.{subsystem_in, system_in, HasLines, HasBlocks}
use Rattle.stored.specs.declared.Misread.{Misread}
use Rattle.stored.specs.Answers.{ReadAnswer, whole}
use Rattle.reader.specs.declared.Head.{Head}
use Rattle.stored.specs.Read.{Refusal, whole_unless, place_behind, body_refusal, subsystem_from, table_in, read_of}

-- What a reading says of the file: that what it read is whole, or why the file is refused.
abbrev pub answer_by : {A : Type 0} → Result A Misread → ReadAnswer
answer_by (Ok _) = whole
answer_by (Err why) = Err why

-- What the reading of the subsystem at an offset, or of its tasks, into a block has to be where this is its first refusal. It
-- gives the next offset.
pub record IsPart (refusal : Option Refusal) (file : List ℕ) (m at : ℕ) (block : List (List ℕ)) (r : Result ℕ Misread) : Type 0 where
  -- The answer is that refusal, or that the subsystem is whole.
  pub answer_is : answer_by r ≡ whole_unless refusal
  -- The block has its lines.
  pub lines : HasLines block
  -- Where nothing is refused, the block means the subsystem with its tasks …
  pub means : refusal ≡ none → subsystem_in m block ≡ subsystem_m m (subsystem_from file m at)
  -- … and the next offset is the one behind them.
  pub next_is : (next : ℕ) → r ≡ Ok next → next ≡ place_behind file m at
  -- The next offset is never past the file's end.
  pub within : (next : ℕ) → r ≡ Ok next → next ≤ length file

-- What the reading of all n subsystems behind a header, which has m resources, into a grid has to be.
pub record IsBody (file : List ℕ) (n m : ℕ) (grid : List (List (List ℕ))) (r : ReadAnswer) : Type 0 where
  -- The answer is the first refusal behind the header, or that the file is whole.
  pub answer_is : r ≡ whole_unless (body_refusal file m n)
  -- The grid has its blocks.
  pub blocks : HasBlocks grid
  -- Where the file is whole, the grid means what its table does.
  pub means : r ≡ whole → system_in n m grid ≡ meaning (table_in file)

-- What the reading of a file into a grid has to be. Where the file is whole, it gives N and M.
pub record IsHead (file : List ℕ) (grid : List (List (List ℕ))) (r : Result Head Misread) : Type 0 where
  -- The answer is the one that the read of the file gives.
  pub answer_is : answer_by r ≡ (read_of file).answer
  -- The grid has its blocks.
  pub blocks : HasBlocks grid
  -- Where the file is whole, N and M are those of its table …
  pub count_is : (head : Head) → r ≡ Ok head → head.count ≡ (table_in file).count
  pub resources_is : (head : Head) → r ≡ Ok head → head.resources ≡ (table_in file).resources
  -- … and the grid, with these counts, means what the table does.
  pub means : (head : Head) → r ≡ Ok head → system_in head.count head.resources grid ≡ meaning (table_in file)
