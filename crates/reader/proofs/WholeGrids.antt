-- The grid that a file is read whole into has counts in range, as the file has; the table that is taken out of it is the one
-- that the read gives. Assumes nothing.
use Prim.Native.Nat.{ℕ, ◌≤◌, ◌<◌}
use native.Mathlib.Omega.{arith}
use mathlib.Core.Path.{◌≡◌, sym, ap, ◌∙◌}
use mathlib.Core.List.{List}
use Rattle.std.specs.Prelude.{Result, Ok, Err}
use Rattle.table.specs.Limits.{most}
use Rattle.table.specs.Zeros.{zero_table}
use Rattle.table.specs.Meaning.{System, meaning}
use Rattle.table.specs.Parts.{subsystem_of, task_count}
use Rattle.table.specs.Grid.{block_in, count_in, system_in}
use Rattle.table.specs.declared.Table.{Table}
use Rattle.table.proofs.GridLaws.{count_of_block, subsystem_of_grid}
use Rattle.rules.specs.Judged.{admitted}
use Rattle.rules.specs.Rules.{counts_judged}
use Rattle.stored.specs.declared.Misread.{Misread}
use Rattle.stored.specs.declared.Reading.{Reading}
use Rattle.stored.specs.Answers.{whole}
use Rattle.stored.specs.Read.{table_in, read_of}
use Rattle.stored.proofs.RoundTrips.{whole_reads_the_table, refused_read_gives_zeros}
use Rattle.stored.proofs.WholeCounts.{whole_counts, read_counts_pass}
use Rattle.reader.specs.declared.Head.{Head}
use Rattle.reader.specs.Reader.{answer_by, IsHead}
use Rattle.reader.specs.Taken.{table_with, BlocksFit}
use Rattle.reader.proofs.TakenLaws.{table_is_taken}

module _ (file : List ℕ) (grid : List (List (List ℕ))) (r : Result Head Misread) (read : IsHead file grid r) where
  module _ (head : Head) (gives : r ≡ Ok head) where
    pub read_whole : (read_of file).answer ≡ whole
    read_whole = sym read.answer_is ∙ ap answer_by gives

    block_count : (s : ℕ) → s < head.count → count_in (block_in grid s) ≡ task_count (subsystem_of (meaning (table_in file)) s)
    block_count s h =
        sym (count_of_block head.resources (block_in grid s)) ∙
        ap task_count (sym (subsystem_of_grid head.count head.resources grid s h)) ∙
        ap (λ (sys : System). task_count (subsystem_of sys s)) (read.means head gives)

    -- A table has room for it.
    pub head_fits : (head.count ≤ most) × (head.resources ≤ most) × BlocksFit head.count grid
    head_fits =
        let counts = whole_counts file read_whole in
        let n = read.count_is head gives in (
          omega (arith, n, counts.1),
          omega (arith, read.resources_is head gives, counts.2),
          λ s h. omega (arith, block_count s h, (counts.3 s (omega (arith, n, h))).1),
        )

    -- What is taken out of it is the table that the read gives.
    pub whole_is_read : (t : Table) → t ≡ table_with (system_in head.count head.resources grid) → ◌≡◌ {A = Reading} (record { answer = whole; table = t }) (read_of file)
    whole_is_read t e =
        let answer = sym read_whole in
        let table = e ∙ ap table_with (read.means head gives) ∙ table_is_taken file ∙ sym (whole_reads_the_table file read_whole).1 in
        λ x. record { answer = answer x; table = table x }

  -- Where the file is refused, the read gives the table of zeros.
  pub refused_is_read : (why : Misread) (z : Table) → r ≡ Err why → z ≡ zero_table → ◌≡◌ {A = Reading} (record { answer = Err why; table = z }) (read_of file)
  refused_is_read why z e q =
      let answer = sym (ap answer_by e) ∙ read.answer_is in
      let table = q ∙ sym (refused_read_gives_zeros file why.fault why.offset (sym answer)) in
      λ x. record { answer = answer x; table = table x }

-- The grid that a file is read into, with the counts as the code hands them on: what it means, and that rule 1 passes it.
module _ (file : List ℕ) (grid : List (List (List ℕ))) (r : Result Head Misread) (h : IsHead file grid r) (head : Head) (e : r ≡ Ok head) (n m : ℕ) (p : n ≡ head.count) (q : m ≡ head.resources) where
  pub grid_means_table : system_in n m grid ≡ meaning (read_of file).table
  grid_means_table = rw (p, q) (h.means head e) ∙ ap meaning (sym (whole_reads_the_table file (read_whole file grid r h head e)).1)

  pub grid_counts_pass : counts_judged (system_in n m grid) ≡ admitted
  grid_counts_pass = ap counts_judged grid_means_table ∙ read_counts_pass file (read_whole file grid r h head e)
