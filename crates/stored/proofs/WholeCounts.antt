-- A file that is read whole has counts in range, and rule 1 passes it. Assumes nothing.
use Prim.Native.Nat.{ℕ, ◌≤◌, ◌<◌}
use native.Mathlib.Omega.{arith}
use mathlib.Core.Path.{◌≡◌, ap, ◌∙◌}
use mathlib.Core.Option.{none}
use mathlib.Core.List.{List}
use lib.ListN.{drop}
use Rattle.lists.specs.Range.{first_of}
use Rattle.lists.proofs.First.{first_of_none}
use Rattle.table.specs.Limits.{most}
use Rattle.table.specs.Meaning.{meaning}
use Rattle.table.specs.Parts.{subsystem_of, task_count}
use Rattle.table.specs.declared.Table.{Table}
use Rattle.table.proofs.Parts.{count_of_subsystems}
use Rattle.rules.specs.Judged.{admitted}
use Rattle.rules.specs.Rules.{counts_judged}
use Rattle.rules.proofs.OrderLaws.{counts_admit}
use Rattle.stored.specs.Answers.{whole}
use Rattle.stored.specs.Field.{header_tag, header_length, subsystem_tag, subsystem_length}
use Rattle.stored.specs.Judge.{header_in_range, subsystem_in_range, judge_header, judge_subsystem}
use Rattle.stored.specs.Read.{refused_at, header_in, head_at, subsystem_place, tasks_refusal, refusal_from, subsystem_refusal, left_over, body_refusal, refusal_in, table_to, table_in, read_of}
use Rattle.stored.proofs.InRange.{header_counts, head_count_lem}
use Rattle.stored.proofs.ReadMeaning.{tasks_read, subsystem_read_lem}
use Rattle.stored.proofs.ReadWritten.{neither_refused, sound_where_unrefused}
use Rattle.stored.proofs.RoundTrips.{whole_reads_the_table}

module _ (file : List ℕ) (unrefused : refusal_in file ≡ none) where
  abbrev N : ℕ
  N = (header_in file).count

  abbrev M : ℕ
  M = (header_in file).resources

  -- N and M.
  both_counts : (1 ≤ N) × (N ≤ most) × (M ≤ most)
  unfolding refusal_in
  both_counts =
      header_counts file
      (sound_where_unrefused header_tag header_length 0 header_in_range file
      (neither_refused (refused_at 0 (judge_header file)) (body_refusal file M N) unrefused).0)

  subsystem_unrefused : (s : ℕ) → s < N → refusal_from file M (subsystem_place file M s) ≡ none
  unfolding refusal_in body_refusal subsystem_refusal
  subsystem_unrefused s h =
      let body = (neither_refused (refused_at 0 (judge_header file)) (body_refusal file M N) unrefused).1 in
      first_of_none (subsystem_refusal file M) N 0
      (neither_refused (first_of (subsystem_refusal file M) N 0) (left_over file (subsystem_place file M N)) body).0 s (omega arith) (omega arith)

  -- n of each subsystem.
  each_count : (s : ℕ) → s < N → (1 ≤ task_count (subsystem_of (meaning (table_in file)) s)) × (task_count (subsystem_of (meaning (table_in file)) s) ≤ most)
  unfolding refusal_from
  each_count s h =
      let at = subsystem_place file M s in
      let counted : task_count (subsystem_of (meaning (table_in file)) s) ≡ (head_at file at).count = ap task_count (subsystem_read_lem file s h) ∙ tasks_read file M at in
      rw counted
      (head_count_lem file at
      (sound_where_unrefused subsystem_tag subsystem_length at subsystem_in_range (drop at file)
      (neither_refused (refused_at at (judge_subsystem (drop at file))) (tasks_refusal file M at) (subsystem_unrefused s h)).0))

-- The counts of a file that is read whole.
pub whole_counts : (file : List ℕ) → (read_of file).answer ≡ whole → (1 ≤ (table_in file).count) × ((table_in file).count ≤ most) × ((table_in file).resources ≤ most) × ((s : ℕ) → s < (table_in file).count → (1 ≤ task_count (subsystem_of (meaning (table_in file)) s)) × (task_count (subsystem_of (meaning (table_in file)) s) ≤ most))
unfolding table_in table_to
whole_counts file e =
    let clean = (whole_reads_the_table file e).0 in
    let both = both_counts file clean in
    (both.0, both.1, both.2, each_count file clean)

-- So rule 1 passes it.
pub whole_counts_pass : (file : List ℕ) → (read_of file).answer ≡ whole → counts_judged (meaning (table_in file)) ≡ admitted
unfolding meaning
whole_counts_pass file e =
    let c = whole_counts file e in
    counts_admit (meaning (table_in file))
    (record {
      subsystems_least = rw (count_of_subsystems (table_in file)) c.0;
      subsystems_most = rw (count_of_subsystems (table_in file)) c.1;
      resources_most = c.2;
      some_task = λ s h. (c.3 s (rw (← count_of_subsystems (table_in file)) h)).0;
      tasks_most = λ s h. (c.3 s (rw (← count_of_subsystems (table_in file)) h)).1;
    })

pub read_counts_pass : (file : List ℕ) → (read_of file).answer ≡ whole → counts_judged (meaning (read_of file).table) ≡ admitted
read_counts_pass file e = ap (λ (t : Table). counts_judged (meaning t)) (whole_reads_the_table file e).1 ∙ whole_counts_pass file e
