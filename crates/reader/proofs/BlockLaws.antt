-- What the lines of a block mean where they are those of a subsystem's fields. Assumes nothing.
use Prim.Native.Nat.{ℕ, ◌+◌, ◌<◌}
use mathlib.Core.Path.{◌≡◌, sym, ap, ◌∙◌}
use mathlib.Core.List.{List, []}
use lib.ListN.{get_or}
use Rattle.lists.specs.Range.{up_to}
use Rattle.lists.proofs.UpTo.{up_to_ext}
use Rattle.table.specs.Meaning.{task_at, subsystem_m}
use Rattle.table.specs.Grid.{count_in, task_in, subsystem_in, LineOf}
use Rattle.table.proofs.GridLaws.{line_means}
use Rattle.stored.specs.HeadLine.{HeadLine}
use Rattle.stored.specs.Read.{head_at, task_read, subsystem_to, subsystem_from}
use Rattle.stored.proofs.ReadMeaning.{task_of_reading}

-- A block with the lines of a subsystem and of its tasks means the subsystem that is read.
pub block_means : (file : List ℕ) (m at : ℕ) (block : List (List ℕ)) → HeadLine (head_at file at) (get_or block 0 []) → ((i : ℕ) → i < (head_at file at).count → LineOf m (task_read file m at i) (get_or block (i + 1) [])) → subsystem_in m block ≡ subsystem_m m (subsystem_from file m at)
unfolding subsystem_in subsystem_m subsystem_from subsystem_to
block_means file m at block head lines =
    λ x. record { period = head.period_is x; budget = head.budget_is x; tasks = tasks x }
  where
    n : ℕ
    n = (head_at file at).count

    tasks : up_to (task_in m block) (count_in block) ≡ up_to (task_at m (subsystem_from file m at)) n
    tasks =
        ap (up_to (task_in m block)) head.count_is ∙
        up_to_ext (task_in m block) (task_at m (subsystem_from file m at)) n
        (λ i k. line_means m (task_read file m at i) block i (lines i k) ∙ sym (task_of_reading file m at i k))
