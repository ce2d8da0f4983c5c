-- The parts of what a grid means are its own numbers, as far as the counts go; and a grid that a table was laid out in means
-- what the table does. Assumes nothing.
use Prim.Native.Nat.{ℕ, zero, suc, ◌+◌, ◌≤◌, ◌<◌}
use native.Mathlib.Omega.{arith}
use native.Mathlib.Nat.{lt_of_lt_of_le}
use mathlib.Core.Path.{◌≡◌, refl, sym, ap, subst, ◌∙◌}
use mathlib.Core.List.{List, [], ◌∷◌}
use lib.ListN.{length, get_or, set, replicate, length-set, get_or-replicate}
use lib.Seq.{get_or-set_same}
use Rattle.lists.proofs.Filled.{Filled, filled_none, filled_at, filled_more, kept_before, all_keep}
use Rattle.lists.proofs.UpTo.{length_up_to, get_d_up_to, up_to_ext}
use Rattle.table.specs.declared.Task.{Task}
use Rattle.table.specs.declared.Subsystem.{Subsystem}
use Rattle.table.specs.declared.Table.{Table}
use Rattle.table.specs.Limits.{most}
use Rattle.table.specs.Meaning.{TaskM, past_tasks, past_subsystems, access_at, task_at, task_m, subsystem_at, subsystem_m, meaning}
use Rattle.table.specs.Parts.{no_task, no_subsystem, subsystem_count, subsystem_of, task_count, task_of, access_of, work_of}
use Rattle.table.specs.Grid.{period_in, budget_in, count_in, separation_in, work_in, deadline_in, access_in, task_in, subsystem_in, block_in, subsystem_at_block, system_in, IsLine, HasLines, HasBlocks, LineOf, BlockOf, GridOf}

module _ (m : ℕ) (block : List (List ℕ)) where
  pub count_of_block : task_count (subsystem_in m block) ≡ count_in block
  unfolding task_count subsystem_in
  count_of_block = length_up_to (task_in m block) (count_in block)

  pub period_of_block : (subsystem_in m block).period ≡ period_in block
  unfolding subsystem_in
  period_of_block = refl

  pub budget_of_block : (subsystem_in m block).budget ≡ budget_in block
  unfolding subsystem_in
  budget_of_block = refl

  -- The access to a resource, of the task on a line.
  pub access_of_line : (i l : ℕ) → l < m → access_of (task_in m block i) l ≡ access_in block i l
  unfolding access_of task_in
  access_of_line i l k = get_d_up_to (access_in block i) m l 0 k

  module _ (i : ℕ) (h : i < count_in block) where
    pub task_of_block : task_of (subsystem_in m block) i ≡ task_in m block i
    unfolding task_of subsystem_in
    task_of_block = get_d_up_to (task_in m block) (count_in block) i no_task h

    pub separation_of_block : (task_of (subsystem_in m block) i).separation ≡ separation_in block i
    unfolding task_in
    separation_of_block = ap (λ (t : TaskM). t.separation) task_of_block

    pub work_of_block : work_of (subsystem_in m block) i ≡ work_in block i
    unfolding work_of task_in
    work_of_block = ap (λ (t : TaskM). t.work) task_of_block

    pub deadline_of_block : (task_of (subsystem_in m block) i).deadline ≡ deadline_in block i
    unfolding task_in
    deadline_of_block = ap (λ (t : TaskM). t.deadline) task_of_block

    pub access_of_block : (l : ℕ) → l < m → access_of (task_of (subsystem_in m block) i) l ≡ access_in block i l
    access_of_block l k = ap (λ (t : TaskM). access_of t l) task_of_block ∙ access_of_line i l k

module _ (n m : ℕ) (grid : List (List (List ℕ))) where
  pub count_of_grid : subsystem_count (system_in n m grid) ≡ n
  unfolding subsystem_count system_in
  count_of_grid = length_up_to (subsystem_at_block m grid) n

  pub resources_of_grid : (system_in n m grid).resources ≡ m
  unfolding system_in
  resources_of_grid = refl

  pub subsystem_of_grid : (s : ℕ) → s < n → subsystem_of (system_in n m grid) s ≡ subsystem_in m (block_in grid s)
  unfolding subsystem_of system_in subsystem_at_block
  subsystem_of_grid s h = get_d_up_to (subsystem_at_block m grid) n s no_subsystem h

------------------------------------------------------------------------
-- A table that was laid out

pub line_means : (m : ℕ) (task : Task) (block : List (List ℕ)) (i : ℕ) → LineOf m task (get_or block (i + 1) []) → task_in m block i ≡ task_m m task
unfolding task_in task_m
line_means m task block i line =
    rw (line.separation_is, line.work_is, line.deadline_is, up_to_ext (access_in block i) (access_at task) m line.access_is) refl

-- A line with all accesses is one with the first m.
fewer_accesses : (m : ℕ) (task : Task) (line : List ℕ) → m ≤ most → LineOf most task line → LineOf m task line
fewer_accesses m task line h t =
    record {
      separation_is = t.separation_is;
      work_is = t.work_is;
      deadline_is = t.deadline_is;
      access_is = λ l k. t.access_is l (lt_of_lt_of_le k h);
    }

pub block_means : (m : ℕ) (sub : Subsystem) (block : List (List ℕ)) → m ≤ most → BlockOf sub block → subsystem_in m block ≡ subsystem_m m sub
unfolding subsystem_in subsystem_m task_at
block_means m sub block h b =
    rw (b.period_is, b.budget_is, b.count_is, up_to_ext (task_in m block) (task_at m sub) sub.count (λ i k. line_means m (get_or sub.tasks i past_tasks) block i (fewer_accesses m (get_or sub.tasks i past_tasks) (get_or block (i + 1) []) h (b.task_is i k)))) refl

pub grid_means : (t : Table) (grid : List (List (List ℕ))) → t.resources ≤ most → GridOf t grid → system_in t.count t.resources grid ≡ meaning t
unfolding system_in meaning subsystem_at_block subsystem_at
grid_means t grid h g =
    rw (up_to_ext (subsystem_at_block t.resources grid) (subsystem_at t) t.count (λ s k. block_means t.resources (get_or t.subsystems s past_subsystems) (block_in grid s) h (g s k))) refl

------------------------------------------------------------------------
-- To lay out

-- A line that is written out number by number.
pub line_is :
    (task : Task) →
    LineOf most task (task.separation ∷ task.work ∷ task.deadline ∷ get_or task.access 0 0 ∷ get_or task.access 1 0 ∷ get_or task.access 2 0 ∷ get_or task.access 3 0 ∷ get_or task.access 4 0 ∷ get_or task.access 5 0 ∷ get_or task.access 6 0 ∷ get_or task.access 7 0 ∷ [])
unfolding access_at
line_is task = record { separation_is = refl; work_is = refl; deadline_is = refl; access_is = go }
  where
    go :
        (l : ℕ) → l < most →
        get_or (task.separation ∷ task.work ∷ task.deadline ∷ get_or task.access 0 0 ∷ get_or task.access 1 0 ∷ get_or task.access 2 0 ∷ get_or task.access 3 0 ∷ get_or task.access 4 0 ∷ get_or task.access 5 0 ∷ get_or task.access 6 0 ∷ get_or task.access 7 0 ∷ []) (l + 3) 0 ≡ access_at task l
    go zero h = refl
    go (suc zero) h = refl
    go (suc (suc zero)) h = refl
    go (suc (suc (suc zero))) h = refl
    go (suc (suc (suc (suc zero)))) h = refl
    go (suc (suc (suc (suc (suc zero))))) h = refl
    go (suc (suc (suc (suc (suc (suc zero)))))) h = refl
    go (suc (suc (suc (suc (suc (suc (suc zero))))))) h = refl
    go (suc (suc (suc (suc (suc (suc (suc (suc l)))))))) h = absurd (omega arith)

-- A block keeps its shape where a line is stored.
pub lines_kept : (block : List (List ℕ)) (i : ℕ) (line : List ℕ) → i < 1 + most → HasLines block → IsLine line → HasLines (set block i line)
lines_kept block i line h b l =
    record {
      lines = length-set block i line ∙ b.lines;
      wide = λ j k. all_keep [] IsLine block i line (rw b.lines h) (λ q r. b.wide q (rw (← b.lines) r)) l j (rw b.lines k);
    }

-- A block with its own line and the lines of its first i tasks.
abbrev LineOfTask : Subsystem → ℕ → List ℕ → Type 0
LineOfTask sub i line = LineOf most (get_or sub.tasks i past_tasks) line

pub record BlockTo (sub : Subsystem) (i : ℕ) (block : List (List ℕ)) : Type 0 where
  pub lines : HasLines block
  pub period_is : period_in block ≡ sub.period
  pub budget_is : budget_in block ≡ sub.budget
  pub count_is : count_in block ≡ sub.count
  pub tasks_are : Filled [] (LineOfTask sub) 1 block i

-- The block's own line is written.
pub own_line :
    (sub : Subsystem) (block : List (List ℕ)) (rest : List ℕ) → HasLines block → length rest ≡ most →
    BlockTo sub 0 (set block 0 (sub.period ∷ sub.budget ∷ sub.count ∷ rest))
own_line sub block rest h e =
    record {
      lines = lines_kept block 0 line (omega arith) h (rw e refl);
      period_is = at 0;
      budget_is = at 1;
      count_is = at 2;
      tasks_are = filled_none [] (LineOfTask sub) 1 (set block 0 line);
    }
  where
    line : List ℕ
    line = sub.period ∷ sub.budget ∷ sub.count ∷ rest

    at : (k : ℕ) → get_or (get_or (set block 0 line) 0 []) k 0 ≡ get_or line k 0
    at k = ap (λ (xs : List ℕ). get_or xs k 0) (get_or-set_same block 0 line [] (omega (arith, h.lines)))

-- The line of the next task is written.
pub one_line_more :
    (sub : Subsystem) (i : ℕ) (block : List (List ℕ)) (line : List ℕ) → i < most → BlockTo sub i block →
    LineOf most (get_or sub.tasks i past_tasks) line → IsLine line → BlockTo sub (i + 1) (set block (i + 1) line)
one_line_more sub i block line h b e w =
    record {
      lines = lines_kept block (i + 1) line (omega arith) b.lines w;
      period_is = own 0 ∙ b.period_is;
      budget_is = own 1 ∙ b.budget_is;
      count_is = own 2 ∙ b.count_is;
      tasks_are = filled_more [] (LineOfTask sub) 1 block i (i + 1) line refl (omega (arith, b.lines.lines)) b.tasks_are e;
    }
  where
    own : (k : ℕ) → get_or (get_or (set block (i + 1) line) 0 []) k 0 ≡ get_or (get_or block 0 []) k 0
    own k = ap (λ (xs : List ℕ). get_or xs k 0) (kept_before [] block (i + 1) 0 line (omega arith))

pub block_is : (sub : Subsystem) (i : ℕ) (block : List (List ℕ)) → i ≡ sub.count → BlockTo sub i block → BlockOf sub block
block_is sub i block e b =
    record {
      period_is = b.period_is;
      budget_is = b.budget_is;
      count_is = b.count_is;
      task_is = λ j k. filled_at [] (LineOfTask sub) 1 block i j (j + 1) refl b.tasks_are (rw e k);
    }

-- A grid with the blocks of its first s subsystems.
abbrev BlockOfSubsystem : Table → ℕ → List (List ℕ) → Type 0
BlockOfSubsystem t s block = BlockOf (get_or t.subsystems s past_subsystems) block

pub record GridTo (t : Table) (s : ℕ) (grid : List (List (List ℕ))) : Type 0 where
  pub blocks : HasBlocks grid
  pub blocks_are : Filled [] (BlockOfSubsystem t) 0 grid s

pub no_block_yet : (t : Table) (grid : List (List (List ℕ))) → HasBlocks grid → GridTo t 0 grid
no_block_yet t grid h = record { blocks = h; blocks_are = filled_none [] (BlockOfSubsystem t) 0 grid }

-- A grid keeps its shape where a block with lines is stored.
pub blocks_kept : (grid : List (List (List ℕ))) (s : ℕ) (block : List (List ℕ)) → s < most → HasBlocks grid → HasLines block → HasBlocks (set grid s block)
blocks_kept grid s block h g l =
    record {
      blocks = length-set grid s block ∙ g.blocks;
      lines = λ r k. all_keep [] HasLines grid s block (rw g.blocks h) (λ j q. g.lines j (rw (← g.blocks) q)) l r (rw g.blocks k);
    }

pub one_block_more :
    (t : Table) (s : ℕ) (grid : List (List (List ℕ))) (block : List (List ℕ)) → s < most → GridTo t s grid → HasLines block →
    BlockOf (get_or t.subsystems s past_subsystems) block → GridTo t (s + 1) (set grid s block)
one_block_more t s grid block h g l b =
    record {
      blocks = blocks_kept grid s block h g.blocks l;
      blocks_are = filled_more [] (BlockOfSubsystem t) 0 grid s s block (omega arith) (omega (arith, g.blocks.blocks)) g.blocks_are b;
    }

pub grid_is : (t : Table) (s : ℕ) (grid : List (List (List ℕ))) → t.count ≤ s → GridTo t s grid → GridOf t grid
grid_is t s grid h g r k = filled_at [] (BlockOfSubsystem t) 0 grid s r r (omega arith) g.blocks_are (omega arith)

-- A block and a grid of zeros have their shapes.
pub blank_lines : HasLines (replicate (1 + most) (replicate (3 + most) 0))
blank_lines = record { lines = refl; wide = λ i h. ap length (get_or-replicate (1 + most) i (replicate (3 + most) 0) [] h) }

pub blank_blocks : HasBlocks (replicate most (replicate (1 + most) (replicate (3 + most) 0)))
blank_blocks =
    record {
      blocks = refl;
      lines = λ s h. subst HasLines (sym (get_or-replicate most s (replicate (1 + most) (replicate (3 + most) (zero))) [] h)) blank_lines;
    }
