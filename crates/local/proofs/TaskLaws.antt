-- A task of a sound subsystem: its numbers are within their limits, the tasks above it are loads, and what is computed from
-- its block and from what was taken out is whether it passes. Assumes nothing.
use Prim.Native.Nat.{ℕ, ◌+◌, ◌≤◌, ◌<◌}
use mathlib.Core.Path.{◌≡◌, refl, sym, ap, ap₂, ◌∙◌}
use mathlib.Core.List.{List}
use native.Mathlib.Omega.{arith}
use lib.ListN.{get_or, length}
use Rattle.lists.proofs.Over.{sum_to_ext}
use Rattle.lists.proofs.UpTo.{length_padded, get_d_padded}
use Rattle.least.specs.Demand.{load_in, demand, total}
use Rattle.least.specs.Search.{Loads}
use Rattle.table.specs.Limits.{most, largest}
use Rattle.table.specs.Parts.{task_of, work_of}
use Rattle.table.specs.Grid.{period_in, budget_in, count_in, separation_in, work_in, deadline_in, subsystem_in}
use Rattle.table.proofs.GridLaws.{count_of_block, separation_of_block, work_of_block, deadline_of_block}
use Rattle.rules.specs.Admitted.{SoundTask, SoundSubsystem}
use Rattle.local.specs.Blocking.{task_blocking}
use Rattle.local.specs.Passing.{separation_of, deadline_of, asked_by, need, held_within, task_passes}
use Rattle.local.specs.Ready.{TakenOut}
use Rattle.local.proofs.PassingLaws.{held_ext}

module _ (m : ℕ) (block : List (List ℕ)) where
  separation_here : (j : ℕ) → j < count_in block → separation_of (subsystem_in m block) j ≡ separation_in block j
  unfolding separation_of
  separation_here j h = separation_of_block m block j h

  deadline_here : (j : ℕ) → j < count_in block → deadline_of (subsystem_in m block) j ≡ deadline_in block j
  unfolding deadline_of
  deadline_here j h = deadline_of_block m block j h

  module _ (sound : SoundSubsystem m (subsystem_in m block)) where
    pub some_task : 1 ≤ count_in block
    some_task = omega (arith, sound.tasks_least, count_of_block m block)

    pub tasks_within : count_in block ≤ most
    tasks_within = omega (arith, sound.tasks_most, count_of_block m block)

    pub some_budget : 1 ≤ budget_in block
    unfolding subsystem_in
    some_budget = sound.budget_least

    -- The limits of a task's numbers.
    pub record Within (j : ℕ) : Type 0 where
      pub separation_least : 1 ≤ separation_in block j
      pub work_least : 1 ≤ work_in block j
      pub work_most : work_in block j ≤ largest
      pub deadline_most : deadline_in block j ≤ largest

    pub task_within : (j : ℕ) → j < count_in block → Within j
    unfolding separation_of work_of deadline_of
    task_within j h =
        let ok : SoundTask m (task_of (subsystem_in m block) j) = sound.task j (omega (arith, count_of_block m block)) in
        let t : separation_of (subsystem_in m block) j ≡ separation_in block j = separation_here j h in
        let w : work_of (subsystem_in m block) j ≡ work_in block j = work_of_block m block j h in
        let d : deadline_of (subsystem_in m block) j ≡ deadline_in block j = deadline_here j h in
        record {
          separation_least = omega (arith, ok.work_least, ok.work_by_deadline, ok.deadline_by_separation, t);
          work_least = omega (arith, ok.work_least, w);
          work_most = omega (arith, ok.work_by_deadline, ok.deadline_by_separation, ok.separation_most, w);
          deadline_most = omega (arith, ok.deadline_by_separation, ok.separation_most, d);
        }

    module _ (i : ℕ) (below : i < count_in block) (separations works : List ℕ) (out : TakenOut block separations works i) where
      separation_taken : (j : ℕ) → j < i → get_or separations j 0 ≡ separation_in block j
      separation_taken j h = rw out.separations_are (get_d_padded (separation_in block) 0 0 most i j h)

      work_taken : (j : ℕ) → j < i → get_or works j 0 ≡ work_in block j
      work_taken j h = rw out.works_are (get_d_padded (work_in block) 0 0 most i j h)

      -- The tasks above task i are loads.
      pub tasks_are_loads : Loads separations works i
      tasks_are_loads =
          record {
            few = omega (arith, tasks_within, below);
            with_period = omega (arith, ap length out.separations_are, length_padded (separation_in block) 0 most i (omega (arith, tasks_within, below)), tasks_within, below);
            with_cost = omega (arith, ap length out.works_are, length_padded (work_in block) 0 most i (omega (arith, tasks_within, below)), tasks_within, below);
            period_pos = λ j l. omega (arith, separation_taken j l, (task_within j (omega (arith, below))).separation_least);
            cost_small = λ j l. omega (arith, work_taken j l, (task_within j (omega (arith, below))).work_most);
          }

      -- What they ask for is what step 5 adds up.
      asked_is_load : (x j : ℕ) → j < i → asked_by (subsystem_in m block) x j ≡ load_in separations works x j
      unfolding asked_by load_in
      asked_is_load x j h =
          rw (separation_here j (omega (arith, below)), work_of_block m block j (omega (arith, below)), separation_taken j h, work_taken j h) refl

      need_is_total :
          (constant : ℕ) → constant ≡ task_blocking m (subsystem_in m block) i + work_in block i → (x : ℕ) →
          total separations works i constant x ≡ need m (subsystem_in m block) i x
      unfolding need total demand
      need_is_total constant e x =
          omega (
            arith,
            e,
            work_of_block m block i below,
            sum_to_ext (asked_by (subsystem_in m block) x) (load_in separations works x) i (λ j l. asked_is_load x j l),
          )

      pub passes_by_block :
          (end blocked work deadline : ℕ) → blocked ≡ task_blocking m (subsystem_in m block) i → work ≡ work_in block i → deadline ≡ deadline_in block i →
          (period budget : ℕ) → period ≡ period_in block → budget ≡ budget_in block →
          held_within (total separations works i (blocked + work)) period budget end deadline ≡ task_passes m (subsystem_in m block) end i
      unfolding task_passes subsystem_in
      passes_by_block end blocked work deadline b e d period budget p q =
          rw (p, q, d)
          (held_ext (total separations works i (blocked + work)) (need m (subsystem_in m block) i) (period_in block) (budget_in block) end (deadline_in block i)
          (need_is_total (blocked + work) (ap₂ ◌+◌ b e))
          ∙ ap (held_within (need m (subsystem_in m block) i) (period_in block) (budget_in block) end) (sym (deadline_here i below)))
