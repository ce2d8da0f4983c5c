-- The rules in their own words: which place breaks which rule, and which place comes earlier. The theorems in
-- proofs/Exactly.antt say that the judgement is the first break in this order, and nothing else. Assumes nothing.
use Rattle.std.specs.Prelude.{ℕ, ◌+◌, ◌≤◌, ◌<◌, ◌≡◌, ◌⊎◌, true}
use Rattle.table.specs.Meaning.{System}
use Rattle.table.specs.Parts.{subsystem_count, subsystem_of, task_count}
use Rattle.rules.specs.declared.Rule.{Rule}
use Rattle.rules.specs.declared.Rule.TheVariants.{Counts}
use Rattle.rules.specs.Refusal.{number_of}
use Rattle.rules.specs.Rules.{table_breaks, place_breaks}

-- Place s i breaks rule k: 0 0 is the table as a whole, which only rule 1 speaks of; s from 1 is the subsystem at index
-- s − 1, and i its own place, 0, or one of its tasks from 1.
pub data Breaks (sys : System) : Rule → ℕ → ℕ → Type 0 where
  whole : table_breaks sys ≡ true → Breaks sys Counts 0 0
  part :
      (k : Rule) (s i : ℕ) → s < subsystem_count sys → i ≤ task_count (subsystem_of sys s) →
      place_breaks sys.resources k (subsystem_of sys s) i ≡ true → Breaks sys k (s + 1) i

-- A lower subsystem comes earlier; in one subsystem, place 0 before task 1, 2, …
unfoldable pub Earlier : ℕ → ℕ → ℕ → ℕ → Type 0
Earlier s i s' i' = (s < s') ⊎ ((s ≡ s') × (i < i'))

-- Rule k is broken at s i first: at no earlier place, and no earlier rule anywhere.
pub record FirstBreak (sys : System) (k : Rule) (s i : ℕ) : Type 0 where
  pub broken : Breaks sys k s i
  pub first : (s' i' : ℕ) → Earlier s' i' s i → Breaks sys k s' i' → ⊥
  pub foremost : (j : Rule) → number_of j < number_of k → (s' i' : ℕ) → Breaks sys j s' i' → ⊥
