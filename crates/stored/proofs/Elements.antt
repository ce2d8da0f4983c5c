-- A list is the list of its elements: what a loop that puts element by element needs. Assumes nothing.
use Prim.Native.Nat.{ℕ, ◌*◌, ◌≤◌}
use native.Mathlib.Omega.{arith}
use mathlib.Core.Path.{◌≡◌, ap}
use mathlib.Core.List.{List, flat_map}
use lib.ListN.{length, get_or}
use lib.Seq.{ext_get_or}
use Rattle.lists.specs.Range.{up_to}
use Rattle.lists.proofs.UpTo.{length_up_to, get_d_up_to}
use Rattle.stored.specs.Numbers.{number_size}
use Rattle.stored.specs.File.{number_bytes}
use Rattle.stored.specs.Write.{IsPut}
use Rattle.stored.proofs.FileLaws.{length_accesses}
use Rattle.stored.proofs.WriteSteps.{put_the_same}

module _ {A : Type 0} where
  -- The element at an index; d past the end.
  unfoldable pub element_at : A → List A → ℕ → A
  element_at d xs i = get_or xs i d

  pub all_elements : (d : A) (xs : List A) → up_to (element_at d xs) (length xs) ≡ xs
  unfolding element_at
  all_elements d xs =
      ext_get_or d _ xs (length_up_to (element_at d xs) (length xs))
      λ i h. get_d_up_to (element_at d xs) (length xs) i d (omega (arith, length_up_to (element_at d xs) (length xs)))

-- Numbers have room where four bytes for each have.
pub numbers_have_room :
    (xs free : List ℕ) → number_size * length xs ≤ length free →
    length (flat_map number_bytes (up_to (element_at 0 xs) (length xs))) ≤ length free
numbers_have_room xs free h = rw (all_elements 0 xs, length_accesses xs) h

-- All numbers are put where each element is.
pub numbers_are_put :
    (xs before after : List ℕ) (n : ℕ) → IsPut (flat_map number_bytes (up_to (element_at 0 xs) (length xs))) before after n →
    IsPut (flat_map number_bytes xs) before after n
numbers_are_put xs before after n put =
    put_the_same _ _ before after n (ap (flat_map number_bytes) (all_elements 0 xs)) put
