-- Bytes that a read put behind those that had come: together they are the start of the space. Assumes nothing.
use Prim.Native.Nat.{ℕ, ◌+◌, ◌≤◌}
use mathlib.Core.Path.{◌≡◌, ap, ◌∙◌}
use mathlib.Core.List.{List, ◌++◌}
use borrow.Rule.Slice.PartMut.{put_mid, post_of}
use lib.ListN.{length, take, drop}
use lib.Seq.{take_at, take-add, take-append-le, drop_at, length-take-le}

pub came_behind :
    (done room came : ℕ) (space part : List ℕ) → done ≤ length space → came ≤ length part →
    take (done + came) (put_mid done room space part) ≡ take done space ++ take came part
came_behind done room came space part within fits =
    let rest : List ℕ = part ++ post_of done room space in
    let before : length (take done space) ≡ done = length-take-le done space within in
    take-add done came (take done space ++ rest) ∙
    ap (λ (l : List ℕ). l ++ take came (drop done (take done space ++ rest))) (take_at (take done space) rest done before) ∙
    ap (λ (l : List ℕ). take done space ++ take came l) (drop_at (take done space) rest done before) ∙
    ap (λ (l : List ℕ). take done space ++ l) (take-append-le came part (post_of done room space) fits)
