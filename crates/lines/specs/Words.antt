-- Words as bytes: each character is its code. The words here are all ASCII. Assumes nothing.
use Rattle.std.specs.Prelude.{ℕ, List, [], ◌∷◌}
use Prim.Native.Char.{code}
use Prim.Native.String.{String, [] as end, ◌∷◌ as ◌then◌}

unfoldable pub word : String → List ℕ
word end = []
word (c then rest) = code c ∷ word rest
