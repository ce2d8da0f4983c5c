-- That bytes were written into a buffer from a place on, and that the place behind them was given back. Assumes nothing.
use Rattle.std.specs.Prelude.{ℕ, ◌+◌, ◌≡◌, List, length}
use Rattle.lines.specs.Written.{written}

pub record Wrote (before : List ℕ) (at : ℕ) (bytes after : List ℕ) (next : ℕ) : Type 0 where
  pub place : next ≡ at + length bytes
  pub holds : after ≡ written before at bytes
