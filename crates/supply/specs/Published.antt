-- The published supply bound of the explicit deadline periodic model. Assumes nothing.
use Rattle.std.specs.Prelude.{ℕ, ◌+◌, ◌-◌, ◌*◌, ◌/◌, max, Bool, cond, ◌&&◌, leb}

-- Source 002, equation 2: the k of a window of t ticks, max(⌈(t − (Δ − Θ)) / Π⌉, 1). Where t is below Δ − Θ the source
-- rounds a negative quotient up, to 0 or less, and takes 1; here the difference is 0, its quotient is 0, and k is 1 too.
unfoldable pub published_index : (Π Θ Δ t : ℕ) → ℕ
published_index Π Θ Δ t = max ((t - (Δ - Θ) + (Π - 1)) / Π) 1

-- Whether t is in the closed interval V(k), from k Π + Δ − 2 Θ to k Π + Δ − Θ.
unfoldable pub in_interval : (Π Θ Δ k t : ℕ) → Bool
in_interval Π Θ Δ k t = leb (k * Π + Δ - 2 * Θ) t && leb t (k * Π + Δ - Θ)

-- The bound: t − (k + 1)(Π − Θ) + (Π − Δ) inside V(k), else (k − 1) Θ. The sum stands first here so that no difference
-- falls below 0 on the way.
unfoldable pub published : (Π Θ Δ t : ℕ) → ℕ
published Π Θ Δ t =
    let k = published_index Π Θ Δ t in
    cond (in_interval Π Θ Δ k t) (t + (Π - Δ) - (k + 1) * (Π - Θ)) ((k - 1) * Θ)
