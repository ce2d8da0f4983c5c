use Prim.Native.Nat.{ℕ, ◌+◌, ◌-◌, ◌<◌}
use native.Mathlib.Omega.{arith}
use mathlib.Core.Path.{◌≡◌, refl, sym, ap, ◌∙◌}
use Rattle.lists.specs.Range.{behind, raised_from, padded}
use Rattle.lists.proofs.Raised.{behind_last, behind_next, raised_last, raised_next}
use Rattle.table.specs.Limits.{most}
use Rattle.table.proofs.slots.raise_behind.Goals as goal

pub loop-s-init : goal.loop-s-init
loop-s-init g c = (
  omega (arith, c.requires.bounds),
  λ f a is was. (sym (behind_last f c.args.n _ (omega arith)), raised_last f c.args.n a most _ (omega arith) was),
)

pub loop-s-preserved : goal.loop-s-preserved
loop-s-preserved g c =
    let next : c.loop-s.s ≡ c.loop-s.s - 1 + 1 = omega (arith, c.loop-s-test.true) in
    let within : c.loop-s.s < c.args.n = omega (arith, c.requires.bounds) in (
      omega (arith, c.loop-s-test.true),
      λ f a is was.
          let here : c.value.result ≡ f c.loop-s.s = is _ _ (omega (arith, next, within)) c.value.ensures ∙ ap f (sym next) in
          let so-far = c.loop-s.invariant.1 f a is was in
          let longest : c.max-longest.result ≡ behind f c.args.n (c.loop-s.s - 1) =
          omega (arith, c.max-longest.ensures, here, so-far.0, behind_next f c.args.n (c.loop-s.s - 1) c.loop-s.s next within) in
          (longest, raised_next f c.args.n a most (c.loop-s.s - 1) c.loop-s.s next within longest so-far.1 refl (omega (arith, c.max.ensures))),
    )

pub returns : goal.returns
returns g c = λ f a is was.
    let first : c.loop-s.s ≡ c.args.ceiling = omega (arith, c.loop-s.invariant.0, c.loop-s-test.false) in
    (c.loop-s.invariant.1 f a is was).1 ∙ ap (λ (s : ℕ). padded (raised_from f c.args.n a s) 0 most c.args.n) first
