-- A sound subsystem with its giving end is ready for the functions of this crate: what a caller has to show. Assumes nothing.
use Prim.Native.Nat.{ℕ, ◌-◌, ◌≤◌}
use mathlib.Core.Path.{◌≡◌, refl}
use native.Mathlib.Omega.{arith}
use mathlib.Core.List.{List}
use Rattle.table.specs.Limits.{most}
use Rattle.table.specs.Meaning.{SubsystemM}
use Rattle.table.specs.Grid.{period_in, subsystem_in}
use Rattle.holding.specs.Holding.{holding}
use Rattle.rules.specs.Admitted.{SoundSubsystem}
use Rattle.local.specs.Passing.{giving_end}
use Rattle.local.specs.Ready.{Ready}

-- The budget and the overrun's share fit the period, so the budget fits before its end, and the end is within the period.
pub budget_by_end : (m : ℕ) (u : SubsystemM) → SoundSubsystem m u → u.budget ≤ giving_end m u
unfolding giving_end
budget_by_end m u s = omega (arith, s.fits)

pub end_by_period : (m : ℕ) (u : SubsystemM) → giving_end m u ≤ u.period
unfolding giving_end
end_by_period m u = omega arith

-- The period less the holding time is the giving end.
pub end_is_giving_end : (m : ℕ) (block : List (List ℕ)) (held : ℕ) → held ≡ holding m (subsystem_in m block) → period_in block - held ≡ giving_end m (subsystem_in m block)
unfolding giving_end subsystem_in
end_is_giving_end m block held e = rw e refl

pub ready_when_sound :
    (m : ℕ) (block : List (List ℕ)) (end : ℕ) → SoundSubsystem m (subsystem_in m block) → m ≤ most → end ≡ giving_end m (subsystem_in m block) →
    Ready block m end
unfolding subsystem_in
ready_when_sound m block end sound few e =
    record {
      sound = sound;
      resources_most = few;
      budget_by_end = omega (arith, budget_by_end m (subsystem_in m block) sound);
      end_by_period = omega (arith, end_by_period m (subsystem_in m block));
    }
