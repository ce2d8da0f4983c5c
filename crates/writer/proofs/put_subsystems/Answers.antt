use Prim.Native.Nat.{ℕ, ◌<◌}
use lib.ListN.{length, get_or, take}
use mathlib.Core.Path.{◌≡◌, sym, ap}
use native.Mathlib.Omega.{arith}
use Rattle.table.specs.declared.Table.{Table}
use Rattle.table.specs.declared.Subsystem.{Subsystem}
use Rattle.table.specs.Meaning.{past_subsystems, subsystem_m, subsystem_at}
use Rattle.stored.specs.File.{subsystem_bytes}
use Rattle.stored.proofs.WriteSteps.{among_the_first, bytes_of_element, put_the_same, list_begins, list_starts_within, list_has_room, list_ends_within, list_goes_on}
use Rattle.writer.proofs.put_subsystems.Goals as goal

-- The subsystem that the loop is at, with the M that the program has, is the table's.
same_subsystem : (t : Table) (m k i : ℕ) → m ≡ t.resources → i < length (take k t.subsystems) → subsystem_bytes (subsystem_m m (get_or (take k t.subsystems) i past_subsystems)) ≡ subsystem_bytes (subsystem_at t i)
unfolding subsystem_at
same_subsystem t m k i e h =
    rw e (bytes_of_element k i t.subsystems h (λ (u : Subsystem). subsystem_bytes (subsystem_m t.resources u)) past_subsystems)

pub loop-sub-init : goal.loop-sub-init
loop-sub-init c =
    list_begins subsystem_bytes (subsystem_at c.args.t) c.args.free.now

pub slice_bounds-put_subsystem-count : goal.slice_bounds-put_subsystem-count
slice_bounds-put_subsystem-count c =
    list_starts_within subsystem_bytes (subsystem_at c.args.t) c.args.free.now c.args.t.count c.loop-sub.sub-index c.loop-sub.at c.loop-sub.free (among_the_first c.from.result c.loop-sub.sub-index c.args.t.subsystems c.loop-sub-test.true c.args.t.count c.from.ensures) c.requires.count_in_bounds c.loop-sub.invariant

pub slice_bounds-put_subsystem-start : goal.slice_bounds-put_subsystem-start
slice_bounds-put_subsystem-start c =
    list_starts_within subsystem_bytes (subsystem_at c.args.t) c.args.free.now c.args.t.count c.loop-sub.sub-index c.loop-sub.at c.loop-sub.free (among_the_first c.from.result c.loop-sub.sub-index c.args.t.subsystems c.loop-sub-test.true c.args.t.count c.from.ensures) c.requires.count_in_bounds c.loop-sub.invariant

pub put_subsystem-at-requires-clause-sub_in_bounds : goal.put_subsystem-at-requires-clause-sub_in_bounds
put_subsystem-at-requires-clause-sub_in_bounds c =
    list_has_room subsystem_bytes (subsystem_at c.args.t) c.args.free.now c.args.t.count c.loop-sub.sub-index c.loop-sub.at c.loop-sub.free (among_the_first c.from.result c.loop-sub.sub-index c.args.t.subsystems c.loop-sub-test.true c.args.t.count c.from.ensures) c.requires.count_in_bounds c.loop-sub.invariant _ (ap length (sym (same_subsystem c.args.t c.from-m.result c.from.result c.loop-sub.sub-index c.from-m.ensures c.loop-sub-test.true)))

pub overflow_add-at : goal.overflow_add-at
overflow_add-at c =
    omega (arith, list_ends_within subsystem_bytes (subsystem_at c.args.t) c.args.free.now c.args.t.count c.loop-sub.sub-index c.loop-sub.at c.loop-sub.free (among_the_first c.from.result c.loop-sub.sub-index c.args.t.subsystems c.loop-sub-test.true c.args.t.count c.from.ensures) c.requires.count_in_bounds c.loop-sub.invariant c.put_subsystem-at.new.free c.put_subsystem-at.result (put_the_same _ _ _ _ _ (same_subsystem c.args.t c.from-m.result c.from.result c.loop-sub.sub-index c.from-m.ensures c.loop-sub-test.true) c.put_subsystem-at.ensures), c.well_formed.0.0)

pub loop-sub-preserved : goal.loop-sub-preserved
loop-sub-preserved c =
    list_goes_on subsystem_bytes (subsystem_at c.args.t) c.args.free.now c.args.t.count c.loop-sub.sub-index c.loop-sub.at c.loop-sub.free (among_the_first c.from.result c.loop-sub.sub-index c.args.t.subsystems c.loop-sub-test.true c.args.t.count c.from.ensures) c.requires.count_in_bounds c.loop-sub.invariant c.put_subsystem-at.new.free c.put_subsystem-at.result (put_the_same _ _ _ _ _ (same_subsystem c.args.t c.from-m.result c.from.result c.loop-sub.sub-index c.from-m.ensures c.loop-sub-test.true) c.put_subsystem-at.ensures)
