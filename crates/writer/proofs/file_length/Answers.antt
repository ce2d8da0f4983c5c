use native.Mathlib.Nat.{mul-le-mul}
use Rattle.table.specs.declared.Subsystem.{Subsystem}
use Rattle.table.specs.Limits.{most}
use Rattle.stored.proofs.FileLaws.{flat_map_none, length_one_subsystem_more, length_file_parts}
use Prim.Native.Nat.{ℕ, ◌≤◌, ◌+◌, ◌*◌, ◌<◌}
use lib.ListN.{length, get_or, get_or-eq_default}
use mathlib.Core.Path.{◌≡◌, sym, ap, ◌∙◌}
use mathlib.Core.List.{flat_map}
use Rattle.table.specs.Meaning.{subsystem_at, past_subsystems}
use Rattle.lists.specs.Range.{up_to}
use Rattle.stored.specs.File.{subsystem_bytes}
use Rattle.stored.specs.Field.{field_size, header_length, task_length}
use native.Mathlib.Omega.{arith}
use Rattle.writer.proofs.file_length.Goals.{else-s-lt-MOST, then-s-lt-MOST}
use Rattle.writer.proofs.file_length.Goals as goal

size-bounded : (tasks m : ℕ) → tasks < 256 → m < 256 → tasks * field_size (task_length m) ≤ 263925
size-bounded tasks m h l = mul-le-mul {n₂ = 255} {m₂ = 1035} (omega arith) (omega arith)

pub loop-s-init : goal.loop-s-init
loop-s-init c =
    (omega (arith, ap length (flat_map_none subsystem_bytes (subsystem_at c.args.t))), omega arith)

pub loop-s-preserved : goal.loop-s-preserved
loop-s-preserved c =
    let slots : length c.args.t.subsystems ≡ most = c.well_formed.0.1.1.1.1.0.1.0.1 in
    let tasks_counted : (c.if-s-lt-MOST.tasks ≡ (get_or c.args.t.subsystems c.loop-s.s past_subsystems).count) × (c.if-s-lt-MOST.tasks < 256) = (elim c.if-s-lt-MOST.branch [ then-s-lt-MOST w ↦ (w.tasks-is ∙ w.from-tasks.ensures, omega (arith, w.tasks-is)) | else-s-lt-MOST w ↦ (w.tasks-is ∙ sym (ap (λ (u : Subsystem). u.count) (get_or-eq_default c.args.t.subsystems past_subsystems {n = c.loop-s.s} (omega (arith, w.if-s-lt-MOST.false, slots)))), omega (arith, w.tasks-is)) ]) in
    let bytes_bounded : c.if-s-lt-MOST.tasks * field_size (task_length c.args.t.resources) ≤ 263925 = size-bounded c.if-s-lt-MOST.tasks c.args.t.resources (tasks_counted).1 (omega arith) in
    rw c.from-m.ensures (
      length_one_subsystem_more c.args.t c.loop-s.s c.loop-s.total c.if-s-lt-MOST.tasks c.loop-s.invariant.0 (tasks_counted).0,
      omega (arith, bytes_bounded, c.loop-s.invariant.1),
    )

pub returns : goal.returns
returns c =
    let done : c.loop-s.s ≡ c.args.t.count = omega arith in
    c.loop-s.invariant.0 ∙
    ap (λ (s : ℕ). field_size header_length + length (flat_map subsystem_bytes (up_to (subsystem_at c.args.t) s))) done ∙
    sym (length_file_parts c.args.t)
