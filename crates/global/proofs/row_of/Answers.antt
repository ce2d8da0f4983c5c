-- `global::row_of` meets its contract: what it is lent is the view that subsystem s has of the interfaces. Assumes nothing.
use Rattle.global.proofs.SeenLaws.{in_lines, few_ceilings, lent_sound, lent_row}
use Rattle.row.proofs.RowLaws.{never_active}
use Rattle.global.proofs.row_of.Goals as goal

pub leading-held-requires : goal.leading-held-requires
leading-held-requires c =
    (in_lines _ _ _ c.args.shown.now.sound _ c.requires.s_lt_n c.requires.lent, few_ceilings _ _ _ c.args.shown.now.sound _ c.requires.s_lt_n c.requires.lent)

pub invariant_of-seen-clause-sound : goal.invariant_of-seen-clause-sound
invariant_of-seen-clause-sound c =
    lent_sound _ _ _ c.args.shown.now.sound _ c.requires.s_lt_n c.requires.lent c.leading-held.ensures c.args.failing c.period.ensures c.budget.ensures c.requires.blocked_value.0

pub row_seen-requires : goal.row_seen-requires
row_seen-requires c =
    let sound = lent_sound _ _ _ c.args.shown.now.sound _ c.requires.s_lt_n c.requires.lent c.leading-held.ensures c.args.failing c.period.ensures c.budget.ensures c.requires.blocked_value.0 in
    record { own_value = λ h. never_active _ sound c.requires.blocked_value.1 c.requires.s_lt_n h }

pub returns : goal.returns
returns c =
    lent_row _ _ _ c.args.shown.now.sound _ c.requires.s_lt_n c.requires.lent c.leading-held.ensures c.args.failing c.period.ensures c.budget.ensures c.requires.blocked_value.0 c.row_seen.ensures
