-- `offsets::judging::table_judgement` meets its contract, by the cases of the judgement. Assumes nothing.
use Rattle.offsets.proofs.JudgementLaws.{admitted_judgement, refused_judgement}
use Rattle.offsets.proofs.judging.table_judgement.Goals as goal

pub returns-in-Ok : goal.returns-in-Ok
returns-in-Ok c =
    admitted_judgement _ c.in-Ok.is

pub returns-in-Err : goal.returns-in-Err
returns-in-Err c =
    rw (c.from-in-Err.ensures, c.from-in-Err-2.ensures) (refused_judgement _ _ _ c.in-Err.is c.from.ensures)
