-- `bay::bay_judge` meets its contract, for a buffer that is too short for the place and for one that is not. Assumes
-- nothing.
use mathlib.Core.Path.{ap, ◌∙◌}
use Rattle.offsets.specs.declared.Judgement.{Judgement}
use Rattle.bay.specs.Lent.{lent, place_after}
use Rattle.offsets.specs.Judgement.{place_size, place_bytes}
use Rattle.bay.proofs.LentLaws.{too_short, long_enough}
use Rattle.offsets.proofs.FigureLaws.{length_place_bytes}
use Rattle.bay.proofs.bay_judge.Goals as goal

pub returns-then-place-lt-PLACE_SIZE : goal.returns-then-place-lt-PLACE_SIZE
unfolding place_after
returns-then-place-lt-PLACE_SIZE c =
    record { value = ap (λ (j : Judgement). j.number) c.judge_file-j.ensures; place_after = (too_short place_size _ c.args.place.now c.if-place-lt-PLACE_SIZE.true).1 }

pub returns : goal.returns
unfolding place_after
returns c =
    record { value = ap (λ (j : Judgement). j.number) c.judge_file-j.ensures; place_after = (long_enough place_size (place_bytes c.judge_file-j.result) c.args.place.now _ _ c.if-place-lt-PLACE_SIZE.false (length_place_bytes c.judge_file-j.result) c.put_place.ensures).1 ∙ ap (λ (j : Judgement). lent place_size (place_bytes j) c.args.place.now) c.judge_file-j.ensures }
