-- The judgement of a table and of a file by their cases. Assumes nothing.
use Prim.Native.Nat.{ℕ}
use mathlib.Core.Path.{◌≡◌, refl, sym, ap, ◌∙◌}
use mathlib.Core.List.{List}
use Rattle.std.specs.Prelude.{Err}
use Rattle.table.specs.Meaning.{System, meaning}
use Rattle.rules.specs.declared.Broken.{Broken}
use Rattle.rules.specs.Judged.{Judged, admitted}
use Rattle.rules.specs.Refusal.{number_of}
use Rattle.rules.specs.Rules.{judge_of}
use Rattle.stored.specs.declared.Misread.{Misread}
use Rattle.stored.specs.declared.FileRefusal.{FileRefusal}
use Rattle.stored.specs.Answers.{ReadAnswer, whole}
use Rattle.stored.specs.Read.{file_refusal, read_of}
use Rattle.offsets.specs.declared.Judgement.{Judgement}
use Rattle.offsets.specs.Judgement.{file_judgement, table_judgement, judgement_for, judgement_of}

module _ (j : Judged) where
  pub admitted_judgement : j ≡ admitted → record { number = 0; first = 0; second = 0 } ≡ table_judgement j
  unfolding table_judgement
  admitted_judgement e = rw e refl

  pub refused_judgement :
      (broken : Broken) (n : ℕ) → j ≡ Err broken → n ≡ number_of broken.rule →
      record { number = n; first = broken.place.subsystem; second = broken.place.task } ≡ table_judgement j
  unfolding table_judgement
  refused_judgement broken n e f = rw (e, f) refl

module _ (file : List ℕ) (answer : ReadAnswer) (e : answer ≡ (read_of file).answer) where
  pub answer_of : (a : ReadAnswer) → answer ≡ a → (read_of file).answer ≡ a
  answer_of a h = sym e ∙ h

  pub judgement_of_refused :
      (why : Misread) (r : FileRefusal) (j : Judgement) → answer ≡ Err why →
      r ≡ file_refusal (Err why) → j ≡ file_judgement r → j ≡ judgement_of file
  unfolding judgement_of
  judgement_of_refused why r j h q g =
      g ∙ ap file_judgement q ∙
      sym (ap (λ (a : ReadAnswer). judgement_for a (meaning (read_of file).table)) (answer_of (Err why) h))

  pub judgement_of_read :
      (sys : System) (k : Judged) (j : Judgement) → answer ≡ whole → sys ≡ meaning (read_of file).table → k ≡ judge_of sys →
      j ≡ table_judgement k → j ≡ judgement_of file
  unfolding judgement_of
  judgement_of_read sys k j h s q g =
      g ∙ ap table_judgement (q ∙ ap judge_of s) ∙
      sym (ap (λ (a : ReadAnswer). judgement_for a (meaning (read_of file).table)) (answer_of whole h))
