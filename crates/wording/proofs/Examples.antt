-- The lines that document 01 shows, as the definitions give them. Assumes nothing.
use mathlib.Core.Path.{◌≡◌, refl}
use mathlib.Core.Bool.{true}
use Rattle.lines.specs.Decimal.{digit_byte, digits, decimal}
use Rattle.lines.specs.Words.{word}
use Rattle.row.specs.declared.Outcome.TheVariants.{Fits}
use Rattle.wording.specs.Lines.{figure, refused_file, refused_table, verdict, row_start, row_end, row_line}

-- Table A: its first row, its third, and the verdict.
pub row_1_of_table_A :
    row_line 0
    (record {
      holding = 6;
      failing = 0;
      blocking = 10;
      active = 26;
      jobs = 1;
      job = 0;
      resource = 1;
      outcome = Fits 26;
    }) ≡
    word "1 X 6 local 0 B 10 L 26 jobs 1 R 26 job 0 res 1 fits\n"
unfolding row_line row_start row_end figure word decimal digits digit_byte
row_1_of_table_A = refl

pub row_3_of_table_A :
    row_line 2
    (record {
      holding = 10;
      failing = 0;
      blocking = 0;
      active = 140;
      jobs = 2;
      job = 0;
      resource = 2;
      outcome = Fits 70;
    }) ≡
    word "3 X 10 local 0 B 0 L 140 jobs 2 R 70 job 0 res 2 fits\n"
unfolding row_line row_start row_end figure word decimal digits digit_byte
row_3_of_table_A = refl

pub verdict_of_table_A : verdict true ≡ word "accepted\n"
verdict_of_table_A = refl

-- The empty file, and a table that rule 5 refuses at its first subsystem.
pub empty_file_is_refused : refused_file (record { number = 11; offset = 0 }) ≡ word "refused 11 at 0\n"
unfolding refused_file figure word decimal digits digit_byte
empty_file_is_refused = refl

pub refused_by_5 : refused_table (record { number = 5; subsystem = 1; task = 0 }) ≡ word "refused 5 at 1 0\n"
unfolding refused_table figure word decimal digits digit_byte
refused_by_5 = refl
