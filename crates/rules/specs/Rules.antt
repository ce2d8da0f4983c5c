-- Rules 1 to 5 over what a table means, and the first refusal in their order. A place is what document 01 prints:
-- subsystems and tasks from 1, task 0 for the subsystem itself, and 0 0 for the table as a whole. Assumes nothing.
use Rattle.std.specs.Prelude.{ℕ, zero, suc, ◌+◌, Bool, false, cond, ◌||◌, not, ltb, leb, eqb, Ok, Err}
use Rattle.std.proofs.Math.Option.{Option, none, some, map}
use Rattle.lists.specs.Range.{all_to, first_of, first_such}
use Rattle.table.specs.Limits.{most, largest}
use Rattle.table.specs.Meaning.{TaskM, SubsystemM, System}
use Rattle.table.specs.Parts.{subsystem_count, subsystem_of, task_count, task_of, access_of}
use Rattle.holding.specs.Holding.{holding}
use Rattle.rules.specs.declared.Rule.{Rule}
use Rattle.rules.specs.declared.Rule.TheVariants.{Counts, Range, Order, Access, Overrun}
use Rattle.rules.specs.declared.Place.{Place}
use Rattle.rules.specs.Judged.{Judged, admitted, refused}

-- A count from 1 to the most; a time from 1 to the largest.
abbrev pub count_out : ℕ → Bool
count_out n = ltb n 1 || ltb most n

abbrev pub time_out : ℕ → Bool
time_out x = ltb x 1 || ltb largest x

-- Whether task t's access to resource l is above a limit; whether that of some resource 1 .. m is.
unfoldable pub access_within : ℕ → TaskM → ℕ → Bool
access_within limit t l = leb (access_of t l) limit

unfoldable pub some_access_above : ℕ → ℕ → TaskM → Bool
some_access_above m limit t = not (all_to (access_within limit t) m)

-- Rule 1 for the table as a whole: N or M out of range.
unfoldable pub table_breaks : System → Bool
table_breaks sys = count_out (subsystem_count sys) || ltb most sys.resources

-- What a subsystem breaks at its own place, s 0.
unfoldable pub subsystem_breaks : ℕ → Rule → SubsystemM → Bool
subsystem_breaks m Counts u = count_out (task_count u)
subsystem_breaks m Range u = time_out u.period || time_out u.budget
subsystem_breaks m Order u = ltb u.period u.budget
subsystem_breaks m Access u = false
subsystem_breaks m Overrun u = ltb u.period (u.budget + holding m u)

-- What a task breaks at its place, s i.
unfoldable pub task_breaks : ℕ → Rule → TaskM → Bool
task_breaks m Counts t = false
task_breaks m Range t =
    time_out t.separation || time_out t.work || time_out t.deadline || some_access_above m largest t
task_breaks m Order t = ltb t.deadline t.work || ltb t.separation t.deadline
task_breaks m Access t = some_access_above m t.work t
task_breaks m Overrun t = false

-- Place i of a subsystem: 0 is the subsystem itself, i + 1 its task at index i.
unfoldable pub place_breaks : ℕ → Rule → SubsystemM → ℕ → Bool
place_breaks m k u zero = subsystem_breaks m k u
place_breaks m k u (suc i) = task_breaks m k (task_of u i)

-- The first place of a subsystem that breaks rule k: place 0 before task 1, 2, …
unfoldable pub offender_in : ℕ → Rule → SubsystemM → Option ℕ
offender_in m k u = first_such (place_breaks m k u) (suc (task_count u)) 0

-- The place of the subsystem at index s at which it first breaks rule k.
abbrev pub place : ℕ → ℕ → Place
place s i = record { subsystem = s; task = i }

unfoldable pub offender_at : System → Rule → ℕ → Option Place
offender_at sys k s = map (place (s + 1)) (offender_in sys.resources k (subsystem_of sys s))

-- The first place that breaks rule k: in the lowest subsystem that breaks it.
unfoldable pub offender : System → Rule → Option Place
offender sys k = first_of (offender_at sys k) (subsystem_count sys) 0

-- The judgement by rule k alone.
abbrev pub refused_at : Rule → Option Place → Judged
refused_at k (some p) = refused k p
refused_at k none = admitted

unfoldable pub judged_by : System → Rule → Judged
judged_by sys k = refused_at k (offender sys k)

-- A refusal stands; where there is none, the next rule judges.
abbrev pub unless_refused : Judged → Judged → Judged
unless_refused (Err r) next = Err r
unless_refused (Ok _) next = next

-- All of rule 2 before all of rule 3, and so on; a table that no rule refuses is admitted.
unfoldable pub judged_past_counts : System → Judged
judged_past_counts sys =
    unless_refused (judged_by sys Range)
    (unless_refused (judged_by sys Order) (unless_refused (judged_by sys Access) (judged_by sys Overrun)))

-- The judgement by rule 1 alone: N and M, then each n.
unfoldable pub counts_judged : System → Judged
counts_judged sys = cond (table_breaks sys) (refused Counts (place 0 0)) (judged_by sys Counts)

-- The judgement. All of rule 1 comes first: N and M, then each n.
unfoldable pub judge_of : System → Judged
judge_of sys =
    cond (table_breaks sys) (refused Counts (place 0 0)) (unless_refused (judged_by sys Counts) (judged_past_counts sys))

-- The judgement of a table that is to hold one subsystem: any other N is refused by rule 1, at 0 0.
unfoldable pub judge_one_of : System → Judged
judge_one_of sys = cond (eqb (subsystem_count sys) 1) (judge_of sys) (refused Counts (place 0 0))
