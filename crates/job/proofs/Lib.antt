-- Laws of steps 7 to 11 for one subsystem and one job of it.
pub mod FirstAtLaws
pub mod ActiveLaws
pub mod BudgetEndLaws
pub mod WaitLaws
pub mod JobEndLaws
pub mod ViewLaws
pub mod BestLaws
pub mod ResponseLaws
pub mod LentLaws
pub mod EndsLaws
