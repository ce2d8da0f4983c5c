-- Laws of the supply and of the ways of handing out, by subject.
pub mod Steps
pub mod Served
pub mod SupplyLaws
pub mod GivenLaws
pub mod EveryWindow
pub mod WorstWay
pub mod Agreement
pub mod MomentLaws
pub mod PublishedLaws
