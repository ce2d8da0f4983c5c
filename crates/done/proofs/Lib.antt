-- Laws of jobs that end when they are done, and of the active period found on the way from one to the next.
pub mod DoneLaws
pub mod OnTheWayLaws
