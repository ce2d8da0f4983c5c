-- What a file comes to, and a report's figures in their order.
pub mod Judgement
pub mod Figures
