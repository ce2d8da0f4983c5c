-- What a buffer holds after something was written into it, what a pen does, and the decimal form of a number.
pub mod Written
pub mod Puts
pub mod Decimal
pub mod Words
