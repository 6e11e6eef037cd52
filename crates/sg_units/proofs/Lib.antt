pub mod DateDigits
pub mod DateValue
pub mod Digits
pub mod NumberTexts
pub mod PlainNumbers
pub mod Scaling
pub mod Values
