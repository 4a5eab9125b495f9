pub mod Bits
pub mod Keys
pub mod Order
pub mod Beginning
pub mod Ends
pub mod Below
pub mod Alike
