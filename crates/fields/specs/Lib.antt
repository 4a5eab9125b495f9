-- Lent bytes that are read and written from left to right, and what a field is.
pub mod Cursor
pub mod Codec
pub mod Written
