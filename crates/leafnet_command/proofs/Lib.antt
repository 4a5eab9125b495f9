-- A law that the proofs of the functions cite.
pub mod OnOk
