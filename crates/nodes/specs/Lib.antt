pub mod Fields
pub mod Laws
