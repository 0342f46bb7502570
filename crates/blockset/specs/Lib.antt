pub mod Sets
pub mod Has
pub mod Taking
