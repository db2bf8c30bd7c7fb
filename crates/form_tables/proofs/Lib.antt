pub mod Sets
pub mod Walks
pub mod Locals
pub mod Places
pub mod Names
pub mod Queues
pub mod Chains
pub mod Copies
