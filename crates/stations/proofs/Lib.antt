pub mod TableLaws
pub mod NamingLaws
pub mod GroupLaws
