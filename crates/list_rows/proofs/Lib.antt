pub mod TextLaws
pub mod PutLaws
pub mod ListLaws
