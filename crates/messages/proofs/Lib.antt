pub mod RoomLaws
pub mod TextLaws
