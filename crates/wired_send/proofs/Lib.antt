pub mod RoomLaws
pub mod CopyLaws
pub mod StartIs
pub mod Placed
pub mod SendIs
pub mod SendRoom
