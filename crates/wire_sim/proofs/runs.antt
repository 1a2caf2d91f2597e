pub mod RunsAreLawful
pub mod FieldsAreReached
pub mod RunsAreReached
pub mod CopyIsSame
pub mod RoomLasts
pub mod RoomyRunsLast
pub mod ClocksGoOn
pub mod ClocksAreKept
