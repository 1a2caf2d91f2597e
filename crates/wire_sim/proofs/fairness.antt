pub mod FairFrameIsThere
pub mod CountedAsTraced
pub mod NotesAreTraced
pub mod FairIsUnrefused
