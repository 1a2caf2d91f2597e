pub mod CountFound
pub mod CountsInTurn
pub mod StepCountsFew
