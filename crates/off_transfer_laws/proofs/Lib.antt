pub mod ViewLemmas
pub mod TextLemmas
pub mod WayLemmas
pub mod StepLaws
pub mod TickLaws
pub mod SoundLemmas
pub mod RowLemmas
pub mod OriginLemmas
