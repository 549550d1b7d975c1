pub mod WordLaws
pub mod AxisLaws
pub mod ValueLaws
