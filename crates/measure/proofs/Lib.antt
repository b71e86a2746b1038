pub mod TimeLaws
pub mod SteepnessLaws
