pub mod Beginning
pub mod Drawing
pub mod LabelTests
