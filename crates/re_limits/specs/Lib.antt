pub mod StepLimits
