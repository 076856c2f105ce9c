pub mod StepUp
