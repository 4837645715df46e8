mod RowDrawing
mod Bringing
mod MeasureLemmas
mod OneSample
mod Rowing
