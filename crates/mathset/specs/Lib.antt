-- what a run answers: the first refusal of its steps, else the product
pub mod Answer
-- what a run notes beside its status
pub mod Noted
-- how a run of `set` ends
pub mod SetEnds
-- how a run ends, and what its output got
pub mod Ends
-- a DVI file of pages that are set or copied, or a text
pub mod Product
-- the steps of a command
pub mod Steps
-- a step: its answer, and the files that it asks for
pub mod Outcome
-- a step that reads a file
pub mod Reads
-- the steps that read the fonts
pub mod FontSteps
-- the step that reads a DVI file
pub mod DviSteps
-- the steps that copy pages of DVI files
pub mod CopySteps
-- what `gen` sets
pub mod Samples
-- of steps and runs: only inner contracts cite it
pub mod inner
