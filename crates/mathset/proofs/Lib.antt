-- how a run ends: its steps, then its product or its refusal
pub mod RunLemmas
-- steps one after another
pub mod StepLemmas
-- the fonts of a list, one after another
pub mod FontLemmas
-- the width of a line
pub mod WidthLemmas
-- no words and files ask for a refusal for lack of memory
pub mod NoMemory
-- the pages of a source, in the form in which they are put out
mod FormLemmas
-- steps that set a source, and those that make a product of it
mod MadeLemmas
-- files that are fetched one after another, and the pages that are copied of them
mod CopyLemmas
-- what a run notes beside its status
pub mod NoteLemmas
-- a source that is cut, set part by part and joined
mod CutLemmas
