-- what a step leaves of its cabinet
pub mod Steps
-- what a run leaves of its cabinet and its output
pub mod Runs
-- a source that is set, in one of its forms
pub mod Forms
