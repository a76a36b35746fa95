-- runs of glyphs
pub mod Runs
