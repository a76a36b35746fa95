-- The rows of the definition have glyphs that exist in their fonts and rules that mark something, kind by kind.
-- what setting answers, step by step
mod Steps
-- places, boxes and rows put together, as those who place a row cite it
pub mod Boxes
-- characters that are found, and their glyphs
mod Glyphs
-- delimiters
mod Delimiters
-- clean boxes, nuclei and large operators
mod Nuclei
-- scripts beside a nucleus, and above and below it
mod Scripts
-- fractions, radicals, lines, rows and accents
mod Parts
-- tables
mod Tables
-- the row of an atom, and that of a fraction
mod Atoms
-- the flat list and the first pass
mod FirstPass
-- the second pass
mod SecondPass
-- whole lists
pub mod Lists
