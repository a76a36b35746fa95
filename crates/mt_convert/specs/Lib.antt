-- the items of a list, with the lists inside them as what they are set to
pub mod Contents
-- where a list begins
pub mod Current
-- pairs of symbols that are joined
pub mod Joining
-- the flat list, without choices and conditional spaces
pub mod Flat
-- how much items hold
pub mod Sizes
-- the items between the two passes, and their final classes
pub mod Halves
-- the first pass: the items are set
pub mod FirstPass
-- the second pass: spaces and boundaries
pub mod SecondPass
-- the row of a list
pub mod ListRow
-- rows whose glyphs exist and whose rules mark something
pub mod Holding
-- the faults of boxes and parts
pub mod Faults
-- what a call answers
pub mod Calls
-- the items that the code has between the passes, and what they keep
pub mod Halfway
-- only contracts inside the crate cite it
pub mod inner
