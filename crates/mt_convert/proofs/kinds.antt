-- Atoms of each kind and fractions, set step by step.
-- chains of steps
pub mod Chains
-- bounds of parts and levels
pub mod Bounds
-- boxes, scripts and nuclei
pub mod Parts
-- whole atoms
pub mod Atoms
-- fractions
pub mod Fractions
-- radicals with a degree, and phantoms
pub mod Roots
-- accents
pub mod Accents
-- rows of a vcenter atom
pub mod RowBoxes
-- tables, cell by cell
pub mod TableBoxes
-- items of the flat list
pub mod Items
