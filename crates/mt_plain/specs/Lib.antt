-- the names with math codes, in the order of plain TeX
pub mod MathNames
-- the commands of formulas, by their names
pub mod Commands
-- what names mean in a formula
pub mod Names
-- the codes of characters
pub mod Characters
-- what a code may be
pub mod Limits
-- the codes of the characters, which assignments change
pub mod CodeTables
-- the macros of plain TeX, without parameters
pub mod MacroTexts
-- the macros that plain TeX's definitions make
pub mod PlainMacros
-- of the table of names: only inner contracts cite it
pub mod inner
