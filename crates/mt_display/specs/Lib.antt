-- what a line is to a caller, and the line of a formula in the text
pub mod Lines
-- the lines of a display and its number
pub mod Displays
-- displays of several lines
pub mod DisplayLines
-- lines one below another on a page
pub mod Stack
-- the lines of a page on a stack of pieces
pub mod LineStack
-- of the code: only inner contracts cite it
pub mod inner
