-- lists of items and rows, and what they are seen as
pub mod Lists
-- cramped styles
pub mod Styles
-- what setting answers, step by step
pub mod Answering
-- rows and columns put together
pub mod Appends
-- the columns that parts are made of
pub mod Stacks
-- the definitions on known formulas
mod Worked
-- the rules of Appendix G on parts of formulas in made-up fonts
pub mod cases
