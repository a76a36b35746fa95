-- the table of statuses: numbers, lines of the log, explanations
pub mod Statuses
-- what a log got
pub mod Log
-- the form of a line for a person
pub mod Explanation
-- what the causes of fonts and tokens mean in words
pub mod Meanings
-- what is noted beside a status
pub mod Notes
-- from what a status comes, and what a call that reads no file answers
pub mod Origins
-- the statuses of what is wrong with fonts
pub mod FontRefusals
-- of the parts of a line: only inner contracts cite it
pub mod inner
