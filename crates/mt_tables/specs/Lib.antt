-- what tables of words have
pub mod Held
-- words that are added to a list
pub mod Reading
-- of what tables keep: only inner contracts cite it
pub mod inner
