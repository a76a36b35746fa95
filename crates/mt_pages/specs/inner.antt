-- rows, boxes and lines that are set on the stack of a page
pub mod Lines
-- pages of places, up to the first fault of a place
pub mod Placed
-- pages that are set and placed one after another
pub mod SetPages
-- texts to which pages are added
pub mod Texts
-- pages that are added to what is made of them
pub mod Added
