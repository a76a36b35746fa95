-- what the code keeps of a page that is to be written, against the page as it is copied
pub mod Shown
-- where a page that is kept lies
pub mod Inside
-- what the code keeps of a file
pub mod Copies
-- what the code keeps of several files, and which numbers pages have
pub mod Chosen
-- what one pass over a file keeps, and does
pub mod Copying
-- which places have an edge
pub mod Placed
