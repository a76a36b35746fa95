-- in reading order, from the contracts of `select_pages` and `append_files` down
-- a file of chosen pages, or why there is none
pub mod Copied
-- that the machine reads such a file as the chosen pages
pub mod PagesRead
-- a file of joined parts, against that of the whole
pub mod Parts
-- which error says why there is none
pub mod Refused
-- the bytes of such a file
pub mod Result
-- that the bytes of a page as they are copied say what the page says
pub mod Repeats
-- where copied pages lead a file
pub mod AfterPages
-- the pages of a file as they are copied
pub mod Source
-- the opcodes of a file in turn
pub mod Walk
-- of the inner functions: only their contracts cite it
pub mod inner
