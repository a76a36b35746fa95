-- how long the parts are
pub mod Short
-- they are read or at fault, since they count no turns
pub mod Answering
