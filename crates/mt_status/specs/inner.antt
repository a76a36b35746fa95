-- the parts of a log line
pub mod LogParts
