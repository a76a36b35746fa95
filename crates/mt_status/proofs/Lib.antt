-- the parts of a log line, one after another
pub mod LogPartLemmas
-- steps that read no file, one after another
pub mod PureLemmas
-- steps that never answer a certain error
pub mod Avoiding
-- fonts are never refused for lack of memory
pub mod FontRefusals
