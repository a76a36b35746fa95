-- offsets in a source, and the byte at which its tokens end
pub mod Places
-- what of a source is sought for a status
pub mod Sought
-- at which token a fault is
pub mod FaultTokens
-- the brace that nothing matches
pub mod Unmatched
-- where a fault is
pub mod Faults
