-- where the fault is at which reading stops, and what is found in the tokens that were read
mod Stopped
-- how many tokens a source has
mod Shortness
