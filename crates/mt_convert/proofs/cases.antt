-- Whole math lists, worked by hand from the rules of Appendix G, in the toy fonts.
mod Writing
mod ListCases
mod JoiningCases
mod PartCases
mod MiddleCases
mod TableCases
mod RootCases
mod FaultCases
