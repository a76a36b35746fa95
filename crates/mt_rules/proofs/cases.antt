-- Worked cases of the rules of Appendix G, in made-up fonts with odd numbers and in the toy fonts.
pub mod Writing
mod OddFonts
pub mod ToyFonts
mod ScriptCases
mod LimitCases
mod FractionCases
mod RadicalCases
mod LineCases
mod TableCases
mod DelimiterCases
mod AtomCases
mod OperatorCases
mod AccentCases
mod PartCases
mod VeilCases
mod RootCases
mod BigCases
mod ToyCases
mod FactCases
mod ModestCases
