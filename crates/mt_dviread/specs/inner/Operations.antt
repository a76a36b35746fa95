-- What the reader keeps of an operation (`IsOperation`).
use Rattle.std.specs.Prelude.{◌≡◌, ℕ, List, [], ◌∷◌}
use Rattle.mt_dvi.specs.Codes as codes
use Rattle.mt_dviread.specs.declared.operation.Register.{Register}
use Rattle.mt_dviread.specs.declared.operation.Register.TheVariants as registers
use Rattle.mt_dviread.specs.declared.operation.Definition.{Definition}
use Rattle.mt_dviread.specs.declared.operation.Preamble.{Preamble}
use Rattle.mt_dviread.specs.declared.operation.Postamble.{Postamble}
use Rattle.mt_dviread.specs.declared.operation.Operation.{Operation}
use Rattle.mt_dviread.specs.declared.operation.Operation.TheVariants as operations

abbrev pub register_of : Register → codes.Register
register_of registers.W = codes.W
register_of registers.X = codes.X
register_of registers.Y = codes.Y
register_of registers.Z = codes.Z

-- a move by a register, which operands set before
abbrev pub by_register : codes.Register → List ℕ → codes.Operation
by_register register [] = codes.Add register
by_register register (b ∷ operands) = codes.Set register (codes.signed (b ∷ operands))

pub record IsDefinition (d : Definition) (meant : codes.Definition) : Type 0 where
  pub number : meant.number ≡ d.number
  pub size : meant.size ≡ d.size
  pub area : meant.area ≡ d.area.now
  pub name : meant.name ≡ d.name.now

pub record IsPreamble (p : Preamble) (meant : codes.Preamble) : Type 0 where
  pub version : meant.version ≡ p.version
  pub num : meant.num ≡ p.num
  pub den : meant.den ≡ p.den
  pub mag : meant.mag ≡ p.mag

pub record IsPostamble (p : Postamble) (meant : codes.Postamble) : Type 0 where
  pub last : meant.last ≡ p.last
  pub num : meant.num ≡ p.num
  pub den : meant.den ≡ p.den
  pub mag : meant.mag ≡ p.mag
  pub depth : meant.depth ≡ p.depth
  pub pages : meant.pages ≡ p.pages

-- the reader's operation is this one, of which it leaves out the counts of bop, the bytes of specials and what it does
-- not test
abbrev pub IsOperation : Operation → codes.Operation → Type 0
IsOperation (operations.Char put code) meant = meant ≡ codes.Char put code
IsOperation (operations.Rule put height width) meant = meant ≡ codes.Rule put height width
IsOperation operations.Nop meant = meant ≡ codes.Nop
IsOperation (operations.Bop before) meant = (counts : List ℕ) × (meant ≡ codes.Bop counts before)
IsOperation operations.Eop meant = meant ≡ codes.Eop
IsOperation operations.Push meant = meant ≡ codes.Push
IsOperation operations.Pop meant = meant ≡ codes.Pop
IsOperation (operations.Right by) meant = meant ≡ codes.Right by
IsOperation (operations.Down by) meant = meant ≡ codes.Down by
IsOperation (operations.Set register by) meant = meant ≡ codes.Set (register_of register) by
IsOperation (operations.Add register) meant = meant ≡ codes.Add (register_of register)
IsOperation (operations.Select number) meant = meant ≡ codes.Select number
IsOperation operations.Special meant = (bytes : List ℕ) × (meant ≡ codes.Special bytes)
IsOperation (operations.Define d) meant =
    (whole : codes.Definition) × IsDefinition d whole × (meant ≡ codes.Define whole)
IsOperation (operations.Pre p) meant =
    (whole : codes.Preamble) × IsPreamble p whole × (meant ≡ codes.Pre whole)
IsOperation (operations.Post p) meant =
    (whole : codes.Postamble) × IsPostamble p whole × (meant ≡ codes.Post whole)
IsOperation (operations.PostPost post version) meant = meant ≡ codes.PostPost post version
IsOperation operations.Undefined meant = meant ≡ codes.Undefined
