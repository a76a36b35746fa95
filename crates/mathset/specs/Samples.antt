-- What `gen` sets: the toy fonts and a generated source, as files (`sample_files`).
use Rattle.std.specs.Prelude.{ℕ, pos, List, [], ◌∷◌, Result, Ok, Err, codes}
use Rattle.mt_outside.specs.declared.files.Held.{Held}
use Rattle.mt_samples.specs.Bytes.{toy_list_bytes}
use Rattle.mt_samples.specs.Generator.{generated}
use Rattle.mt_samples.specs.Which.{toy_bytes}
use Rattle.mt_samples.specs.declared.Toy.TheVariants.{Roman, Italic, Symbols, Extension}
use Rattle.mt_pages.specs.Listing.{summary}
use Rattle.mt_words.specs.Limits.{default_line}
use Rattle.mt_words.specs.RequestValues.{SourceValue}
use Rattle.mt_pages.specs.Typeset.{TypesetValue}
use Rattle.mathset.specs.Product.{Product, Text}
use Rattle.mt_status.specs.declared.status.Status.{Status}

-- the toy font list and the generated source, on lines of the width that words give by default
abbrev pub sample_words : SourceValue
sample_words = record { fonts = codes "toy.fonts"; source = codes "generated.tex"; line = pos default_line }

-- the files that these words and the list name
abbrev pub sample_files : ℕ → ℕ → List Held
sample_files seed count =
    record { name = codes "toy.fonts"; bytes = toy_list_bytes }
    ∷ record { name = codes "toyr.tfm"; bytes = toy_bytes Roman }
    ∷ record { name = codes "toym.tfm"; bytes = toy_bytes Italic }
    ∷ record { name = codes "toys.tfm"; bytes = toy_bytes Symbols }
    ∷ record { name = codes "toyx.tfm"; bytes = toy_bytes Extension }
    ∷ record { name = codes "generated.tex"; bytes = generated seed count }
    ∷ []

-- the summary of so many formulas, set
abbrev pub summed : ℕ → Result TypesetValue Status → Result Product Status
summed count (Ok typeset) = Ok (Text (summary count typeset.pages))
summed count (Err status) = Err status
