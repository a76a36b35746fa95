-- A file is one font at a size wanted, or has one fault, and never both.
use Rattle.std.proofs.Common.{◌≡◌, ◌∙◌, ◌⊎◌, inl, inr, ℕ, ℤ, List, Option, Some, None, refl, sym}
use Rattle.mt_tfm.specs.declared.error.TfmError.{TfmError}
use Rattle.mt_tfm.specs.declared.wanted.Wanted.{Wanted}
use Rattle.std.specs.Option.{option_or}
use Rattle.mt_tfm.specs.declared.wanted.Wanted.TheVariants.{At}
use Rattle.mt_tfm.specs.Checks.{head_fault, wanted_fault, table_fault, tfm_fault}
use Rattle.mt_tfm.specs.Tables.{counts_of}
use Rattle.mt_tfm.specs.Words.{words_of, design_of}
use Rattle.mt_tfm.specs.Font.{Metrics, metrics_of}
use Rattle.mt_tfm.specs.Tfm.{Tfm, TfmFault}

one_by : (bytes : List ℕ) (wanted : Wanted) (skew : Option ℕ) (fault : Option TfmError) → tfm_fault bytes wanted ≡ fault → ((font : Metrics) × Tfm bytes wanted skew font) ⊎ ((e : TfmError) × TfmFault bytes wanted e)
one_by bytes wanted skew None is = inl (metrics_of bytes wanted skew, record { passes = is; reads = refl })
one_by bytes wanted skew (Some e) is = inr (e, is)

-- a font or a fault
pub font_or_fault : (bytes : List ℕ) (wanted : Wanted) (skew : Option ℕ) → ((font : Metrics) × Tfm bytes wanted skew font) ⊎ ((e : TfmError) × TfmFault bytes wanted e)
font_or_fault bytes wanted skew = one_by bytes wanted skew (tfm_fault bytes wanted) refl

-- not both
pub not_both : (bytes : List ℕ) (wanted : Wanted) (skew : Option ℕ) (font : Metrics) (e : TfmError) → Tfm bytes wanted skew font → TfmFault bytes wanted e → ⊥
not_both bytes wanted skew font e is fault = let both : None ≡ Some e = sym is.passes ∙ fault in cc

-- one font, and one fault
pub one_font : (bytes : List ℕ) (wanted : Wanted) (skew : Option ℕ) (font other : Metrics) → Tfm bytes wanted skew font → Tfm bytes wanted skew other → font ≡ other
one_font bytes wanted skew font other is also = is.reads ∙ sym also.reads

pub one_fault : (bytes : List ℕ) (wanted : Wanted) (e other : TfmError) → TfmFault bytes wanted e → TfmFault bytes wanted other → e ≡ other
one_fault bytes wanted e other is also = let both : Some e ≡ Some other = sym is ∙ also in cc

passes_by : (head size table : Option TfmError) → option_or head table ≡ None → size ≡ None → option_or head (option_or size table) ≡ None
passes_by None size table passes none = rw none passes
passes_by (Some e) size table passes none = absurd (cc)

-- a file that passes at one size passes at each size in range
pub passes_at : (bytes : List ℕ) (at : ℤ) (wanted : Wanted) → tfm_fault bytes (At at) ≡ None → wanted_fault wanted (design_of (words_of bytes)) ≡ None → tfm_fault bytes wanted ≡ None
unfolding tfm_fault
passes_at bytes at wanted passes none =
    passes_by (head_fault (counts_of (words_of bytes)) bytes (words_of bytes)) (wanted_fault wanted (design_of (words_of bytes))) (table_fault (counts_of (words_of bytes)) (words_of bytes)) passes none
