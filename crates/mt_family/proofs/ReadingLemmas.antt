-- A file is one font list, or has one fault, and never both.
use Rattle.std.proofs.Common.{◌≡◌, ◌∙◌, ◌⊎◌, inl, inr, ℕ, List, Result, Ok, Err, refl, sym}
use Rattle.mt_family.specs.declared.error.ListError.{ListError}
use Rattle.mt_family.specs.ListFacts.{ListValue}
use Rattle.mt_family.specs.Lists.{font_list, ListText, ListFault}

one_by : (bytes : List ℕ) (said : Result ListValue ListError) → font_list bytes ≡ said → ((list : ListValue) × ListText bytes list) ⊎ ((e : ListError) × ListFault bytes e)
one_by bytes (Ok list) is = inl (list, is)
one_by bytes (Err e) is = inr (e, is)

-- a list or a fault
pub list_or_fault : (bytes : List ℕ) → ((list : ListValue) × ListText bytes list) ⊎ ((e : ListError) × ListFault bytes e)
list_or_fault bytes = one_by bytes (font_list bytes) refl

-- not both
pub not_both : (bytes : List ℕ) (list : ListValue) (e : ListError) → ListText bytes list → ListFault bytes e → ⊥
not_both bytes list e is fault = let both : Ok list ≡ Err e = sym is ∙ fault in cc

-- one list, and one fault
pub one_list : (bytes : List ℕ) (list other : ListValue) → ListText bytes list → ListText bytes other → list ≡ other
one_list bytes list other is also = let both : Ok list ≡ Ok other = sym is ∙ also in cc

pub one_fault : (bytes : List ℕ) (e other : ListError) → ListFault bytes e → ListFault bytes other → e ≡ other
one_fault bytes e other is also = let both : Err e ≡ Err other = sym is ∙ also in cc
