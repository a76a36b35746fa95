-- Nuclei behind the pieces that were there: of a box, of a glyph, and of a large operator.
use Rattle.std.proofs.Common.{◌≡◌, ℕ, ℤ, pos, ◌-ℤ◌, ◌^◌, Bool, false, List, [], ◌∷◌, ◌++◌, append_assoc, refl, ap, ◌∙◌, subst, arith, lit≤, if◌then◌else◌, Ok}
use Rattle.mt_convert.proofs.Common.{int_eq, ints, Within, italic_of, SetValue, Extents, ExtentsInRange, Layout, PieceValue, PieceBox, PieceKern, Style, Symbol, piece_on_axis, Nucleus, clean_symbol, nucleus_with_italic, box_without_italic, operator_code, Setting, ◌>>=◌, make_box, size_of, find_symbol, font_of_number, first_out-none, make_box-ok}
use Rattle.mt_box.proofs.Equalities.{extents_eq}
use Rattle.mt_rules.specs.OnMarks.{layout_with}
use Rattle.mt_convert.specs.inner.AtomSteps.{as_nucleus}
use Rattle.mt_convert.specs.inner.Forms.{as_operator}
use Rattle.mt_convert.specs.inner.OnPieces.{BoxOn, NucleusOn, OperatorOn}
use Rattle.mt_convert.proofs.kinds.Chains.{first_made}
use Rattle.mt_rules.specs.Operators.{operator_nucleus}

-- ---- a box as a nucleus and as an operator

zero_within : Within (2 ^ 31) (pos 0)
zero_within = record { low = omega (arith, ints); high = omega (arith, ints) }

pub box_as_nucleus : (old new : List PieceValue) (setting : Setting Layout) → BoxOn old new setting → NucleusOn (pos 0) old new (as_nucleus setting)
box_as_nucleus old new setting h = record { row = PieceBox (pos 0) h.box ∷ []; is = ap as_nucleus h.is; few = lit≤ tt; small = zero_within; stays = h.stays }

pub box_as_operator : (old new : List PieceValue) (setting : Setting Layout) → BoxOn old new setting → OperatorOn (pos 0) old new (as_operator setting)
box_as_operator old new setting h = record { box = h.box; is = ap as_operator h.is; small = zero_within; stays = h.stays }

-- ---- the italic correction of a glyph

-- it is a kern
pub italic_put : (old now new : List PieceValue) (glyph : PieceValue) (italic : ℤ) (subscript : Bool) → subscript ≡ false → int_eq italic (pos 0) ≡ false → now ≡ old ++ glyph ∷ [] → new ≡ now ++ PieceKern italic ∷ []
    → NucleusOn (pos 0) old new (Ok (nucleus_with_italic glyph italic subscript))
italic_put old now new glyph italic subscript none some e f = record {
  row = glyph ∷ PieceKern italic ∷ [];
  is = rw (none, some) refl;
  few = lit≤ tt;
  small = zero_within;
  stays = f ∙ (ap (λ z. z ++ PieceKern italic ∷ []) e ∙ append_assoc old (glyph ∷ []) (PieceKern italic ∷ []));
}

-- ---- the last box without the italic correction

pub narrow_left : (old now new : List PieceValue) (l : Layout) (e : Extents) (italic : ℤ) → e.width ≡ l.extents.width -ℤ italic → e.height ≡ l.extents.height → e.depth ≡ l.extents.depth → ExtentsInRange e
    → new ≡ old ++ PieceBox (pos 0) (layout_with e l.places) ∷ [] → BoxOn old new (make_box (box_without_italic l italic))
narrow_left old now new l e italic w h d range stays =
    let same : e ≡ (box_without_italic l italic).extents = extents_eq w h d in
    record {
      box = box_without_italic l italic;
      is = make_box-ok (box_without_italic l italic) (first_out-none (box_without_italic l italic).extents (subst ExtentsInRange same range));
      stays = stays ∙ ap (λ (z : Extents). old ++ PieceBox (pos 0) (layout_with z l.places) ∷ []) same;
    }

-- ---- a large operator

abbrev pub box_beside : Layout → ℤ → Bool → Setting Layout
box_beside l italic beside = make_box (if beside then box_without_italic l italic else l)

abbrev pub on_axis : SetValue → Style → Symbol → ℤ → Bool → Setting Nucleus
on_axis fonts style symbol italic beside = do
  box ← clean_symbol fonts style symbol
  final ← box_beside box italic beside
  Ok (record { row = piece_on_axis fonts (size_of style) final ∷ []; delta = italic })

operator_found : (P : Setting Nucleus → Type 0) (fonts : SetValue) (style : Style) (symbol : Symbol) (beside : Bool) (number code : ℕ) (italic : ℤ)
    → find_symbol fonts (size_of style) symbol ≡ Ok number → code ≡ operator_code (font_of_number fonts number) style symbol.code → italic ≡ italic_of (font_of_number fonts number) code
    → P (on_axis fonts style (record { fam = symbol.fam; code = code }) italic beside) → P (operator_nucleus fonts style symbol beside)
unfolding operator_nucleus
operator_found P fonts style symbol beside number code italic found is same h =
    let m = font_of_number fonts number in
    first_made P (find_symbol fonts (size_of style) symbol) number (λ font. (let k = font_of_number fonts font in let c = operator_code k style symbol.code in on_axis fonts style (record { fam = symbol.fam; code = c }) (italic_of k c) beside)) found
    (subst (λ (c : ℕ). P (on_axis fonts style (record { fam = symbol.fam; code = c }) (italic_of m c) beside)) is
    (subst (λ (z : ℤ). P (on_axis fonts style (record { fam = symbol.fam; code = code }) z beside)) same h))

-- what is done after the character is found
pub record IsOperator (fonts : SetValue) (style : Style) (symbol : Symbol) (number code : ℕ) (italic : ℤ) : Type 0 where
  pub found : find_symbol fonts (size_of style) symbol ≡ Ok number
  pub code_is : code ≡ operator_code (font_of_number fonts number) style symbol.code
  pub italic_is : italic ≡ italic_of (font_of_number fonts number) code

pub operator_left : (fonts : SetValue) (style : Style) (symbol : Symbol) (beside : Bool) (number code : ℕ) (italic : ℤ) (old mid new : List PieceValue) (box : Layout) → IsOperator fonts style symbol number code italic
    → clean_symbol fonts style (record { fam = symbol.fam; code = code }) ≡ Ok box → BoxOn old mid (box_beside box italic beside)
    → ((l : Layout) → mid ≡ old ++ PieceBox (pos 0) l ∷ [] → new ≡ old ++ piece_on_axis fonts (size_of style) l ∷ []) → Within (2 ^ 31) italic
    → NucleusOn italic old new (operator_nucleus fonts style symbol beside)
operator_left fonts style symbol beside number code italic old mid new box o clean narrow raised small =
    operator_found (λ s. NucleusOn italic old new s) fonts style symbol beside number code italic o.found o.code_is o.italic_is
    (record {
      row = piece_on_axis fonts (size_of style) narrow.box ∷ [];
      is = ap (λ s. s >>= (λ l. box_beside l italic beside >>= (λ final. Ok (record { row = piece_on_axis fonts (size_of style) final ∷ []; delta = italic })))) clean
          ∙ ap (λ s. s >>= (λ final. Ok (record { row = piece_on_axis fonts (size_of style) final ∷ []; delta = italic }))) narrow.is;
      few = lit≤ tt;
      small = small;
      stays = raised narrow.box narrow.stays;
    })
