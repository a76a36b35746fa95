-- The clean box of a character is the row of its glyph and of a kern of its italic correction, packed (`clean_glyph_is`).
use Rattle.std.proofs.Common.{◌≡◌, ℕ, ℤ, pos, ◌+ℤ◌, List, [], ◌∷◌, Bool, true, false, refl, sym, ap, subst, ◌∙◌, arith, None, Ok, Err, if◌then◌else◌}
use Rattle.mt_convert.proofs.Common.{int_eq, ints, Metrics, italic_of, clean_row, ExtentsInRange, first_out, Layout, PieceValue, PieceGlyph, PieceKern, pack, Extents, Setting, ◌>>=◌, ◌>>◌, make_row, pack_row, test_extents, extents_without_italic, Nucleus, make_clean, nucleus_with_italic, first_out-none}
use Rattle.std.specs.Prelude.{⊤}
use Rattle.std.proofs.lemmas.Bool.Decides.{Decides-int_eq}
use Rattle.mt_box.proofs.Equalities.{extents_eq, layout_eq}
use Rattle.mt_convert.specs.inner.Glyphs.{clean_glyph}

-- the same test again
twice : (test : Setting ⊤) (l : Layout) → (test >> (test >> Ok l)) ≡ (test >> Ok l)
twice (Ok u) l = refl
twice (Err e) l = refl

tested_first : (test : Setting ⊤) (row : List PieceValue) → ((test >> Ok row) >>= make_clean) ≡ (test >> make_clean row)
tested_first (Ok u) row = refl
tested_first (Err e) row = refl

-- a row that is no lone box is packed
packed_once : (row : List PieceValue) → clean_row row ≡ pack row → (make_row row >>= make_clean) ≡ pack_row row
packed_once row e =
    tested_first (test_extents (pack row).extents) row
    ∙ (ap (λ l. test_extents (pack row).extents >> (test_extents l.extents >> Ok l)) e ∙ twice (test_extents (pack row).extents) (pack row))

-- a kern of 0 changes nothing
no_kern : (font code : ℕ) (e : Extents) (k : ℤ) → k ≡ pos 0 → pack (PieceGlyph font code e ∷ []) ≡ pack (PieceGlyph font code e ∷ PieceKern k ∷ [])
no_kern font code e k z = layout_eq (extents_eq (wide e.width k z) refl refl) refl
  where
    wide : (w k : ℤ) → k ≡ pos 0 → w +ℤ pos 0 ≡ w +ℤ (k +ℤ pos 0)
    wide w k z = omega (arith, ints)

by_italic : (same : Bool) (font code : ℕ) (e : Extents) (k : ℤ) → int_eq k (pos 0) ≡ same
    → (make_row (nucleus_with_italic (PieceGlyph font code e) k false).row >>= make_clean) ≡ pack_row (PieceGlyph font code e ∷ PieceKern k ∷ [])
by_italic true font code e k is =
    ap (λ (b : Bool). make_row (if b then glyph_alone else glyph_and_kern).row >>= make_clean) is
    ∙ (packed_once (PieceGlyph font code e ∷ []) refl ∙ ap (λ l. test_extents l.extents >> Ok l) (no_kern font code e k ((Decides-int_eq k (pos 0)).0 is)))
  where
    glyph_alone : Nucleus
    glyph_alone = record { row = PieceGlyph font code e ∷ []; delta = pos 0 }

    glyph_and_kern : Nucleus
    glyph_and_kern = record { row = PieceGlyph font code e ∷ PieceKern k ∷ []; delta = pos 0 }
by_italic false font code e k is =
    rw is (packed_once (PieceGlyph font code e ∷ PieceKern k ∷ []) refl)

pub clean_glyph_is : (font : ℕ) (m : Metrics) (c : ℕ) → first_out (extents_without_italic m c) ≡ None
    → clean_glyph font m c ≡ pack_row (PieceGlyph font c (extents_without_italic m c) ∷ PieceKern (italic_of m c) ∷ [])
clean_glyph_is font m c e = rw e (by_italic (int_eq (italic_of m c) (pos 0)) font c (extents_without_italic m c) (italic_of m c) refl)

-- what holds of the box that a call packs holds of the clean box
pub clean_glyph_by : (P : Setting Layout → Type 0) (font : ℕ) (m : Metrics) (c : ℕ) (e : Extents) (k : ℤ) → ExtentsInRange e → e ≡ extents_without_italic m c → k ≡ italic_of m c
    → P (pack_row (PieceGlyph font c e ∷ PieceKern k ∷ [])) → P (clean_glyph font m c)
clean_glyph_by P font m c e k in_range same italic h =
    let packed = subst (λ z. P (pack_row (PieceGlyph font c e ∷ PieceKern z ∷ []))) italic h in
    subst P (sym (clean_glyph_is font m c (subst (λ x. first_out x ≡ None) same (first_out-none e in_range))))
    (subst (λ x. P (pack_row (PieceGlyph font c x ∷ PieceKern (italic_of m c) ∷ []))) same packed)
