-- The box of a delimiter holds: a candidate exists, and so do the pieces of an extensible character.
use Rattle.std.proofs.Common.{◌≡◌, ℕ, zero, suc, ℤ, ◌+ℤ◌, ◌-ℤ◌, List, [], ◌∷◌, ◌++◌, All, replicate, min, refl, subst, Option, Some, None, Bool, true, false, if◌then◌else◌, slice_get, unwrap_or, arith, IfOk, IsTrue, ◌==◌, ◌&&◌, ◌||◌, int_lt}
use Rattle.mt_convert.proofs.Common.{option_or, All-nil, Metrics, IsSoundFont, exists, larger_of, has_recipe, char_at, width_of, italic_of, Size, Text, Script, Scriptscript, SetValue, number_in, Layout, pack, Symbol, Delim, Setting, ◌>>◌, test_extents, make_box, empty_font, font_of_number, extents_without_italic, height_plus_depth, DelimiterVariant, NoVariant, delimiter_variant, null_delimiter, layout_by_recipe, candidate_layout, piece_on_axis, big_height, big_wanted, without_null_width, at_least_high, GlyphHolds, PlacesHold, LayoutHolds}
use Rattle.std.specs.Prelude.{⊤}
use Rattle.mt_tfm.specs.declared.recipe.Recipe.{Recipe}
use Rattle.mt_tfm.specs.Checks.{PiecesExist, piece_fits}
use Rattle.mt_tfm.proofs.ChainLemmas.{at_index}
use Rattle.mt_rules.specs.Candidates.{Candidate, candidate, chain_candidates, font_candidates, candidates_at, candidates_from, is_no_symbol, symbol_candidates, candidates, fits, first_fit, total_or_zero, tallest_candidate, chosen_candidate}
use Rattle.mt_rules.specs.Extensibles.{repeats, test_repeats, recipe_piece, recipe_pieces, glyphs_places, first_height, glyphs_layout, test_glyphs, extensible_layout}
use Rattle.mt_convert.proofs.holds.Steps.{step_holds, next_holds, after_extents, two_tests, box_made}
use Rattle.mt_convert.proofs.holds.Boxes.{pack_holds}
use Rattle.mt_convert.proofs.holds.Glyphs.{ExistsIn, glyph_holds, character_holds}
use Rattle.mt_rules.specs.Delimiters.{delimiter}
use Rattle.mt_rules.specs.BigDelimiters.{big_delimiter}

-- the facts of each font
abbrev pub AreSound : SetValue → Type 0
AreSound fonts = All IsSoundFont fonts.fonts

module _ (fonts : SetValue) where
  -- ---- each candidate exists

  abbrev CandidateExists : Candidate → Type 0
  CandidateExists c = ExistsIn fonts c.font c.code

  abbrev CandidatesExist : List Candidate → Type 0
  CandidatesExist [] = ⊤
  CandidatesExist (c ∷ cs) = CandidateExists c × CandidatesExist cs

  abbrev ChosenExists : Option Candidate → Type 0
  ChosenExists None = ⊤
  ChosenExists (Some c) = CandidateExists c

  exist_append : (cs ds : List Candidate) → CandidatesExist cs → CandidatesExist ds → CandidatesExist (cs ++ ds)
  exist_append [] ds h k = k
  exist_append (c ∷ cs) ds h k = (h.0, exist_append cs ds h.1 k)

  chain_by : (font c : ℕ) (cs : List Candidate) (b : Bool) → exists (font_of_number fonts font) c ≡ b → CandidatesExist cs → CandidatesExist (if b then candidate font (font_of_number fonts font) c ∷ cs else [])
  chain_by font c cs true e h = (e, h)
  chain_by font c cs false e h = tt

  chain_exists : (font turns : ℕ) (next : Option ℕ) → CandidatesExist (chain_candidates font (font_of_number fonts font) turns next)
  chain_exists font zero next = tt
  chain_exists font (suc turns) None = tt
  chain_exists font (suc turns) (Some c) =
      let m = font_of_number fonts font in
      chain_by font c (chain_candidates font m turns (larger_of m c)) (exists m c) refl (chain_exists font turns (larger_of m c))

  font_exist : (number : Option ℕ) (c : ℕ) → CandidatesExist (font_candidates fonts number c)
  font_exist None c = tt
  font_exist (Some font) c = chain_exists font 256 (Some c)

  size_exist : (symbol : Symbol) (size : Size) → CandidatesExist (candidates_at fonts symbol size)
  size_exist symbol size = font_exist (number_in fonts.families symbol.fam size) symbol.code

  sizes_exist : (symbol : Symbol) (size : Size) → CandidatesExist (candidates_from fonts symbol size)
  sizes_exist symbol Text = size_exist symbol Text
  sizes_exist symbol Script =
      exist_append (candidates_at fonts symbol Script) (candidates_at fonts symbol Text) (size_exist symbol Script) (size_exist symbol Text)
  sizes_exist symbol Scriptscript =
      exist_append (candidates_at fonts symbol Scriptscript) (candidates_at fonts symbol Script ++ candidates_at fonts symbol Text) (size_exist symbol Scriptscript)
      (exist_append (candidates_at fonts symbol Script) (candidates_at fonts symbol Text) (size_exist symbol Script) (size_exist symbol Text))

  symbol_by : (b : Bool) (symbol : Symbol) (size : Size) → CandidatesExist (if b then [] else candidates_from fonts symbol size)
  symbol_by true symbol size = tt
  symbol_by false symbol size = sizes_exist symbol size

  symbol_exist : (symbol : Symbol) (size : Size) → CandidatesExist (symbol_candidates fonts symbol size)
  symbol_exist symbol size = symbol_by (is_no_symbol symbol) symbol size

  -- ---- so does the one that is chosen

  fit_by : (b : Bool) (c : Candidate) (o : Option Candidate) → CandidateExists c → ChosenExists o → ChosenExists (if b then Some c else o)
  fit_by true c o h k = h
  fit_by false c o h k = k

  fit_exists : (wanted : ℤ) (cs : List Candidate) → CandidatesExist cs → ChosenExists (first_fit wanted cs)
  fit_exists wanted [] h = tt
  fit_exists wanted (c ∷ cs) h = fit_by (fits wanted c) c (first_fit wanted cs) h.0 (fit_exists wanted cs h.1)

  tallest_exists : (cs : List Candidate) (best : Option Candidate) → ChosenExists best → CandidatesExist cs → ChosenExists (tallest_candidate best cs)
  tallest_exists [] best k h = k
  tallest_exists (c ∷ cs) best k h =
      let taller = int_lt (total_or_zero best) c.total in
      tallest_exists cs (if taller then Some c else best) (fit_by taller c best h.0 k) h.1

  either_exists : (a b : Option Candidate) → ChosenExists a → ChosenExists b → ChosenExists (option_or a b)
  either_exists None b h k = k
  either_exists (Some c) b h k = h

  chosen_exists : (wanted : ℤ) (cs : List Candidate) → CandidatesExist cs → ChosenExists (chosen_candidate wanted cs)
  chosen_exists wanted cs h = either_exists (first_fit wanted cs) (tallest_candidate None cs) (fit_exists wanted cs h) (tallest_exists cs None tt h)

  -- ---- the pieces of an extensible character exist

  abbrev CodesExist : ℕ → List ℕ → Type 0
  CodesExist font [] = ⊤
  CodesExist font (c ∷ cs) = ExistsIn fonts font c × CodesExist font cs

  codes_append : (font : ℕ) (cs ds : List ℕ) → CodesExist font cs → CodesExist font ds → CodesExist font (cs ++ ds)
  codes_append font [] ds h k = k
  codes_append font (c ∷ cs) ds h k = (h.0, codes_append font cs ds h.1 k)

  repeats_exist : (font c n : ℕ) → ExistsIn fonts font c → CodesExist font (replicate n c)
  repeats_exist font c zero h = tt
  repeats_exist font c (suc n) h = (h, repeats_exist font c n h)

  piece_by : (font c : ℕ) (b : Bool) → IsTrue (b || exists (font_of_number fonts font) c) → CodesExist font (if b then [] else c ∷ [])
  piece_by font c true h = tt
  piece_by font c false h = (h, tt)

  piece_exists : (font c : ℕ) → IsTrue (piece_fits (font_of_number fonts font).first (font_of_number fonts font).chars c) → CodesExist font (recipe_piece c)
  piece_exists font c h = piece_by font c (c == 0) h

  each_fits : (a b c d : Bool) → IsTrue ((a && b && c) && d) → IsTrue a × IsTrue b × IsTrue c × IsTrue d
  each_fits true true true true h = (refl, refl, refl, refl)
  each_fits true true true false h = absurd (cc)
  each_fits true true false d h = absurd (cc)
  each_fits true false c d h = absurd (cc)
  each_fits false b c d h = absurd (cc)

  pieces_exist_by : (font : ℕ) (top middle row bottom : List ℕ) (b : Bool) → CodesExist font top → CodesExist font middle → CodesExist font row → CodesExist font bottom → CodesExist font (if b then top ++ (row ++ bottom) else top ++ (row ++ (middle ++ (row ++ bottom))))
  pieces_exist_by font top middle row bottom true t i r b = codes_append font top (row ++ bottom) t (codes_append font row bottom r b)
  pieces_exist_by font top middle row bottom false t i r b =
      codes_append font top (row ++ (middle ++ (row ++ bottom))) t
      (codes_append font row (middle ++ (row ++ bottom)) r
      (codes_append font middle (row ++ bottom) i (codes_append font row bottom r b)))

  pieces_exist : (font : ℕ) (r : Recipe) (n : ℕ) → PiecesExist (font_of_number fonts font).first (font_of_number fonts font).chars r → CodesExist font (recipe_pieces r n)
  pieces_exist font r n h =
      let m = font_of_number fonts font in
      let each = each_fits (piece_fits m.first m.chars r.top) (piece_fits m.first m.chars r.middle) (piece_fits m.first m.chars r.bottom) (exists m r.repeat) h in
      pieces_exist_by font (recipe_piece r.top) (recipe_piece r.middle) (replicate n r.repeat) (recipe_piece r.bottom) (r.middle == 0)
      (piece_exists font r.top each.0) (piece_exists font r.middle each.1) (repeats_exist font r.repeat n each.3) (piece_exists font r.bottom each.2)

  -- ---- and they are in range: the repeat is tested at its first place

  abbrev GlyphsHold : ℕ → List ℕ → Type 0
  GlyphsHold font [] = ⊤
  GlyphsHold font (c ∷ cs) = GlyphHolds fonts font c × GlyphsHold font cs

  after_glyphs : {B : Type 0} (Q : B → Type 0) (font : ℕ) (cs : List ℕ) (s : Setting B) → CodesExist font cs → (GlyphsHold font cs → IfOk s Q) → IfOk (test_glyphs (font_of_number fonts font) cs >> s) Q
  after_glyphs Q font [] s h k = k tt
  after_glyphs Q font (c ∷ cs) s h k =
      let m = font_of_number fonts font in
      rw (two_tests (test_extents (extents_without_italic m c)) (test_glyphs m cs) s)
      (after_extents Q (extents_without_italic m c) (test_glyphs m cs >> s)
      (λ extents. after_glyphs Q font cs s h.1 (λ rest. k (glyph_holds fonts font c h.0 extents, rest))))

  hold_append : (font : ℕ) (cs ds : List ℕ) → GlyphsHold font cs → GlyphsHold font ds → GlyphsHold font (cs ++ ds)
  hold_append font [] ds h k = k
  hold_append font (c ∷ cs) ds h k = (h.0, hold_append font cs ds h.1 k)

  hold_apart : (font : ℕ) (cs ds : List ℕ) → GlyphsHold font (cs ++ ds) → GlyphsHold font cs × GlyphsHold font ds
  hold_apart font [] ds h = (tt, h)
  hold_apart font (c ∷ cs) ds h = let rest = hold_apart font cs ds h.1 in ((h.0, rest.0), rest.1)

  repeats_hold : (font c n : ℕ) → GlyphHolds fonts font c → GlyphsHold font (replicate n c)
  repeats_hold font c zero h = tt
  repeats_hold font c (suc n) h = (h, repeats_hold font c n h)

  often : (font c n : ℕ) → GlyphsHold font (replicate (min n 1) c) → GlyphsHold font (replicate n c)
  often font c zero h = tt
  often font c (suc n) h =
      let one : min (suc n) 1 ≡ 1 = omega arith in
      let once : GlyphsHold font (replicate 1 c) = subst (λ k. GlyphsHold font (replicate k c)) one h in
      repeats_hold font c (suc n) once.0

  after_often : (font c n : ℕ) (ds es : List ℕ) → (GlyphsHold font ds → GlyphsHold font es) → GlyphsHold font (replicate (min n 1) c ++ ds) → GlyphsHold font (replicate n c ++ es)
  after_often font c n ds es k h =
      let parts = hold_apart font (replicate (min n 1) c) ds h in
      hold_append font (replicate n c) es (often font c n parts.0) (k parts.1)

  after_same : (font : ℕ) (cs ds es : List ℕ) → (GlyphsHold font ds → GlyphsHold font es) → GlyphsHold font (cs ++ ds) → GlyphsHold font (cs ++ es)
  after_same font cs ds es k h = let parts = hold_apart font cs ds h in hold_append font cs es parts.0 (k parts.1)

  pieces_often_by : (font : ℕ) (top middle bottom : List ℕ) (c n : ℕ) (b : Bool)
      → GlyphsHold font (if b then top ++ (replicate (min n 1) c ++ bottom) else top ++ (replicate (min n 1) c ++ (middle ++ (replicate (min n 1) c ++ bottom))))
      → GlyphsHold font (if b then top ++ (replicate n c ++ bottom) else top ++ (replicate n c ++ (middle ++ (replicate n c ++ bottom))))
  pieces_often_by font top middle bottom c n true h =
      after_same font top (replicate (min n 1) c ++ bottom) (replicate n c ++ bottom) (after_often font c n bottom bottom (λ k. k)) h
  pieces_often_by font top middle bottom c n false h =
      let once = replicate (min n 1) c in
      let all = replicate n c in
      after_same font top (once ++ (middle ++ (once ++ bottom))) (all ++ (middle ++ (all ++ bottom)))
      (after_often font c n (middle ++ (once ++ bottom)) (middle ++ (all ++ bottom))
      (after_same font middle (once ++ bottom) (all ++ bottom)
      (after_often font c n bottom bottom (λ k. k)))) h

  pieces_often : (font : ℕ) (r : Recipe) (n : ℕ) → GlyphsHold font (recipe_pieces r (min n 1)) → GlyphsHold font (recipe_pieces r n)
  pieces_often font r n h = pieces_often_by font (recipe_piece r.top) (recipe_piece r.middle) (recipe_piece r.bottom) r.repeat n (r.middle == 0) h

  glyphs_hold : (font : ℕ) (m : Metrics) (cs : List ℕ) (y : ℤ) → GlyphsHold font cs → PlacesHold fonts (glyphs_places font m y cs)
  glyphs_hold font m [] y h = tt
  glyphs_hold font m (c ∷ cs) y h = (h.0, glyphs_hold font m cs (y -ℤ height_plus_depth m c) h.1)

  -- ---- the boxes

  abbrev RecipesExist : Metrics → Type 0
  RecipesExist m = All (PiecesExist m.first m.chars) m.recipes

  extensible_holds : (font : ℕ) (r : Recipe) (wanted : ℤ) → PiecesExist (font_of_number fonts font).first (font_of_number fonts font).chars r → IfOk (extensible_layout font (font_of_number fonts font) r wanted) (LayoutHolds fonts)
  extensible_holds font r wanted h =
      let m = font_of_number fonts font in
      let width = width_of m r.repeat +ℤ italic_of m r.repeat in
      next_holds (LayoutHolds fonts) (test_repeats (repeats m r wanted))
      (λ n. test_glyphs m (recipe_pieces r (min n 1)) >> make_box (glyphs_layout font m width (recipe_pieces r n)))
      (λ n. after_glyphs (LayoutHolds fonts) font (recipe_pieces r (min n 1)) (make_box (glyphs_layout font m width (recipe_pieces r n)))
      (pieces_exist font r (min n 1) h)
      (λ once. box_made (LayoutHolds fonts) (glyphs_layout font m width (recipe_pieces r n))
      (glyphs_hold font m (recipe_pieces r n) (first_height m (recipe_pieces r n)) (pieces_often font r n once))))

  recipes_by : (font : ℕ) (found : Option Metrics) → slice_get fonts.fonts font ≡ found → AreSound fonts → RecipesExist (unwrap_or found empty_font)
  recipes_by font (Some m) is h = (at_index IsSoundFont fonts.fonts font m h is).recipes
  recipes_by font None is h = All-nil (PiecesExist 0 [])

  recipes_exist : (font : ℕ) → AreSound fonts → RecipesExist (font_of_number fonts font)
  recipes_exist font h = recipes_by font (slice_get fonts.fonts font) refl h

  some_recipe : (font c : ℕ) (wanted : ℤ) (o : Option Recipe) → ((r : Recipe) → o ≡ Some r → PiecesExist (font_of_number fonts font).first (font_of_number fonts font).chars r) → ExistsIn fonts font c → IfOk (layout_by_recipe font (font_of_number fonts font) c wanted o) (LayoutHolds fonts)
  some_recipe font c wanted None pieces there = character_holds fonts font c there
  some_recipe font c wanted (Some r) pieces there = extensible_holds font r wanted (pieces r refl)

  recipe_by : (font c : ℕ) (wanted : ℤ) (b : Bool) (i : ℕ) → RecipesExist (font_of_number fonts font) → ExistsIn fonts font c → IfOk (layout_by_recipe font (font_of_number fonts font) c wanted (if b then slice_get (font_of_number fonts font).recipes i else None)) (LayoutHolds fonts)
  recipe_by font c wanted true i h there =
      let m = font_of_number fonts font in
      some_recipe font c wanted (slice_get m.recipes i) (λ r is. at_index (PiecesExist m.first m.chars) m.recipes i r h is) there
  recipe_by font c wanted false i h there = character_holds fonts font c there

  candidate_holds : (wanted : ℤ) (o : Option Candidate) → AreSound fonts → ChosenExists o → IfOk (candidate_layout fonts wanted o) (LayoutHolds fonts)
  candidate_holds wanted None h there = box_made (LayoutHolds fonts) null_delimiter tt
  candidate_holds wanted (Some c) h there =
      let m = font_of_number fonts c.font in
      recipe_by c.font c.code wanted (has_recipe m c.code) (char_at m c.code).remainder (recipes_exist c.font h) there

  pub delimiter_holds : (delim : Delim) (size : Size) (wanted : ℤ) → AreSound fonts → IfOk (delimiter fonts delim size wanted) (LayoutHolds fonts)
  unfolding delimiter candidates
  delimiter_holds delim size wanted h =
      let cs = symbol_candidates fonts delim.small size ++ symbol_candidates fonts delim.large size in
      candidate_holds wanted (chosen_candidate wanted cs) h
      (chosen_exists wanted cs (exist_append (symbol_candidates fonts delim.small size) (symbol_candidates fonts delim.large size) (symbol_exist delim.small size) (symbol_exist delim.large size)))

  -- ---- delimiters of fixed sizes

  without_null : (variant : DelimiterVariant) (l : Layout) → LayoutHolds fonts l → LayoutHolds fonts (without_null_width variant l)
  without_null NoVariant l h = h
  without_null _ l h = h

  pub big_holds : (delim : Delim) (level : ℕ) → AreSound fonts → IfOk (big_delimiter fonts delim level) (LayoutHolds fonts)
  unfolding big_delimiter
  big_holds delim level sound =
      let wanted = big_wanted fonts level in
      let variant = delimiter_variant fonts delim Text wanted in
      step_holds (LayoutHolds fonts) (LayoutHolds fonts) (delimiter fonts delim Text wanted)
      (λ box. make_box (at_least_high (big_height level) (pack (piece_on_axis fonts Text (without_null_width variant box) ∷ []))))
      (delimiter_holds delim Text wanted sound)
      (λ box h. box_made (LayoutHolds fonts) (at_least_high (big_height level) (pack (piece_on_axis fonts Text (without_null_width variant box) ∷ [])))
      (pack_holds fonts (piece_on_axis fonts Text (without_null_width variant box) ∷ []) (without_null variant box h, tt)))
