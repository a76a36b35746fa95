-- Formulas of an arena, seen when more lists are in it.
use Rattle.std.proofs.Common.{◌≡◌, ◌≤◌, List, [], ◌∷◌, ◌++◌, length, map, All, refl, sym, ap, ◌∙◌, subst, arith, append_assoc, append-nil, Option, Some, None}
use Rattle.std.proofs.lemmas.List.Elements.{All-append, All-cons, All-head, All-nil, All-tail}
use Rattle.mt_rules.specs.declared.document.Body.TheVariants as body
use Rattle.mt_rules.specs.declared.document.Formula.{Formula}
use Rattle.mt_arena.specs.Arena.{Extends, Held, as_grid, as_rows, as_sequence}
use Rattle.mt_arena.specs.Keeping.{GridLists, KeptList, RowsLists}
use Rattle.mt_arena.proofs.Putting.{extends_length, span_later}
use Rattle.mt_rules.specs.Equations.{equations_of}
use Rattle.mt_arena.specs.declared.formulas.SpanBody.{SpanBody}
use Rattle.mt_arena.specs.declared.formulas.SpanBody.TheVariants as span
use Rattle.mt_arena.specs.declared.formulas.SpanTag.{SpanTag}
use Rattle.mt_arena.specs.Formulas.{BodyLists, TagLists, body_end, body_in, tag_end, tag_in}
use Rattle.mt_reader.specs.declared.arena_page.PageFormula.{PageFormula}
use Rattle.mt_reader.specs.ArenaPages.{KeptFormula, page_formula}

module _ (es fs : List Held) (e : Extends es fs) where
  body_later : (b : SpanBody) → body_end b ≤ length es → body_in fs b ≡ body_in es b
  body_later (span.List list) w = ap (λ hs. body.List (as_sequence hs)) (span_later es fs list e w)
  body_later (span.Lines rows) w = ap (λ hs. body.Lines (as_rows hs)) (span_later es fs rows e w)
  body_later (span.Equations left rows) w = ap (λ hs. body.Equations left (equations_of (as_grid hs))) (span_later es fs rows e w)

  tag_later : (t : Option SpanTag) → tag_end t ≤ length es → tag_in fs t ≡ tag_in es t
  tag_later None w = refl
  tag_later (Some t) w = ap (λ hs. Some (record { body = as_sequence hs; left = t.left })) (span_later es fs t.body e w)

  body_lists_later : (b : SpanBody) → body_end b ≤ length es → BodyLists es b → BodyLists fs b
  body_lists_later (span.List list) w l = subst (λ hs. KeptList (as_sequence hs)) (sym (span_later es fs list e w)) l
  body_lists_later (span.Lines rows) w l = subst (λ hs. RowsLists (as_rows hs)) (sym (span_later es fs rows e w)) l
  body_lists_later (span.Equations left rows) w l = subst (λ hs. GridLists (as_grid hs)) (sym (span_later es fs rows e w)) l

  tag_lists_later : (t : Option SpanTag) → tag_end t ≤ length es → TagLists es t → TagLists fs t
  tag_lists_later None w l = tt
  tag_lists_later (Some t) w l = subst (λ hs. KeptList (as_sequence hs)) (sym (span_later es fs t.body e w)) l

  formula_later : (f : PageFormula) → KeptFormula es f → page_formula fs f ≡ page_formula es f
  formula_later f k =
      ap (λ b. record { number = f.number; display = f.display; body = b; tag = tag_in fs f.spans.tag }) (body_later f.spans.body (omega (arith, k.within)))
      ∙ ap (λ t. record { number = f.number; display = f.display; body = body_in es f.spans.body; tag = t }) (tag_later f.spans.tag (omega (arith, k.within)))

  kept_later : (f : PageFormula) → KeptFormula es f → KeptFormula fs f
  kept_later f k = record {
    within = omega (arith, k.within, extends_length es fs e);
    lists = (body_lists_later f.spans.body (omega (arith, k.within)) k.lists.0, tag_lists_later f.spans.tag (omega (arith, k.within)) k.lists.1);
  }

  pub page_later : (xs : List PageFormula) → All (KeptFormula es) xs → map (page_formula fs) xs ≡ map (page_formula es) xs
  page_later [] k = refl
  page_later (x ∷ xs) k =
      ap (λ (f : Formula). f ∷ map (page_formula fs) xs) (formula_later x (All-head (KeptFormula es) x xs k))
      ∙ ap (λ (rest : List Formula). page_formula es x ∷ rest) (page_later xs (All-tail (KeptFormula es) x xs k))

  pub kept_page_later : (xs : List PageFormula) → All (KeptFormula es) xs → All (KeptFormula fs) xs
  kept_page_later [] k = All-nil (KeptFormula fs)
  kept_page_later (x ∷ xs) k = All-cons (KeptFormula fs) x xs (kept_later x (All-head (KeptFormula es) x xs k)) (kept_page_later xs (All-tail (KeptFormula es) x xs k))

map_append : (es : List Held) (xs : List PageFormula) (x : PageFormula) → map (page_formula es) (xs ++ x ∷ []) ≡ map (page_formula es) xs ++ page_formula es x ∷ []
map_append es [] x = refl
map_append es (y ∷ xs) x = ap (λ (rest : List Formula). page_formula es y ∷ rest) (map_append es xs x)

-- one formula more
pub page_pushed : (es fs : List Held) (xs ys : List PageFormula) (x : PageFormula) → Extends es fs → All (KeptFormula es) xs → ys ≡ xs ++ x ∷ [] → map (page_formula fs) ys ≡ map (page_formula es) xs ++ page_formula fs x ∷ []
page_pushed es fs xs ys x e k p = ap (map (page_formula fs)) p ∙ map_append fs xs x ∙ ap (λ (rest : List Formula). rest ++ page_formula fs x ∷ []) (page_later es fs e xs k)

pub kept_pushed : (es fs : List Held) (xs ys : List PageFormula) (x : PageFormula) → Extends es fs → All (KeptFormula es) xs → KeptFormula fs x → ys ≡ xs ++ x ∷ [] → All (KeptFormula fs) ys
kept_pushed es fs xs ys x e k l p = subst (All (KeptFormula fs)) (sym p) (All-append (KeptFormula fs) xs (x ∷ []) (kept_page_later es fs e xs k) (All-cons (KeptFormula fs) x [] l (All-nil (KeptFormula fs))))

-- ---- formulas with lists of their own, as far as they are made

pub page_made : (F : PageFormula → Formula) (xs rest next : List PageFormula) (x : PageFormula) (made more : List Formula) (f : Formula) → made ++ map F rest ≡ map F xs → rest ≡ x ∷ next → more ≡ made ++ f ∷ [] → f ≡ F x → more ++ map F next ≡ map F xs
page_made F xs rest next x made more f h s m e =
    ap (λ (fs : List Formula). fs ++ map F next) m ∙ append_assoc made (f ∷ []) (map F next) ∙ ap (λ (y : Formula). made ++ y ∷ map F next) e ∙ ap (λ (r : List PageFormula). made ++ map F r) (sym s) ∙ h

pub page_whole : (F : PageFormula → Formula) (xs rest : List PageFormula) (made : List Formula) → made ++ map F rest ≡ map F xs → rest ≡ [] → made ≡ map F xs
page_whole F xs rest made h e = sym (append-nil made) ∙ ap (λ (r : List PageFormula). made ++ map F r) (sym e) ∙ h
