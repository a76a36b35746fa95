use Rattle.std.proofs.Common.{◌∙◌, ◌++◌, ap, sym, subst, arith, drop, length, reverse, refl}
use Rattle.std.proofs.lemmas.List.{drop_at, length-drop}
use Rattle.mt_box.specs.marks.Layers.{top}
use Rattle.mt_box.specs.marks.RowParts.{AreParts}
use Rattle.mt_rules.specs.Scripts.{begins_with_glyph}
use Rattle.mt_scripts.specs.LimitMarks.{limit_of}
use Rattle.mt_scripts.specs.Nuclei.{IsNucleusOf}
use Rattle.mt_pieces.specs.Attaching.{row_beside, script_boxes}
use Rattle.mt_pieces.specs.inner.Taken.{AllKept, AttachesOn, extents_if}
use Rattle.mt_pieces.specs.inner.View.{AreLaid, pieces_back}
use Rattle.mt_pieces.proofs.Attached.{attached, attached_laid}
use Rattle.mt_pieces.proofs.Kept.{last_kept}
use Rattle.mt_pieces.proofs.Split.{split_at, few_parts}
use Rattle.mt_pieces.proofs.Taken.{begins_before, more_taken, range_if, scripted, told}
use Rattle.mt_pieces.proofs.pieces.Pieces.scripts.Goals as goal

pub nucleus_of-nucleus-requires-clause-few : goal.nucleus_of-nucleus-requires-clause-few
nucleus_of-nucleus-requires-clause-few c =
    let ps = c.self.inside.parts.items in
    let qs = c.take_scripts.new.parts.items in
    omega (
      arith,
      ap length (c.parts_from.ensures ∙ ap (drop c.args.first) c.deref.ensures.value),
      length-drop c.args.first ps,
      length-drop c.args.first qs,
      more_taken c.in_ok-taken.taken.sup c.in_ok-taken.taken.sub ps qs c.in_ok-taken.ensures.parts,
      few_parts ps (drop c.args.first ps) c.args.first c.self.inside.marks c.args.self.now c.self.view_is refl c.requires.few,
    )

pub nucleus_of-nucleus-requires-clause-kept : goal.nucleus_of-nucleus-requires-clause-kept
nucleus_of-nucleus-requires-clause-kept c =
    let s = scripted c.in_ok-taken.taken.sup c.in_ok-taken.taken.sub (reverse c.take_scripts.new.parts.items) c.self.inside.marks (subst (λ z. AreLaid z c.self.inside.marks) c.in_ok-taken.ensures.parts c.self.invariant) in
    subst AllKept (sym (c.parts_from.ensures ∙ ap (drop c.args.first) c.deref.ensures.value)) (last_kept c.take_scripts.new.parts.items c.args.first s.under s.laid)

pub attach_tested-made-requires-clause-sup : goal.attach_tested-made-requires-clause-sup
attach_tested-made-requires-clause-sup c =
    let s = scripted c.in_ok-taken.taken.sup c.in_ok-taken.taken.sub (reverse c.take_scripts.new.parts.items) c.self.inside.marks (subst (λ z. AreLaid z c.self.inside.marks) c.in_ok-taken.ensures.parts c.self.invariant) in
    range_if c.in_ok-taken.taken.sup s.sup_box

pub invariant_of-self-2 : goal.invariant_of-self-2
invariant_of-self-2 c =
    let s = scripted c.in_ok-taken.taken.sup c.in_ok-taken.taken.sub (reverse c.take_scripts.new.parts.items) c.self.inside.marks (subst (λ z. AreLaid z c.self.inside.marks) c.in_ok-taken.ensures.parts c.self.invariant) in
    let made = c.attach_tested-made.ensures in
    let e = c.settle_scripts.ensures in
    attached_laid c.attach_tested-made.result c.settle_scripts.result c.take_scripts.new.parts.items c.settle_scripts.new.parts.items c.attach_tested-made.new.marks c.settle_scripts.new.marks s.under
    e.ok e.marks e.parts e.no_marks e.no_parts (made.rest s.above s.below s.under (c.in_ok-taken.ensures.marks ∙ s.stack)) made.laid s.laid

pub returns : goal.returns
returns c = λ before row above below there at e.
    let n = c.args.first in
    let t = c.in_ok-taken.taken in
    let ps = c.take_scripts.new.parts.items in
    let ms = c.self.inside.marks in
    let s = scripted t.sup t.sub (reverse ps) ms (subst (λ z. AreLaid z ms) c.in_ok-taken.ensures.parts c.self.invariant) in
    let k = told t.sup t.sub s.above s.below (pieces_back (reverse ps) s.under) before row above below (c.in_ok-taken.ensures.sup ∙ there.sup) (c.in_ok-taken.ensures.sub ∙ there.sub)
    (sym s.view ∙ (ap (λ z. pieces_back z ms) (sym c.in_ok-taken.ensures.parts) ∙ (c.self.view_is ∙ e))) in
    let split = split_at ps n s.under (before ++ row) s.laid k.same in
    let are = subst (λ z. AreParts z (drop n ps) split.layers) (drop_at before row n at) split.are in
    let same = sym (c.parts_from.ensures ∙ ap (drop n) c.deref.ensures.value) in
    let nucleus : IsNucleusOf row c.nucleus_of-nucleus.result = record {
      extents = c.nucleus_of-nucleus.ensures.extents row split.layers (subst (λ z. AreParts row z split.layers) same are);
      glyph = c.nucleus_of-nucleus.ensures.glyph ∙ (c.begins_with_glyph-glyph.ensures
          ∙ (ap (λ z. begins_with_glyph (drop n z)) e ∙ (ap begins_with_glyph (drop_at before (row ++ script_boxes above below) n at) ∙ begins_before row above below)));
    } in
    let made = c.attach_tested-made in
    let stack = c.in_ok-taken.ensures.marks ∙ s.stack in
    let is = made.ensures.is row s.above s.below s.under nucleus stack in
    let now = subst (λ z. AttachesOn row made.result (top made.new.marks) (row_beside c.args.fonts.now c.args.style row c.args.delta.sp z below)) (sym k.above)
    (subst (λ z. AttachesOn row made.result (top made.new.marks) (row_beside c.args.fonts.now c.args.style row c.args.delta.sp (limit_of (extents_if t.sup) s.above) z)) (sym k.below) is) in
    let set = c.settle_scripts.ensures in
    attached made.result c.settle_scripts.result ps c.settle_scripts.new.parts.items made.new.marks c.settle_scripts.new.marks s.under before row
    (row_beside c.args.fonts.now c.args.style row c.args.delta.sp above below) now (made.ensures.rest s.above s.below s.under stack) set.ok set.marks set.parts set.fault set.memory k.same
