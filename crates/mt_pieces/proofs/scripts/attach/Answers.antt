use Rattle.std.proofs.Common.{◌≡◌, ◌∙◌, ◌∷◌, Some, ap}
use Rattle.mt_rules.specs.Scripts.{row_with_scripts}
use Rattle.mt_scripts.specs.LimitMarks.{limit_of}
use Rattle.mt_pieces.specs.inner.Taken.{extents_if, layer_if}
use Rattle.mt_pieces.proofs.scripts.attach.Goals as goal

pub returns-in_ok-both_on_marks-in-Some-Some-clause-is :
    goal.returns-in_ok-both_on_marks-in-Some-Some-clause-is
returns-in_ok-both_on_marks-in-Some-Some-clause-is c = λ row s b rest n e.
    let p : c.args.taken.sup ≡ Some c.in-Some-Some.sup = c.in-Some-Some.is-0 in
    let q : c.args.taken.sub ≡ Some c.in-Some-Some.sub = c.in-Some-Some.is-1 in
    let stack : c.args.marks.now ≡ b ∷ s ∷ rest = e ∙ (ap (λ z. layer_if z b (layer_if c.args.taken.sup s rest)) q ∙ ap (λ z. b ∷ layer_if z s rest) p) in
    ap (λ z. row_with_scripts c.args.fonts.now c.args.style row c.args.delta.sp (limit_of (extents_if z) s) (limit_of (extents_if c.args.taken.sub) b)) p
    ∙ (ap (λ z. row_with_scripts c.args.fonts.now c.args.style row c.args.delta.sp (limit_of (extents_if (Some c.in-Some-Some.sup)) s) (limit_of (extents_if z) b)) q
    ∙ c.in_ok-both_on_marks-in-Some-Some.ensures.is row s b rest n stack)
