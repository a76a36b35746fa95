use Rattle.std.proofs.Common.{◌∙◌, ◌-◌, pos, ap, sym, reverse, take}
use Rattle.mt_box.specs.Layout.{Layout}
use Rattle.mt_rules.specs.Fractions as fractions
use Rattle.mt_pieces.specs.inner.LastParts.{last_two}
use Rattle.mt_pieces.proofs.LastPieces.{two_of, not_two}
use Rattle.mt_pieces.proofs.Parted.{IsSettled, two_part, two_laid}
use Rattle.mt_pieces.proofs.pieces.Pieces.fraction.Goals as goal

pub fraction_on_marks-made-requires-clause-num : goal.fraction_on_marks-made-requires-clause-num
fraction_on_marks-made-requires-clause-num c = (two_of c.self.inside.parts.items c.saturating_sub-keep.result c.self.inside.marks c.in-Some.boxes c.self.invariant (ap (λ z. last_two (reverse z)) (sym c.deref.ensures.value) ∙ (sym c.last_two.ensures ∙ c.in-Some.is)) (c.saturating_sub-keep.ensures ∙ ap (λ n. n - 2) (c.len.ensures ∙ c.self.inside.parts.ok.0))).first.extents

pub fraction_on_marks-made-requires-clause-den : goal.fraction_on_marks-made-requires-clause-den
fraction_on_marks-made-requires-clause-den c = (two_of c.self.inside.parts.items c.saturating_sub-keep.result c.self.inside.marks c.in-Some.boxes c.self.invariant (ap (λ z. last_two (reverse z)) (sym c.deref.ensures.value) ∙ (sym c.last_two.ensures ∙ c.in-Some.is)) (c.saturating_sub-keep.ensures ∙ ap (λ n. n - 2) (c.len.ensures ∙ c.self.inside.parts.ok.0))).second.extents

pub invariant_of-self : goal.invariant_of-self
invariant_of-self c =
    let s = c.settle.ensures in
    let settled : IsSettled c.fraction_on_marks-made.result c.settle.result (take c.saturating_sub-keep.result c.self.inside.parts.items) c.settle.new.parts.items c.fraction_on_marks-made.new.marks c.settle.new.marks = record { ok = s.ok; marks = s.marks; parts = s.parts; no_marks = s.no_marks; no_parts = s.no_parts; fault = s.fault; memory = s.memory } in
    two_laid c.self.inside.parts.items c.settle.new.parts.items c.saturating_sub-keep.result c.self.inside.marks c.fraction_on_marks-made.new.marks c.settle.new.marks c.in-Some.boxes c.fraction_on_marks-made.result c.settle.result c.self.invariant (ap (λ z. last_two (reverse z)) (sym c.deref.ensures.value) ∙ (sym c.last_two.ensures ∙ c.in-Some.is)) (c.saturating_sub-keep.ensures ∙ ap (λ n. n - 2) (c.len.ensures ∙ c.self.inside.parts.ok.0))
    c.fraction_on_marks-made.ensures.rest c.fraction_on_marks-made.ensures.in_range settled

pub returns : goal.returns
returns c =
    let s = c.settle.ensures in
    let settled : IsSettled c.fraction_on_marks-made.result c.settle.result (take c.saturating_sub-keep.result c.self.inside.parts.items) c.settle.new.parts.items c.fraction_on_marks-made.new.marks c.settle.new.marks = record { ok = s.ok; marks = s.marks; parts = s.parts; no_marks = s.no_marks; no_parts = s.no_parts; fault = s.fault; memory = s.memory } in
    two_part c.self.inside.parts.items c.settle.new.parts.items c.saturating_sub-keep.result c.self.inside.marks c.fraction_on_marks-made.new.marks c.settle.new.marks c.in-Some.boxes c.fraction_on_marks-made.result c.settle.result c.args.self.now (λ (l m : Layout). fractions.fraction c.args.fonts.now c.args.style c.args.thickness.sp c.args.left c.args.right l m) c.self.invariant c.self.view_is (ap (λ z. last_two (reverse z)) (sym c.deref.ensures.value) ∙ (sym c.last_two.ensures ∙ c.in-Some.is)) (c.saturating_sub-keep.ensures ∙ ap (λ n. n - 2) (c.len.ensures ∙ c.self.inside.parts.ok.0))
    (c.fraction_on_marks-made.ensures.is) c.fraction_on_marks-made.ensures.rest settled

pub returns-in_default : goal.returns-in_default
returns-in_default c = λ rest n d e. absurd (not_two (reverse c.self.inside.parts.items) c.self.inside.marks c.args.self.now rest (pos 0) (pos 0) n d (ap (λ z. last_two (reverse z)) (sym c.deref.ensures.value) ∙ (sym c.last_two.ensures ∙ c.in_default.is)) c.self.view_is e)
