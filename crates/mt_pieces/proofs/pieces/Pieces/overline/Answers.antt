use Rattle.std.proofs.Common.{◌∙◌, ◌-◌, pos, ap, sym, reverse, take}
use Rattle.mt_box.specs.Layout.{Layout}
use Rattle.mt_rules.specs.Lines as lines
use Rattle.mt_pieces.specs.inner.LastParts.{last_box}
use Rattle.mt_pieces.proofs.LastPieces.{last_of, no_box}
use Rattle.mt_pieces.proofs.Parted.{IsSettled, one_part, one_laid}
use Rattle.mt_pieces.proofs.pieces.Pieces.overline.Goals as goal

pub overline_on_marks-made-requires : goal.overline_on_marks-made-requires
overline_on_marks-made-requires c = (last_of c.self.inside.parts.items c.saturating_sub-keep.result c.self.inside.marks c.in-Some.body c.self.invariant (ap (λ z. last_box (reverse z)) (sym c.deref.ensures.value) ∙ (sym c.last_box.ensures ∙ c.in-Some.is)) (c.saturating_sub-keep.ensures ∙ ap (λ n. n - 1) (c.len.ensures ∙ c.self.inside.parts.ok.0))).box.extents

pub invariant_of-self : goal.invariant_of-self
invariant_of-self c =
    let s = c.settle.ensures in
    let settled : IsSettled c.overline_on_marks-made.result c.settle.result (take c.saturating_sub-keep.result c.self.inside.parts.items) c.settle.new.parts.items c.overline_on_marks-made.new.marks c.settle.new.marks = record { ok = s.ok; marks = s.marks; parts = s.parts; no_marks = s.no_marks; no_parts = s.no_parts; fault = s.fault; memory = s.memory } in
    one_laid c.self.inside.parts.items c.settle.new.parts.items c.saturating_sub-keep.result c.self.inside.marks c.overline_on_marks-made.new.marks c.settle.new.marks c.in-Some.body c.overline_on_marks-made.result c.settle.result c.self.invariant (ap (λ z. last_box (reverse z)) (sym c.deref.ensures.value) ∙ (sym c.last_box.ensures ∙ c.in-Some.is)) (c.saturating_sub-keep.ensures ∙ ap (λ n. n - 1) (c.len.ensures ∙ c.self.inside.parts.ok.0))
    c.overline_on_marks-made.ensures.rest c.overline_on_marks-made.ensures.in_range settled

pub returns : goal.returns
returns c =
    let s = c.settle.ensures in
    let settled : IsSettled c.overline_on_marks-made.result c.settle.result (take c.saturating_sub-keep.result c.self.inside.parts.items) c.settle.new.parts.items c.overline_on_marks-made.new.marks c.settle.new.marks = record { ok = s.ok; marks = s.marks; parts = s.parts; no_marks = s.no_marks; no_parts = s.no_parts; fault = s.fault; memory = s.memory } in
    one_part c.self.inside.parts.items c.settle.new.parts.items c.saturating_sub-keep.result c.self.inside.marks c.overline_on_marks-made.new.marks c.settle.new.marks c.in-Some.body c.overline_on_marks-made.result c.settle.result c.args.self.now (λ (l : Layout). lines.overline c.args.fonts.now c.args.size l) c.self.invariant c.self.view_is (ap (λ z. last_box (reverse z)) (sym c.deref.ensures.value) ∙ (sym c.last_box.ensures ∙ c.in-Some.is)) (c.saturating_sub-keep.ensures ∙ ap (λ n. n - 1) (c.len.ensures ∙ c.self.inside.parts.ok.0))
    (c.overline_on_marks-made.ensures.is) c.overline_on_marks-made.ensures.rest settled

pub returns-in_default : goal.returns-in_default
returns-in_default c = λ rest l e. absurd (no_box (reverse c.self.inside.parts.items) c.self.inside.marks c.args.self.now rest (pos 0) l (ap (λ z. last_box (reverse z)) (sym c.deref.ensures.value) ∙ (sym c.last_box.ensures ∙ c.in_default.is)) c.self.view_is e)
