use Rattle.std.proofs.Common.{◌∙◌, ap, sym, subst, take, drop}
use Rattle.std.proofs.lemmas.List.{drop_at, take_at}
use Rattle.mt_box.specs.marks.RowParts.{AreParts}
use Rattle.mt_rules.specs.Tables.{equations_table}
use Rattle.mt_pieces.specs.Celled.{cell_pieces}
use Rattle.mt_pieces.specs.inner.Cells.{BoxesInRange}
use Rattle.mt_pieces.proofs.Celling.{last_range}
use Rattle.mt_pieces.proofs.Settled.{packed_settled, settled_laid}
use Rattle.mt_pieces.proofs.Split.{split_at}
use Rattle.mt_pieces.proofs.pieces.Pieces.equations.Goals as goal

pub equations_layers-made-requires-clause-in_range : goal.equations_layers-made-requires-clause-in_range
equations_layers-made-requires-clause-in_range c =
    subst BoxesInRange (sym (c.parts_from-parts.ensures ∙ ap (drop c.args.first) c.deref.ensures.value)) (last_range c.self.inside.parts.items c.args.first c.self.inside.marks c.self.invariant)

pub invariant_of-self : goal.invariant_of-self
invariant_of-self c =
    let s = split_at c.self.inside.parts.items c.args.first c.self.inside.marks c.args.self.now c.self.invariant c.self.view_is in
    let are = subst (λ z. AreParts (drop c.args.first c.args.self.now) z s.layers) (sym (c.parts_from-parts.ensures ∙ ap (drop c.args.first) c.deref.ensures.value)) s.are in
    let made = c.equations_layers-made.ensures in
    let e = c.settle.ensures in
    settled_laid c.equations_layers-made.result c.settle.result (take c.args.first c.self.inside.parts.items) c.settle.new.parts.items c.equations_layers-made.new.marks c.settle.new.marks s.below
    e.ok e.marks e.parts e.no_marks e.no_parts (made.rest (drop c.args.first c.args.self.now) s.layers s.below are s.stack) made.in_range s.laid

pub returns : goal.returns
returns c = λ rest cells at counts now.
    let n = c.args.first in
    let s = split_at c.self.inside.parts.items n c.self.inside.marks c.args.self.now c.self.invariant c.self.view_is in
    let last = ap (drop n) now ∙ drop_at rest (cell_pieces cells) n at in
    let are = subst (λ z. AreParts (drop n c.args.self.now) z s.layers) (sym (c.parts_from-parts.ensures ∙ ap (drop n) c.deref.ensures.value)) s.are in
    let those = subst (λ z. AreParts z c.parts_from-parts.result.now s.layers) last are in
    let made = c.equations_layers-made.ensures in
    let e = c.settle.ensures in
    packed_settled c.equations_layers-made.result c.settle.result (take n c.self.inside.parts.items) c.settle.new.parts.items c.equations_layers-made.new.marks c.settle.new.marks s.below
    rest (equations_table c.args.fonts.now c.args.size cells) (made.is cells s.layers s.below those counts s.stack) (made.rest (drop n c.args.self.now) s.layers s.below are s.stack) e.marks e.parts e.fault e.memory
    (s.front ∙ (ap (take n) now ∙ take_at rest (cell_pieces cells) n at))
