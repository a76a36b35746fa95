use Rattle.std.proofs.Common.{◌≡◌, List, ℕ, refl, sym, ap, ◌∙◌, subst, arith, true}
use Rattle.std.specs.Prelude.{Some, cond, ◌==◌}
use Rattle.std.specs.Ordering.{nat_cmp}
use Rattle.std.specs.BTreeMap.{get, is_at}
use Rattle.std.specs.Option.{option_map}
use Rattle.std.specs.Str.{bytes_eq}
use Rattle.std.proofs.lemmas.Bool.Decides.{nat_tests}
use Rattle.mt_dvi.specs.File.{agrees}
use Rattle.mt_dviread.specs.declared.numbered.DefinedFont.{DefinedFont}
use Rattle.mt_dviread.specs.inner.Defined.{known_font, known_at}
use Rattle.mt_dviread.proofs.DefinedLemmas.{agrees_kept, knows_again, knows_more, first_is_none, same_known}
use Rattle.mt_dviread.proofs.definitions.Definitions.define.Goals as goal

pub returns-then-definition-entry : goal.returns-then-definition-entry
returns-then-definition-entry c = λ known meant k is.
    let entry = c.in-Some.entry.now in
    let kept = ap (known_at c.args.self.now) is.number ∙ ap (option_map known_font) (sym c.in-Some.ensures.value) in
    let name : bytes_eq meant.name entry.name.now ≡ true = ap (λ (x : List ℕ). bytes_eq x entry.name.now) is.name ∙ sym c.if-eq.ensures in
    let same : c.args.definition.size ≡ entry.size = c.if-definition-entry.true in
    let long = is.size in
    let size : (meant.size == entry.size) ≡ true = grind (arith, nat_tests) in (
      agrees_kept c.args.fonts.now c.args.self.now known meant (known_font entry) k kept ∙ rw (name, size) refl,
      knows_again c.args.fonts.now c.args.self.now known meant (known_font entry) k kept,
    )

pub returns-in_ok-insert-in-None : goal.returns-in_ok-insert-in-None
returns-in_ok-insert-in-None c = λ known meant k is.
    let old = c.args.self.now in
    let none = ap (known_at old) is.number ∙ ap (option_map known_font) (sym c.in-None.ensures.value) in
    let entry : DefinedFont = record { name = c.args.definition.name; size = c.args.definition.size; font = c.font_named.result } in
    let put = subst (λ (x : ℕ). (n : ℕ) → get nat_cmp c.insert.new.self.by_number n ≡ cond (is_at (nat_cmp x) n) (Some entry) (get nat_cmp old.fonts.by_number n)) (sym is.number) c.in_ok-insert-in-None.ensures in (
      ap (agrees meant) (first_is_none c.args.fonts.now old known meant.number k none),
      knows_more c.args.fonts.now old (record old { fonts = c.insert.new.self }) entry known meant k none put (same_known _ _ _ _ _ _ is.name is.size (c.font_named.ensures meant is)),
    )
