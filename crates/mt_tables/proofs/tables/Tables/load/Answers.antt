use Rattle.std.proofs.Common.{refl, ap, subst, ◌∙◌, List, ℕ, map}
use Rattle.mt_token.specs.declared.token.TokenKind.TheVariants.{Control}
use Rattle.mt_token.specs.declared.token.Token.{Token}
use Rattle.mt_macro.specs.declared.table.Macro.{Macro}
use Rattle.mt_macro.specs.Placeless.{placeless}
use Rattle.mt_macro.specs.Table.{Table, macro_of, with_macro}
use Rattle.mt_lexicon.specs.Meaning.{NameTable, kind_of}
use Rattle.mt_tables.specs.Held.{Held}
use Rattle.mt_tables.specs.declared.kept.KeptMacro.{KeptMacro}
use Rattle.mt_tables.specs.inner.KeptMacros.{IsNumberOf, name_at, macro_of_kept}
use Rattle.mt_tables.proofs.Loads.{number_is, kind_kept, meaning_is, on_ok_more}
use Rattle.mt_tables.proofs.tables.Tables.load.Goals as goal

pub put_new-requires-clause-new : goal.put_new-requires-clause-new
put_new-requires-clause-new c =
    let is = subst (λ (ns : NameTable). IsNumberOf ns c.in_ok-word.word c.in-Some.number) (ap (λ (h : Held). h.names) c.self.view_is) c.in-Some.ensures in
    let name = number_is _ _ c.in_ok-word.word c.args.entry.now.name c.in-Some.number c.in_ok-body.ensures.keeps c.in_ok-word.ensures.known (c.in_ok-word.ensures.is ∙ ap (λ (n : List ℕ). Control n) c.as_slice.ensures) is in
    ap (λ (n : List ℕ). macro_of c.words_of.new.self.macros n) name
    ∙ (ap (λ (t : Table). macro_of t c.args.entry.now.name) (c.in_ok-body.ensures.macros ∙ c.in_ok-word.ensures.macros) ∙ c.requires.new)

pub returns-in-Some-clause-ok : goal.returns-in-Some-clause-ok
returns-in-Some-clause-ok c =
    let is = subst (λ (ns : NameTable). IsNumberOf ns c.in_ok-word.word c.in-Some.number) (ap (λ (h : Held). h.names) c.self.view_is) c.in-Some.ensures in
    let name = number_is _ _ c.in_ok-word.word c.args.entry.now.name c.in-Some.number c.in_ok-body.ensures.keeps c.in_ok-word.ensures.known (c.in_ok-word.ensures.is ∙ ap (λ (n : List ℕ). Control n) c.as_slice.ensures) is in
    let k : KeptMacro = record { own = c.args.entry.now.meaning.own; params = c.args.entry.now.meaning.params; body = c.in_ok-body.body } in
    let m = meaning_is c.words_of.new.self.names k c.args.entry.now.meaning refl refl (c.in_ok-body.ensures.is ∙ ap (λ (l : List Token). map placeless l) c.as_slice-2.ensures) in
    on_ok_more c.put_new.result c.put_new.ensures.ok
    (λ e. e ∙ (ap (λ (t : Table). with_macro t (name_at c.words_of.new.self.names c.in-Some.number) (macro_of_kept c.words_of.new.self.names k)) (c.in_ok-body.ensures.macros ∙ c.in_ok-word.ensures.macros)
    ∙ (ap (λ (n : List ℕ). with_macro c.args.self.now.macros n (macro_of_kept c.words_of.new.self.names k)) name
    ∙ ap (λ (x : Macro). with_macro c.args.self.now.macros c.args.entry.now.name x) m)))

pub returns-in-None-clause-ok : goal.returns-in-None-clause-ok
returns-in-None-clause-ok c =
    absurd (c.in-None.ensures c.args.entry.now.name
    (ap (λ (h : Held). kind_of h.names c.in_ok-word.word.kind) c.self.view_is
    ∙ kind_kept _ _ c.in_ok-word.word c.args.entry.now.name c.in_ok-body.ensures.keeps c.in_ok-word.ensures.known (c.in_ok-word.ensures.is ∙ ap (λ (n : List ℕ). Control n) c.as_slice.ensures)))
