use Rattle.std.proofs.Common.{◌≡◌, arith, sym, ◌∙◌, subst, ◌+◌, suc, ℕ, drop, map}
use Rattle.std.proofs.lemmas.List.{length-map}
use Rattle.mt_macro.specs.inner.Ends.{IsEnd}
use Rattle.mt_macro.proofs.Ending.{end_of_open, end_of_other}
use Rattle.mt_macro.proofs.ends.end_before.Goals as goal

pub returns-then-is_open : goal.returns-then-is_open
returns-then-is_open g c =
    let next : c.end_at-first.result + 1 ≡ suc c.end_at-first.result = omega arith in
    let second =
    subst (λ (n : ℕ). IsEnd c.end_at-second.result (drop n (map (g.L.Lexicon.token c.args.tables.now) c.args.after.now))) next c.end_at-second.ensures in
    let size = length-map c.args.after.now (g.L.Lexicon.token c.args.tables.now) in
    end_of_open (g.L.Lexicon.token c.args.tables.now c.args.item.now) (map (g.L.Lexicon.token c.args.tables.now) c.args.after.now) c.end_at-first.result c.end_at-second.result _
    (sym c.is_close.ensures ∙ c.if-is_close.false) (sym c.is_open.ensures ∙ c.if-is_open.true)
    c.end_at-first.ensures second (λ w. c.capped.ensures (omega (arith, w, size, c.requires.short)))

pub returns : goal.returns
returns g c =
    let size = length-map c.args.after.now (g.L.Lexicon.token c.args.tables.now) in
    end_of_other (g.L.Lexicon.token c.args.tables.now c.args.item.now) (map (g.L.Lexicon.token c.args.tables.now) c.args.after.now) c.end_at-first.result _ (sym c.is_close.ensures
    ∙ c.if-is_close.false) (sym c.is_open.ensures ∙ c.if-is_open.false) c.end_at-first.ensures
    (λ w. c.capped-2.ensures (omega (arith, w, size, c.requires.short)))
