use Rattle.std.proofs.Common.{sym, ◌∙◌, arith}
use Rattle.std.proofs.lemmas.List.{length-map}
use Rattle.mt_macro.proofs.Ending.{first_end}
use Rattle.mt_macro.proofs.closing.end_of_group.Goals as goal

pub returns-in-len1-up : goal.returns-in-len1-up
returns-in-len1-up g c =
    let size = length-map c.args.after.now (g.L.Lexicon.token c.args.tables.now) in (
      sym c.is_open.ensures ∙ c.if-is_open.true,
      c.if-end-after.true,
      first_end _ c.args.ends.now c.requires (omega (arith, c.in-len1-up.len_at_least)) (omega (arith, size, c.if-end-after.true)),
    )
