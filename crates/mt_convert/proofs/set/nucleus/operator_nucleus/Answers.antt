use Rattle.std.proofs.Common.{rules, ◌∷◌, [], ◌++◌, ◌∙◌, ap, sym, pos}
use Rattle.mt_convert.proofs.Common.{piece_on_axis, find_symbol}
use Rattle.mt_convert.proofs.NucleiOn.{IsOperator, operator_left}
use Rattle.mt_convert.proofs.set.nucleus.operator_nucleus.Goals as goal

pub returns : goal.returns
returns c =
    let fonts = c.args.fonts.now in
    let old = c.args.pieces.now in
    let clean = c.in_ok-clean_symbol.ensures.is in
    let narrow = c.in_ok-box_beside.ensures old clean.box clean.stays in
    let k : IsOperator fonts c.args.style c.args.symbol c.in_ok-number.number c.operator_code-code.result c.italic_length-italic.result.sp = record {
      found = ap (λ z. find_symbol fonts z c.args.symbol) (sym c.size.ensures) ∙ c.in_ok-number.ensures.is;
      code_is = search rules;
      italic_is = search rules;
    } in
    record {
      is = operator_left fonts c.args.style c.args.symbol c.args.beside_subscript c.in_ok-number.number c.operator_code-code.result c.italic_length-italic.result.sp old c.box_beside.new.pieces c.raise_onto_axis.new.self clean.box k clean.is narrow
          (λ l e. c.raise_onto_axis.ensures old (pos 0) l e ∙ ap (λ z. old ++ piece_on_axis fonts z l ∷ []) c.size-2.ensures) c.italic_length-italic.ensures.small;
    }
