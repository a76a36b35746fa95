use Rattle.std.proofs.Common.{◌∙◌, ap}
use Rattle.mt_box.specs.marks.Layers.{top}
use Rattle.mt_box.specs.marks.Recentred.{recentred_layer, recentred_places}
use Rattle.mt_parts.proofs.Fractions.{body_made}
use Rattle.mt_parts.proofs.fraction.body_on_marks.Goals as goal

pub returns-clause-is : goal.returns-clause-is
returns-clause-is c = λ n d rest e.
    let w = c.greater_width-width.result.sp in
    let stack = c.in_ok-den.ensures.marks ∙ ap (λ r. recentred_layer 0 c.args.den w r) (c.in_ok-num.ensures.marks ∙ ap (λ r. recentred_layer 1 c.args.num w r) e) in
    body_made c.args.fonts.now c.args.style c.args.thickness.sp w c.args.num c.args.den c.in_ok-num.num c.in_ok-den.den n d c.centred_on_marks.result (top c.centred_on_marks.new.marks)
    c.greater_width-width.ensures c.in_ok-num.ensures.is c.in_ok-den.ensures.is
    (c.centred_on_marks.ensures.is (recentred_places c.args.num w n) (recentred_places c.args.den w d) rest stack)

pub returns-clause-rest : goal.returns-clause-rest
returns-clause-rest c = λ n d rest e.
    let w = c.greater_width-width.result.sp in
    let stack = c.in_ok-den.ensures.marks ∙ ap (λ r. recentred_layer 0 c.args.den w r) (c.in_ok-num.ensures.marks ∙ ap (λ r. recentred_layer 1 c.args.num w r) e) in
    c.centred_on_marks.ensures.rest (recentred_places c.args.num w n) (recentred_places c.args.den w d) rest stack
