use Rattle.std.proofs.Common.{◌∙◌, ◌∷◌, ap}
use Rattle.mt_box.specs.marks.Layers.{top}
use Rattle.mt_box.specs.marks.Recentred.{recentred_layer, recentred_places}
use Rattle.mt_scripts.specs.LimitMarks.{middle_layer, middle_places}
use Rattle.mt_scripts.proofs.TallLimits.{first_layer, second_layer, still_limit, limits_made}
use Rattle.mt_scripts.proofs.limits.limits_on_marks.Goals as goal

pub returns-clause-is : goal.returns-clause-is
returns-clause-is c = λ n s b rest hs hb e.
    let w = c.greatest-width.result.sp in
    let m = recentred_places c.args.nucleus w n in
    let one = c.in_ok-nucleus.ensures.marks ∙ ap (λ r. recentred_layer 2 c.args.nucleus w r) e in
    let two = c.in_ok-sup.ensures.marks ∙ (ap (λ r. middle_layer 1 c.args.sup w r) one ∙ second_layer c.args.sup w b s (m ∷ rest)) in
    let three = c.in_ok-sub.ensures.marks ∙ (ap (λ r. middle_layer 0 c.args.sub w r) two ∙ first_layer c.args.sub w b (middle_places c.args.sup w s ∷ m ∷ rest)) in
    limits_made c.args.fonts.now c.args.size c.args.delta.sp w c.args.nucleus c.in_ok-nucleus.nucleus c.args.sup c.in_ok-sup.sup c.args.sub c.in_ok-sub.sub n s b
    c.join_limits.result (top c.join_limits.new.marks) (c.greatest-width.ensures.is s b) c.in_ok-nucleus.ensures.is c.in_ok-sup.ensures.is c.in_ok-sub.ensures.is
    (c.join_limits.ensures.is m (middle_places c.args.sup w s) (middle_places c.args.sub w b) rest
    (still_limit c.args.sup c.in_ok-sup.sup w s c.in_ok-sup.ensures.is hs) (still_limit c.args.sub c.in_ok-sub.sub w b c.in_ok-sub.ensures.is hb) three)

pub returns-clause-rest : goal.returns-clause-rest
returns-clause-rest c = λ n s b rest e.
    let w = c.greatest-width.result.sp in
    let m = recentred_places c.args.nucleus w n in
    let one = c.in_ok-nucleus.ensures.marks ∙ ap (λ r. recentred_layer 2 c.args.nucleus w r) e in
    let two = c.in_ok-sup.ensures.marks ∙ (ap (λ r. middle_layer 1 c.args.sup w r) one ∙ second_layer c.args.sup w b s (m ∷ rest)) in
    let three = c.in_ok-sub.ensures.marks ∙ (ap (λ r. middle_layer 0 c.args.sub w r) two ∙ first_layer c.args.sub w b (middle_places c.args.sup w s ∷ m ∷ rest)) in
    c.join_limits.ensures.rest m (middle_places c.args.sup w s) (middle_places c.args.sub w b) rest three
