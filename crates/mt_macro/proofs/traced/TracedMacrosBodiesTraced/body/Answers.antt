use Rattle.std.proofs.Common.{◌≡◌, ◌<◌, ◌≤◌, List, ap, sym, arith, length, get_or, ◌∙◌}
use Rattle.std.specs.declared.vec.Vec.{Vec}
use Rattle.std.specs.Global.{Global}
use Rattle.mt_macro.specs.Traced.{traced_tokens}
use Rattle.mt_macro.specs.declared.traced.Traced.{Traced}
use Rattle.mt_macro.proofs.TracedBodies.{body_there, no_body_there}
use Rattle.mt_macro.proofs.traced.TracedMacrosBodiesTraced.body.Goals as goal

pub returns-in-Some-clause-is : goal.returns-in-Some-clause-is
returns-in-Some-clause-is c =
    let bodies = c.args.self.now.bodies.items in
    let low : c.args.number < length bodies = omega (arith, ap length c.as_slice.ensures.value, c.in-Some.ensures.lookup.3.0) in
    let at : c.in-Some.body.now ≡ get_or bodies c.args.number c.in-Some.body.now =
    c.in-Some.ensures.lookup.1 ∙ ap (λ (bs : List (Vec Traced Global)). get_or bs c.args.number c.in-Some.body.now) c.as_slice.ensures.value in
    ap traced_tokens (c.as_slice-in-Some.ensures.value ∙ body_there bodies c.args.number c.in-Some.body.now low at) ∙ c.args.self.now.tokens c.args.number

pub returns-in-Some-clause-short : goal.returns-in-Some-clause-short
returns-in-Some-clause-short c =
    let bodies = c.args.self.now.bodies.items in
    let low : c.args.number < length bodies = omega (arith, ap length c.as_slice.ensures.value, c.in-Some.ensures.lookup.3.0) in
    let at : c.in-Some.body.now ≡ get_or bodies c.args.number c.in-Some.body.now =
    c.in-Some.ensures.lookup.1 ∙ ap (λ (bs : List (Vec Traced Global)). get_or bs c.args.number c.in-Some.body.now) c.as_slice.ensures.value in
    let short = c.args.self.now.short c.args.number in
    omega (arith, short, ap length (c.as_slice-in-Some.ensures.value ∙ body_there bodies c.args.number c.in-Some.body.now low at))

pub returns-in-None-clause-is : goal.returns-in-None-clause-is
returns-in-None-clause-is c =
    let bodies = c.args.self.now.bodies.items in
    let high : length bodies ≤ c.args.number = omega (arith, ap length c.as_slice.ensures.value, c.in-None.ensures.lookup.3) in
    sym (ap traced_tokens (no_body_there bodies c.args.number high)) ∙ c.args.self.now.tokens c.args.number
