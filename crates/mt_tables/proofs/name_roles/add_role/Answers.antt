use Rattle.std.proofs.Common.{◌≡◌, arith, sym, ap, ◌∙◌, length}
use Rattle.std.specs.Prelude.{slice_get}
use Rattle.std.proofs.lemmas.Bool.Decides.{nat_tests}
use Rattle.mt_tables.proofs.Roled.{roles_more}
use Rattle.mt_tables.proofs.name_roles.add_role.Goals as goal

pub returns-in_ok-push_role : goal.returns-in_ok-push_role
returns-in_ok-push_role c =
    let at : length c.args.roles.now.items ≡ c.args.number = grind (arith, nat_tests, c.if-len-number.false, c.len.ensures) in
    rw c.in_ok-push_role.ensures.ok (roles_more c.args.roles.now.items c.args.names.now c.in-Some.name.now c.name_role.result c.requires
    (ap (slice_get c.args.names.now) at ∙ sym c.in-Some.ensures) c.name_role.ensures)
