use Rattle.std.proofs.Common.{refl}
use Rattle.std.proofs.lemmas.Option.{slice_get_read}
use Rattle.mt_tables.proofs.Roled.{role_found}
use Rattle.mt_tables.proofs.name_roles.role_numbered.Goals as goal

pub returns-in-Some : goal.returns-in-Some
returns-in-Some c =
    let is = c.in-Some.ensures.lookup in
    role_found c.args.roles.now c.args.names.now c.args.number _ c.requires (slice_get_read _ _ _ _ refl is.3.0 is.1)
