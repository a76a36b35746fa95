use Rattle.mt_status.proofs.log.write_too_many.Goals as goal

pub returns : goal.returns
returns g c = rw (← c.much_text.ensures) c.write_parts.ensures
