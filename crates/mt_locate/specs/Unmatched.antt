-- The brace or the dollar that nothing matches, of a formula without end (`unmatched_token`).
use Rattle.std.specs.Prelude.{ℕ, zero, suc, ◌+◌, ◌-◌, ◌==◌, List, [], ◌∷◌, drop, slice_get, Option, Some, None, if◌then◌else◌}
use Rattle.mt_token.specs.declared.token.Token.{Token}
use Rattle.mt_macro.specs.Braces.{is_close, is_open}

-- the outermost brace that is still open, where so many groups are
abbrev pub still_open : ℕ → Option Token → Option Token
still_open zero outermost = None
still_open (suc level) outermost = outermost

-- where so many groups are open, the outermost of them since this brace: the first } that closes no group, or else the { of
-- the outermost group that is not closed
abbrev pub unmatched_brace : ℕ → Option Token → List Token → Option Token
unmatched_brace level outermost [] = still_open level outermost
unmatched_brace level outermost (t ∷ rest) =
    if is_open t then unmatched_brace (level + 1) (if level == 0 then Some t else outermost) rest
    else if is_close t then (if level == 0 then Some t else unmatched_brace (level - 1) outermost rest)
    else unmatched_brace level outermost rest

abbrev pub brace_or : Option Token → Option Token → Option Token
brace_or brace None = None
brace_or None (Some dollar) = Some dollar
brace_or (Some brace) (Some dollar) = Some brace

-- the token that nothing matches, of the formula that begins at this index: a brace, or its dollar
abbrev pub unmatched_token : List Token → ℕ → Option Token
unmatched_token tokens index = brace_or (unmatched_brace 0 None (drop index tokens)) (slice_get tokens index)
