use Rattle.mt_plain.proofs.Loading.{all_put, is_plain, has_plain, all_texts_lex}
use Rattle.mt_plain.proofs.macros.plain_macros.Goals as goal

pub returns-clause-is : goal.returns-clause-is
returns-clause-is c = is_plain _ (all_put _ _ _ _ _ _ _ _ _ _ _ _ _ c.empty-macros.ensures c.accent_macros.ensures.is c.delimiter_macros.ensures.is c.other_macros.ensures.is c.family_macros.ensures.is c.function_macros.ensures.is c.limit_macros.ensures.is c.in_ok-preload_all.ensures c.in_ok-preload_all-2.ensures c.in_ok-preload_all-3.ensures c.in_ok-preload_all-4.ensures c.in_ok-preload_all-5.ensures c.in_ok-preload_all-6.ensures)

pub returns-clause-has : goal.returns-clause-has
returns-clause-has c = has_plain _ (all_put _ _ _ _ _ _ _ _ _ _ _ _ _ c.empty-macros.ensures c.accent_macros.ensures.is c.delimiter_macros.ensures.is c.other_macros.ensures.is c.family_macros.ensures.is c.function_macros.ensures.is c.limit_macros.ensures.is c.in_ok-preload_all.ensures c.in_ok-preload_all-2.ensures c.in_ok-preload_all-3.ensures c.in_ok-preload_all-4.ensures c.in_ok-preload_all-5.ensures c.in_ok-preload_all-6.ensures)

pub returns-clause-bodies : goal.returns-clause-bodies
returns-clause-bodies c = all_texts_lex
