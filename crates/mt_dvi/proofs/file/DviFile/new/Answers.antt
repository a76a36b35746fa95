use Rattle.std.proofs.Common.{refl, arith}
use Rattle.std.specs.Prelude.{pos}
use Rattle.mt_dvi.specs.Encoded.{pre_bytes}
use Rattle.mt_dvi.proofs.CodeLemmas.{code_pre, emits_1}
use Rattle.mt_dvi.proofs.FileLemmas.{file_begun}
use Rattle.mt_dvi.proofs.file.DviFile.new.Goals as goal

pub returns : goal.returns
returns c = file_begun c.args.fonts.now _ _ c.font_count.ensures.facts c.in_ok-out.ensures.items (emits_1 15 _ _ (pre_bytes (pos 1000)) _ (omega arith) c.in_ok-pre.ensures code_pre) c.in_ok-defined.ensures refl refl refl refl
