use Rattle.std.proofs.Common.{ap, drop, length, take, ◌+◌, ◌-◌, ◌∙◌, List}
use Rattle.mt_lexicon.specs.declared.word.Word.{Word}
use Rattle.mt_reader.proofs.SourceViews.{tail_is}
use Rattle.mt_reader.proofs.word_source.WordSource.after_first.Goals as goal

pub returns : goal.returns
returns c =
    ap (λ (ws : List Word). take (length ws - (c.args.self.now.used + 1)) (drop (c.args.self.now.used + 1) ws)) c.deref.ensures.value
    ∙ tail_is c.args.self.now.words.items c.args.self.now.used
