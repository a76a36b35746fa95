use Rattle.std.proofs.Common.{◌≡◌, sym, ap, ◌∙◌, subst, List, ◌++◌}
use Rattle.std.specs.Prelude.{Ok, max}
use Rattle.std.proofs.lemmas.List.{append-nil}
use Rattle.mt_dvi.specs.Codes as codes
use Rattle.mt_dvi.specs.Machine as machine
use Rattle.mt_dviread.specs.inner.Defined.{Knows}
use Rattle.mt_dviread.specs.inner.Performs.{seen}
use Rattle.mt_dviread.proofs.OpenFiles.{performed}
use Rattle.mt_dviread.proofs.file.OpenFile.perform.Goals as goal

pub returns-clause-fills : goal.returns-clause-fills
returns-clause-fills c = λ file meant s none is.
    let known : Knows c.args.fonts.now c.args.self.now.definitions file.fonts = subst (Knows c.args.fonts.now c.args.self.now.definitions) (ap (λ (l : List codes.Definition). file.fonts ++ l) none ∙ append-nil file.fonts) s.known in
    performed c.args.fonts.now c.args.self.now c.count.new.self c.perform.new.self c.max-self.result c.in_ok-place.place (Ok _) file (machine.perform c.args.fonts.now file.fonts file.machine meant) s none
    (subst (λ (m : machine.Machine). seen (machine.perform c.args.fonts.now file.fonts m meant) ≡ Ok (record { machine = c.perform.new.self; place = c.in_ok-place.place })) (sym s.machine) (c.in_ok-place.ensures.performs file.fonts meant known is))
    (c.max-self.ensures ∙ ap (max c.args.self.now.deepest) c.saved_count.ensures.is) c.in_ok-count.ensures.counts
