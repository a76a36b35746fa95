use Rattle.std.proofs.Common.{length, reverse, arith, ap}
use Rattle.std.proofs.lemmas.List.{length-reverse}
use Rattle.mt_box.proofs.layers.Layering.{length_layers}
use Rattle.mt_box.proofs.marks.stack.Marks.len.Goals as goal

pub returns : goal.returns
returns c = omega (arith, c.len.ensures, c.self.inside.starts.ok.0, length-reverse c.self.inside.starts.items, length_layers c.self.inside.nodes.items (reverse c.self.inside.starts.items), ap length c.self.view_is)
