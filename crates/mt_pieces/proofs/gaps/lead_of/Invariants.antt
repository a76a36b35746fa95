use Rattle.std.proofs.Common.{◌≡◌, drop}
use Rattle.mt_pieces.proofs.Gapped.{LeadSoFar}
use Rattle.mt_pieces.proofs.gaps.lead_of.Given as goal

abbrev pub invariant-loop-run : goal.invariant-loop-run
invariant-loop-run l = (l.lead.runs ≡ l.run-index) × LeadSoFar l.runs l.first l.end (drop l.run-index l.runs) l.lead.start
