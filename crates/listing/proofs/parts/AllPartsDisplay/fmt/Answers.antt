use Rattle.std.proofs.Common.{sym, append-nil, rules}
use Rattle.std.proofs.Output.{has_written_append, has_written_of_eq}
use Rattle.listing.proofs.Joined.{lines_none, lines_more}
use Rattle.listing.proofs.parts.AllPartsDisplay.fmt.Goals as goal
use Rattle.listing.proofs.parts.AllPartsDisplay.fmt.Goals.{in-Some+in_ok-write, in_default}

pub loop-i-init : goal.loop-i-init
loop-i-init g c = search (rules, lines_none)

pub loop-i-preserved : goal.loop-i-preserved
loop-i-preserved g c = λ plain.
    let f = g.P.Parts.part_text c.args.self.now.0 in
    elim c.match-part.branch [
      | in-Some+in_ok-write w ↦ has_written_of_eq _ _ _ _ _ (sym (lines_more f c.loop-i.i)) (has_written_append _ _ _ _ _ _ (c.loop-i.invariant plain) (search rules))
      | in_default w ↦ search (rules, lines_more, append-nil)
    ]
