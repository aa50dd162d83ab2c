use Rattle.std.proofs.Common.{sym, ap, ◌∙◌, set, get_or, arith}
use Rattle.std.proofs.lemmas.Grind.{get_or_default_zero}
use Rattle.std.proofs.lemmas.List.Edits.{map_over_more}
use Rattle.listing.specs.Lines.{printed_byte}
use Rattle.listing.proofs.printed.print.Goals as goal

pub loop-b-preserved : goal.loop-b-preserved
loop-b-preserved c =
    let i = c.loop-b.b-index in
    ap (set c.loop-b.bytes i) c.printed.ensures
    ∙ map_over_more (printed_byte c.args.line_end) c.args.bytes.now c.loop-b.bytes i (get_or c.loop-b.bytes i 0) (omega arith) c.loop-b.invariant (sym (get_or_default_zero c.loop-b.bytes i _ (omega arith)))
