use Rattle.std.proofs.Common.{sym, subst, arith}
use Rattle.contracts.specs.Acceptance.{Tabled}
use Rattle.contracts.proofs.Gathered.{accepted-from}
use Rattle.contracts.proofs.Tabulated.{each-inhabited, each-positional, marked_from}
use Rattle.contracts.proofs.set.accept.accept.Goals as goal

pub gather-requires : goal.gather-requires
gather-requires c =
    let marked = marked_from c.args.file.now.declarations.now c.args.file.now.moves.now c.in_default.ensures c.in_default-first_second_move.ensures c.in_default-first_mixed_marks.ensures in
    let tabled = subst (Tabled c.args.file.now.declarations.now c.args.file.now.moves.now) (sym c.as_slice.ensures) c.tabulate_all.ensures in
    record {
      some = omega (arith, tabled.count, c.args.file.now.resolved.some);
      few = omega (arith, tabled.count, c.args.file.now.resolved.few);
      inhabited = each-inhabited c.args.file.now.declarations.now c.args.file.now.moves.now c.args.file.now.resolved marked _ tabled;
      positional = each-positional c.args.file.now.declarations.now c.args.file.now.moves.now c.args.file.now.resolved marked _ tabled;
    }

pub returns : goal.returns
returns c =
    let marked = marked_from c.args.file.now.declarations.now c.args.file.now.moves.now c.in_default.ensures c.in_default-first_second_move.ensures c.in_default-first_mixed_marks.ensures in
    let tabled = subst (Tabled c.args.file.now.declarations.now c.args.file.now.moves.now) (sym c.as_slice.ensures) c.tabulate_all.ensures in
    accepted-from c.args.file.now.declarations.now c.args.file.now.moves.now marked _ tabled c.gather.result c.gather.ensures
