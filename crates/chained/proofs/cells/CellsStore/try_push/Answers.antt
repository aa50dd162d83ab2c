use Rattle.std.proofs.Common.{◌<◌, length, refl, sym, ap, arith, rules}
use Rattle.std.proofs.lemmas.Bool.{false≢true}
use Rattle.chained.specs.Chains.{count_of}
use Rattle.chained.specs.Chained.{waiting}
use Rattle.chained.specs.Cells.{length-waiting, free_cells, free_cell, ranged-set, cell-low, put_here, put_others}
use Rattle.chained.proofs.cells.CellsStore.try_push.Goals.{In-Some, then-count-from-via-then-count-from, then-count-from-via-else-count-from+then-not-is_ranged}
use Rattle.chained.proofs.cells.CellsStore.try_push.Goals as goal

pub returns-then-count-from-clause-answer : goal.returns-then-count-from-clause-answer
returns-then-count-from-clause-answer c =
    let s = c.args.self.now in
    let count = length-waiting s.messages s.links c.args.b.number in
    let same = ap (count_of s.links.tables) c.from-chain.ensures in
    elim c.then-count-from.branch [
      | then-count-from-via-then-count-from w ↦ (refl, λ room. omega (arith, w.if-count-from.true, c.count.ensures.answer, count, same, c.from.ensures, room.1))
      | then-count-from-via-else-count-from+then-not-is_ranged w ↦ (refl, λ room. false≢true (w.if-not-is_ranged.ensures.answer.1 room.0))
    ]

pub returns-in_default-clause-answer : goal.returns-in_default-clause-answer
returns-in_default-clause-answer c =
    let s = c.args.self.now in
    (refl, λ room. omega (arith, free_cell s.messages s.links room.2, c.in_default.ensures.first))

pub invariant_of-self-2 : goal.invariant_of-self-2
invariant_of-self-2 c =
    let s = c.args.self.now in
    let b = c.from-chain.result in
    let x = c.in-Some.cell in
    let low : b < 64 = omega (arith, c.from-chain.ensures, c.args.b.below) in
    let first = c.in-Some.ensures.first in
    let inside = cell-low s.messages s.links c.shift.new.self b x c.args.message low s.size first.0 first.1 c.in-Some.ensures.moved in
    record { size = search rules; ranged = ranged-set s.messages x c.args.message inside (c.if-not-is_ranged.ensures.answer.0 refl) s.ranged }

pub returns : goal.returns
returns c =
    let s = c.args.self.now in
    let b = c.from-chain.result in
    let e = c.from-chain.ensures in
    let x = c.in-Some.cell in
    let low : b < 64 = omega (arith, e, c.args.b.below) in
    let first = c.in-Some.ensures.first in
    let moved = c.in-Some.ensures.moved in
    let same = ap (count_of s.links.tables) c.from-chain.ensures in
    let room : length (waiting s.messages s.links c.args.b.number) < c.args.limit.number =
    omega (arith, c.if-count-from.false, c.count.ensures.answer, c.from.ensures, length-waiting s.messages s.links c.args.b.number, same) in
    record {
      answer = (c.if-not-is_ranged.ensures.answer.0 refl, room, omega (arith, free_cells s.messages s.links, first.0));
      here = rw (sym e) (put_here s.messages s.links c.shift.new.self b x c.args.message low s.size first.0 first.1 moved);
      others = rw (sym e) (put_others s.messages s.links c.shift.new.self b x c.args.message low s.size first.0 first.1 moved);
    }
