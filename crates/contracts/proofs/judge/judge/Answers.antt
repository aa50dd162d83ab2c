use Rattle.std.proofs.Common.{◌≡◌, rules, tests}
use Rattle.std.proofs.lemmas.Result.{err_from_is_err_and}
use Rattle.syntax.specs.Trees.{parts}
use Rattle.contracts.specs.declared.fault.RuleFault.TheVariants as f
use Rattle.contracts.specs.Judgement.{broken, fault_from, Faulty, Judged, span_of, undeclared}
use Rattle.contracts.proofs.Judging.{mapped, mapped_err, mapped_ok, numbers-at, resolved}
use Rattle.contracts.proofs.judge.judge.Goals as goal

pub returns-in_err-numbered : goal.returns-in_err-numbered
returns-in_err-numbered c =
    let p = err_from_is_err_and c.from_residual.result c.from_residual.ensures.1 in
    rw (p.1, p.2)
    (mapped_err c.resolve.result c.in_err-numbered.field-0.0 _ _ _ (Faulty (parts c.args.tree.now) c.in_err-numbered.field-0.0) c.in_err-numbered.ensures.cases c.resolve.ensures
    (λ d first told. let same : c.in_err-numbered.field-0.0 ≡ f.Undeclared (span_of d) = search (rules, tests) in undeclared d first same))

pub invariant_of-file : goal.invariant_of-file
invariant_of-file c =
    let numbers = mapped_ok _ c.resolve.result c.in_ok-numbered.numbered _ _ c.in_ok-numbered.ensures.cases c.resolve.ensures in
    record {
      resolved = resolved (parts c.args.tree.now) c.as_slice.result.now c.as_slice-2.result.now
          (numbers-at (parts c.args.tree.now) _ c.as_slice.result.now _ c.as_slice-2.result.now c.as_slice.ensures c.as_slice-2.ensures numbers)
          c.requires.ranged c.requires.inhabited;
    }

pub returns : goal.returns
returns c =
    let numbers = mapped_ok _ c.resolve.result c.in_ok-numbered.numbered _ _ c.in_ok-numbered.ensures.cases c.resolve.ensures in
    let n = numbers-at (parts c.args.tree.now) _ c.as_slice.result.now _ c.as_slice-2.result.now c.as_slice.ensures c.as_slice-2.ensures numbers in
    mapped c.accept.result c.map_err-2.result _ _ _ (Judged (parts c.args.tree.now)) c.map_err-2.ensures.cases c.accept.ensures
    (λ set accepted. record { declarations = c.as_slice.result.now; moves = c.as_slice-2.result.now; numbers = n; accepted = accepted })
    (λ rule e breaks told. let same : e ≡ fault_from (parts c.args.tree.now) rule = search (rules, tests) in broken c.as_slice.result.now c.as_slice-2.result.now rule n breaks same)
