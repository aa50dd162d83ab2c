use Rattle.std.proofs.Common.{◌≡◌, arith, rules, tests}
use Rattle.std.proofs.lemmas.Iterator.{IsFirst-from_position, YieldsList-from_slice}
use Rattle.syntax.specs.declared.tree.Head.{Head}
use Rattle.contracts.proofs.Least.{weaker}
use Rattle.contracts.proofs.Lookups.{blank, contract-named, contract_read}
use Rattle.contracts.proofs.names.find_contract.Goals as goal

pub returns : goal.returns
returns c =
    weaker c.position.result
    (IsFirst-from_position _ _ _ (λ (h : Head). h.ident.name ≡ c.args.name) (λ (h : Head). h.ident.name ≡ c.args.name → ⊥) c.position.ensures.ran
    (YieldsList-from_slice c.args.heads.now cc) (λ x q k. search (rules, tests)) (λ x q k. search (rules, tests)))
    (λ none k h. let e = contract_read _ _ _ h in none k blank (omega arith) e.0 e.1)
    (λ k h. contract-named _ _ _ h.0 (h.1 blank))
