use Rattle.std.proofs.Common.{ℕ, ◌<◌, List, length, refl, ap, subst, arith, rules}
use Rattle.words.specs.declared.name.Ident.{Ident}
use Rattle.contracts.specs.Names.{StateIn}
use Rattle.contracts.proofs.Lookups.{states_read}
use Rattle.contracts.proofs.Targets.{row_small}
use Rattle.contracts.proofs.number.target_of.Goals as goal

pub overflow_cast-result : goal.overflow_cast-result
overflow_cast-result c = let l : c.in-Some.s < 16 = omega (arith, row_small c.index-heads-entry.result.states, ap length c.as_slice.ensures, c.in-Some.ensures.0) in search rules

pub returns-in-Some : goal.returns-in-Some
returns-in-Some c =
    let Named : List Ident → Type 0 = λ ss. StateIn ss c.args.entry.step.target.name c.in-Some.s in
    subst Named (states_read c.args.tree.now _ c.args.entry.contract _ c.heads.ensures c.index-heads-entry.is _ c.requires c.as_slice.ensures) c.in-Some.ensures

pub returns-in-None : goal.returns-in-None
returns-in-None c =
    let Unnamed : List Ident → Type 0 = λ ss. (s : ℕ) → StateIn ss c.args.entry.step.target.name s → ⊥ in
    (refl, subst Unnamed (states_read c.args.tree.now _ c.args.entry.contract _ c.heads.ensures c.index-heads-entry.is _ c.requires c.as_slice.ensures) c.in-None.ensures)
