use Rattle.std.proofs.Common.{◌<◌, length, sym, subst}
use Rattle.contracts.specs.declared.declaration.Declaration.{Declaration}
use Rattle.std.proofs.lemmas.List.{get_or_default}
use Rattle.contracts.specs.Numbers.{messages_in, states_in, undeclared}
use Rattle.contracts.proofs.Tabulated.{declared-at, small_at}
use Rattle.contracts.proofs.tabulate.tabulate.Goals as goal

pub fill-requires : goal.fill-requires
fill-requires c = record {
  small = λ i l mine. small_at c.args.file.now.declarations.now c.args.file.now.moves.now c.args.file.now.resolved i l;
  once = c.requires.once;
}

pub invariant_of-result : goal.invariant_of-result
invariant_of-result c = record {
  declared = λ v.
      let Below : Declaration → Type 0 = λ d. (v.from < length (states_in d)) × (v.by < length (messages_in d)) × (v.to < length (states_in d)) in
      subst Below (sym (get_or_default c.args.file.now.declarations.now c.args.c _ undeclared c.requires.within)) (declared-at c.args.file.now.declarations.now c.args.file.now.moves.now c.args.file.now.resolved c.args.c v.from v.by v.to (c.fill.ensures.listed v.from v.by v.to v.goes));
}

pub returns : goal.returns
returns c = record { declaration = get_or_default c.args.file.now.declarations.now c.args.c _ undeclared c.requires.within; listed = c.fill.ensures.listed; goes = c.fill.ensures.goes }
