use Rattle.std.proofs.Common.{length, sym, ap, subst, arith}
use Rattle.std.proofs.lemmas.List.{length-map}
use Rattle.contracts.specs.Acceptance.{Each}
use Rattle.contracts.specs.Transfers.{Lawful}
use Rattle.contracts.proofs.set.accept.gather.Goals as goal

pub returns-in-Some-earliest-2 : goal.returns-in-Some-earliest-2
returns-in-Some-earliest-2 c = (c.in_default.ensures, c.in_default-earliest.ensures, c.in-Some-earliest-2.ensures)

pub build-requires : goal.build-requires
build-requires c = record {
  some = c.requires.some;
  few = c.requires.few;
  ruled = λ k l. record {
    inhabited = c.requires.inhabited k l;
    positional = c.requires.positional k l;
    reachable = c.in_default.ensures k l;
    synchronising = c.in_default-earliest.ensures k l;
  };
}

pub invariant_of-result : goal.invariant_of-result
invariant_of-result c = record {
  some = let e = simp length-map at (ap length c.build.ensures) in omega (arith, e, c.requires.some);
  lawful = subst (λ ts. Each (Lawful ts) ts) (sym c.build.ensures) c.in_default-earliest-2.ensures;
}

pub returns : goal.returns
returns c = (
  c.build.ensures,
  record { reachable = c.in_default.ensures; synchronising = c.in_default-earliest.ensures; lawful = c.in_default-earliest-2.ensures },
)
