use Rattle.std.proofs.Common.{sym, ◌∙◌}
use Rattle.std.proofs.lemmas.Bool.{false≢true}
use Rattle.syntax.specs.declared.tree.Mark.{Mark}
use Rattle.syntax.specs.declared.tree.Mark.TheVariants.{Out, In}
use Rattle.contracts.specs.Paths.{OnCycle}
use Rattle.contracts.specs.Rules.{OneWay}
use Rattle.contracts.proofs.states.cycling.Goals as goal

-- a cycle has one of the two marks
one_of : (P : Mark → Type 0) (Q : Type 0) → (P Out → Q) → (P In → Q) → (d : Mark) → P d → Q
one_of P Q out in' Out p = out p
one_of P Q out in' In p = in' p

pub returns-else-after-s : goal.returns-else-after-s
returns-else-after-s c = (
  λ e. (c.requires.within, (In, (c.after-else-after-s.ensures c.args.s).0 e)),
  λ h. one_of (λ d. OnCycle (OneWay c.args.t.now d) c.args.s) _ (λ out. absurd (false≢true (sym c.if-after-s.false ∙ (c.after.ensures c.args.s).1 out)))
      (c.after-else-after-s.ensures c.args.s).1 h.1.0 h.1.1,
)
