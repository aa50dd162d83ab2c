use Rattle.std.proofs.Common.{List, refl, ap, subst}
use Rattle.contracts.specs.View.{tables_in}
use Rattle.script_syntax.specs.Trees.{parts, ProcessParts, processes_of}
use Rattle.grammar.specs.Rows.{row_items}
use Rattle.scripts.specs.declared.fault.ScriptFault.TheVariants as f
use Rattle.scripts.specs.Judgement.{Faulty, «jump-outside», Kept, undeclared, «wrong-payload»}
use Rattle.scripts.specs.Scripts.{scripts_of}
use Rattle.scripts.proofs.Accepted.{sound}
use Rattle.scripts.proofs.Resolved.{all-declared}
use Rattle.scripts.proofs.judge.judge.Goals as goal

pub returns-in-Err-clause-answer : goal.returns-in-Err-clause-answer
returns-in-Err-clause-answer c =
    subst (λ (ps : List ProcessParts). Faulty (tables_in c.args.contracts.now) ps (f.Undeclared c.in-Err.span))
    (ap processes_of c.processes-processes.ensures) (undeclared c.in-Err.span c.in-Err.ensures refl)

pub returns-in-Some-clause-answer : goal.returns-in-Some-clause-answer
returns-in-Some-clause-answer c =
    subst (λ (ps : List ProcessParts). Faulty (tables_in c.args.contracts.now) ps (f.WrongPayload c.in-Some.span))
    (ap processes_of c.processes-processes.ensures)
    («wrong-payload» c.in-Some.span (all-declared _ _ _ c.in-Ok.ensures) c.in-Some.ensures refl)

pub returns-in-Some-earliest-clause-answer : goal.returns-in-Some-earliest-clause-answer
returns-in-Some-earliest-clause-answer c =
    subst (λ (ps : List ProcessParts). Faulty (tables_in c.args.contracts.now) ps (f.JumpOutside c.in-Some-earliest.span))
    (ap processes_of c.processes-processes.ensures)
    («jump-outside» c.in-Some-earliest.span (all-declared _ _ _ c.in-Ok.ensures) c.in_default.ensures c.in-Some-earliest.ensures refl)

pub returns : goal.returns
returns c =
    let kept = subst (λ (ps : List ProcessParts). Kept (tables_in c.args.contracts.now) ps (scripts_of (row_items c.in-Ok.all)))
    (ap processes_of c.processes-processes.ensures)
    (record {
      keeps = record { declared = all-declared _ _ _ c.in-Ok.ensures; payloads = c.in_default.ensures; jumps = c.in_default-earliest.ensures };
      scripts = c.in-Ok.ensures;
    })
    in record { answer = kept; sound = sound (tables_in c.args.contracts.now) (parts c.args.tree.now) _ c.requires.ranged c.requires.distinct kept }
