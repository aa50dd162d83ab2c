use Rattle.std.proofs.Common.{◌<◌, length, get_or, sym, subst, arith}
use Rattle.std.proofs.lemmas.List.{length-map}
use Rattle.std.proofs.lemmas.Result.{err_from_is_err_and}
use Rattle.contracts.specs.View.{tables_in}
use Rattle.grammar.specs.Rows.{row_items}
use Rattle.script_syntax.specs.Trees.{no_process, processes_of}
use Rattle.script_syntax.proofs.Processes.{read_at}
use Rattle.scripts.specs.Names.{Undeclared}
use Rattle.scripts.specs.Places.{FirstIn}
use Rattle.scripts.specs.Scripts.{ScriptAs, script_of}
use Rattle.scripts.proofs.Resolved.{kept_from, scripts-more}
use Rattle.scripts.proofs.resolution.scripts.Goals as goal

pub returns-in_err-next : goal.returns-in_err-next
returns-in_err-next c =
    let ts = tables_in c.args.contracts.now in
    let p = err_from_is_err_and c.from_residual.result c.from_residual.ensures.1 in
    rw (p.1, p.2) (record {
      process = c.loop-process.process-index;
      within = simp length-map c.loop-process-test.true;
      first = subst (λ x. FirstIn (λ n i. Undeclared ts) x.statements c.in_err-next.field-0.0) (sym (read_at c.args.processes.now c.loop-process.process-index _ c.loop-process-test.true c.process-item.is)) c.in_err-next.ensures;
      before = λ q l. kept_from ts _ _ (c.loop-process.invariant.1 q l).instructions;
    })

pub loop-process-preserved : goal.loop-process-preserved
loop-process-preserved c =
    let ts = tables_in c.args.contracts.now in
    let room : length (row_items c.loop-process.all) < 8 = omega (arith, simp length-map at c.loop-process.invariant.0) in
    scripts-more (λ q y. ScriptAs ts (get_or (processes_of c.args.processes.now) q no_process) y) (row_items c.loop-process.all) (row_items c.push.new.self) c.in_ok-next.next c.loop-process.process-index c.loop-process.invariant (c.push.ensures.room room).1
    (subst (λ x. ScriptAs ts x (script_of c.in_ok-next.next)) (sym (read_at c.args.processes.now c.loop-process.process-index _ c.loop-process-test.true c.process-item.is)) c.in_ok-next.ensures)
