use Rattle.std.proofs.Common.{rules, arith}
use Rattle.script_syntax.proofs.Lines.{case_read}
use Rattle.script_syntax.proofs.statement.case.Goals as goal

pub returns : goal.returns
returns c = record { goes = λ p. search (rules, case_read); fewer = omega arith }
