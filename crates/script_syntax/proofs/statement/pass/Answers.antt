use Rattle.std.proofs.Common.{rules, arith}
use Rattle.script_syntax.proofs.Lines.{pass_read}
use Rattle.script_syntax.proofs.statement.pass.Goals as goal

pub returns : goal.returns
returns c = record { goes = λ p. search (rules, pass_read); fewer = omega arith }
