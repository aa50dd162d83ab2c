use Rattle.std.proofs.Common.{rules, arith}
use Rattle.script_syntax.proofs.Lines.{send_read}
use Rattle.script_syntax.proofs.statement.send.Goals as goal

pub returns : goal.returns
returns c = record { goes = λ p. search (rules, send_read); fewer = omega arith }
