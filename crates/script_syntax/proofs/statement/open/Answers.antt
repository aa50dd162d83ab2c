use Rattle.std.proofs.Common.{rules, arith}
use Rattle.script_syntax.proofs.Lines.{open_read}
use Rattle.script_syntax.proofs.statement.open.Goals as goal

pub returns : goal.returns
returns c = record { goes = λ p. search (rules, open_read); fewer = omega arith }
