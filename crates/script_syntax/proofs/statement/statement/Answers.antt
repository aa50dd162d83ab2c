use Rattle.std.proofs.Common.{rules, arith}
use Rattle.script_syntax.proofs.Lines.{new_read, put_read, free_read, close_read, receive_read, lost_read, jump_read, end_read}
use Rattle.script_syntax.proofs.statement.statement.Goals as goal

pub returns-in_ok-small-in-New : goal.returns-in_ok-small-in-New
returns-in_ok-small-in-New c = record { goes = λ p. search (rules, new_read); fewer = omega arith }

pub returns-in_ok-small-in-Put-3 : goal.returns-in_ok-small-in-Put-3
returns-in_ok-small-in-Put-3 c = record { goes = λ p. search (rules, put_read); fewer = omega arith }

pub returns-in_ok-small-in-Free : goal.returns-in_ok-small-in-Free
returns-in_ok-small-in-Free c = record { goes = λ p. search (rules, free_read); fewer = omega arith }

pub returns-in_ok-small-in-Close : goal.returns-in_ok-small-in-Close
returns-in_ok-small-in-Close c = record { goes = λ p. search (rules, close_read); fewer = omega arith }

pub returns-in_ok-small-in-Receive-2 : goal.returns-in_ok-small-in-Receive-2
returns-in_ok-small-in-Receive-2 c = record { goes = λ p. search (rules, receive_read); fewer = omega arith }

pub returns-in_ok-distance-in-Lost : goal.returns-in_ok-distance-in-Lost
returns-in_ok-distance-in-Lost c = record { goes = λ p. search (rules, lost_read); fewer = omega arith }

pub returns-in_ok-distance-in-Jump : goal.returns-in_ok-distance-in-Jump
returns-in_ok-distance-in-Jump c = record { goes = λ p. search (rules, jump_read); fewer = omega arith }

pub returns-in-End : goal.returns-in-End
returns-in-End c = record { goes = λ p. search (rules, end_read); fewer = omega arith }
