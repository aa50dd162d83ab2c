use Rattle.carriers.specs.Waiting.{waiting-none}
use Rattle.carriers.proofs.rows.RowsStore.new.Goals as goal

pub returns : goal.returns
returns c = record { none = λ b h. waiting-none c.new.result 64 b c.new.ensures.none }
