use Rattle.std.proofs.Common.{ap, ◌∙◌}
use Rattle.carriers.specs.Tables.{boxes_from}
use Rattle.carriers.specs.Tabled.{boxes_none}
use Rattle.carriers.proofs.limited.Limited.new.Goals as goal

pub returns : goal.returns
returns g c =
    let q = g.S.Store.waiting c.new-2.result in
    record { boxes = ap (λ ls. boxes_from ls q) c.new.ensures.limits ∙ boxes_none q }
