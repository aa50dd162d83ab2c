use Rattle.contracts.proofs.Firsts.{first-all, first_more, payload-first}
use Rattle.contracts.proofs.undeclared.in_messages.Goals as goal

pub loop-message-preserved : goal.loop-message-preserved
loop-message-preserved c = first_more _ _ _ _ _ c.loop-message.invariant (payload-first _ _ _ _ c.payload.ensures c.err.ensures.value) c.earlier-first.ensures

pub returns : goal.returns
returns c = first-all _ _ _ _ c.loop-message.auto.message-index-end c.loop-message-test.false c.loop-message.invariant
