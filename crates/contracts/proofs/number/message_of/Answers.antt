use Rattle.std.proofs.Common.{ℕ, List, subst, MatchOption}
use Rattle.syntax.specs.declared.tree.Message.{Message}
use Rattle.contracts.specs.Names.{MessageIn}
use Rattle.contracts.proofs.Lookups.{messages_read, named_or}
use Rattle.contracts.proofs.number.message_of.Goals as goal

pub returns : goal.returns
returns c =
    let Found : List Message → Type 0 = λ ms. MatchOption c.find_message.result ((m : ℕ) → MessageIn ms c.args.entry.step.message.name m → ⊥) (MessageIn ms c.args.entry.step.message.name) in
    named_or _ _ _ _ _ c.ok_or.ensures.value
    (subst Found (messages_read c.args.tree.now _ c.args.entry.contract _ c.heads.ensures c.index-heads-entry.is _ c.requires c.as_slice.ensures) c.find_message.ensures)
