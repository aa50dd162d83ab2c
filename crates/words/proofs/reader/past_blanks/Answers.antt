use Rattle.std.proofs.Common.{ap, ◌∙◌, arith}
use Rattle.std.specs.List.{prefix_len}
use Rattle.std.proofs.lemmas.List.{take_rest}
use Rattle.std.proofs.lemmas.List.Sums.{prefix_len-drop_all}
use Rattle.words.specs.Runs.{blank}
use Rattle.words.proofs.reader.past_blanks.Goals as goal

pub returns-then-at-text : goal.returns-then-at-text
returns-then-at-text c = omega (arith, prefix_len-drop_all blank c.args.text.now c.args.at c.if-at-text.true)

pub returns : goal.returns
returns c = omega (arith, c.blanks.ensures.value ∙ ap (prefix_len blank) (take_rest c.args.text.now c.args.at))
