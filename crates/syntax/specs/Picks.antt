-- What the grammar of contract files reads off a fetched word: in_message, in_cargo and in_way are what a word says, if it is one that is asked for.
use Rattle.std.specs.Prelude.{cond, Some, None, Option}
use Rattle.words.specs.declared.word.Keyword.TheVariants as k
use Rattle.words.specs.declared.word.Mark.TheVariants as m
use Rattle.words.specs.Signs.{Sign}
use Rattle.grammar.specs.Table.{is_key, is_mark}
use Rattle.syntax.specs.declared.tree.Mark.{Mark}
use Rattle.syntax.specs.declared.tree.Mark.TheVariants.{Out, In}
use Rattle.syntax.specs.declared.tree.Role.TheVariants.{Exporting, Importing}
use Rattle.syntax.specs.declared.cargo.Cargo.{Cargo}
use Rattle.syntax.specs.declared.cargo.Cargo.TheVariants as c

abbrev pub in_message : Sign → Option (Option Mark)
in_message x =
    cond (is_key k.Out x) (Some (Some Out)) (cond (is_key k.In x) (Some (Some In)) (cond (is_key k.State x) (Some None) None))

abbrev pub in_cargo : Sign → Option Cargo
in_cargo x =
    cond (is_key k.Block x) (Some c.Block)
    (cond (is_key k.Exp x) (Some (c.End Exporting))
    (cond (is_key k.Imp x) (Some (c.End Importing)) (cond (is_mark m.Semicolon x) (Some c.Nothing) None)))

abbrev pub in_way : Sign → Option Mark
in_way x = cond (is_mark m.Bang x) (Some Out) (cond (is_mark m.Question x) (Some In) None)
