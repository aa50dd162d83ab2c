use Rattle.std.proofs.Common.{◌+◌, string_bytes, sym, ap, ◌∙◌, subst, arith}
use Rattle.contracts.specs.Paths.{Longest}
use Rattle.contracts.specs.Rules.{OneWay}
use Rattle.contracts.specs.View.{tables_in}
use Rattle.syntax.specs.declared.tree.Mark.TheVariants.{Out, In}
use Rattle.listing.specs.Listings.{contract_text, Lists, ListsContract, nothing, more, table_of}
use Rattle.listing.proofs.accepted.list_contracts.Goals as goal
use Rattle.listing.proofs.accepted.list_contracts.Goals.{in-Some+in_ok-write, in_default}

pub loop-number-init : goal.loop-number-init
loop-number-init c = subst (Lists (tables_in c.args.set.now) 0) (sym c.new-out.ensures.bytes) nothing

pub loop-number-preserved : goal.loop-number-preserved
loop-number-preserved c =
    elim c.match-contract_lines.branch [
      | in-Some+in_ok-write w ↦
          let x = w.in-Some.contract in
          let ts = tables_in c.args.set.now in
          let k = c.loop-number.number in
          let e = w.in-Some.ensures in
          let listed : ListsContract ts k (contract_text (table_of x.contract) x.out_bound x.in_bound) = record {
            out_bound = x.out_bound;
            in_bound = x.in_bound;
            longest_out = subst (λ t. Longest (OneWay t Out) x.out_bound) e x.longest_out;
            longest_in = subst (λ t. Longest (OneWay t In) x.in_bound) e x.longest_in;
            says = ap (λ t. contract_text t x.out_bound x.in_bound) e;
          } in
          subst (Lists ts (k + 1)) (sym w.in_ok-write.ensures.bytes ∙ ap string_bytes (sym w.out-is)) (more k _ _ c.loop-number.invariant listed)
      | in_default w ↦ absurd (omega (arith, c.loop-number-test.true, c.contract_count-number-end.ensures.answer, w.in_default.ensures))
    ]
