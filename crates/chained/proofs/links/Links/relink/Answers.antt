use Rattle.std.proofs.Common.{◌≡◌, Option, Some, None, get_or, set, refl, sym, ap, ◌∙◌, subst, arith, rules}
use Rattle.std.proofs.lemmas.List.{get_or-set_other}
use Rattle.chained.specs.declared.links.Chain.{Chain}
use Rattle.chained.specs.Chains.{count_in, head_in, Linked}
use Rattle.chained.proofs.Relink.{count_is, tail_low, count_fits, Relinked, relinked}
use Rattle.chained.proofs.links.Links.relink.Goals.{After-link}
use Rattle.chained.proofs.links.Links.relink.Goals as goal

after :
    (c : After-link) (o : Option Chain) → get_or c.args.self.now.tables.chains c.args.from None ≡ o →
    Relinked c.args.self.now c.args.from c.args.to c.args.part.now.count
    (record { next = c.link.new.next; chains = set (set c.args.self.now.tables.chains c.args.from c.cut.new.chain) c.args.to c.link.new.front })
after c None is = absurd (omega (arith, c.requires.some.0, c.requires.some.1, count_is c.args.self.now.tables c.args.from, ap count_in is))
after c (Some w) is =
    let s = c.args.self.now in
    let p = c.args.part.now in
    let ne = c.requires.numbered.1.1 in
    let old : get_or (set s.tables.chains c.args.from c.cut.new.chain) c.args.to None ≡ get_or s.tables.chains c.args.to None =
    get_or-set_other s.tables.chains c.args.from c.args.to c.cut.new.chain None (λ e. ne (sym e)) in
    let linked : Linked (get_or s.tables.chains c.args.to None) p s.tables.next c.link.new.front c.link.new.next =
    subst (λ o. Linked o p s.tables.next c.link.new.front c.link.new.next) old c.link.ensures in
    relinked s c.args.from c.args.to p.count p.tail w
    c.requires.numbered.0 c.requires.numbered.1.0 ne c.requires.some.0 c.requires.some.1 c.requires.last is
    c.cut.new.chain (c.cut.ensures.none w is) (c.cut.ensures.left w is) c.link.new.front c.link.new.next
    (subst (λ h. Linked (get_or s.tables.chains c.args.to None) (record { head = h; tail = p.tail; count = p.count }) s.tables.next c.link.new.front c.link.new.next)
    (c.requires.first ∙ ap head_in is) linked)

pub link-requires-clause-end : goal.link-requires-clause-end
link-requires-clause-end c =
    let s = c.args.self.now in
    rw (get_or-set_other s.tables.chains c.args.from c.args.to _ None (λ e. c.requires.numbered.1.1 (sym e))) (tail_low s c.args.to c.requires.numbered.1.0)

pub link-requires-clause-fits : goal.link-requires-clause-fits
link-requires-clause-fits c =
    let s = c.args.self.now in
    rw (get_or-set_other s.tables.chains c.args.from c.args.to _ None (λ e. c.requires.numbered.1.1 (sym e)))
    (omega (arith, count_fits s c.args.from c.args.to c.requires.numbered.0 c.requires.numbered.1.0 c.requires.numbered.1.1, c.requires.some.1))

pub returns : goal.returns
returns c = record { moved = (after (goal.at.returns c).After-link _ refl).moved }

pub invariant_of-self : goal.invariant_of-self
invariant_of-self c =
    let s = after (goal.at.invariant_of-self c).After-link _ refl in
    record { sizes = search rules; below = s.below; apart = s.apart; ends = s.ends; total = s.total }
