use Rattle.std.proofs.Common.{refl, ◌∙◌, sym, ◌&&◌, ap}
use Rattle.std.proofs.lemmas.Bool.{eq-eqb}
use Rattle.listing.specs.Offers.{alike}
use Rattle.listing.proofs.Alike.{alike_is}
use Rattle.listing.proofs.offer.Exchange.agrees.Goals as goal

pub returns-then-self-other : goal.returns-then-self-other
returns-then-self-other c =
    let a = c.args.self.now in
    let b = c.args.other.now in
    c.eq.ensures ∙ alike_is _ refl refl refl refl a.kinds b.kinds ∙ sym (ap (λ t. t && alike a.kinds b.kinds) (eq-eqb a.message b.message c.if-self-other.true))
