use Rattle.std.proofs.Common.{subst, sym, ◌∙◌}
use Rattle.krb_seal.specs.Covered.{IsCodedFrame}
use Rattle.krb_seal.specs.Opens.{OpenerState}
use Rattle.krb_seal.proofs.opener.Opener.unseal_coded.Goals as goal

pub unseal_coded-requires : goal.unseal_coded-requires
unseal_coded-requires c =
    record { coded = subst (λ (o : OpenerState). IsCodedFrame o c.args.frame.now c.in-Some.coded) (sym (c.new.ensures ∙ c.self.view_is)) (c.requires.coded c.in-Some.coded c.in-Some.is) }
