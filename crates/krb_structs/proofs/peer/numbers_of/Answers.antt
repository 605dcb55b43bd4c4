use Rattle.std.proofs.Common.{inl, refl}
use Rattle.krb_structs.proofs.peer.numbers_of.Goals as goal

pub returns-in-None-clause-answer : goal.returns-in-None-clause-answer
returns-in-None-clause-answer c =
    inl (λ can. c.in-None.ensures.none refl can.is_export.0 can.is_export.1.0 can.is_export.1.1, refl)
