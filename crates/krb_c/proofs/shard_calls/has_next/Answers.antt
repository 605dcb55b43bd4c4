-- The session of the place is the one whose number is compared.
use Rattle.std.specs.Prelude.{ℕ, ◌≡◌, ◌+◌, ◌<◌, nat_lt, true}
use Rattle.std.proofs.Common.{arith, subst, sym}
use Rattle.std.proofs.lemmas.Bool.{lt-ltb, ltb-true}
use Rattle.krb_engine.specs.declared.receiving.Receiving.{Receiving}
use Rattle.krb_c.proofs.shard_calls.has_next.Goals as goal

pub returns : goal.returns
returns c =
    let session : Receiving = c.session.result.now in let n : ℕ = session.drafted.demanded.number in (
      λ is other. subst (λ (r : Receiving). r.drafted.demanded.number + 1 < 18446744073709551616) (c.session.ensures other)
          (omega (arith, ltb-true n 18446744073709551615 is)),
      λ fits. lt-ltb n 18446744073709551615 (omega (arith, subst (λ (r : Receiving). r.drafted.demanded.number + 1 < 18446744073709551616) (sym (c.session.ensures session)) (fits session))),
    )
