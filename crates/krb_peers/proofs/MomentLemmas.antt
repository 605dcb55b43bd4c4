-- A frame tells when it was sealed.
use Rattle.std.proofs.Common.{◌≡◌, ℕ, Some, Ok, refl, ap, subst, arith}
use Rattle.krb_der.specs.declared.body.Body.{Body}
use Rattle.krb_der.specs.Moment.{secs_of, usec_of}
use Rattle.krb_record.specs.Record.{bytes_of}
use Rattle.krb_seal.specs.declared.session.Expect.{Expect}
use Rattle.krb_seal.specs.Authentic.{Authenticity, Authenticates}
use Rattle.krb_seal.specs.Opens.{OpenerState, opener_of}
use Rattle.krb_seal.specs.Seals.{body_of}
use Rattle.krb_seal.specs.Sealer.{SealerState}
use Rattle.krb_seal.proofs.Authentics.{sealed_is_authentic}
use Rattle.krb_seal.proofs.Outcomes.{one_authenticity}
use Rattle.krb_peers.specs.Session.{Sealed, SealsAt}

same_body : (a b : Body) → ◌≡◌ {A = Authenticity} (Ok a) (Ok b) → a ≡ b
same_body a b e = cc

pub one_moment : (sealer : SealerState) (x : Expect) (n m : ℕ) (a b : Sealed) → SealsAt sealer n a → SealsAt sealer m b → a.frame ≡ b.frame → a.at ≡ b.at
one_moment sealer x n m a b seals others same =
    let s = sealer.session in
    let mine : Expect = record x { mode = s.mode } in
    let o : OpenerState = opener_of sealer.etype sealer.key mine in
    let one : Body = body_of s n (bytes_of a.carried) a.at in
    let other : Body = body_of s m (bytes_of b.carried) b.at in
    let first : Authenticates o a.frame (Ok one) = sealed_is_authentic sealer.etype sealer.key s mine n a.at (bytes_of a.carried) seals.confounder a.frame seals.seals refl in
    let second : Authenticates o b.frame (Ok other) = sealed_is_authentic sealer.etype sealer.key s mine m b.at (bytes_of b.carried) others.confounder b.frame others.seals refl in
    let is : one ≡ other = same_body one other (one_authenticity o b.frame (Ok one) (Ok other) (subst (λ f. Authenticates o f (Ok one)) same first) second) in
    let secs : secs_of a.at ≡ secs_of b.at = (let e : Some (secs_of a.at) ≡ Some (secs_of b.at) = ap (λ (body : Body). body.time) is in cc) in
    let usec : usec_of a.at ≡ usec_of b.at = (let e : Some (usec_of a.at) ≡ Some (usec_of b.at) = ap (λ (body : Body). body.usec) is in cc) in
    omega (arith, secs, usec)
