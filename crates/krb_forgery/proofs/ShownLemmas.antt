-- What a covered frame shows.
use Rattle.std.proofs.Common.{ℕ, List, refl}
use Rattle.krb_der.specs.declared.message.Message.TheVariants as messages
use Rattle.krb_seal.specs.declared.coded.Covered.{Covered}
use Rattle.krb_seal.specs.declared.coded.Covered.TheVariants as covered
use Rattle.krb_seal.specs.Covered.{CoversFrame, bytes_of}
use Rattle.krb_seal.specs.Opens.{OpenerState}
use Rattle.krb_forgery.specs.Forgery.{Has, code_in}

pub covers_has : (o : OpenerState) (frame : List ℕ) (it : Covered) → CoversFrame o frame it → Has o.key frame (bytes_of it) (code_in it)
covers_has o frame (covered.Safe m bytes) covers = record { message = messages.Safe m; spells = covers.0; has = (covers.3, refl) }
covers_has o frame (covered.Priv m text tag) covers = record { message = messages.Priv m; spells = covers.0; has = covers.3 }
