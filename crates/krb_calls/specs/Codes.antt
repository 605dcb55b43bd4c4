-- The codes of frames that are taken next.
use Rattle.std.specs.Prelude.{◌≡◌, ℕ, List, [], ◌∷◌, Option, Some, None, slice_get, IfSome}
use Rattle.std.specs.Option.{ForSome}
use Rattle.krb_bulk.specs.Four.{AreBoth}
use Rattle.krb_bulk.specs.declared.four.Four.{Four}
use Rattle.krb_keys.specs.Hmac.{hmac96}
use Rattle.krb_seal.specs.declared.coded.Coded.{Coded}
use Rattle.krb_seal.specs.declared.coded.Covered.{Covered}
use Rattle.krb_seal.specs.Covered.{CoversFrame, IsCodedFrame, bytes_of}
use Rattle.krb_seal.specs.Opens.{OpenerState}
use Rattle.krb_calls.specs.declared.frame.KrbFrame.{KrbFrame}

-- What is hashed of a frame: nothing if there is no code to compute.
abbrev pub bytes_in : Option Covered → List ℕ
bytes_in None = []
bytes_in (Some covered) = bytes_of covered

-- They are the codes of these.
abbrev pub AreCodesOf : List ℕ → Four (Option Covered) → Four (List ℕ) → Type 0
AreCodesOf key = AreBoth (λ covered code. code ≡ hmac96 key (bytes_in covered))

-- It was read of the frame with this index, if there is something.
abbrev pub CoversAt : OpenerState → List KrbFrame → ℕ → Option Covered → Type 0
CoversAt o frames k covered =
    (f : KrbFrame) → slice_get frames k ≡ Some f → IfSome covered (CoversFrame o f.bytes.now)

-- The same with its code.
abbrev pub coded_by : Option Covered → List ℕ → Option Coded
coded_by None code = None
coded_by (Some covered) code = Some (record { covered = covered; code = code })

-- They were computed of the first of these frames.
abbrev pub AreCoded : OpenerState → List KrbFrame → List (Option Coded) → Type 0
AreCoded o frames [] = Unit {0}
AreCoded o [] (c ∷ cs) = ⊥
AreCoded o (f ∷ fs) (c ∷ cs) = ForSome c (IsCodedFrame o f.bytes.now) × AreCoded o fs cs
