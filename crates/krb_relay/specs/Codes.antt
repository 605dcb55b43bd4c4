-- The integrity codes of the frames that wait first.
use Rattle.std.specs.Prelude.{◌≡◌, ℕ, List, [], ◌∷◌, Option, Some, None}
use Rattle.krb_keys.specs.BatchMac.{HoldsBatchKey}
use Rattle.krb_peers.specs.declared.receiver.Receiving.{Receiving}
use Rattle.krb_seal.specs.declared.coded.Coded.{Coded}
use Rattle.krb_seal.specs.Covered.{CoversFrame, IsCodedFrame, bytes_of, code_key_of}
use Rattle.krb_relay.specs.declared.codes.Keyed.{Keyed}
use Rattle.krb_relay.specs.declared.waiting.Waiting.{Waiting}

-- The key is that of the lane's receiver, and the bytes are those that the code of its first frame is
-- computed over.
pub record IsKeyed (r : Receiving) (w : Waiting) (k : Keyed) : Type 0 where
  pub key : HoldsBatchKey k.mac.now (code_key_of r.receiver.opener)
  pub covers : (frame : List ℕ) (rest : List (List ℕ)) → w.frames.items ≡ frame ∷ rest
      → CoversFrame r.receiver.opener frame k.covered

-- What is hashed: nothing if there is no code to compute.
abbrev pub bytes_in : Option Keyed → List ℕ
bytes_in None = []
bytes_in (Some k) = bytes_of k.covered

-- The same with its code.
abbrev pub coded_by : Option Keyed → List ℕ → Option Coded
coded_by None code = None
coded_by (Some k) code = Some (record { covered = k.covered; code = code })

-- It is the code of the lane's first frame.
abbrev pub IsCodedFirst : Receiving → Waiting → Coded → Type 0
IsCodedFirst r w c =
    (frame : List ℕ) (rest : List (List ℕ)) → w.frames.items ≡ frame ∷ rest
    → IsCodedFrame r.receiver.opener frame c
