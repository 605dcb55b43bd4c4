use Rattle.std.proofs.Common.{◌≡◌, ◌∷◌, take}
use Rattle.std.specs.List.{flat_map}
use Rattle.krb_record.specs.Batch.{text_bytes}
use Rattle.krb_record.proofs.batch.batch_bytes.Given as goal

-- the texts so far are written
abbrev pub invariant-loop-text : goal.invariant-loop-text
invariant-loop-text l = l.bytes.items ≡ 0x42 ∷ flat_map text_bytes (take l.text-index l.texts)
