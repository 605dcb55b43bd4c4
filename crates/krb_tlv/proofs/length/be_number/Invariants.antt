use Rattle.std.proofs.Common.{◌≡◌, take}
use Rattle.krb_tlv.specs.Reading.{be_value}
use Rattle.krb_tlv.proofs.length.be_number.Given as goal

-- the number that the octets so far are
abbrev pub invariant-loop-octet : goal.invariant-loop-octet
invariant-loop-octet l = l.number ≡ be_value (take l.octet-index l.octets)
