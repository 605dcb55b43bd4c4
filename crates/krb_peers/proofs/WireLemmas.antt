-- What a sender puts on its wire.
use Rattle.std.proofs.Common.{◌≡◌, ℕ, true, false, List, Option, sym, ap, ◌∙◌}
use Rattle.krb_record.specs.declared.plan.Emit.{Emit}
use Rattle.krb_peers.specs.Plan.{is_planned, wire}
use Rattle.krb_peers.specs.Sender.{IsWithinLimits, Source, records, AreFrames}
use Rattle.krb_peers.specs.Verdicts.{AllBytes}
use Rattle.krb_peers.specs.Wire.{IsWire, IsBad}

module _ (source : Source) (plan : Option (List Emit)) (plan_is : source.plan ≡ plan) (frames : List (List ℕ)) (sealed : AreFrames source (records source) frames) where
  -- what its plan makes of the frames is the wire
  pub wire_of : (emitted : List (List ℕ)) → is_planned frames plan ≡ true → emitted ≡ wire frames plan → AllBytes emitted → IsWithinLimits source → IsWire source emitted
  wire_of emitted planned is bytes fits = record {
    frames = frames;
    sealed = sealed;
    planned = ap (λ p. is_planned frames p) plan_is ∙ planned;
    wire_is = is ∙ ap (λ p. wire frames p) (sym plan_is);
    bytes = bytes;
    fits = fits;
  }

  pub bad_by : is_planned frames plan ≡ false → IsBad source
  bad_by bad = record { frames = frames; sealed = sealed; not_planned = ap (λ p. is_planned frames p) plan_is ∙ bad }
