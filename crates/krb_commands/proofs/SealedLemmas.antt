-- What `seal` has printed.
use Rattle.std.proofs.Common.{◌≡◌, ℕ, List, [], ◌++◌, Option, append-nil, append_assoc, sym, ap, subst, ◌∙◌, inr}
use Rattle.std.specs.Io.KnownBytes.{Appends}
use Rattle.std.proofs.KnownBytes.{Appends-trans}
use Rattle.krb_peers.specs.declared.sending.Sent.{Sent}
use Rattle.krb_peers.specs.Sender.{Source}
use Rattle.krb_peers.specs.Wire.{IsWire}
use Rattle.krb_peers.specs.Sending.{sent_of}
use Rattle.krb_commands.specs.JobLines.{frame_lines, sent_line}
use Rattle.krb_commands.specs.Output.{AppendsPrefix}
use Rattle.krb_commands.specs.Sealed.{sealed_text, PrintsSealed, PrintsSealedPrefix}
use Rattle.krb_commands.proofs.OutputLemmas.{AppendsPrefix-after}

module _ (source : Source) (wire : List (List ℕ)) (is : IsWire source wire) (old then now : Option (List ℕ)) where
  sent_last : (sent : Sent) → sent ≡ sent_of source → frame_lines wire ++ sent_line sent ≡ sealed_text source wire
  sent_last sent same = ap (λ s. frame_lines wire ++ sent_line s) same

  -- the frames are printed, or a prefix of them
  pub prefix_of_frames : AppendsPrefix old now (frame_lines wire) → PrintsSealedPrefix source old now
  prefix_of_frames h =
      inr (
        wire,
        is,
        (
          h.0,
          h.1,
          (
            h.2.0 ++ sent_line (sent_of source),
            ap (λ l. l ++ sent_line (sent_of source)) h.2.1 ∙ append_assoc h.0 h.2.0 (sent_line (sent_of source)),
          ),
        ),
      )

  pub prefix_of_sent : Appends old then (frame_lines wire) → (sent : Sent) → sent ≡ sent_of source → AppendsPrefix then now (sent_line sent) → PrintsSealedPrefix source old now
  prefix_of_sent h sent same p =
      inr (
        wire,
        is,
        AppendsPrefix-after old then now (frame_lines wire) (sent_line sent) (sealed_text source wire) h p
            [] (sym (append-nil (frame_lines wire ++ sent_line sent) ∙ sent_last sent same)),
      )

  pub all_printed : Appends old then (frame_lines wire) → (sent : Sent) → sent ≡ sent_of source → Appends then now (sent_line sent) → PrintsSealed source old now
  all_printed h sent same p =
      let P : List ℕ → Type 0 = λ l. Appends old now l in
      (wire, is, subst P (sent_last sent same) (Appends-trans old then now (frame_lines wire) (sent_line sent) h p))
