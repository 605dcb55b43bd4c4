-- How the lanes of a log ended, as far as it is printed.
use Rattle.std.proofs.Common.{◌≡◌, ℕ, suc, ◌+◌, ◌&&◌, Bool, List, ◌∷◌, ◌++◌, drop, slice_get, Some, Option, sym, ap, ◌∙◌, arith, append_assoc}
use Rattle.std.specs.Io.KnownBytes.{Appends}
use Rattle.std.proofs.Math.Bool.{and_assoc}
use Rattle.std.proofs.KnownBytes.{Appends-trans}
use Rattle.krb_peers.specs.declared.sending.Sent.{Sent}
use Rattle.krb_peers.specs.Log.{status_of}
use Rattle.krb_peers.specs.LogState.{LogState}
use Rattle.krb_peers.proofs.ListLemmas.{drop_get}
use Rattle.krb_commands.specs.JobLines.{end_line, end_lines, are_closed, is_closed_state}
use Rattle.krb_commands.specs.Output.{AppendsPart}
use Rattle.krb_commands.proofs.OutputLemmas.{AppendsPart-after}

-- the lines of the first lanes are written, and whether all of these were closed is known
pub record HasPrinted (old now : Option (List ℕ)) (sents : List Sent) (log : LogState) (lane : ℕ) (closed : Bool) : Type 0 where
  pub done : List ℕ
  pub written : Appends old now done
  pub lines : end_lines 0 sents log ≡ done ++ end_lines lane (drop lane sents) log
  pub states : are_closed 0 sents log ≡ (closed && are_closed lane (drop lane sents) log)

module _ (old then now : Option (List ℕ)) (sents : List Sent) (log : LogState) (lane : ℕ) (closed : Bool) (h : HasPrinted old then sents log lane closed) (sent : Sent) (at : slice_get sents lane ≡ Some sent) where
  next_line : end_lines lane (drop lane sents) log ≡ end_line lane sent (status_of log lane) ++ end_lines (lane + 1) (drop (lane + 1) sents) log
  next_line = let e : suc lane ≡ lane + 1 = omega arith in ap (λ l. end_lines lane l log) (drop_get sents lane sent at ∙ ap (λ n. sent ∷ drop n sents) e)

  next_state : are_closed lane (drop lane sents) log ≡ (is_closed_state (status_of log lane) && are_closed (lane + 1) (drop (lane + 1) sents) log)
  next_state = let e : suc lane ≡ lane + 1 = omega arith in ap (λ l. are_closed lane l log) (drop_get sents lane sent at ∙ ap (λ n. sent ∷ drop n sents) e)

  pub printed_next : Appends then now (end_line lane sent (status_of log lane)) → HasPrinted old now sents log (lane + 1) (closed && is_closed_state (status_of log lane))
  printed_next p = record {
    done = h.done ++ end_line lane sent (status_of log lane);
    written = Appends-trans old then now h.done (end_line lane sent (status_of log lane)) h.written p;
    lines = h.lines ∙ ap (λ l. h.done ++ l) next_line ∙ sym (append_assoc h.done (end_line lane sent (status_of log lane)) (end_lines (lane + 1) (drop (lane + 1) sents) log));
    states = h.states ∙ ap (λ b. closed && b) next_state ∙ sym (and_assoc closed (is_closed_state (status_of log lane)) (are_closed (lane + 1) (drop (lane + 1) sents) log));
  }

  pub printed_front : AppendsPart then now (end_line lane sent (status_of log lane)) → AppendsPart old now (end_lines 0 sents log)
  printed_front p =
      AppendsPart-after old then now h.done (end_line lane sent (status_of log lane)) (end_lines 0 sents log) h.written p
      (end_lines (lane + 1) (drop (lane + 1) sents) log)
      (h.lines ∙ ap (λ l. h.done ++ l) next_line ∙ sym (append_assoc h.done (end_line lane sent (status_of log lane)) (end_lines (lane + 1) (drop (lane + 1) sents) log)))
