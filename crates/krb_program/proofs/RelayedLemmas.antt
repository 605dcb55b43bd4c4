-- What `relay` has printed.
use Rattle.std.proofs.Common.{◌≡◌, ℕ, suc, List, [], ◌∷◌, ◌++◌, length, map, Option, Result, Ok, Err, OnOk, OnErr, IfOk, refl, sym, ap, subst, ◌∙◌, arith, append-nil, inl, inr, ◌⊎◌}
use Rattle.std.specs.List.{concat}
use Rattle.std.specs.Io.KnownBytes.{Appends, Keeps}
use Rattle.std.proofs.KnownBytes.{Appends-trans, Appends-nil}
use Rattle.krb_peers.specs.declared.sending.Sent.{Sent}
use Rattle.krb_peers.specs.LogState.{LogState}
use Rattle.krb_seal.specs.Sealer.{SealerState}
use Rattle.krb_peers.specs.declared.receiver.Receiving.{Receiving}
use Rattle.krb_peers.specs.declared.sending.Sending.{Sending}
use Rattle.krb_peers.specs.Ends.{Ends, lanes_of, sents_of}
use Rattle.krb_peers.specs.Whole.{IsRelayed, IsWhole}
use Rattle.krb_relay.specs.Relayed.{unended}
use Rattle.krb_commands.specs.JobLines.{entry_line, entry_lines, end_lines, are_closed, status_by}
use Rattle.krb_commands.specs.Output.{AppendsPart, AppendsPrefix}
use Rattle.krb_commands.proofs.OutputLemmas.{AppendsPrefix-after, prefix_by_part}
use Rattle.krb_program.specs.Relayed.{relayed_text, PrintsRelayed, PrintsRelayedPrefix}

-- ---- what is printed of a whole relay

-- as many are reported as there are senders
pub sents_many : {S : Type 0} (state : S → SealerState) (sendings : List (Sending S)) (receivings : List Receiving) (sents : List Sent) → length sendings ≡ length receivings
    → sents ≡ sents_of (lanes_of state sendings receivings) → length sents ≡ length sendings
sents_many {S} state sendings receivings sents same are = ap length are ∙ many sendings receivings same
  where
    many : (ss : List (Sending S)) (rs : List Receiving) → length ss ≡ length rs → length (sents_of (lanes_of state ss rs)) ≡ length ss
    many [] rs e = refl
    many (s ∷ ss) [] e = absurd (omega (arith, e))
    many (s ∷ ss) (r ∷ rs) e = ap suc (many ss rs (omega (arith, e)))

module _ (lanes : List Ends) (log : LogState) (old then now : Option (List ℕ)) where
  -- a prefix of the entries of a whole relay
  pub entries_front : (sents : List Sent) → IsWhole lanes log sents → AppendsPart old now (entry_lines log.entries) → PrintsRelayedPrefix lanes old now
  entries_front sents h p = inr (inl (log, subst (λ (l : List Sent). IsWhole lanes log l) h.sealed h, AppendsPrefix-after old old now [] (entry_lines log.entries) (relayed_text lanes log) (Appends-nil old) (prefix_by_part old now (entry_lines log.entries) p) (end_lines 0 (sents_of lanes) log) refl))

  module _ (sents : List Sent) (left : IsWhole lanes log sents) (are : sents ≡ sents_of lanes) (first : Appends old then (concat (map entry_line log.entries))) where
    h : IsWhole lanes log (sents_of lanes)
    h = subst (λ (l : List Sent). IsWhole lanes log l) are left

    -- and how the lanes ended, or a prefix of that
    pub ends_front : AppendsPart then now (end_lines 0 sents log) → PrintsRelayedPrefix lanes old now
    ends_front p =
        let last : relayed_text lanes log ≡ entry_lines log.entries ++ end_lines 0 sents log ++ [] =
        sym (append-nil (entry_lines log.entries ++ end_lines 0 sents log) ∙ ap (λ l. entry_lines log.entries ++ end_lines 0 l log) are) in
        inr (inl (log, h, AppendsPrefix-after old then now (entry_lines log.entries) (end_lines 0 sents log) (relayed_text lanes log) first (prefix_by_part then now (end_lines 0 sents log) p) [] last))

    pub all_relayed : Appends then now (end_lines 0 sents log) → (status : ℕ) → status ≡ status_by (are_closed 0 sents log) → PrintsRelayed lanes old now status
    all_relayed p status is =
        let P : List ℕ → Type 0 = λ l. Appends old now l in (
          log,
          h,
          subst P (ap (λ l. entry_lines log.entries ++ end_lines 0 l log) are) (Appends-trans old then now (entry_lines log.entries) (end_lines 0 sents log) first p),
          is ∙ ap (λ l. status_by (are_closed 0 l log)) are,
        )

    -- by what printing how they ended answered
    pub relayed_by : {E : Type 0} (r : Result ℕ E) → OnOk r (Appends then now (end_lines 0 sents log)) → IfOk r (λ status. status ≡ status_by (are_closed 0 sents log))
        → IfOk r (λ status. PrintsRelayed lanes old now status)
    relayed_by (Ok status) p is = all_relayed p status is
    relayed_by (Err e) p is = tt

    pub front_by : {E : Type 0} (r : Result ℕ E) → OnErr r (AppendsPart then now (end_lines 0 sents log)) → OnErr r (PrintsRelayedPrefix lanes old now)
    front_by (Ok status) p = tt
    front_by (Err e) p = ends_front p

-- a prefix of the entries until a relay stopped, or nothing
pub stopped_front : (lanes : List Ends) (log : LogState) (old now : Option (List ℕ)) → IsRelayed lanes (unended log)
    → Keeps old now ⊎ AppendsPrefix old now (entry_lines log.entries) → PrintsRelayedPrefix lanes old now
stopped_front lanes log old now h (inl kept) = inl kept
stopped_front lanes log old now h (inr front) = inr (inr (log, h, front))
