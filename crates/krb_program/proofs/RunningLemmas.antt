-- A flush after a command.
use Rattle.std.proofs.Common.{◌≡◌, ◌<◌, length, inl, inr, List, ℕ, Option, Some, None, Result, Ok, Err, IfSome, IfOk, IfErr, OnErr, IsErr, refl, sym, ap, subst}
use Rattle.std.specs.Io.KnownBytes.{Appends, Keeps}
use Rattle.std.proofs.KnownBytes.{Keeps-refl, Keeps-trans}
use Rattle.krb_job.specs.declared.bad_input.BadInput.{BadInput}
use Rattle.krb_job.specs.declared.job.Command.TheVariants as job
use Rattle.krb_commands.specs.declared.fault.Fault.{Fault}
use Rattle.krb_commands.specs.declared.fault.Fault.TheVariants as fault
use Rattle.krb_commands.specs.declared.fault.KeyFault.{KeyFault}
use Rattle.krb_commands.specs.declared.fault.KeyFault.TheVariants.{Missing, NoKey, NoType, OtherType, Unreadable}
use Rattle.krb_commands.specs.Key.{HasOtherType, key_in}
use Rattle.krb_commands.specs.Fault.{IsOfKey, IsOfNoJob}
use Rattle.krb_commands.specs.Input.{input_limit}
use Rattle.krb_commands.specs.Output.{AppendsPrefix}
use Rattle.krb_commands.proofs.OutputLemmas.{AppendsPrefix-whole}
use Rattle.krb_commands.specs.Show.{Shows, ShowsPrefix}
use Rattle.krb_commands.specs.Vectors.{vectors_text}
use Rattle.krb_commands.specs.declared.form.Form.{Form}
use Rattle.krb_program.specs.declared.command.Cmd.{Cmd}
use Rattle.krb_program.specs.declared.command.Cmd.TheVariants.{Show, Vectors, Seal, Open, Relay}
use Rattle.krb_commands.specs.Parsed.{Parsed, IsParsed}
use Rattle.krb_commands.specs.Jobs.{SealsParsed, SealsParsedPrefix, OpensParsed, OpensParsedFirst, OpensParsedPrefix, OpensPlain, OpensPlainPrefix}
use Rattle.krb_program.specs.RelayedJob.{RelaysParsed, RelaysParsedPrefix, StopsParsed}
use Rattle.krb_commands.specs.JobInput.{FailsCheck, PrintsNothing, ReadsInput}
use Rattle.krb_etype.specs.declared.etype.Etype.{Etype}
use Rattle.krb_etype.specs.TypedKey.{TypedKey}
use Rattle.krb_program.specs.Running.{Does, DoesFirst, DoesPrefix, IsBadInput, HasOpenedPlain, OpensPlainFront, HasRun, HasNoKey, HasShown, HasShownFile, IsKeyOf, ShowsPrefixUnder}

-- what is said of bytes that are known stays true while they are kept
stable : (P : Option (List ℕ) → Option (List ℕ) → Type 0) → ((a b : Option (List ℕ)) → P None a → P None b) → ((xs : List ℕ) → P (Some xs) None → ⊥)
    → (old mid new : Option (List ℕ)) → Keeps mid new → P old mid → P old new
stable P free none None mid new k p = free mid new p
stable P free none (Some xs) None new k p = absurd (none xs p)
stable P free none (Some xs) (Some ys) None k p = absurd k
stable P free none (Some xs) (Some ys) (Some zs) k p = subst (λ l. P (Some xs) (Some l)) (sym k) p

does_kept : (command : Cmd) (form : Form) (input old mid new : Option (List ℕ)) (status : ℕ) → Keeps mid new → Does command form input old mid status → Does command form input old new status
does_kept Show form None old mid new status k d = tt
does_kept Show form (Some bytes) old mid new status k d = stable (λ a b. Shows form None bytes a b status) (λ a b p. p) (λ xs p. p.2) old mid new k d
does_kept Vectors form input old mid new status k d = stable (λ a b. Appends a b vectors_text × (status ≡ 0)) (λ a b p. p) (λ xs p. p.0) old mid new k d
does_kept Seal form input old mid new status k d = λ parsed is. stable (λ a b. SealsParsed parsed a b × (status ≡ 0)) (λ a b p. p) (λ xs p. p.0.2.2.2) old mid new k (d parsed is)
does_kept Open form input old mid new status k d = λ parsed is. stable (λ a b. OpensParsed parsed a b status) (λ a b p. p) (λ xs p. p.2.2) old mid new k (d parsed is)
does_kept Relay form input old mid new status k d = λ parsed is. stable (λ a b. RelaysParsed parsed a b status) (λ a b p. p) (λ xs p. p.2.2.2) old mid new k (d parsed is)

no_seals : (parsed : Parsed) (xs : List ℕ) → SealsParsedPrefix parsed (Some xs) None → ⊥
no_seals parsed xs (inl p) = p
no_seals parsed xs (inr (s, t, inl p)) = p
no_seals parsed xs (inr (s, t, inr (source, e, inl p))) = p
no_seals parsed xs (inr (s, t, inr (source, e, inr (emitted, w, p)))) = p.1

no_opens : (parsed : Parsed) (xs : List ℕ) → OpensParsedPrefix parsed (Some xs) None → ⊥
no_opens parsed xs (inl p) = p
no_opens parsed xs (inr (s, t, inl (v, are, p))) = p.1
no_opens parsed xs (inr (s, t, inr (n, v, are, p))) = p.1

no_relays : (parsed : Parsed) (xs : List ℕ) → RelaysParsedPrefix parsed (Some xs) None → ⊥
no_relays parsed xs (inl p) = p
no_relays parsed xs (inr (job, e, inl p)) = p
no_relays parsed xs (inr (job, e, inr (lanes, are, inl p))) = p
no_relays parsed xs (inr (job, e, inr (lanes, are, inr (inl (log, w, p))))) = p.1
no_relays parsed xs (inr (job, e, inr (lanes, are, inr (inr (log, w, p))))) = p.1

prefix_kept : (command : Cmd) (form : Form) (input old mid new : Option (List ℕ)) → Keeps mid new → DoesPrefix command form input old mid → DoesPrefix command form input old new
prefix_kept Show form None old mid new k d = tt
prefix_kept Show form (Some bytes) old mid new k d = stable (λ a b. ShowsPrefix form None bytes a b) (λ a b p. p) (λ xs p. p.2.1) old mid new k d
prefix_kept Vectors form input old mid new k d = stable (λ a b. AppendsPrefix a b vectors_text) (λ a b p. p) (λ xs p. p.1) old mid new k d
prefix_kept Seal form input old mid new k d = λ parsed is. stable (λ a b. SealsParsedPrefix parsed a b) (λ a b p. p) (no_seals parsed) old mid new k (d parsed is)
prefix_kept Open form input old mid new k d = λ parsed is. stable (λ a b. OpensParsedPrefix parsed a b) (λ a b p. p) (no_opens parsed) old mid new k (d parsed is)
prefix_kept Relay form input old mid new k d = λ parsed is. stable (λ a b. RelaysParsedPrefix parsed a b) (λ a b p. p) (no_relays parsed) old mid new k (d parsed is)

first_kept : (command : Cmd) (lines : ℕ) (input old mid new : Option (List ℕ)) → Keeps mid new → DoesFirst command lines input old mid → DoesFirst command lines input old new
first_kept Show lines input old mid new k d = d
first_kept Vectors lines input old mid new k d = d
first_kept Seal lines input old mid new k d = d
first_kept Open lines input old mid new k d = λ parsed is. stable (λ a b. OpensParsedFirst parsed lines a b) (λ a b p. p) (λ xs p. p.2.4) old mid new k (d parsed is)
first_kept Relay lines input old mid new k d = λ parsed is. stable (λ a b. StopsParsed parsed lines a b) (λ a b p. p) (λ xs p. p.2.2.3) old mid new k (d parsed is)

-- ---- the whole output is a prefix of itself

does_prefix : (command : Cmd) (form : Form) (input old new : Option (List ℕ)) (status : ℕ) → Does command form input old new status → DoesPrefix command form input old new
does_prefix Show form None old new status d = tt
does_prefix Show form (Some bytes) old new status d = (d.0, d.1, AppendsPrefix-whole old new _ d.2)
does_prefix Vectors form input old new status d = AppendsPrefix-whole old new _ d.0
does_prefix Seal form input old new status d = λ parsed is. let p = (d parsed is).0 in inr (p.0, p.1, inr (p.2.0, p.2.1, inr (p.2.2.0, p.2.2.1, AppendsPrefix-whole old new _ p.2.2.2)))
does_prefix Open form input old new status d = λ parsed is. let p = d parsed is in inr (p.0, p.1, inl (p.2.0, p.2.1, AppendsPrefix-whole old new _ p.2.2))
does_prefix Relay form input old new status d = λ parsed is. let p = d parsed is in inr (p.0, p.1, inr (p.2.0, p.2.1, inr (inl (p.2.2.0, p.2.2.1, AppendsPrefix-whole old new _ p.2.2.2))))

-- ---- whatever a command answered

pub any_prefix : (command : Cmd) (form : Form) (input old mid new : Option (List ℕ)) (r : Result ℕ Fault) → Keeps mid new
    → IfOk r (λ status. Does command form input old mid status) → OnErr r (DoesPrefix command form input old mid) → DoesPrefix command form input old new
any_prefix command form input old mid new (Ok status) k d p = prefix_kept command form input old mid new k (does_prefix command form input old mid status d)
any_prefix command form input old mid new (Err fault) k d p = prefix_kept command form input old mid new k p

-- a run, before the flush and after
pub run_kept : (command : Cmd) (form : Form) (input old mid new : Option (List ℕ)) (r : Result ℕ Fault) → Keeps mid new
    → IfOk r (λ status. Does command form input old mid status)
    → OnErr r (DoesPrefix command form input old mid)
    → ((lines : ℕ) → r ≡ Err (fault.Stopped lines) → DoesFirst command lines input old mid)
    → ((lines : ℕ) → r ≡ Err (fault.Thread lines) → DoesFirst command lines input old mid)
    → ((bad : BadInput) → r ≡ Err (fault.BadInput bad) → IsBadInput command input bad)
    → (r ≡ Err fault.TooLong → IfSome input (λ bytes. input_limit < length bytes))
    → PrintsNothing old mid r
    → ((key : KeyFault) → r ≡ Err (fault.Key key) → ⊥)
    → HasRun command form input old new r
run_kept command form input old mid new (Ok status) k done prefix first thread bad long nothing none = does_kept command form input old mid new status k done
run_kept command form input old mid new (Err fault.TooLong) k done prefix first thread bad long nothing none = (long refl, Keeps-trans old mid new (nothing.too_long refl) k)
run_kept command form input old mid new (Err (fault.BadInput b)) k done prefix first thread bad long nothing none = (bad b refl, Keeps-trans old mid new (nothing.bad_input b refl) k)
run_kept command form input old mid new (Err (fault.Key key)) k done prefix first thread bad long nothing none = absurd (none key refl)
run_kept command form input old mid new (Err fault.Memory) k done prefix first thread bad long nothing none = prefix_kept command form input old mid new k prefix
run_kept command form input old mid new (Err (fault.Stopped lines)) k done prefix first thread bad long nothing none = first_kept command lines input old mid new k (first lines refl)
run_kept command form input old mid new (Err (fault.Thread lines)) k done prefix first thread bad long nothing none = first_kept command lines input old mid new k (thread lines refl)
run_kept command form input old mid new (Err fault.Read) k done prefix first thread bad long nothing none = Keeps-trans old mid new (nothing.read_fault refl) k
run_kept command form input old mid new (Err fault.Write) k done prefix first thread bad long nothing none = prefix_kept command form input old mid new k prefix

-- ---- under the key of a file

module _ (form : Form) (stated : Option Etype) (file input : Option (List ℕ)) where
  shown_prefix : (key : TypedKey) (old new : Option (List ℕ)) → IsKeyOf stated file key → IfSome input (λ bytes. ShowsPrefix form (Some key) bytes old new) → ShowsPrefixUnder form stated file input old new
  shown_prefix key old new is p = inr (key, is, p)

  -- after the key was read, as `show` answers
  pub shown_under : (key : TypedKey) (old new : Option (List ℕ)) (r : Result ℕ Fault) → IsKeyOf stated file key
      → IfOk r (λ status. IfSome input (λ bytes. Shows form (Some key) bytes old new status))
      → OnErr r (IfSome input (λ bytes. ShowsPrefix form (Some key) bytes old new))
      → (r ≡ Err fault.Read → Keeps old new)
      → (r ≡ Err fault.TooLong → IfSome input (λ bytes. input_limit < length bytes))
      → (r ≡ Err fault.TooLong → Keeps old new)
      → IfErr r IsOfNoJob
      → HasShown form stated file input old new r
  shown_under key old new (Ok status) is shown prefix read long nothing none = (key, is, shown)
  shown_under key old new (Err fault.TooLong) is shown prefix read long nothing none = (long refl, nothing refl)
  shown_under key old new (Err (fault.BadInput b)) is shown prefix read long nothing none = absurd none
  shown_under key old new (Err (fault.Key k)) is shown prefix read long nothing none = absurd none
  shown_under key old new (Err fault.Memory) is shown prefix read long nothing none = shown_prefix key old new is prefix
  shown_under key old new (Err (fault.Stopped lines)) is shown prefix read long nothing none = absurd none
  shown_under key old new (Err (fault.Thread lines)) is shown prefix read long nothing none = absurd none
  shown_under key old new (Err fault.Read) is shown prefix read long nothing none = read refl
  shown_under key old new (Err fault.Write) is shown prefix read long nothing none = shown_prefix key old new is prefix

  no_key_of : (key : KeyFault) → (key ≡ NoKey → IfSome file (λ bytes. key_in bytes ≡ None)) → (key ≡ OtherType → IfSome file (HasOtherType stated)) → HasNoKey stated file key
  no_key_of NoKey none other = none refl
  no_key_of OtherType none other = other refl
  no_key_of Unreadable none other = tt
  no_key_of Missing none other = tt
  no_key_of NoType none other = tt

  -- the key wasn't read
  pub key_unread : (old : Option (List ℕ)) (r : Result ℕ Fault) → IfErr r IsOfKey → IsErr r
      → (r ≡ Err (fault.Key NoKey) → IfSome file (λ bytes. key_in bytes ≡ None)) → (r ≡ Err (fault.Key OtherType) → IfSome file (HasOtherType stated))
      → HasShown form stated file input old old r
  key_unread old (Ok status) of err none other = absurd cc
  key_unread old (Err fault.TooLong) of err none other = absurd of
  key_unread old (Err (fault.BadInput b)) of err none other = absurd of
  key_unread old (Err (fault.Key k)) of err none other =
      (no_key_of k (λ e. none (ap (λ x. Err (fault.Key x)) e)) (λ e. other (ap (λ x. Err (fault.Key x)) e)), Keeps-refl old)
  key_unread old (Err fault.Memory) of err none other = inl (Keeps-refl old)
  key_unread old (Err (fault.Stopped lines)) of err none other = absurd of
  key_unread old (Err (fault.Thread lines)) of err none other = absurd of
  key_unread old (Err fault.Read) of err none other = absurd of
  key_unread old (Err fault.Write) of err none other = absurd of

  whole_kept : (key : TypedKey) (bytes : Option (List ℕ)) (old mid new : Option (List ℕ)) (status : ℕ) → Keeps mid new → IfSome bytes (λ b. Shows form (Some key) b old mid status) → IfSome bytes (λ b. Shows form (Some key) b old new status)
  whole_kept key None old mid new status k d = tt
  whole_kept key (Some b) old mid new status k d = stable (λ x y. Shows form (Some key) b x y status) (λ x y p. p) (λ xs p. p.2) old mid new k d

  front_kept : (key : TypedKey) (bytes : Option (List ℕ)) (old mid new : Option (List ℕ)) → Keeps mid new → IfSome bytes (λ b. ShowsPrefix form (Some key) b old mid) → IfSome bytes (λ b. ShowsPrefix form (Some key) b old new)
  front_kept key None old mid new k d = tt
  front_kept key (Some b) old mid new k d = stable (λ x y. ShowsPrefix form (Some key) b x y) (λ x y p. p) (λ xs p. p.2.1) old mid new k d

  whole_front : (key : TypedKey) (bytes : Option (List ℕ)) (old new : Option (List ℕ)) (status : ℕ) → IfSome bytes (λ b. Shows form (Some key) b old new status) → IfSome bytes (λ b. ShowsPrefix form (Some key) b old new)
  whole_front key None old new status d = tt
  whole_front key (Some b) old new status d = (d.0, d.1, AppendsPrefix-whole old new _ d.2)

  prefix_under_kept : (old mid new : Option (List ℕ)) → Keeps mid new → ShowsPrefixUnder form stated file input old mid → ShowsPrefixUnder form stated file input old new
  prefix_under_kept old mid new k (inl p) = inl (Keeps-trans old mid new p k)
  prefix_under_kept old mid new k (inr p) = inr (p.0, p.1, front_kept p.0 input old mid new k p.2)

  -- a run, before the flush and after
  pub shown_kept : (old mid new : Option (List ℕ)) (r : Result ℕ Fault) → Keeps mid new → HasShown form stated file input old mid r → HasShown form stated file input old new r
  shown_kept old mid new (Ok status) k h = (h.0, h.1, whole_kept h.0 input old mid new status k h.2)
  shown_kept old mid new (Err fault.TooLong) k h = (h.0, Keeps-trans old mid new h.1 k)
  shown_kept old mid new (Err (fault.BadInput b)) k h = h
  shown_kept old mid new (Err (fault.Key key)) k h = (h.0, Keeps-trans old mid new h.1 k)
  shown_kept old mid new (Err fault.Memory) k h = prefix_under_kept old mid new k h
  shown_kept old mid new (Err (fault.Stopped lines)) k h = h
  shown_kept old mid new (Err (fault.Thread lines)) k h = h
  shown_kept old mid new (Err fault.Read) k h = Keeps-trans old mid new h k
  shown_kept old mid new (Err fault.Write) k h = prefix_under_kept old mid new k h

  -- whatever it answered, where the flush fails
  pub shown_front : (old new : Option (List ℕ)) (r : Result ℕ Fault) → HasShown form stated file input old new r → ShowsPrefixUnder form stated file input old new
  shown_front old new (Ok status) h = inr (h.0, h.1, whole_front h.0 input old new status h.2)
  shown_front old new (Err fault.TooLong) h = inl h.1
  shown_front old new (Err (fault.BadInput b)) h = absurd h
  shown_front old new (Err (fault.Key key)) h = inl h.1
  shown_front old new (Err fault.Memory) h = h
  shown_front old new (Err (fault.Stopped lines)) h = absurd h
  shown_front old new (Err (fault.Thread lines)) h = absurd h
  shown_front old new (Err fault.Read) h = inl h
  shown_front old new (Err fault.Write) h = h

-- the same of a type that is stated, whatever file it was
module _ (form : Form) (told : Result (Option Etype) KeyFault) (stated : Option Etype) (input old mid new : Option (List ℕ)) (r : Result ℕ Fault) (is : told ≡ Ok stated) (k : Keeps mid new)
    (h : (file : Option (List ℕ)) × HasShown form stated file input old mid r) where
  pub file_shown : HasShownFile form told input old new r
  file_shown = subst (λ t. HasShownFile form t input old new r) (sym is) (h.0, shown_kept form stated h.0 input old mid new r k h.1)

  pub file_unflushed : HasShownFile form told input old new (Err fault.Write)
  file_unflushed =
      let kept = shown_kept form stated h.0 input old mid new r k h.1 in
      subst (λ t. HasShownFile form t input old new (Err fault.Write)) (sym is) (h.0, shown_front form stated h.0 input old new r kept)

-- ---- user data that are taken as they are

no_plain : (parsed : Parsed) (xs : List ℕ) → OpensPlainPrefix parsed (Some xs) None → ⊥
no_plain parsed xs (inl p) = p
no_plain parsed xs (inr (s, t, inl p)) = p
no_plain parsed xs (inr (s, t, inr (outcomes, are, p))) = p.1

module _ (input old mid new : Option (List ℕ)) (k : Keeps mid new) where
  plain_front : OpensPlainFront input old mid → OpensPlainFront input old new
  plain_front p = λ parsed is. stable (λ a b. OpensPlainPrefix parsed a b) (λ a b p. p) (no_plain parsed) old mid new k (p parsed is)

  module _ (r : Result ℕ Fault) (done : (parsed : Parsed) → IsParsed job.Open input parsed → IfOk r (OpensPlain parsed old mid))
      (prefix : (parsed : Parsed) → IsParsed job.Open input parsed → OnErr r (OpensPlainPrefix parsed old mid)) where
    -- whatever it answered, where the flush fails
    pub plain_unflushed : OpensPlainFront input old new
    plain_unflushed = plain_front (λ parsed is. by_answer parsed r (done parsed is) (prefix parsed is))
      where
        by_answer : (parsed : Parsed) (r : Result ℕ Fault) → IfOk r (OpensPlain parsed old mid) → OnErr r (OpensPlainPrefix parsed old mid) → OpensPlainPrefix parsed old mid
        by_answer parsed (Ok status) p q = inr (p.0, p.1, inr (p.2.0, p.2.1, AppendsPrefix-whole old mid _ p.2.2))
        by_answer parsed (Err fault) p q = q

-- a run, before the flush and after
pub plain_kept : (input old mid new : Option (List ℕ)) (r : Result ℕ Fault) → Keeps mid new
    → ((parsed : Parsed) → IsParsed job.Open input parsed → IfOk r (OpensPlain parsed old mid))
    → ((parsed : Parsed) → IsParsed job.Open input parsed → OnErr r (OpensPlainPrefix parsed old mid))
    → ReadsInput job.Open input FailsCheck r → PrintsNothing old mid r
    → ((lines : ℕ) → ¬ (r ≡ Err (fault.Stopped lines)))
    → ((lines : ℕ) → ¬ (r ≡ Err (fault.Thread lines)))
    → ((key : KeyFault) → ¬ (r ≡ Err (fault.Key key)))
    → HasOpenedPlain input old new r
plain_kept input old mid new (Ok status) k done prefix reading nothing stopped thread none =
    λ parsed is. stable (λ a b. OpensPlain parsed a b status) (λ a b p. p) (λ xs p. p.2.2) old mid new k (done parsed is)
plain_kept input old mid new (Err fault.TooLong) k done prefix reading nothing stopped thread none = (reading.too_long refl, Keeps-trans old mid new (nothing.too_long refl) k)
plain_kept input old mid new (Err (fault.BadInput b)) k done prefix reading nothing stopped thread none =
    ((λ parsed is. reading.bad_input parsed is b refl), Keeps-trans old mid new (nothing.bad_input b refl) k)
plain_kept input old mid new (Err (fault.Key key)) k done prefix reading nothing stopped thread none = absurd (none key refl)
plain_kept input old mid new (Err fault.Memory) k done prefix reading nothing stopped thread none = plain_front input old mid new k prefix
plain_kept input old mid new (Err (fault.Stopped lines)) k done prefix reading nothing stopped thread none = absurd (stopped lines refl)
plain_kept input old mid new (Err (fault.Thread lines)) k done prefix reading nothing stopped thread none = absurd (thread lines refl)
plain_kept input old mid new (Err fault.Read) k done prefix reading nothing stopped thread none = Keeps-trans old mid new (nothing.read_fault refl) k
plain_kept input old mid new (Err fault.Write) k done prefix reading nothing stopped thread none = plain_front input old mid new k prefix
