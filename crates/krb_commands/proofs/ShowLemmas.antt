-- The loop that prints the lines of an input.
use Rattle.std.proofs.Common.{◌≡◌, ℕ, Bool, true, false, ◌&&◌, cond, List, [], ◌∷◌, ◌++◌, inl, inr, refl, sym, ap, subst, ◌∙◌, append_assoc, append-nil, Option, Some, None, IfSome, Result, Ok, Err, IfOk, OnOk, OnErr}
use Rattle.std.specs.Result.{is_err}
use Rattle.std.specs.List.{AllZip, list_all}
use Rattle.std.specs.Io.KnownBytes.{Appends}
use Rattle.std.proofs.Math.Bool.{and_assoc}
use Rattle.std.proofs.KnownBytes.{Appends-trans, Consumes-all}
use Rattle.krb_etype.specs.TypedKey.{TypedKey}
use Rattle.krb_commands.specs.declared.form.Form.{Form}
use Rattle.krb_commands.specs.declared.form.Form.TheVariants.{Any}
use Rattle.krb_commands.specs.declared.reading.Reading.{Reading}
use Rattle.krb_commands.specs.declared.fault.Fault.{Fault}
use Rattle.krb_commands.specs.Digits.{digits_in, digits_of}
use Rattle.krb_commands.specs.Input.{ReadsAll}
use Rattle.krb_commands.specs.Lines.{lines_of}
use Rattle.krb_commands.specs.Printed.{printed_line}
use Rattle.krb_commands.specs.Reading.{Reads, is_accepted, is_message}
use Rattle.krb_commands.specs.Show.{AreOfLines, Prints, PrintsPrefix, ReadsLine, Shows, ShowsPrefix, ShowsLine, ShowsLinePrefix, output_of}
use Rattle.krb_commands.specs.Output.{AppendsPrefix}
use Rattle.krb_commands.proofs.OutputLemmas.{AppendsPrefix-after, AppendsPrefix-none}
use Rattle.krb_commands.proofs.Readings.{reading_of, readings_of, readings_in, spelt, unspelt}

-- the lines up to `rest` are printed, and `all` says whether each of them is accepted: whatever the
-- readings of the rest are, they complete those of the text
pub record Printed (form : Form) (key : Option TypedKey) (old new : Option (List ℕ)) (text rest : List ℕ) (all : Bool) : Type 0 where
  pub done : List ℕ
  pub written : Appends old new done
  pub others : (readings : List Reading) → AreOfLines form key rest readings
      → (whole : List Reading) × AreOfLines form key text whole × (output_of whole ≡ done ++ output_of readings) × (list_all is_accepted whole ≡ (all && list_all is_accepted readings))

and_true : (all : Bool) → (all && true) ≡ all
and_true true = refl
and_true false = refl

module _ (form : Form) (key : Option TypedKey) where
  pub printed_more : (a b c : Option (List ℕ)) (text rest line after : List ℕ) (all accepted : Bool) → Printed form key a b text rest all
      → lines_of rest ≡ line ∷ lines_of after → ShowsLine form key line b c accepted → Printed form key a c text after (all && accepted)
  printed_more a b c text rest line after all accepted p e shown =
      let reading = shown.0 in record {
        done = p.done ++ printed_line reading;
        written = Appends-trans a b c p.done (printed_line reading) p.written shown.2;
        others = λ readings are.
            let whole = p.others (reading ∷ readings) (subst (λ lines. AllZip (ReadsLine form key) lines (reading ∷ readings)) (sym e) (shown.1, are)) in (
              whole.0,
              whole.1,
              whole.2 ∙ sym (append_assoc p.done (printed_line reading) (output_of readings)),
              whole.3 ∙ sym (and_assoc all (is_accepted reading) (list_all is_accepted readings))
                  ∙ ap (λ b. (all && b) && list_all is_accepted readings) (sym shown.3),
            );
      }

  -- a prefix of the next line is written
  pub printed_prefix : (a b c : Option (List ℕ)) (text rest line after : List ℕ) (all : Bool) → Printed form key a b text rest all
      → lines_of rest ≡ line ∷ lines_of after → ShowsLinePrefix form key line b c → PrintsPrefix (AreOfLines form key text) a c
  printed_prefix a b c text rest line after all p e shown =
      let reading = shown.0 in
      let others = readings_of form key after in
      let whole = p.others (reading ∷ others.0) (subst (λ lines. AllZip (ReadsLine form key) lines (reading ∷ others.0)) (sym e) (shown.1, others.1)) in (
        whole.0,
        whole.1,
        AppendsPrefix-after a b c p.done (printed_line reading) (output_of whole.0) p.written shown.2 (output_of others.0)
            (whole.2 ∙ sym (append_assoc p.done (printed_line reading) (output_of others.0))),
      )

  pub printed_all : (a b : Option (List ℕ)) (text rest : List ℕ) (all : Bool) (status : ℕ) → Printed form key a b text rest all → lines_of rest ≡ []
      → status ≡ cond all 0 2 → Prints (AreOfLines form key text) a b status
  printed_all a b text rest all status p e s =
      let whole = p.others [] (subst (λ lines. AllZip (ReadsLine form key) lines []) (sym e) tt) in (
        whole.0,
        whole.1,
        subst (Appends a b) (sym (whole.2 ∙ append-nil p.done)) p.written,
        s ∙ ap (λ b. cond b 0 2) (sym (whole.3 ∙ and_true all)),
      )

  -- a line has a reading, and nothing of it is written
  pub nothing_printed : (a : Option (List ℕ)) (line : List ℕ) → ShowsLinePrefix form key line a a
  nothing_printed a line =
      let reading = reading_of key (digits_in form line) in
      (reading.0, reading.1, AppendsPrefix-none a (printed_line reading.0))

  pub nothing_of_input : (a : Option (List ℕ)) (input : List ℕ) → ShowsPrefix form key input a a
  nothing_of_input a input =
      let readings = readings_in form key input in
      (readings.0, readings.1, AppendsPrefix-none a (output_of readings.0))

  -- the same of an input, where it is known
  pub nothing_shown : (a known : Option (List ℕ)) → IfSome known (λ input. ShowsPrefix form key input a a)
  nothing_shown a None = tt
  nothing_shown a (Some input) = nothing_of_input a input

  -- the same of an input that was read whole
  known_all : (old new : Option (List ℕ)) (bytes : List ℕ) → ReadsAll old new bytes → (P : List ℕ → Type 0) → P bytes → IfSome old P
  known_all old new bytes r P p = by_known old (Consumes-all old new bytes [] bytes r.0 r.1 refl)
    where
      by_known : (o : Option (List ℕ)) → IfSome o (λ xs. bytes ≡ [] ++ xs) → IfSome o P
      by_known None e = tt
      by_known (Some xs) e = subst P e p

  pub shown_of_all : (old new a b : Option (List ℕ)) (bytes : List ℕ) (r : Result ℕ Fault) → ReadsAll old new bytes
      → IfOk r (λ status. Shows form key bytes a b status) → IfOk r (λ status. IfSome old (λ input. Shows form key input a b status))
  shown_of_all old new a b bytes (Ok status) all p = known_all old new bytes all (λ input. Shows form key input a b status) p
  shown_of_all old new a b bytes (Err fault) all p = tt

  pub prefix_of_all : (old new a b : Option (List ℕ)) (bytes : List ℕ) (r : Result ℕ Fault) → ReadsAll old new bytes
      → OnErr r (ShowsPrefix form key bytes a b) → OnErr r (IfSome old (λ input. ShowsPrefix form key input a b))
  prefix_of_all old new a b bytes (Ok status) all p = tt
  prefix_of_all old new a b bytes (Err fault) all p = known_all old new bytes all (λ input. ShowsPrefix form key input a b) p

-- ---- in the form `Any`

module _ (key : Option TypedKey) (input : List ℕ) (reading : Reading) (reads : Reads key (digits_of input) reading) where
  pub whole_shown : (a b : Option (List ℕ)) (accepted : Bool) (status : ℕ) → is_message reading ≡ true → Appends a b (printed_line reading)
      → accepted ≡ is_accepted reading → status ≡ cond accepted 0 2 → Shows Any key input a b status
  whole_shown a b accepted status is p e s = (
    reading ∷ [],
    inl (spelt key (digits_of input) reading reads is, (reading, reads, refl)),
    subst (Appends a b) (sym (append-nil (printed_line reading))) p,
    s ∙ ap (λ b. cond b 0 2) (e ∙ sym (and_true (is_accepted reading))),
  )

  pub whole_prefix : (a b : Option (List ℕ)) → is_message reading ≡ true → AppendsPrefix a b (printed_line reading) → ShowsPrefix Any key input a b
  whole_prefix a b is p = (
    reading ∷ [],
    inl (spelt key (digits_of input) reading reads is, (reading, reads, refl)),
    subst (AppendsPrefix a b) (sym (append-nil (printed_line reading))) p,
  )

  pub lines_shown : (a b : Option (List ℕ)) (status : ℕ) → is_message reading ≡ false → Prints (AreOfLines Any key input) a b status → Shows Any key input a b status
  lines_shown a b status is p = (p.0, inr (unspelt key (digits_of input) reading reads is, p.1), p.2, p.3)

  pub lines_prefix : (a b : Option (List ℕ)) → is_message reading ≡ false → PrintsPrefix (AreOfLines Any key input) a b → ShowsPrefix Any key input a b
  lines_prefix a b is p = (p.0, inr (unspelt key (digits_of input) reading reads is, p.1), p.2)

pub on_err : {T E : Type 0} (P : Type 0) (r : Result T E) → P → OnErr r P
on_err P (Ok x) p = tt
on_err P (Err e) p = p

pub of_ok : {T E : Type 0} (r : Result T E) (P : Type 0) → is_err r ≡ false → OnOk r P → P
of_ok (Ok x) P well p = p
of_ok (Err e) P well p = absurd (let f : true ≡ false = well in cc)
