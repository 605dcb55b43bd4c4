-- Each input has one list of readings.
use Rattle.std.proofs.Common.{◌≡◌, ◌⊎◌, ℕ, ◌<◌, ◌≤◌, Bool, true, false, List, [], ◌∷◌, ◌++◌, length, refl, sym, ap, ap₂, ◌∙◌, arith, inl, inr, Option, Some, None, Result, Ok, Err, IsErr, subst}
use Rattle.std.specs.List.{AllZip}
use Rattle.std.proofs.lemmas.Bool.{cases_lt}
use Rattle.hex.specs.Hex.{decode_of, IsBytes}
use Rattle.hex.specs.declared.error.FromHexError.{FromHexError}
use Rattle.hex.proofs.HexLemmas.{decode_of-ok, decode_of-same}
use Rattle.krb_base.specs.Limits.{frame_limit}
use Rattle.krb_der.specs.Message.{Spells, Decodes, UniqueSpelling}
use Rattle.krb_der.specs.Reading.{message_of}
use Rattle.krb_der.specs.declared.message.Message.{Message}
use Rattle.krb_der.specs.declared.error.DerError.TheVariants as errors
use Rattle.krb_der.proofs.Grammar.{message_decodes}
use Rattle.krb_der.specs.declared.body.Body.{Body}
use Rattle.krb_etype.specs.TypedKey.{TypedKey}
use Rattle.krb_seal.specs.declared.refusal.Refusal.{Refusal}
use Rattle.krb_seal.specs.Authentic.{Authenticity, Authenticates}
use Rattle.krb_seal.proofs.Outcomes.{one_authenticity}
use Rattle.krb_commands.proofs.AuthenticLemmas.{authentic_or_not}
use Rattle.krb_commands.specs.declared.inside.Inside.{Inside}
use Rattle.krb_commands.specs.declared.inside.Inside.TheVariants.{Unasked, Opened, Refused}
use Rattle.krb_commands.specs.declared.form.Form.{Form}
use Rattle.krb_commands.specs.declared.form.Form.TheVariants.{Lines, Any}
use Rattle.krb_commands.specs.Digits.{digits_in, digits_of}
use Rattle.krb_commands.specs.Key.{IsInside, mode_of, opener_under}
use Rattle.krb_commands.specs.declared.reading.Reading.{Reading}
use Rattle.krb_commands.specs.declared.reading.Reading.TheVariants as read
use Rattle.krb_commands.specs.Lines.{lines_of}
use Rattle.krb_commands.specs.Reading.{Reads, HasBytes, SpellsMessage, SpellsNothing, is_message}
use Rattle.krb_commands.specs.Show.{AreOfLines, AreReadings, HasOneReading, ReadsLine}

-- bytes within the limit spell a message or none
spelt_or_not : (bytes : List ℕ) → IsBytes bytes → length bytes ≤ frame_limit → ((message : Message) × Spells message bytes) ⊎ SpellsNothing bytes
spelt_or_not bytes small short = decided (message_of bytes) refl
  where
    decided : (read : Option Message) → message_of bytes ≡ read → ((message : Message) × Spells message bytes) ⊎ SpellsNothing bytes
    decided (Some message) e = inl (message, message_decodes bytes (Ok message) (record { small = small }) short e)
    decided None e =
        let d : Decodes Spells (Err errors.Malformed) bytes = message_decodes bytes (Err errors.Malformed) (record { small = small }) short e in
        inr (record { short = d.0; nothing = d.1 })

-- ---- what is inside a message

by_outcome : (key : TypedKey) (message : Message) (bytes : List ℕ) (z : Authenticity) → Authenticates (opener_under key (mode_of message)) bytes z
    → (inside : Inside) × IsInside (Some key) message bytes inside
by_outcome key message bytes (Ok body) h = (Opened body, h)
by_outcome key message bytes (Err refusal) h = (Refused refusal, h)

inside_of : (key : Option TypedKey) (message : Message) (bytes : List ℕ) → IsBytes bytes → (inside : Inside) × IsInside key message bytes inside
inside_of None message bytes small = (Unasked, tt)
inside_of (Some key) message bytes small =
    let z = authentic_or_not (opener_under key (mode_of message)) bytes (record { small = small }) in
    by_outcome key message bytes z.0 z.1

same_body : (a b : Body) → ◌≡◌ {A = Authenticity} (Ok a) (Ok b) → a ≡ b
same_body a b e = cc

same_refusal : (a b : Refusal) → ◌≡◌ {A = Authenticity} (Err a) (Err b) → a ≡ b
same_refusal a b e = cc

same_inside : (key : Option TypedKey) (message : Message) (bytes : List ℕ) (a b : Inside) → IsInside key message bytes a → IsInside key message bytes b → a ≡ b
same_inside None message bytes Unasked Unasked p q = refl
same_inside None message bytes Unasked (Opened y) p q = absurd q
same_inside None message bytes Unasked (Refused y) p q = absurd q
same_inside None message bytes (Opened x) b p q = absurd p
same_inside None message bytes (Refused x) b p q = absurd p
same_inside (Some key) message bytes Unasked b p q = absurd p
same_inside (Some key) message bytes (Opened x) Unasked p q = absurd q
same_inside (Some key) message bytes (Opened x) (Opened y) p q =
    ap Opened (same_body x y (one_authenticity (opener_under key (mode_of message)) bytes (Ok x) (Ok y) p q))
same_inside (Some key) message bytes (Opened x) (Refused y) p q =
    absurd (let e : ◌≡◌ {A = Authenticity} (Ok x) (Err y) = one_authenticity (opener_under key (mode_of message)) bytes (Ok x) (Err y) p q in cc)
same_inside (Some key) message bytes (Refused x) Unasked p q = absurd q
same_inside (Some key) message bytes (Refused x) (Opened y) p q =
    absurd (let e : ◌≡◌ {A = Authenticity} (Err x) (Ok y) = one_authenticity (opener_under key (mode_of message)) bytes (Err x) (Ok y) p q in cc)
same_inside (Some key) message bytes (Refused x) (Refused y) p q =
    ap Refused (same_refusal x y (one_authenticity (opener_under key (mode_of message)) bytes (Err x) (Err y) p q))

-- ---- digits have a reading

pub reading_of : (key : Option TypedKey) (digits : List ℕ) → (reading : Reading) × Reads key digits reading
reading_of key digits = by_bytes (decode_of digits) refl
  where
    by_message : (bytes : List ℕ) → decode_of digits ≡ Ok bytes → IsBytes bytes → ((message : Message) × Spells message bytes) ⊎ SpellsNothing bytes → (reading : Reading) × Reads key digits reading
    by_message bytes e small (inl spelt) =
        let inside = inside_of key spelt.0 bytes small in
        (read.Message spelt.0 inside.0, (bytes, e, spelt.1, inside.1))
    by_message bytes e small (inr nothing) = (read.Malformed, (bytes, e, nothing))

    by_length : (bytes : List ℕ) → decode_of digits ≡ Ok bytes → (frame_limit < length bytes) ⊎ (length bytes ≤ frame_limit) → (reading : Reading) × Reads key digits reading
    by_length bytes e (inl long) = (read.TooLong, (bytes, e, long))
    by_length bytes e (inr short) =
        let small = (decode_of-ok digits bytes e).3 in
        by_message bytes e small (spelt_or_not bytes small short)

    by_bytes : (decoded : Result (List ℕ) FromHexError) → decode_of digits ≡ decoded → (reading : Reading) × Reads key digits reading
    by_bytes (Ok bytes) e = by_length bytes e (cases_lt frame_limit (length bytes))
    by_bytes (Err fault) e = (read.NotHexadecimal, rw e refl)

-- each list of lines has a list of readings
each_reading : (form : Form) (key : Option TypedKey) (lines : List (List ℕ)) → (readings : List Reading) × AllZip (ReadsLine form key) lines readings
each_reading form key [] = ([], tt)
each_reading form key (line ∷ lines) =
    let first = reading_of key (digits_in form line) in
    let others = each_reading form key lines in
    (first.0 ∷ others.0, (first.1, others.1))

pub readings_of : (form : Form) (key : Option TypedKey) (text : List ℕ) → (readings : List Reading) × AreOfLines form key text readings
readings_of form key text = each_reading form key (lines_of text)

-- ---- and only one

bytes_same : (digits a b : List ℕ) → HasBytes digits a → HasBytes digits b → a ≡ b
bytes_same digits a b d e = decode_of-same digits a b d e

message_same : UniqueSpelling Spells → (a b : Message) (s t : List ℕ) → Spells a s → Spells b t → s ≡ t → a ≡ b
message_same unique a b s t p q e = (unique a b s t [] [] p q (ap (λ l. l ++ []) e)).0

not_hexadecimal : (digits bytes : List ℕ) → HasBytes digits bytes → IsErr (decode_of digits) → ⊥
not_hexadecimal digits bytes e err = absurd (cc)

inside_same : (key : Option TypedKey) (m n : Message) (s t : List ℕ) (a b : Inside) → m ≡ n → s ≡ t → IsInside key m s a → IsInside key n t b → a ≡ b
inside_same key m n s t a b same bytes p q =
    let moved : IsInside key n s a = subst (λ (x : Message). IsInside key x s a) same p in
    same_inside key n t a b (subst (λ (l : List ℕ). IsInside key n l a) bytes moved) q

-- digits have one reading
same_reading : UniqueSpelling Spells → (key : Option TypedKey) (digits : List ℕ) (a b : Reading) → Reads key digits a → Reads key digits b → a ≡ b
same_reading unique key digits (read.Message m i) (read.Message n j) p q =
    let bytes = bytes_same digits p.0 q.0 p.1 q.1 in
    let same = message_same unique m n p.0 q.0 p.2 q.2 bytes in
    ap₂ read.Message same (inside_same key m n p.0 q.0 i j same bytes p.3 q.3)
same_reading unique key digits (read.Message m i) read.Malformed p q = absurd (q.2.nothing m (subst (Spells m) (bytes_same digits p.0 q.0 p.1 q.1) p.2))
same_reading unique key digits (read.Message m i) read.TooLong p q = absurd (omega (arith, p.2.short, q.2, ap length (bytes_same digits p.0 q.0 p.1 q.1)))
same_reading unique key digits (read.Message m i) read.NotHexadecimal p q = absurd (not_hexadecimal digits p.0 p.1 q)
same_reading unique key digits read.Malformed (read.Message m i) p q = absurd (p.2.nothing m (subst (Spells m) (bytes_same digits q.0 p.0 q.1 p.1) q.2))
same_reading unique key digits read.Malformed read.Malformed p q = refl
same_reading unique key digits read.Malformed read.TooLong p q = absurd (omega (arith, p.2.short, q.2, ap length (bytes_same digits p.0 q.0 p.1 q.1)))
same_reading unique key digits read.Malformed read.NotHexadecimal p q = absurd (not_hexadecimal digits p.0 p.1 q)
same_reading unique key digits read.TooLong (read.Message m i) p q = absurd (omega (arith, q.2.short, p.2, ap length (bytes_same digits p.0 q.0 p.1 q.1)))
same_reading unique key digits read.TooLong read.Malformed p q = absurd (omega (arith, q.2.short, p.2, ap length (bytes_same digits p.0 q.0 p.1 q.1)))
same_reading unique key digits read.TooLong read.TooLong p q = refl
same_reading unique key digits read.TooLong read.NotHexadecimal p q = absurd (not_hexadecimal digits p.0 p.1 q)
same_reading unique key digits read.NotHexadecimal (read.Message m i) p q = absurd (not_hexadecimal digits q.0 q.1 p)
same_reading unique key digits read.NotHexadecimal read.Malformed p q = absurd (not_hexadecimal digits q.0 q.1 p)
same_reading unique key digits read.NotHexadecimal read.TooLong p q = absurd (not_hexadecimal digits q.0 q.1 p)
same_reading unique key digits read.NotHexadecimal read.NotHexadecimal p q = refl

same_readings : UniqueSpelling Spells → (form : Form) (key : Option TypedKey) (lines : List (List ℕ)) (a b : List Reading)
    → AllZip (ReadsLine form key) lines a → AllZip (ReadsLine form key) lines b → a ≡ b
same_readings unique form key [] [] [] p q = refl
same_readings unique form key [] [] (y ∷ ys) p q = absurd q
same_readings unique form key [] (x ∷ xs) b p q = absurd p
same_readings unique form key (line ∷ lines) [] b p q = absurd p
same_readings unique form key (line ∷ lines) (x ∷ xs) [] p q = absurd q
same_readings unique form key (line ∷ lines) (x ∷ xs) (y ∷ ys) p q =
    ap₂ (λ first rest. first ∷ rest) (same_reading unique key (digits_in form line) x y p.0 q.0) (same_readings unique form key lines xs ys p.1 q.1)

-- ---- whether digits spell a message

pub spelt : (key : Option TypedKey) (digits : List ℕ) (reading : Reading) → Reads key digits reading → is_message reading ≡ true → SpellsMessage digits
spelt key digits (read.Message m i) p e = (m, p.0, p.1, p.2)
spelt key digits read.Malformed p e = absurd (cc)
spelt key digits read.TooLong p e = absurd (cc)
spelt key digits read.NotHexadecimal p e = absurd (cc)

pub unspelt : (key : Option TypedKey) (digits : List ℕ) (reading : Reading) → Reads key digits reading → is_message reading ≡ false → SpellsMessage digits → ⊥
unspelt key digits (read.Message m i) p e s = absurd (cc)
unspelt key digits read.Malformed p e s = p.2.nothing s.0 (subst (Spells s.0) (bytes_same digits s.1 p.0 s.2 p.1) s.3)
unspelt key digits read.TooLong p e s = absurd (omega (arith, s.3.short, p.2, ap length (bytes_same digits s.1 p.0 s.2 p.1)))
unspelt key digits read.NotHexadecimal p e s = not_hexadecimal digits s.1 s.2 p

-- ---- the readings of an input

any_readings : (key : Option TypedKey) (input : List ℕ) → (readings : List Reading) × AreReadings Any key input readings
any_readings key input = by_whole (reading_of key (digits_of input)).0 (reading_of key (digits_of input)).1 (is_message (reading_of key (digits_of input)).0) refl
  where
    by_whole : (reading : Reading) → Reads key (digits_of input) reading → (b : Bool) → is_message reading ≡ b → (readings : List Reading) × AreReadings Any key input readings
    by_whole reading p true e = (reading ∷ [], inl (spelt key (digits_of input) reading p e, (reading, p, refl)))
    by_whole reading p false e =
        let lines = readings_of Any key input in
        (lines.0, inr (unspelt key (digits_of input) reading p e, lines.1))

pub readings_in : (form : Form) (key : Option TypedKey) (input : List ℕ) → (readings : List Reading) × AreReadings form key input readings
readings_in Lines key input = readings_of Lines key input
readings_in Any key input = any_readings key input

same_lists : UniqueSpelling Spells → (form : Form) (key : Option TypedKey) (input : List ℕ) (a b : List Reading) → AreReadings form key input a → AreReadings form key input b → a ≡ b
same_lists unique Lines key input a b p q = same_readings unique Lines key (lines_of input) a b p q
same_lists unique Any key input a b (inl p) (inl q) = p.1.2 ∙ ap (λ r. r ∷ []) (same_reading unique key (digits_of input) p.1.0 q.1.0 p.1.1 q.1.1) ∙ sym q.1.2
same_lists unique Any key input a b (inl p) (inr q) = absurd (q.0 p.0)
same_lists unique Any key input a b (inr p) (inl q) = absurd (p.0 q.0)
same_lists unique Any key input a b (inr p) (inr q) = same_readings unique Any key (lines_of input) a b p.1 q.1

pub has_one_reading : UniqueSpelling Spells → (form : Form) (key : Option TypedKey) (input : List ℕ) → HasOneReading form key input
has_one_reading unique form key input =
    let readings = readings_in form key input in
    (readings.0, readings.1, λ others are. same_lists unique form key input others readings.0 are readings.1)
