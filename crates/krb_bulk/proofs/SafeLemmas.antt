-- What is made of one KRB-SAFE, from what is known of it, and what a buffer holds of eight.
use Rattle.std.proofs.Common.{◌≡◌, ℕ, ◌+◌, ◌-◌, ◌<◌, ◌≤◌, List, ◌++◌, length, take, drop, Some, refl, sym, ap, subst, ◌∙◌, arith, append_assoc, length-append}
use Rattle.std.proofs.lemmas.List.{drop-append-le, length-drop, take-append-le, take_all}
use Rattle.std.proofs.Math.Seq.{drop-append_seam}
use Rattle.std.specs.Prelude.{slice_get}
use Rattle.krb_der.specs.declared.body.Body.{Body}
use Rattle.krb_der.specs.declared.safe.SafeDraft.{SafeDraft}
use Rattle.krb_der.specs.declared.safe.SafeMsg.{SafeMsg}
use Rattle.krb_der.specs.declared.message.Message.TheVariants as messages
use Rattle.krb_der.specs.Message.{IsSafeDraft, Spells, safe_input}
use Rattle.krb_der.specs.Safe.{checksum_field}
use Rattle.krb_etype.specs.declared.etype.Etype.{Etype}
use Rattle.krb_etype.specs.Etype.{checksum_number, confounder_size, number_of}
use Rattle.krb_etype.specs.Keys.{checksum_key}
use Rattle.krb_keys.specs.Hmac.{hmac96}
use Rattle.krb_keys.proofs.HmacLemmas.{length-hmac96}
use Rattle.krb_seal.specs.declared.session.Mode.{Mode}
use Rattle.krb_seal.specs.declared.session.Mode.TheVariants.{Safe, Priv}
use Rattle.krb_seal.proofs.Frames.{short_fields}
use Rattle.krb_seal.specs.Checksum.{PutsCovered}
use Rattle.krb_seal.specs.Seals.{SealsBody, safe_checksum, sealed_safe, unsigned}
use Rattle.krb_bulk.specs.declared.bulk.Bulk.{Bulk}
use Rattle.krb_bulk.specs.declared.safe.FourUnsummed.{FourUnsummed}
use Rattle.krb_bulk.specs.declared.safe.Unsummed.{Unsummed}
use Rattle.krb_bulk.specs.declared.four.Four.{Four}
use Rattle.krb_bulk.specs.declared.unsealed.Unsealed.{Unsealed}
use Rattle.krb_bulk.specs.Four.{AreEach, AreFrom}
use Rattle.krb_bulk.specs.BulkInside.{AreSums, Extends, HasInput, HasInputAt, HasInputs, HasShortFields, HasSum, IsDraft, IsDraftAt, IsSumAt, IsUnsummedAt, LiesIn, PutsInput, SealsAt, body_at, input_of}
use Rattle.krb_bulk.proofs.BulkLemmas.{message_at}

-- the message that carries what was made
whole_of : (etype : Etype) (made b : Body) (m : SafeMsg) → made ≡ b → m ≡ unsigned etype made → m ≡ unsigned etype b
whole_of etype made b m same is = is ∙ ap (λ (x : Body). unsigned etype x) same

-- a draft of what the message carries
pub draft_of : (etype : Etype) (conf : List ℕ) (made b : Body) (m : SafeMsg) (draft : SafeDraft) → length conf ≡ confounder_size → made ≡ b → m ≡ unsigned etype made
    → IsSafeDraft m m.cksum_type 12 draft → IsDraft etype conf b draft
draft_of etype conf made b m draft size same is d = record {
  confounder = size;
  made = subst (λ (x : SafeMsg). IsSafeDraft x x.cksum_type 12 draft) (whole_of etype made b m same is) d;
}

-- its fields are short
short_at : (b : Bulk) (k : ℕ) (draft : SafeDraft) → k < length b.messages.now → IsDraftAt b k draft → HasShortFields draft
short_at b k draft lt h =
    let m = message_at b.messages.now k lt in
    let d = (h m.0 m.1).made in
    record {
      within = d.within;
      short = short_fields (unsigned b.parts.etype (body_at b k m.0)) (checksum_number b.parts.etype) draft d;
    }

-- those of four are
pub short_from : (b : Bulk) (from : ℕ) (four : Four SafeDraft) → from + 4 ≤ length b.messages.now → AreFrom (IsDraftAt b) from four → AreEach HasShortFields four
short_from b from four le h = record {
  a = short_at b from four.a (omega (arith, le)) h.a;
  b = short_at b (from + 1) four.b (omega (arith, le)) h.b;
  c = short_at b (from + 2) four.c (omega (arith, le)) h.c;
  d = short_at b (from + 3) four.d (omega (arith, le)) h.d;
}

-- the bytes under its checksum, after they were appended
put_input : (m : SafeMsg) (old new : List ℕ) (u : Unsummed) → new ≡ old ++ safe_input m → u.start ≡ length old → u.end ≡ length new → HasInput m new u
put_input m old new u is first last =
    let i : List ℕ = safe_input m in
    let size : length new ≡ length old + length i = ap length is ∙ length-append old i in
    let rest : drop u.start new ≡ i =
    ap (λ (n : ℕ). drop n new) first ∙ ap (λ (s : List ℕ). drop (length old) s) is ∙ drop-append_seam old i in
    record {
      lies = record { order = omega (arith, size, first, last); within = omega (arith, last) };
      input = ap (λ (s : List ℕ). take (u.end - u.start) s) rest ∙ take_all (u.end - u.start) i (omega (arith, size, first, last));
    }

pub put_at : (b : Bulk) (k : ℕ) (fields old new : List ℕ) (u : Unsummed) → k < length b.messages.now → IsDraftAt b k u.draft → fields ≡ drop u.draft.start u.draft.bytes.items
    → PutsCovered fields old new → u.start ≡ length old → u.end ≡ length new → PutsInput b k old new u
put_at b k fields old new u lt h from puts first last =
    let at : (m : Unsealed) → slice_get b.messages.now k ≡ Some m → new ≡ old ++ safe_input (unsigned b.parts.etype (body_at b k m)) =
    λ m found. puts (unsigned b.parts.etype (body_at b k m)) (sym (from ∙ (h m found).made.fields)) in
    let one = message_at b.messages.now k lt in
    record {
      unsummed = h;
      input = λ m found. put_input (unsigned b.parts.etype (body_at b k m)) old new u (at m found) first last;
      kept = (safe_input (unsigned b.parts.etype (body_at b k one.0)), at one.0 one.1);
    }

-- ---- a buffer that grows

pub extends_on : (xs ys zs : List ℕ) → Extends xs ys → Extends ys zs → Extends xs zs
extends_on xs ys zs a b = (a.0 ++ b.0, b.1 ∙ ap (λ (s : List ℕ). s ++ b.0) a.1 ∙ append_assoc xs a.0 b.0)

kept : (m : SafeMsg) (xs more : List ℕ) (u : Unsummed) → HasInput m xs u → HasInput m (xs ++ more) u
kept m xs more u h = record {
  lies = record { order = h.lies.order; within = omega (arith, h.lies.within, length-append xs more) };
  input = ap (λ (s : List ℕ). take (u.end - u.start) s) (drop-append-le u.start xs more (omega (arith, h.lies.order, h.lies.within)))
      ∙ take-append-le (u.end - u.start) (drop u.start xs) more (omega (arith, h.lies.order, h.lies.within, length-drop u.start xs)) ∙ h.input;
}

kept_at : (b : Bulk) (k : ℕ) (u : Unsummed) (xs ys : List ℕ) → Extends xs ys → HasInputAt b xs k u → HasInputAt b ys k u
kept_at b k u xs ys e h =
    λ m at. subst (λ (s : List ℕ). HasInput (unsigned b.parts.etype (body_at b k m)) s u) (sym e.1)
    (kept (unsigned b.parts.etype (body_at b k m)) xs e.0 u (h m at))

-- four that were put one after another
pub four_put : (b : Bulk) (from : ℕ) (four : FourUnsummed) (s t u v : List ℕ) → PutsInput b from s t four.messages.a → PutsInput b (from + 1) t u four.messages.b
    → PutsInput b (from + 2) u v four.messages.c → PutsInput b (from + 3) v four.inputs.items four.messages.d → HasInputs b from four
four_put b from four s t u v pa pb pc pd =
    let w : List ℕ = four.inputs.items in
    let uw = extends_on u v w pc.kept pd.kept in
    record {
      unsummed = record { a = pa.unsummed; b = pb.unsummed; c = pc.unsummed; d = pd.unsummed };
      input = record {
        a = kept_at b from four.messages.a t w (extends_on t u w pb.kept uw) pa.input;
        b = kept_at b (from + 1) four.messages.b u w uw pb.input;
        c = kept_at b (from + 2) four.messages.c v w pd.kept pc.input;
        d = pd.input;
      };
    }

lies_at : (b : Bulk) (inputs : List ℕ) (k : ℕ) (u : Unsummed) → k < length b.messages.now → HasInputAt b inputs k u → LiesIn inputs u
lies_at b inputs k u lt h = let m = message_at b.messages.now k lt in (h m.0 m.1).lies

-- four lie in their buffer
pub lie_in : (b : Bulk) (from : ℕ) (four : FourUnsummed) → from + 4 ≤ length b.messages.now → HasInputs b from four → AreEach (LiesIn four.inputs.items) four.messages
lie_in b from four le h = record {
  a = lies_at b four.inputs.items from four.messages.a (omega (arith, le)) h.input.a;
  b = lies_at b four.inputs.items (from + 1) four.messages.b (omega (arith, le)) h.input.b;
  c = lies_at b four.inputs.items (from + 2) four.messages.c (omega (arith, le)) h.input.c;
  d = lies_at b four.inputs.items (from + 3) four.messages.d (omega (arith, le)) h.input.d;
}

-- ---- checksums

sum_at : (b : Bulk) (inputs : List ℕ) (k : ℕ) (u : Unsummed) (sum : List ℕ) → HasInputAt b inputs k u → sum ≡ hmac96 (checksum_key b.parts.keys.now.key) (input_of inputs u)
    → IsSumAt b k sum
sum_at b inputs k u sum h is =
    λ m at. is ∙ ap (λ (x : List ℕ). hmac96 (checksum_key b.parts.keys.now.key) x) (h m at).input

pub sums_in : (b : Bulk) (from : ℕ) (four : FourUnsummed) (sums : Four (List ℕ)) → HasInputs b from four
    → AreSums b.parts.keys.now.key four.inputs.items four.messages sums → AreFrom (IsSumAt b) from sums
sums_in b from four sums h are = record {
  a = sum_at b four.inputs.items from four.messages.a sums.a h.input.a are.a;
  b = sum_at b four.inputs.items (from + 1) four.messages.b sums.b h.input.b are.b;
  c = sum_at b four.inputs.items (from + 2) four.messages.c sums.c h.input.c are.c;
  d = sum_at b four.inputs.items (from + 3) four.messages.d sums.d h.input.d are.d;
}

-- the frame of a KRB-SAFE
safe_frame : (etype : Etype) (key conf : List ℕ) (b : Body) (u : Unsummed) (sum frame : List ℕ) → IsDraft etype conf b u.draft
    → sum ≡ safe_checksum key (unsigned etype b) → HasSum etype u sum frame → SealsBody Safe (number_of etype) key conf b frame
safe_frame etype key conf b u sum frame h same made =
    let own : List ℕ = safe_checksum key (unsigned etype b) in
    let whole : frame ≡ u.draft.bytes.items ++ checksum_field (checksum_number etype) own =
    made ∙ ap (λ (x : List ℕ). u.draft.bytes.items ++ checksum_field (checksum_number etype) x) same in
    let spelt : Spells (messages.Safe (sealed_safe etype key b)) frame =
    subst (λ (s : List ℕ). Spells (messages.Safe (sealed_safe etype key b)) s) (sym whole)
    (h.made.spelt own (length-hmac96 (checksum_key key) (safe_input (unsigned etype b)))) in
    record {
      etype = etype;
      known = refl;
      body = spelt.in_range.body;
      confounder = h.confounder;
      plain = λ e. absurd (let no : Safe ≡ Priv = e in cc);
      spelt = spelt;
    }

-- the frame of one in the mode of KRB-SAFE
pub safe_at : (b : Bulk) (k : ℕ) (u : Unsummed) (sum frame : List ℕ) → b.parts.session.now.mode ≡ Safe → IsUnsummedAt b k u → IsSumAt b k sum → HasSum b.parts.etype u sum frame
    → SealsAt b k frame
safe_at b k u sum frame mode h is made =
    λ m at. subst (λ (x : Mode). SealsBody x (number_of b.parts.etype) b.parts.keys.now.key m.confounder (body_at b k m) frame) (sym mode)
    (safe_frame b.parts.etype b.parts.keys.now.key m.confounder (body_at b k m) u sum frame (h m at) (is m at) made)
