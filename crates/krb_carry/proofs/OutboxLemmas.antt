-- What an outbox has after any acts: one frame for each number, of what was put in, in order.
use Rattle.std.proofs.Common.{◌≡◌, ℕ, zero, suc, ◌+◌, ◌||◌, true, false, List, [], ◌∷◌, ◌++◌, length, map, slice_get, Some, None, refl, sym, ap, ap₂, subst, ◌∙◌, arith, inl, inr, length-append, append_assoc, append-nil}
use Rattle.std.specs.Prelude.{All, is_none}
use Rattle.std.specs.List.{flat_map, list_any}
use Rattle.std.specs.Option.{option_map}
use Rattle.std.proofs.lemmas.List.{map-append, length-map}
use Rattle.std.proofs.lemmas.Option.{slice_get-map}
use Rattle.std.proofs.lemmas.List.Concat.{flat_map-append}
use Rattle.std.proofs.lemmas.List.Elements.{All-head, All-tail}
use Rattle.std.proofs.lemmas.List.Folds.{list_any-append}
use Rattle.krb_base.specs.Prefix.{IsPrefix}
use Rattle.krb_record.specs.declared.record.Record.{Record}
use Rattle.krb_record.specs.declared.record.Record.TheVariants.{Text, Batch, Close}
use Rattle.krb_record.specs.Record.{FitsLimits, texts_of, is_close}
use Rattle.krb_seal.specs.Sealer.{SealerState}
use Rattle.krb_peers.proofs.AnswerLemmas.{image}
use Rattle.krb_peers.proofs.FrameLemmas.{all_readable}
use Rattle.krb_peers.specs.Texts.{texts_of_all}
use Rattle.krb_peers.specs.Session.{AreRecords, FitLimits, Sealed, SealsAt, AreSealed}
use Rattle.krb_carry.specs.Outbox.{Put, texts_put, has_close_put, puts_of, records_in, puts_in, Kept, numbered, Outbox, new_outbox, sealed_in, stored_records, MayLeave, Sealing, IsSealing, Act, Insert, Seal, IsAct, with_put, with_frames, Acts, LeadsOutbox}

-- ---- lists

-- what stands in two lists, one after the other
pub data StandsIn {X : Type 0} (xs ys : List X) (k : ℕ) (x : X) : Type 0 where
  first : slice_get xs k ≡ Some x → StandsIn xs ys k x
  second : (j : ℕ) → k ≡ length xs + j → slice_get ys j ≡ Some x → StandsIn xs ys k x

pub stands_in : {X : Type 0} (xs ys : List X) (k : ℕ) (x : X) → slice_get (xs ++ ys) k ≡ Some x → StandsIn xs ys k x
stands_in [] ys k x at = second k (omega arith) at
stands_in (y ∷ xs) ys zero x at = first at
stands_in (y ∷ xs) ys (suc k) x at = elim (stands_in xs ys k x at) [
  | first here ↦ first here
  | second j is there ↦ second j (omega (arith, is)) there
]

pub slice_get-append : {X : Type 0} (xs ys : List X) (k : ℕ) (x : X) → slice_get xs k ≡ Some x → slice_get (xs ++ ys) k ≡ Some x
slice_get-append [] ys k x at = absurd (let e = at in cc)
slice_get-append (y ∷ xs) ys zero x at = at
slice_get-append (y ∷ xs) ys (suc k) x at = slice_get-append xs ys k x at

none_left : {X : Type 0} (xs ys : List X) → xs ++ ys ≡ [] → xs ≡ []
none_left [] ys is = refl
none_left (x ∷ xs) ys is = absurd (let e = is in cc)

-- ---- numbers

pub it-numbered : (from : ℕ) (sealed : List Sealed) → map (λ (kept : Kept). kept.it) (numbered from sealed) ≡ sealed
it-numbered from [] = refl
it-numbered from (it ∷ sealed) = ap (λ l. it ∷ l) (it-numbered (from + 1) sealed)

length-numbered : (from : ℕ) (sealed : List Sealed) → length (numbered from sealed) ≡ length sealed
length-numbered from [] = refl
length-numbered from (it ∷ sealed) = ap suc (length-numbered (from + 1) sealed)

numbered-append : (from : ℕ) (xs ys : List Sealed) → numbered from (xs ++ ys) ≡ numbered from xs ++ numbered (from + length xs) ys
numbered-append from [] ys = ap (λ n. numbered n ys) (let e : from ≡ from + 0 = omega arith in e)
numbered-append from (it ∷ xs) ys =
    let next : from + 1 + length xs ≡ from + suc (length xs) = omega arith in
    let kept : Kept = record { number = from; it = it } in
    ap (λ l. kept ∷ l) (numbered-append (from + 1) xs ys ∙ ap (λ n. numbered (from + 1) xs ++ numbered n ys) next)

number_at : (from : ℕ) (sealed : List Sealed) (k : ℕ) (kept : Kept) → slice_get (numbered from sealed) k ≡ Some kept → kept.number ≡ from + k
number_at from [] k kept at = absurd (let e = at in cc)
number_at from (it ∷ sealed) zero kept at =
    let own : Kept = record { number = from; it = it } in
    let same : own ≡ kept = (let e : Some own ≡ Some kept = at in cc) in
    ap (λ (x : Kept). x.number) (sym same) ∙ (let e : from ≡ from + 0 = omega arith in e)
number_at from (it ∷ sealed) (suc k) kept at =
    let later = number_at (from + 1) sealed k kept at in
    omega (arith, later)

-- ---- the close is put in last

abbrev pub IsLast : List Put → Type 0
IsLast puts = (front back : List Put) → puts ≡ front ++ None ∷ back → back ≡ []

no_close : (front back : List Put) → [] ≡ front ++ None ∷ back → ⊥
no_close [] back is = let e = is in cc
no_close (put ∷ front) back is = let e = is in cc

put_last : (puts : List Put) (put : Put) → has_close_put puts ≡ false → IsLast (puts ++ put ∷ [])
put_last [] put none [] back is = let e : put ∷ [] ≡ None ∷ back = is in cc
put_last [] put none (f ∷ front) back is =
    let e : put ∷ [] ≡ f ∷ (front ++ None ∷ back) = is in
    let tail : [] ≡ front ++ None ∷ back = cc in
    absurd (no_close front back tail)
put_last (None ∷ puts) put none front back is = absurd (let e : true ≡ false = none in cc)
put_last (Some text ∷ puts) put none [] back is =
    let e : Some text ∷ (puts ++ put ∷ []) ≡ None ∷ back = is in
    let head : ◌≡◌ {A = Put} (Some text) None = cc in
    absurd (let f = head in cc)
put_last (Some text ∷ puts) put none (f ∷ front) back is =
    let e : Some text ∷ (puts ++ put ∷ []) ≡ f ∷ (front ++ None ∷ back) = is in
    let tail : puts ++ put ∷ [] ≡ front ++ None ∷ back = cc in
    put_last puts put none front back tail

-- each record carries something
some_put : (r : Record) → FitsLimits r → puts_of r ≡ [] → ⊥
some_put (Text text) fits is = let e = is in cc
some_put (Batch []) fits is = omega (arith, fits.several)
some_put (Batch (text ∷ texts)) fits is = let e = is in cc
some_put Close fits is = let e = is in cc

-- ---- what holds of an outbox

pub record IsSound (sealer : SealerState) (outbox : Outbox) : Type 0 where
  pub number : outbox.next ≡ sealer.next + length outbox.frames
  pub frames : outbox.frames ≡ numbered sealer.next (sealed_in outbox)
  pub seals : (k : ℕ) (it : Sealed) → slice_get (sealed_in outbox) k ≡ Some it → SealsAt sealer (sealer.next + k) it
  pub limits : (k : ℕ) (it : Sealed) → slice_get (sealed_in outbox) k ≡ Some it → FitsLimits it.carried
  pub puts : outbox.inserted ≡ puts_in (sealed_in outbox) ++ outbox.waiting
  pub last : IsLast outbox.inserted

sound_new : (sealer : SealerState) → IsSound sealer (new_outbox sealer)
sound_new sealer = record {
  number = omega arith;
  frames = refl;
  seals = λ k it at. absurd (let e = at in cc);
  limits = λ k it at. absurd (let e = at in cc);
  puts = refl;
  last = λ front back is. absurd (no_close front back is);
}

sound_put : (sealer : SealerState) (old : Outbox) (put : Put) → IsSound sealer old → has_close_put old.inserted ≡ false → IsSound sealer (with_put old put)
sound_put sealer old put sound none = record {
  number = sound.number;
  frames = sound.frames;
  seals = sound.seals;
  limits = sound.limits;
  puts = ap (λ l. l ++ put ∷ []) sound.puts ∙ append_assoc (puts_in (sealed_in old)) old.waiting (put ∷ []);
  last = put_last old.inserted put none;
}

puts_in-append : (xs ys : List Sealed) → puts_in (xs ++ ys) ≡ puts_in xs ++ puts_in ys
puts_in-append xs ys =
    ap (λ rs. flat_map puts_of rs) (map-append (λ (it : Sealed). it.carried) xs ys) ∙ flat_map-append puts_of (records_in xs) (records_in ys)

pub length-sealed_in : (outbox : Outbox) → length (sealed_in outbox) ≡ length outbox.frames
length-sealed_in outbox = length-map outbox.frames (λ (kept : Kept). kept.it)

module _ (sealer : SealerState) (old : Outbox) (sealing : Sealing) (left : List Put) (sound : IsSound sealer old) (is : IsSealing sealer sealing) (at : old.next ≡ sealing.from) (takes : old.waiting ≡ puts_in sealing.sealed ++ left) where
  abbrev stored : Outbox
  stored = with_frames old sealing left

  from_is : sealing.from ≡ sealer.next + length (sealed_in old)
  from_is = omega (arith, at, sound.number, length-sealed_in old)

  more : sealed_in stored ≡ sealed_in old ++ sealing.sealed
  more =
      map-append (λ (kept : Kept). kept.it) old.frames (numbered sealing.from sealing.sealed)
      ∙ ap (λ l. sealed_in old ++ l) (it-numbered sealing.from sealing.sealed)

  -- what is sealed now was before, or is by this process
  each : (P : ℕ → Sealed → Type 0) → ((k : ℕ) (it : Sealed) → slice_get (sealed_in old) k ≡ Some it → P k it)
      → ((i : ℕ) (it : Sealed) → slice_get sealing.sealed i ≡ Some it → P (length (sealed_in old) + i) it)
      → (k : ℕ) (it : Sealed) → slice_get (sealed_in stored) k ≡ Some it → P k it
  each P before here k it there =
      elim (stands_in (sealed_in old) sealing.sealed k it (ap (λ l. slice_get l k) (sym more) ∙ there)) [
        | first at_old ↦ before k it at_old
        | second i place at_new ↦ subst (λ n. P n it) (sym place) (here i it at_new)
      ]

  sound_sealing : IsSound sealer stored
  sound_sealing = record {
    number = omega (arith, at, sound.number, length-append old.frames (numbered sealing.from sealing.sealed), length-numbered sealing.from sealing.sealed);
    frames = ap₂ (λ xs ys. xs ++ ys) sound.frames (ap (λ n. numbered n sealing.sealed) from_is)
        ∙ (sym (numbered-append sealer.next (sealed_in old) sealing.sealed) ∙ ap (λ l. numbered sealer.next l) (sym more));
    seals = each (λ k it. SealsAt sealer (sealer.next + k) it) sound.seals (λ i it there.
        let number : sealing.from + i ≡ sealer.next + (length (sealed_in old) + i) = omega (arith, from_is) in
        subst (λ n. SealsAt sealer n it) number (is.frames i it there));
    limits = each (λ k it. FitsLimits it.carried) sound.limits is.limits;
    puts = sound.puts
        ∙ (ap (λ l. puts_in (sealed_in old) ++ l) takes
        ∙ (sym (append_assoc (puts_in (sealed_in old)) (puts_in sealing.sealed) left)
        ∙ ap (λ l. l ++ left) (sym (puts_in-append (sealed_in old) sealing.sealed) ∙ ap puts_in (sym more))));
    last = sound.last;
  }

sound_act : (sealer : SealerState) (old : Outbox) (act : Act) (new : Outbox) → IsSound sealer old → IsAct sealer act → Acts old act new → IsSound sealer new
sound_act sealer old (Insert put) new sound is (inl took) = subst (λ o. IsSound sealer o) (sym took.1) (sound_put sealer old put sound took.0)
sound_act sealer old (Insert put) new sound is (inr same) = subst (λ o. IsSound sealer o) (sym same) sound
sound_act sealer old (Seal sealing) new sound is (inl took) =
    subst (λ o. IsSound sealer o) (sym (took.1).2) (sound_sealing sealer old sealing ((took.1).0) sound is took.0 (took.1).1)
sound_act sealer old (Seal sealing) new sound is (inr same) = subst (λ o. IsSound sealer o) (sym same) sound

sound_acts : (sealer : SealerState) (old : Outbox) (acts : List Act) (new : Outbox) → IsSound sealer old → All (IsAct sealer) acts → LeadsOutbox old acts new → IsSound sealer new
sound_acts sealer old [] new sound each same = subst (λ o. IsSound sealer o) (sym same) sound
sound_acts sealer old (act ∷ acts) new sound each leads =
    let then = sound_act sealer old act (leads.0) sound (All-head (IsAct sealer) act acts each) leads.1 in
    sound_acts sealer (leads.0) acts new then (All-tail (IsAct sealer) act acts each) leads.2

pub outbox_sound : (sealer : SealerState) (acts : List Act) (outbox : Outbox) → All (IsAct sealer) acts → LeadsOutbox (new_outbox sealer) acts outbox → IsSound sealer outbox
outbox_sound sealer acts outbox each leads = sound_acts sealer (new_outbox sealer) acts outbox (sound_new sealer) each leads

-- ---- so what is stored is sealed, with the close last

second_after : (front : List Record) (x y : Record) (back : List Record) → slice_get (front ++ x ∷ y ∷ back) (length front + 1) ≡ Some y
second_after [] x y back = refl
second_after (f ∷ front) x y back =
    let n : suc (length front) + 1 ≡ suc (length front + 1) = omega arith in
    rw n (second_after front x y back)

pub sealed_record : (sealed : List Sealed) (k : ℕ) (it : Sealed) → slice_get sealed k ≡ Some it → slice_get (records_in sealed) k ≡ Some it.carried
sealed_record sealed k it at =
    slice_get-map (λ (s : Sealed). s.carried) sealed k ∙ ap (λ o. option_map (λ (s : Sealed). s.carried) o) at

pub length-records : (sealed : List Sealed) → length (records_in sealed) ≡ length sealed
length-records sealed = length-map sealed (λ (it : Sealed). it.carried)

module _ (sealer : SealerState) (outbox : Outbox) (sound : IsSound sealer outbox) where
  abbrev records : List Record
  records = stored_records outbox

  pub sound_fit : FitLimits records
  sound_fit k r at =
      let it = image (λ (s : Sealed). s.carried) (sealed_in outbox) k r at in
      subst FitsLimits (sym it.is) (sound.limits k it.source it.at)

  none_after : (front back : List Record) → records ≡ front ++ Close ∷ back → back ≡ []
  none_after front [] is = refl
  none_after front (r ∷ back) is =
      let here : slice_get records (length front + 1) ≡ Some r = ap (λ l. slice_get l (length front + 1)) is ∙ second_after front Close r back in
      let rest = flat_map puts_of back ++ outbox.waiting in
      let whole : outbox.inserted ≡ flat_map puts_of front ++ None ∷ (puts_of r ++ rest) =
      sound.puts
      ∙ (ap (λ rs. flat_map puts_of rs ++ outbox.waiting) is
      ∙ (ap (λ l. l ++ outbox.waiting) (flat_map-append puts_of front (Close ∷ r ∷ back))
      ∙ (append_assoc (flat_map puts_of front) (None ∷ (puts_of r ++ flat_map puts_of back)) outbox.waiting
      ∙ ap (λ l. flat_map puts_of front ++ None ∷ l) (append_assoc (puts_of r) (flat_map puts_of back) outbox.waiting)))) in
      absurd (some_put r (sound_fit (length front + 1) r here) (none_left (puts_of r) rest (sound.last (flat_map puts_of front) (puts_of r ++ rest) whole)))

  pub sound_records : AreRecords records
  sound_records = record { readable = all_readable records sound_fit; close_last = none_after }

  pub sound_sealed : AreSealed sealer records (sealed_in outbox)
  sound_sealed = record {
    one_each = sym (length-records (sealed_in outbox));
    each = λ k it at. record { there = sealed_record (sealed_in outbox) k it at; seals = sound.seals k it at };
  }

-- ---- one frame for each number

frames_grow : (old : Outbox) (acts : List Act) (new : Outbox) → LeadsOutbox old acts new → IsPrefix old.frames new.frames
frames_grow old [] new same = ([], ap (λ (o : Outbox). o.frames) same ∙ sym (append-nil old.frames))
frames_grow old (act ∷ acts) new leads =
    let one = one_act old act (leads.0) leads.1 in
    let rest = frames_grow (leads.0) acts new leads.2 in
    (one.0 ++ rest.0, rest.1 ∙ (ap (λ l. l ++ rest.0) one.1 ∙ append_assoc old.frames (one.0) (rest.0)))
  where
    one_act : (old : Outbox) (act : Act) (between : Outbox) → Acts old act between → IsPrefix old.frames between.frames
    one_act old (Insert put) between (inl took) = ([], ap (λ (o : Outbox). o.frames) took.1 ∙ sym (append-nil old.frames))
    one_act old (Insert put) between (inr same) = ([], ap (λ (o : Outbox). o.frames) same ∙ sym (append-nil old.frames))
    one_act old (Seal sealing) between (inl took) = (numbered sealing.from sealing.sealed, ap (λ (o : Outbox). o.frames) (took.1).2)
    one_act old (Seal sealing) between (inr same) = ([], ap (λ (o : Outbox). o.frames) same ∙ sym (append-nil old.frames))

pub one_frame : (sealer : SealerState) (before : List Act) (old : Outbox) (after : List Act) (new : Outbox) (number : ℕ) (a b : List ℕ)
    → All (IsAct sealer) before → LeadsOutbox (new_outbox sealer) before old → All (IsAct sealer) after → LeadsOutbox old after new → MayLeave old number a → MayLeave new number b → a ≡ b
one_frame sealer before old after new number a b each leads them lead one other =
    let sound_old = outbox_sound sealer before old each leads in
    let sound = sound_acts sealer old after new sound_old them lead in
    let grown = frames_grow old after new lead in
    let there : slice_get new.frames one.place ≡ Some one.kept = ap (λ l. slice_get l one.place) grown.1 ∙ slice_get-append old.frames (grown.0) one.place one.kept one.there in
    let first = number_at sealer.next (sealed_in new) one.place one.kept (ap (λ l. slice_get l one.place) (sym sound.frames) ∙ there) in
    let second = number_at sealer.next (sealed_in new) other.place other.kept (ap (λ l. slice_get l other.place) (sym sound.frames) ∙ other.there) in
    let place : one.place ≡ other.place = omega (arith, first, second, one.number_is, other.number_is) in
    let same : one.kept ≡ other.kept = (let e : Some one.kept ≡ Some other.kept = sym there ∙ (ap (λ n. slice_get new.frames n) place ∙ other.there) in cc) in
    sym one.frame_is ∙ (ap (λ (kept : Kept). kept.it.frame) same ∙ other.frame_is)

-- ---- the texts

texts_put-append : (xs ys : List Put) → texts_put (xs ++ ys) ≡ texts_put xs ++ texts_put ys
texts_put-append [] ys = refl
texts_put-append (Some text ∷ xs) ys = ap (λ l. text ∷ l) (texts_put-append xs ys)
texts_put-append (None ∷ xs) ys = texts_put-append xs ys

texts_put-some : (texts : List (List ℕ)) → texts_put (map Some texts) ≡ texts
texts_put-some [] = refl
texts_put-some (text ∷ texts) = ap (λ l. text ∷ l) (texts_put-some texts)

texts_put-of : (r : Record) → texts_put (puts_of r) ≡ texts_of r
texts_put-of (Text text) = refl
texts_put-of (Batch texts) = texts_put-some texts
texts_put-of Close = refl

texts_put-records : (rs : List Record) → texts_put (flat_map puts_of rs) ≡ flat_map texts_of rs
texts_put-records [] = refl
texts_put-records (r ∷ rs) =
    texts_put-append (puts_of r) (flat_map puts_of rs) ∙ ap₂ (λ xs ys. xs ++ ys) (texts_put-of r) (texts_put-records rs)

close_put-some : (texts : List (List ℕ)) → list_any is_none (map Some texts) ≡ false
close_put-some [] = refl
close_put-some (text ∷ texts) = close_put-some texts

close_put-of : (r : Record) → has_close_put (puts_of r) ≡ is_close r
close_put-of (Text text) = refl
close_put-of (Batch texts) = close_put-some texts
close_put-of Close = refl

close_put-records : (rs : List Record) → has_close_put (flat_map puts_of rs) ≡ list_any is_close rs
close_put-records [] = refl
close_put-records (r ∷ rs) =
    list_any-append is_none (puts_of r) (flat_map puts_of rs) ∙ ap₂ (λ x y. x || y) (close_put-of r) (close_put-records rs)

-- what was sealed, and then what waits, are the texts that were put in
pub texts_are : (sealer : SealerState) (outbox : Outbox) → IsSound sealer outbox → texts_put outbox.inserted ≡ texts_of_all (stored_records outbox) ++ texts_put outbox.waiting
texts_are sealer outbox sound =
    ap texts_put sound.puts
    ∙ (texts_put-append (puts_in (sealed_in outbox)) outbox.waiting ∙ ap (λ l. l ++ texts_put outbox.waiting) (texts_put-records (records_in (sealed_in outbox))))

-- and where none waits, a close was sealed if it was put in
pub close_is : (sealer : SealerState) (outbox : Outbox) → IsSound sealer outbox → outbox.waiting ≡ [] → has_close_put outbox.inserted ≡ list_any is_close (records_in (sealed_in outbox))
close_is sealer outbox sound none =
    ap has_close_put (sound.puts ∙ (ap (λ l. puts_in (sealed_in outbox) ++ l) none ∙ append-nil (puts_in (sealed_in outbox))))
    ∙ close_put-records (records_in (sealed_in outbox))
