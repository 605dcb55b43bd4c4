-- Frames with the same tags carry the same texts, or two frames that differ have one tag.
use Rattle.std.proofs.Common.{◌≡◌, ℕ, zero, suc, ◌-◌, ◌+◌, Bool, true, false, List, [], ◌∷◌, map, take, slice_get, Option, Some, None, refl, sym, ap, ap₂, subst, ◌∙◌, ◌⊎◌, arith, inl, inr}
use Rattle.std.specs.Prelude.{Ok, unwrap_or}
use Rattle.std.specs.Int.{abs_diff}
use Rattle.std.specs.Str.{bytes_eq}
use Rattle.std.proofs.lemmas.Slice.Eq.{bytes_eq-Decides}
use Rattle.std.proofs.lemmas.List.{take-map}
use Rattle.krb_record.specs.Record.{bytes_of}
use Rattle.krb_record.proofs.RecordLemmas.{one_record}
use Rattle.krb_seal.specs.declared.session.Expect.{Expect}
use Rattle.krb_seal.specs.declared.session.Session.{Session}
use Rattle.krb_seal.specs.Laws.{Agree, ReceiverAgrees}
use Rattle.krb_seal.specs.Opens.{Opens, opener_of}
use Rattle.krb_seal.specs.Sealer.{SealerState}
use Rattle.krb_seal.proofs.SealedFrames.{nowhere_else, at_its_number}
use Rattle.krb_peers.specs.Session.{Sealed, frames_in}
use Rattle.krb_peers.specs.Texts.{texts_of_all}
use Rattle.krb_carry.specs.Outbox.{sealed_in, records_in, stored_records}
use Rattle.krb_carry.specs.History.{tag}
use Rattle.krb_carry.specs.HistoryLaws.{Collision, ReceiptsNameTheHistory}
use Rattle.krb_carry.specs.Copies.{Copy, World}
use Rattle.krb_carry.specs.CopiesLaws.{AreItsOwn, TagsMeet, TextsTookEffect}
use Rattle.krb_carry.proofs.CopyLemmas.{all_too, IsSound, IsOwn, own_at, IsSoundWorld, world_sound}
use Rattle.krb_carry.proofs.ClaimLemmas.{own_done}

-- ---- one frame, one record

-- an opener that agrees with the session
abbrev expect_of : Session → Expect
expect_of s = record {
  mode = s.mode;
  s_addr = s.s_addr;
  r_addr = unwrap_or s.r_addr s.s_addr;
  require_r = false;
  expect_time = false;
  skew = 0;
}

by_cases : {X : Type 0} (C : Option X → Type 0) (o : Option X) → (o ≡ None → C None) → ((x : X) → o ≡ Some x → C (Some x)) → C o
by_cases C None none some = none refl
by_cases C (Some x) none some = some x refl

receiver_agrees : (s : Session) → ReceiverAgrees (expect_of s) s.r_addr
receiver_agrees s =
    by_cases (λ r. ReceiverAgrees (expect_of s) r) s.r_addr (λ none. refl) (λ a some. sym (ap (λ r. unwrap_or r s.s_addr) some))

agrees : (s : Session) (at : ℕ) → Agree s (expect_of s) at at
agrees s at = record {
  mode = refl;
  sender = refl;
  receiver = receiver_agrees s;
  current = (let none : abs_diff at at ≡ 0 = omega arith in omega (arith, none));
}

pub same_record : (sealer : SealerState) (number : ℕ) (one other : Sealed) → IsOwn sealer number one → IsOwn sealer number other → one.frame ≡ other.frame → one.carried ≡ other.carried
same_record sealer number one other its own same =
    let x = expect_of sealer.session in
    let opens = at_its_number sealer.etype sealer.key sealer.session x number one.at one.at (bytes_of one.carried) its.seals.confounder one.frame its.seals.seals (agrees sealer.session one.at) in
    let also = subst (λ f. Opens (opener_of sealer.etype sealer.key x) number one.at f (Ok (bytes_of one.carried))) same opens in
    let bytes = (nowhere_else sealer.etype sealer.key sealer.session x number other.at one.at number (bytes_of other.carried) own.seals.confounder other.frame (bytes_of one.carried) own.seals.seals also).1 in
    one_record (bytes_of one.carried) one.carried other.carried (its.fits, refl) (own.fits, bytes)

-- ---- frames with the same tags

abbrev AreOwn : SealerState → ℕ → List Sealed → Type 0
AreOwn sealer number sealed = (k : ℕ) (it : Sealed) → slice_get sealed k ≡ Some it → IsOwn sealer (number + k) it

own_tail : (sealer : SealerState) (number : ℕ) (it : Sealed) (sealed : List Sealed) → AreOwn sealer number (it ∷ sealed) → AreOwn sealer (number + 1) sealed
own_tail sealer number it sealed are k one at =
    let place : number + suc k ≡ number + 1 + k = omega arith in
    subst (λ n. IsOwn sealer n one) place (are (suc k) one at)

own_head : (sealer : SealerState) (number : ℕ) (it : Sealed) (sealed : List Sealed) → AreOwn sealer number (it ∷ sealed) → IsOwn sealer number it
own_head sealer number it sealed are =
    let place : number + 0 ≡ number = omega arith in
    subst (λ n. IsOwn sealer n it) place (are 0 it refl)

-- one frame of each
one_of_each : (sealer : SealerState) (number : ℕ) (a b : Sealed) → IsOwn sealer number a → IsOwn sealer number b → tag a.frame ≡ tag b.frame → (a.carried ≡ b.carried) ⊎ TagsMeet sealer
one_of_each sealer number a b own its same = by_test (bytes_eq a.frame b.frame) refl
  where
    by_test : (t : Bool) → bytes_eq a.frame b.frame ≡ t → (a.carried ≡ b.carried) ⊎ TagsMeet sealer
    by_test true is = inl (same_record sealer number a b own its ((bytes_eq-Decides a.frame b.frame).0 is))
    by_test false is = inr (record {
      number = number;
      one = a;
      other = b;
      one_seals = own.seals;
      other_seals = its.seals;
      differ = λ e. (let wrong : false ≡ true = sym is ∙ (bytes_eq-Decides a.frame b.frame).1 e in cc);
      same = same;
    })

same_records : (sealer : SealerState) (number : ℕ) (xs ys : List Sealed) → AreOwn sealer number xs → AreOwn sealer number ys
    → map tag (frames_in xs) ≡ map tag (frames_in ys) → (records_in xs ≡ records_in ys) ⊎ TagsMeet sealer
same_records sealer number [] [] own its same = inl refl
same_records sealer number [] (b ∷ ys) own its same = absurd (let e : [] ≡ tag b.frame ∷ map tag (frames_in ys) = same in cc)
same_records sealer number (a ∷ xs) [] own its same = absurd (let e : tag a.frame ∷ map tag (frames_in xs) ≡ [] = same in cc)
same_records sealer number (a ∷ xs) (b ∷ ys) own its same =
    let e : tag a.frame ∷ map tag (frames_in xs) ≡ tag b.frame ∷ map tag (frames_in ys) = same in
    let head : tag a.frame ≡ tag b.frame = cc in
    let tail : map tag (frames_in xs) ≡ map tag (frames_in ys) = cc in
    both (one_of_each sealer number a b (own_head sealer number a xs own) (own_head sealer number b ys its) head)
    (same_records sealer (number + 1) xs ys (own_tail sealer number a xs own) (own_tail sealer number b ys its) tail)
  where
    both : (a.carried ≡ b.carried) ⊎ TagsMeet sealer → (records_in xs ≡ records_in ys) ⊎ TagsMeet sealer → (records_in (a ∷ xs) ≡ records_in (b ∷ ys)) ⊎ TagsMeet sealer
    both (inl one) (inl rest) = inl (ap₂ (λ x xs. x ∷ xs) one rest)
    both (inl one) (inr meet) = inr meet
    both (inr meet) rest = inr meet

-- ---- the first of them

in_take : {X : Type 0} (n : ℕ) (xs : List X) (k : ℕ) (x : X) → slice_get (take n xs) k ≡ Some x → slice_get xs k ≡ Some x
in_take zero xs k x at = absurd (let e = at in cc)
in_take (suc n) [] k x at = absurd (let e = at in cc)
in_take (suc n) (y ∷ xs) zero x at = at
in_take (suc n) (y ∷ xs) (suc k) x at = in_take n xs k x at

own_take : (sealer : SealerState) (number n : ℕ) (sealed : List Sealed) → AreOwn sealer number sealed → AreOwn sealer number (take n sealed)
own_take sealer number n sealed are k it at = are k it (in_take n sealed k it at)

take_frames : (n : ℕ) (sealed : List Sealed) → take n (frames_in sealed) ≡ frames_in (take n sealed)
take_frames n sealed = take-map (λ (it : Sealed). it.frame) n sealed

take_records : (n : ℕ) (sealed : List Sealed) → take n (records_in sealed) ≡ records_in (take n sealed)
take_records n sealed = take-map (λ (it : Sealed). it.carried) n sealed

first_records : (sealer : SealerState) (n : ℕ) (xs ys : List Sealed) → AreOwn sealer sealer.next xs → AreOwn sealer sealer.next ys
    → map tag (take n (frames_in ys)) ≡ map tag (take n (frames_in xs)) → (take n (records_in xs) ≡ take n (records_in ys)) ⊎ TagsMeet sealer
first_records sealer n xs ys own its same = by_records (same_records sealer sealer.next (take n xs) (take n ys) (own_take sealer sealer.next n xs own) (own_take sealer sealer.next n ys its) tags)
  where
    tags : map tag (frames_in (take n xs)) ≡ map tag (frames_in (take n ys))
    tags = ap (λ l. map tag l) (sym (take_frames n xs)) ∙ (sym same ∙ ap (λ l. map tag l) (take_frames n ys))

    by_records : (records_in (take n xs) ≡ records_in (take n ys)) ⊎ TagsMeet sealer → (take n (records_in xs) ≡ take n (records_in ys)) ⊎ TagsMeet sealer
    by_records (inl e) = inl (take_records n xs ∙ (e ∙ sym (take_records n ys)))
    by_records (inr meet) = inr meet

abbrev Claim : SealerState → World → Copy → Type 0
Claim sealer world copy = (texts_of_all (take (copy.done - sealer.next) (stored_records copy.outbox)) ≡ texts_of_all (take (copy.done - sealer.next) (records_in world.took))) ⊎ (Collision ⊎ TagsMeet sealer)

pub texts_took_effect : ReceiptsNameTheHistory → TextsTookEffect
texts_took_effect names sealer events world leads = all_too (IsSound sealer world.took) (Claim sealer world) world.copies each sound.copies
  where
    sound : IsSoundWorld sealer world
    sound = world_sound sealer events world leads

    each : (copy : Copy) → IsSound sealer world.took copy → Claim sealer world copy
    each copy its = by_tags (own_done names sealer world copy its)
      where
        by_records : (take (copy.done - sealer.next) (records_in (sealed_in copy.outbox)) ≡ take (copy.done - sealer.next) (records_in world.took)) ⊎ TagsMeet sealer → Claim sealer world copy
        by_records (inl e) = inl (ap texts_of_all e)
        by_records (inr meet) = inr (inr meet)

        by_tags : AreItsOwn sealer world copy copy.done ⊎ Collision → Claim sealer world copy
        by_tags (inl same) = by_records (first_records sealer (copy.done - sealer.next) (sealed_in copy.outbox) world.took (own_at sealer world.took copy its) sound.took same)
        by_tags (inr collision) = inr (inl collision)
