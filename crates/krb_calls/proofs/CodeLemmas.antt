-- Codes that were computed before.
use Rattle.std.proofs.Common.{arith, ◌≡◌, ℕ, ◌+◌, ◌-◌, ◌<◌, ◌≤◌, List, [], ◌∷◌, ◌++◌, length, drop, Option, Some, None, Result, Ok, Err, take, get_or, refl, sym, ap, subst, ◌∙◌}
use Rattle.std.specs.Prelude.{IfSome, OnOk, option_to_list, unwrap_or}
use Rattle.std.specs.Option.{ForSome}
use Rattle.std.proofs.lemmas.List.{length-drop}
use Rattle.std.proofs.Math.Seq.{take-length}
use Rattle.krb_keys.specs.Hmac.{hmac96}
use Rattle.krb_seal.specs.declared.coded.Coded.{Coded}
use Rattle.krb_seal.specs.declared.coded.Covered.{Covered}
use Rattle.krb_seal.specs.Covered.{CoversFrame, IsCodedFrame, code_key_of}
use Rattle.krb_seal.specs.Opens.{OpenerState}
use Rattle.krb_bulk.specs.declared.four.Four.{Four}
use Rattle.krb_bulk.specs.Four.{AreFrom}
use Rattle.krb_calls.specs.declared.frame.KrbFrame.{KrbFrame}
use Rattle.krb_calls.proofs.TakesTurnLemmas.{cons_at}
use Rattle.krb_calls.specs.Codes.{AreCoded, AreCodesOf, CoversAt, bytes_in, coded_by}

-- no code is any frame's
pub none_coded : (P : Coded → Type 0) → ForSome None P
none_coded P = λ x e. absurd cc

some_coded : (P : Coded → Type 0) (x : Coded) → P x → ForSome (Some x) P
some_coded P x h = λ y e. let same : x ≡ y = cc in subst P same h

-- what was read of a frame, with its code
pub coded_is : (o : OpenerState) (frame : List ℕ) (covered : Option Covered) (code : List ℕ) → IfSome covered (CoversFrame o frame) → code ≡ hmac96 (code_key_of o) (bytes_in covered)
    → ForSome (coded_by covered code) (IsCodedFrame o frame)
coded_is o frame None code h is = none_coded (IsCodedFrame o frame)
coded_is o frame (Some covered) code h is = some_coded (IsCodedFrame o frame) (record { covered = covered; code = code }) (h, is)

-- the first of the queue
pub code_taken : (o : OpenerState) (frames : List KrbFrame) (items rest : List (Option Coded)) (popped : Option (Option Coded))
    → 1 ≤ length frames → AreCoded o frames items → items ≡ option_to_list popped ++ rest → rest ≡ drop 1 items
    → AreCoded o frames (unwrap_or popped None ∷ rest)
code_taken o [] items rest popped some h is next = absurd (omega arith)
code_taken o (f ∷ fs) [] rest None some h is next = (none_coded (IsCodedFrame o f.bytes.now), subst (AreCoded o fs) (sym next) tt)
code_taken o (f ∷ fs) [] rest (Some x) some h is next = absurd cc
code_taken o (f ∷ fs) (c ∷ cs) rest None some h is next = (none_coded (IsCodedFrame o f.bytes.now), subst (AreCoded o fs) (sym next) h.1)
code_taken o (f ∷ fs) (c ∷ cs) rest (Some x) some h is next =
    let same : c ≡ x = cc in
    (subst (λ (z : Option Coded). ForSome z (IsCodedFrame o f.bytes.now)) same h.0, subst (AreCoded o fs) (sym next) h.1)

-- eight of them
module _ (o : OpenerState) (first second : Four (Option Covered)) (codes others : Four (List ℕ)) where
  pub eight_coded : (frames : List KrbFrame) → 8 ≤ length frames → AreFrom (CoversAt o frames) 0 first → AreFrom (CoversAt o frames) 4 second
      → AreCodesOf (code_key_of o) first codes → AreCodesOf (code_key_of o) second others
      → AreCoded o frames (coded_by first.a codes.a ∷ coded_by first.b codes.b ∷ coded_by first.c codes.c ∷ coded_by first.d codes.d
      ∷ coded_by second.a others.a ∷ coded_by second.b others.b ∷ coded_by second.c others.c ∷ coded_by second.d others.d ∷ [])
  eight_coded (f0 ∷ f1 ∷ f2 ∷ f3 ∷ f4 ∷ f5 ∷ f6 ∷ f7 ∷ fs) long one two is are = (
    coded_is o f0.bytes.now first.a codes.a (one.a f0 refl) is.a,
    (
      coded_is o f1.bytes.now first.b codes.b (one.b f1 refl) is.b,
      (
        coded_is o f2.bytes.now first.c codes.c (one.c f2 refl) is.c,
        (
          coded_is o f3.bytes.now first.d codes.d (one.d f3 refl) is.d,
          (
            coded_is o f4.bytes.now second.a others.a (two.a f4 refl) are.a,
            (
              coded_is o f5.bytes.now second.b others.b (two.b f5 refl) are.b,
              (coded_is o f6.bytes.now second.c others.c (two.c f6 refl) are.c, (coded_is o f7.bytes.now second.d others.d (two.d f7 refl) are.d, tt)),
            ),
          ),
        ),
      ),
    ),
  )
  eight_coded frames long one two is are = absurd (omega arith)

  -- and they were put into a queue that was empty
  pub eight_put : {E : Type 0} (frames : List KrbFrame) (empty four eight : List (Option Coded)) (put : Result Unit E) → 8 ≤ length frames → AreFrom (CoversAt o frames) 0 first → AreFrom (CoversAt o frames) 4 second
      → AreCodesOf (code_key_of o) first codes → AreCodesOf (code_key_of o) second others → empty ≡ []
      → four ≡ empty ++ coded_by first.a codes.a ∷ coded_by first.b codes.b ∷ coded_by first.c codes.c ∷ coded_by first.d codes.d ∷ []
      → OnOk put (eight ≡ four ++ coded_by second.a others.a ∷ coded_by second.b others.b ∷ coded_by second.c others.c ∷ coded_by second.d others.d ∷ [])
      → OnOk put (AreCoded o frames eight)
  eight_put frames empty four eight (Ok done) long one two is are none put_first put_second =
      let rest : List (Option Coded) = coded_by second.a others.a ∷ coded_by second.b others.b ∷ coded_by second.c others.c ∷ coded_by second.d others.d ∷ [] in
      let begin : List (Option Coded) = coded_by first.a codes.a ∷ coded_by first.b codes.b ∷ coded_by first.c codes.c ∷ coded_by first.d codes.d ∷ [] in
      let all : eight ≡ begin ++ rest = put_second ∙ ap (λ (z : List (Option Coded)). z ++ rest) (put_first ∙ ap (λ (z : List (Option Coded)). z ++ begin) none) in
      subst (AreCoded o frames) (sym all) (eight_coded frames long one two is are)
  eight_put frames empty four eight (Err e) long one two is are none put_first put_second = tt

-- ---- the rest of a slice

pub part_is : {A : Type 0} (i : ℕ) (xs : List A) → take (length xs - i) (drop i xs) ≡ drop i xs
part_is {A} i xs = subst (λ (m : ℕ). take m (drop i xs) ≡ drop i xs) (length-drop i xs) (take-length (drop i xs))

-- the code of the next frame, and those of the frames after it
pub next_coded : (o same : OpenerState) (frames : List KrbFrame) (index : ℕ) (f : KrbFrame) (coded : Option Coded) (rest : List (Option Coded)) → o ≡ same → index < length frames
    → AreCoded o (take (length frames - index) (drop index frames)) (coded ∷ rest)
    → ForSome coded (IsCodedFrame same (get_or frames index f).bytes.now) × AreCoded same (drop (index + 1) frames) rest
next_coded o same frames index f coded rest is lt h =
    subst (λ (z : OpenerState). AreCoded z (get_or frames index f ∷ drop (index + 1) frames) (coded ∷ rest)) is
    (subst (λ (z : List KrbFrame). AreCoded o z (coded ∷ rest)) (part_is index frames ∙ cons_at frames index f lt) h)
