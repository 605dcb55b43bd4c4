-- Frames that are taken in a loop.
use Rattle.std.proofs.Common.{◌≡◌, ℕ, ◌+◌, ◌-◌, ◌<◌, ◌≤◌, List, [], ◌∷◌, ◌++◌, length, take, drop, get_or, refl, sym, ap, subst, ◌∙◌, append_assoc, arith, add-one}
use Rattle.std.proofs.lemmas.List.{append-nil, drop-set-lt, length-append, length-drop, length-take-le, take-append-drop, take_more_set}
use Rattle.std.proofs.Math.ListN.{drop_of_length-le, set}
use Rattle.std.proofs.Math.Seq.{drop-append-add, drop-cons, take-append-add}
use borrow.Rule.Slice.PartMut.{put_mid}
use Rattle.krb_peers.specs.ReceiverState.{ReceiverState}
use Rattle.krb_structs.specs.declared.moment.KrbMoment.{KrbMoment}
use Rattle.krb_calls.specs.declared.frame.KrbFrame.{KrbFrame}
use Rattle.krb_calls.specs.declared.taken.KrbTaken.{KrbTaken}
use Rattle.krb_calls.specs.Takes.{Takes, TakesInTurn, used}

-- Whatever taking the frames from this index on gives, with it all frames are taken in turn.
pub record GoesOn (old : ReceiverState) (at : KrbMoment) (frames : List KrbFrame) (before : List KrbTaken) (old_out : List ℕ)
    (mid : ReceiverState) (index : ℕ) (taken : List KrbTaken) (from : ℕ) (out : List ℕ) : Type 0 where
  pub goes_on : (new : ReceiverState) (told : List KrbTaken) (new_out : List ℕ)
      → TakesInTurn mid at (drop index frames) (drop index taken) (drop from out) new told new_out
      → TakesInTurn old at frames before old_out new (take index taken ++ told) (take from out ++ new_out)

module _ (old : ReceiverState) (at : KrbMoment) (frames : List KrbFrame) (before : List KrbTaken) (old_out : List ℕ) where
  -- before the first
  pub begins : GoesOn old at frames before old_out old 0 before 0 old_out
  begins = record { goes_on = λ new told new_out h. h }

  -- after the last
  pub ends : (mid : ReceiverState) (index : ℕ) (taken : List KrbTaken) (from : ℕ) (out : List ℕ) → drop index frames ≡ [] → GoesOn old at frames before old_out mid index taken from out
      → TakesInTurn old at frames before old_out mid taken out
  ends mid index taken from out none g =
      let h : TakesInTurn mid at (drop index frames) (drop index taken) (drop from out) mid (drop index taken) (drop from out) =
      subst (λ (z : List KrbFrame). TakesInTurn mid at z (drop index taken) (drop from out) mid (drop index taken) (drop from out)) (sym none) (refl, refl, refl) in
      let all = g.goes_on mid (drop index taken) (drop from out) h in
      subst (λ (z : List KrbTaken). TakesInTurn old at frames before old_out mid z out) (take-append-drop index taken)
      (subst (λ (z : List ℕ). TakesInTurn old at frames before old_out mid (take index taken ++ drop index taken) z) (take-append-drop from out) all)

  -- after one more
  pub goes_on : (mid : ReceiverState) (index : ℕ) (taken : List KrbTaken) (from : ℕ) (out : List ℕ)
      (f : KrbFrame) (t t' : KrbTaken) (next : ReceiverState) (taken' : List KrbTaken) (out' written : List ℕ)
      → drop index frames ≡ f ∷ drop (index + 1) frames → drop index taken ≡ t ∷ drop (index + 1) taken
      → take (index + 1) taken' ≡ take index taken ++ t' ∷ [] → drop (index + 1) taken' ≡ drop (index + 1) taken
      → take (from + used t') out' ≡ take from out ++ take (used t') written → drop (from + used t') out' ≡ drop (used t') written
      → Takes mid at f.bytes.now t (drop from out) next t' written
      → GoesOn old at frames before old_out mid index taken from out → GoesOn old at frames before old_out next (index + 1) taken' (from + used t') out'
  goes_on mid index taken from out f t t' next taken' out' written frame place told_first told_rest out_first out_rest takes g = record {
    goes_on = λ new told new_out h.
        let Rest = λ (bs : List KrbTaken) (part : List ℕ). TakesInTurn next at (drop (index + 1) frames) bs part new told new_out in
        let rest : TakesInTurn next at (drop (index + 1) frames) (drop (index + 1) taken) (drop (used t') written) new told new_out =
        subst (λ (z : List KrbTaken). Rest z (drop (used t') written)) told_rest (subst (λ (z : List ℕ). Rest (drop (index + 1) taken') z) out_rest h) in
        let one : TakesInTurn mid at (f ∷ drop (index + 1) frames) (t ∷ drop (index + 1) taken) (drop from out) new (t' ∷ told) (take (used t') written ++ new_out) =
        (next, written, new_out, takes, rest, refl) in
        let here : TakesInTurn mid at (drop index frames) (drop index taken) (drop from out) new (t' ∷ told) (take (used t') written ++ new_out) =
        subst (λ (z : List KrbFrame). TakesInTurn mid at z (drop index taken) (drop from out) new (t' ∷ told) (take (used t') written ++ new_out)) (sym frame)
        (subst (λ (z : List KrbTaken). TakesInTurn mid at (f ∷ drop (index + 1) frames) z (drop from out) new (t' ∷ told) (take (used t') written ++ new_out)) (sym place) one) in
        let all = g.goes_on new (t' ∷ told) (take (used t') written ++ new_out) here in
        let told_is : take index taken ++ (t' ∷ told) ≡ take (index + 1) taken' ++ told =
        sym (append_assoc (take index taken) (t' ∷ []) told) ∙ ap (λ (z : List KrbTaken). z ++ told) (sym told_first) in
        let out_is : take from out ++ (take (used t') written ++ new_out) ≡ take (from + used t') out' ++ new_out =
        sym (append_assoc (take from out) (take (used t') written) new_out) ∙ ap (λ (z : List ℕ). z ++ new_out) (sym out_first) in
        subst (λ (z : List KrbTaken). TakesInTurn old at frames before old_out new z (take (from + used t') out' ++ new_out)) told_is
        (subst (λ (z : List ℕ). TakesInTurn old at frames before old_out new (take index taken ++ (t' ∷ told)) z) out_is all);
  }

-- ---- the buffer, of which the part from a place on was written to

written_is : (from : ℕ) (out written : List ℕ) → from ≤ length out → put_mid from (length out - from) out written ≡ take from out ++ written
written_is from out written le =
    let none : drop (length out - from) (drop from out) ≡ [] = drop_of_length-le (drop from out) (omega (arith, length-drop from out)) in
    ap (λ (z : List ℕ). take from out ++ (written ++ z)) none ∙ ap (λ (z : List ℕ). take from out ++ z) (append-nil written)

first_is : (from used : ℕ) (out written : List ℕ) → from ≤ length out → take (from + used) (put_mid from (length out - from) out written) ≡ take from out ++ take used written
first_is from used out written le =
    ap (take (from + used)) (written_is from out written le)
    ∙ subst (λ (m : ℕ). take (m + used) (take from out ++ written) ≡ take from out ++ take used written) (length-take-le from out le) (take-append-add (take from out) written used)

rest_is : (from used : ℕ) (out written : List ℕ) → from ≤ length out → drop (from + used) (put_mid from (length out - from) out written) ≡ drop used written
rest_is from used out written le =
    ap (drop (from + used)) (written_is from out written le)
    ∙ subst (λ (m : ℕ). drop (m + used) (take from out ++ written) ≡ drop used written) (length-take-le from out le) (drop-append-add (take from out) written used)

pub within_is : (from used : ℕ) (out written : List ℕ) → from ≤ length out → used ≤ length written → from + used ≤ length (put_mid from (length out - from) out written)
within_is from used out written le fits =
    rw (written_is from out written le) (omega (arith, length-append (take from out) written, length-take-le from out le))

pub cons_at : {A : Type 0} (xs : List A) (i : ℕ) (d : A) → i < length xs → drop i xs ≡ get_or xs i d ∷ drop (i + 1) xs
cons_at xs i d lt = rw add-one (drop-cons xs i d lt)

-- ---- a turn of the loop

module _ (old : ReceiverState) (at : KrbMoment) (frames : List KrbFrame) (before : List KrbTaken) (old_out : List ℕ) where
  pub one_more : (mid next : ReceiverState) (index from size : ℕ) (taken : List KrbTaken) (out part written : List ℕ) (f : KrbFrame) (t told : KrbTaken)
      → index < length frames → index < length taken → from ≤ length out → size ≡ used told → part ≡ drop from out
      → Takes mid at (get_or frames index f).bytes.now (get_or taken index t) part next told written
      → GoesOn old at frames before old_out mid index taken from out
      → GoesOn old at frames before old_out next (index + 1) (set taken index told) (from + size) (put_mid from (length out - from) out written)
  one_more mid next index from size taken out part written f t told in_frames in_taken within is from_there takes g =
      let here = subst (λ (z : List ℕ). Takes mid at (get_or frames index f).bytes.now (get_or taken index t) z next told written) from_there takes in
      let all = goes_on old at frames before old_out mid index taken from out (get_or frames index f) (get_or taken index t) told next (set taken index told) (put_mid from (length out - from) out written) written
      (cons_at frames index f in_frames) (cons_at taken index t in_taken) (take_more_set taken index told in_taken) (drop-set-lt (index + 1) taken index told (omega arith))
      (first_is from (used told) out written within) (rest_is from (used told) out written within) here g in
      subst (λ (z : ℕ). GoesOn old at frames before old_out next (index + 1) (set taken index told) (from + z) (put_mid from (length out - from) out written)) (sym is) all
