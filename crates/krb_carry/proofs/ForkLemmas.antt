-- That a copy and a restore can come to pass, and are stopped.
use Rattle.std.proofs.Common.{◌≡◌, ◌≢◌, ℕ, zero, suc, ◌-◌, ◌+◌, Bool, true, false, List, [], ◌∷◌, ◌++◌, map, take, slice_get, Some, refl, sym, ap, subst, ◌∙◌, ◌⊎◌, arith, inl, inr}
use Rattle.std.specs.List.{Contains}
use Rattle.std.specs.Str.{bytes_eq}
use Rattle.std.proofs.lemmas.Slice.Eq.{bytes_eq-Decides}
use Rattle.krb_record.specs.declared.record.Record.TheVariants.{Text}
use Rattle.krb_record.specs.Record.{FitsLimits}
use Rattle.krb_seal.specs.Sealer.{SealerState}
use Rattle.krb_peers.specs.Session.{Sealed, SealsAt, frames_in}
use Rattle.krb_carry.specs.Outbox.{puts_of, puts_in, Kept, Outbox, new_outbox, Sealing, IsSealing, with_put, with_frames}
use Rattle.krb_carry.specs.History.{no_history, tag, with_frames as with_all}
use Rattle.krb_carry.specs.HistoryLaws.{Collision, OneHistory}
use Rattle.krb_carry.specs.declared.receipt.Finding.TheVariants.{Delivered, Older, Forked}
use Rattle.krb_carry.specs.declared.receipt.Receipt.{Receipt}
use Rattle.krb_carry.specs.Receipt.{history_below, IsTrue}
use Rattle.krb_carry.specs.Copies.{Copy, new_copy, stopped, World, new_world, with_state, LeadsCopies}
use Rattle.krb_carry.specs.CopiesLaws.{delivery, fork, HasFork, TagsMeet, ForksHappen}
use Rattle.krb_carry.proofs.CopyLemmas.{IsOwn}
use Rattle.krb_carry.proofs.TextLemmas.{same_record}

module _ (sealer : SealerState) (one_text other_text : List ℕ) (one other : Sealed)
    (one_is : one.carried ≡ Text one_text) (other_is : other.carried ≡ Text other_text)
    (one_fits : FitsLimits one.carried) (other_fits : FitsLimits other.carried)
    (one_seals : SealsAt sealer sealer.next one) (other_seals : SealsAt sealer sealer.next other) where
  abbrev sealing : Sealed → Sealing
  sealing it = record { from = sealer.next; sealed = it ∷ [] }

  is_sealing : (it : Sealed) → SealsAt sealer sealer.next it → FitsLimits it.carried → IsSealing sealer (sealing it)
  is_sealing it seals fits = record { frames = frames; limits = limits }
    where
      frames : (i : ℕ) (x : Sealed) → slice_get (it ∷ []) i ≡ Some x → SealsAt sealer (sealer.next + i) x
      frames zero x at =
          let same : it ≡ x = (let e : Some it ≡ Some x = at in cc) in
          let number : sealer.next ≡ sealer.next + 0 = omega arith in
          subst (λ n. SealsAt sealer n x) number (subst (λ s. SealsAt sealer sealer.next s) same seals)
      frames (suc i) x at = absurd (let e = at in cc)

      limits : (i : ℕ) (x : Sealed) → slice_get (it ∷ []) i ≡ Some x → FitsLimits x.carried
      limits zero x at = (let same : it ≡ x = (let e : Some it ≡ Some x = at in cc) in subst (λ s. FitsLimits s.carried) same fits)
      limits (suc i) x at = absurd (let e = at in cc)

  puts_are : (it : Sealed) (text : List ℕ) → it.carried ≡ Text text → Some text ∷ [] ≡ puts_in (it ∷ []) ++ []
  puts_are it text is =
      let puts : puts_of it.carried ≡ Some text ∷ [] = ap puts_of is in
      sym (ap (λ l. (l ++ []) ++ []) puts)

  -- ---- the states

  abbrev waits : List ℕ → Outbox
  waits text = with_put (new_outbox sealer) (Some text)

  abbrev has_sealed : List ℕ → Sealed → Outbox
  has_sealed text it = with_frames (waits text) (sealing it) []

  abbrev in_state : Outbox → Copy
  in_state outbox = record { outbox = outbox; done = sealer.next; is_stopped = false }

  abbrev start : Copy
  start = new_copy sealer

  abbrev delivers : Copy
  delivers = record (in_state (has_sealed one_text one)) { done = sealer.next + 1 }

  abbrev receipt : Receipt
  receipt = record { number = sealer.next + 1; history = history_below sealer.next (one.frame ∷ []) (sealer.next + 1) }

  is_true : IsTrue sealer.next (frames_in (one ∷ [])) receipt
  is_true = record { took_effect = omega arith; history = refl }

  abbrev has_put : World
  has_put = with_state (new_world sealer) 0 (in_state (waits one_text))

  abbrev seals_one : World
  seals_one = with_state has_put 0 (in_state (has_sealed one_text one))

  abbrev takes_one : World
  takes_one = record seals_one { took = one ∷ [] }

  abbrev between : World
  between = with_state takes_one 0 delivers

  one_stands : (number : ℕ) → number ≡ sealer.next → Contains (has_sealed one_text one).frames (record { number = number; it = one })
  one_stands number is = (0, omega arith, ap (λ (n : ℕ). let kept : Kept = record { number = n; it = one } in kept) (sym is))

  led_first : LeadsCopies sealer (new_world sealer) (delivery sealer one_text one receipt) between
  led_first = (
    has_put,
    (start, refl, tt, tt, (waits one_text, inl (refl, refl), refl)),
    (
      seals_one,
      (in_state (waits one_text), refl, refl, is_sealing one one_seals one_fits, (has_sealed one_text one, inl (refl, ([], puts_are one one_text one_is, refl)), refl)),
      (
        takes_one,
        ((in_state (has_sealed one_text one), (2, omega arith, refl), one_stands (sealer.next + 0) (omega arith)), refl, refl),
        (
          between,
          (in_state (has_sealed one_text one), refl, refl, is_true, (Delivered, (omega arith, omega arith, refl), refl)),
          refl,
        ),
      ),
    ),
  )

  -- ---- and then the copy and the restore

  abbrev copied : World
  copied = record between { copies = delivers ∷ start ∷ [] }

  abbrev copy_has_put : World
  copy_has_put = with_state copied 1 (in_state (waits other_text))

  abbrev copy_seals : World
  copy_seals = with_state copy_has_put 1 (in_state (has_sealed other_text other))

  abbrev copy_stops : World
  copy_stops = with_state copy_seals 1 (stopped (in_state (has_sealed other_text other)))

  abbrev restored : World
  restored = record copy_stops { copies = in_state (waits one_text) ∷ stopped (in_state (has_sealed other_text other)) ∷ [] }

  abbrev both_stop : World
  both_stop = with_state restored 0 (stopped (in_state (waits one_text)))

  led_rest : (history_below sealer.next (other.frame ∷ []) (sealer.next + 1) ≢ receipt.history) → LeadsCopies sealer between (fork sealer other_text other receipt) both_stop
  led_rest differ = (
    copied,
    (start, refl, refl),
    (
      copy_has_put,
      (start, refl, tt, tt, (waits other_text, inl (refl, refl), refl)),
      (
        copy_seals,
        (in_state (waits other_text), refl, refl, is_sealing other other_seals other_fits, (has_sealed other_text other, inl (refl, ([], puts_are other other_text other_is, refl)), refl)),
        (
          copy_stops,
          (in_state (has_sealed other_text other), refl, refl, is_true, (Forked, (omega arith, omega arith, differ), refl)),
          (
            restored,
            (in_state (waits one_text), refl, refl),
            (
              both_stop,
              (in_state (waits one_text), refl, refl, is_true, (Older, (omega arith, omega arith), refl)),
              refl,
            ),
          ),
        ),
      ),
    ),
  )

  happens : (history_below sealer.next (other.frame ∷ []) (sealer.next + 1) ≢ receipt.history) → HasFork sealer one_text other_text one other
  happens differ = record {
    receipt = receipt;
    between = between;
    delivers = led_first;
    done = refl;
    goes_on = refl;
    world = both_stop;
    forks = led_rest differ;
    both = refl;
    took = refl;
  }

  -- ---- where the digests are the same, a collision is found, or the tags meet

  one_own : IsOwn sealer sealer.next one
  one_own = record { seals = one_seals; fits = one_fits }

  other_own : IsOwn sealer sealer.next other
  other_own = record { seals = other_seals; fits = other_fits }

  frames_differ : one_text ≢ other_text → one.frame ≢ other.frame
  frames_differ differ same =
      let records = same_record sealer sealer.next one other one_own other_own same in
      let texts : Text one_text ≡ Text other_text = sym one_is ∙ (records ∙ other_is) in
      differ (let inside : one_text ≡ other_text = cc in inside)

  by_digest : OneHistory → one_text ≢ other_text → (t : Bool) → bytes_eq (history_below sealer.next (other.frame ∷ []) (sealer.next + 1)) receipt.history ≡ t
      → HasFork sealer one_text other_text one other ⊎ (Collision ⊎ TagsMeet sealer)
  by_digest alike differ false is =
      inl (happens (λ same. (let wrong : false ≡ true = sym is ∙ (bytes_eq-Decides _ _).1 same in cc)))
  by_digest alike differ true is = by_tags (alike (one.frame ∷ []) (other.frame ∷ []) refl digests)
    where
      all : (frame : List ℕ) → with_all no_history (frame ∷ []) ≡ history_below sealer.next (frame ∷ []) (sealer.next + 1)
      all frame =
          let count : sealer.next + 1 - sealer.next ≡ 1 = omega arith in
          sym (ap (λ n. with_all no_history (take n (frame ∷ []))) count)

      digests : with_all no_history (one.frame ∷ []) ≡ with_all no_history (other.frame ∷ [])
      digests = all one.frame ∙ (sym ((bytes_eq-Decides _ _).0 is) ∙ sym (all other.frame))

      by_tags : (map tag (one.frame ∷ []) ≡ map tag (other.frame ∷ [])) ⊎ Collision → HasFork sealer one_text other_text one other ⊎ (Collision ⊎ TagsMeet sealer)
      by_tags (inr collision) = inr (inl collision)
      by_tags (inl tags) =
          let e : tag one.frame ∷ [] ≡ tag other.frame ∷ [] = tags in
          let same : tag one.frame ≡ tag other.frame = cc in
          inr (inr (record { number = sealer.next; one = one; other = other; one_seals = one_seals; other_seals = other_seals; differ = frames_differ differ; same = same }))

pub forks_happen : OneHistory → ForksHappen
forks_happen alike sealer one_text other_text one other differ one_is other_is one_fits other_fits one_seals other_seals =
    by_digest sealer one_text other_text one other one_is other_is one_fits other_fits one_seals other_seals alike differ _ refl
