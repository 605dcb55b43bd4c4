-- The laws of a lane.
use Rattle.std.proofs.Common.{◌≡◌, ◌≤◌, ◌<◌, ◌++◌, not, cond, nat_lt, ℕ, Bool, true, false, List, [], ◌∷◌, length, refl, sym, ap, subst, ◌∙◌, arith, append_assoc, append-nil, length-append}
use Rattle.std.proofs.lemmas.Bool.{and_parts, ltb-true, lt-ltb, not-true}
use Rattle.krb_base.specs.Prefix.{IsPrefix}
use Rattle.krb_base.specs.Lane.{Item, Lane, Event, Frame, End, Send, Take, empty, has_end, frames, is_possible, taken, moved, after_event, after, IsReached, IsEndLast}

module _ {F : Type 0} where
  -- the state of a lane: what was sent is what was got and then what is queued, which is within the
  -- capacity
  pub record IsState (lane : Lane F) : Type 0 where
    pub linked : lane.sent ≡ lane.got ++ lane.queue
    pub within : length lane.queue ≤ lane.capacity
    pub end_last : IsEndLast lane.sent

  pub frames-append : (xs ys : List (Item F)) → frames (xs ++ ys) ≡ frames xs ++ frames ys
  frames-append [] ys = refl
  frames-append (Frame f ∷ xs) ys = ap (λ l. f ∷ l) (frames-append xs ys)
  frames-append (End ∷ xs) ys = frames-append xs ys

  -- no more frames than items
  pub frames_short : (xs : List (Item F)) → length (frames xs) ≤ length xs
  frames_short [] = omega arith
  frames_short (Frame f ∷ xs) = let r = frames_short xs in omega arith
  frames_short (End ∷ xs) = let r = frames_short xs in omega arith

  pub has_end-append : (xs ys : List (Item F)) → has_end xs ≡ false → has_end (xs ++ ys) ≡ has_end ys
  has_end-append [] ys off = refl
  has_end-append (Frame f ∷ xs) ys off = has_end-append xs ys off
  has_end-append (End ∷ xs) ys off = cc

  -- an item after items without End
  pub end_last-append : (xs : List (Item F)) (x : Item F) → has_end xs ≡ false → IsEndLast (xs ++ x ∷ [])
  end_last-append [] (Frame f) off = tt
  end_last-append [] End off = refl
  end_last-append (Frame f ∷ xs) x off = end_last-append xs x off
  end_last-append (End ∷ xs) x off = cc

  -- nothing stands after End
  pub after_end : (xs ys : List (Item F)) → IsEndLast (xs ++ ys) → has_end xs ≡ true → ys ≡ []
  after_end [] ys h on = cc
  after_end (Frame f ∷ xs) ys h on = after_end xs ys h on
  after_end (End ∷ []) ys h on = h
  after_end (End ∷ x ∷ xs) ys h on = cc

  pub after-append : (lane : Lane F) (xs ys : List (Event F)) → after lane (xs ++ ys) ≡ after (after lane xs) ys
  after-append lane [] ys = refl
  after-append lane (e ∷ xs) ys = after-append (after_event lane e) xs ys

  pub after_possible : (lane : Lane F) (e : Event F) → is_possible lane e ≡ true → after_event lane e ≡ moved lane e
  after_possible lane e may = ap (λ (b : Bool). cond b (moved lane e) lane) may

  pub after_impossible : (lane : Lane F) (e : Event F) → is_possible lane e ≡ false → after_event lane e ≡ lane
  after_impossible lane e off = ap (λ (b : Bool). cond b (moved lane e) lane) off

  -- what holds of the lane and of what the event moves, if it is possible, holds of what the event
  -- leaves
  by_possible : (P : Lane F → Type 0) (lane : Lane F) (e : Event F) (b : Bool) → is_possible lane e ≡ b → P lane → (is_possible lane e ≡ true → P (moved lane e)) → P (cond b (moved lane e) lane)
  by_possible P lane e true is was may = may is
  by_possible P lane e false is was may = was

  moved_capacity : (lane : Lane F) (e : Event F) → (moved lane e).capacity ≡ lane.capacity
  moved_capacity lane (Send x) = refl
  moved_capacity lane Take = taken_capacity lane lane.queue
    where
      taken_capacity : (l : Lane F) (q : List (Item F)) → (taken l q).capacity ≡ l.capacity
      taken_capacity l [] = refl
      taken_capacity l (x ∷ q) = refl

  event_capacity : (lane : Lane F) (e : Event F) → (after_event lane e).capacity ≡ lane.capacity
  event_capacity lane e = by_possible (λ (l : Lane F). l.capacity ≡ lane.capacity) lane e (is_possible lane e) refl refl (λ _. moved_capacity lane e)

  -- the capacity stays
  pub after_capacity : (lane : Lane F) (es : List (Event F)) → (after lane es).capacity ≡ lane.capacity
  after_capacity lane [] = refl
  after_capacity lane (e ∷ es) = after_capacity (after_event lane e) es ∙ event_capacity lane e

  pub state_empty : (capacity : ℕ) → IsState (empty {F = F} capacity)
  state_empty capacity = record { linked = refl; within = omega arith; end_last = tt }

  state_taken : (lane : Lane F) (q : List (Item F)) → lane.queue ≡ q → IsState lane → IsState (taken lane q)
  state_taken lane [] is h = h
  state_taken lane (x ∷ q) is h = record {
    linked = h.linked ∙ (ap (λ (l : List (Item F)). lane.got ++ l) is ∙ sym (append_assoc lane.got (x ∷ []) q));
    within = let n = ap (λ (l : List (Item F)). length l) is in let w = h.within in omega (arith, n, w);
    end_last = h.end_last;
  }

  -- a possible event keeps a state
  pub state_moved : (lane : Lane F) (e : Event F) → is_possible lane e ≡ true → IsState lane → IsState (moved lane e)
  state_moved lane (Send x) may h = record {
    linked = ap (λ (l : List (Item F)). l ++ x ∷ []) h.linked ∙ append_assoc lane.got lane.queue (x ∷ []);
    within = let room = (and_parts (nat_lt (length lane.queue) lane.capacity) (not (has_end lane.sent)) may).0 in let less = ltb-true (length lane.queue) lane.capacity room in omega (arith, length-append lane.queue (x ∷ []), less);
    end_last = end_last-append lane.sent x (not-true (has_end lane.sent) (and_parts (nat_lt (length lane.queue) lane.capacity) (not (has_end lane.sent)) may).1);
  }
  state_moved lane Take may h = state_taken lane lane.queue refl h

  pub state_event : (lane : Lane F) (e : Event F) → IsState lane → IsState (after_event lane e)
  state_event lane e h = by_possible IsState lane e (is_possible lane e) refl h (λ may. state_moved lane e may h)

  pub state_after : (lane : Lane F) (es : List (Event F)) → IsState lane → IsState (after lane es)
  state_after lane [] h = h
  state_after lane (e ∷ es) h = state_after (after_event lane e) es (state_event lane e h)

  pub reached_empty : (capacity : ℕ) → IsReached (empty {F = F} capacity)
  reached_empty capacity = ([], refl)

  pub state_reached : (lane : Lane F) → IsReached lane → IsState lane
  state_reached lane h = subst IsState h.1 (state_after (empty lane.capacity) h.0 (state_empty lane.capacity))

  -- a possible event leads on
  pub reached_moved : (lane : Lane F) (e : Event F) → is_possible lane e ≡ true → IsReached lane → IsReached (moved lane e)
  reached_moved lane e may h = (
    h.0 ++ e ∷ [],
    ap (λ (n : ℕ). after (empty n) (h.0 ++ e ∷ [])) (moved_capacity lane e)
        ∙ (after-append (empty lane.capacity) h.0 (e ∷ []) ∙ (ap (λ (l : Lane F). after_event l e) h.1 ∙ after_possible lane e may)),
  )

  -- Send is possible where there is room and no End
  pub may_send : (lane : Lane F) (x : Item F) → length lane.queue < lane.capacity → has_end lane.sent ≡ false → is_possible lane (Send x) ≡ true
  may_send lane x room off = rw (lt-ltb (length lane.queue) lane.capacity room, off) refl

  pub state_prefix : (lane : Lane F) → IsState lane → IsPrefix lane.got lane.sent
  state_prefix lane h = (lane.queue, h.linked)

  -- where End was got, all was got
  pub state_whole : (lane : Lane F) → IsState lane → has_end lane.got ≡ true → lane.got ≡ lane.sent
  state_whole lane h on =
      let none : lane.queue ≡ [] = after_end lane.got lane.queue (subst (λ (l : List (Item F)). IsEndLast l) h.linked h.end_last) on in
      sym (h.linked ∙ (ap (λ (l : List (Item F)). lane.got ++ l) none ∙ append-nil lane.got))

  -- what stands after an End is nothing
  pub end_closes : (xs ys : List (Item F)) → IsEndLast (xs ++ End ∷ ys) → ys ≡ []
  end_closes [] ys h = h
  end_closes (Frame f ∷ xs) ys h = end_closes xs ys h
  end_closes (End ∷ []) ys h = cc
  end_closes (End ∷ x ∷ xs) ys h = cc
