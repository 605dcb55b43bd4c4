-- Each step of a lane keeps its rule.
use Rattle.std.proofs.Common.{◌≡◌, ◌≢◌, ◌<◌, ◌++◌, ℕ, zero, suc, true, false, true≢false, List, [], ◌∷◌, length, set, sym, refl, ap, ◌∙◌, subst, ⊎_elim, arith}
use Rattle.std.proofs.lemmas.List.{map-append, length-map}
use Rattle.std.proofs.lemmas.Bool.{lt-ltb}
use mathlib.Core.Option.{some, some-ne-none}
use lib.ListN.{get_elem?}
use Rattle.crossbeam_channel.specs.Fifo.{Pushes, Pops, Forks, Merges}
use Rattle.atomic_table.proofs.Lists.{at_set, at_snoc}
use Rattle.krb_base.specs.Lane.{Send, Take, empty, frames, is_possible, moved, after_event, IsReached, IsEndLast}
use Rattle.krb_base.proofs.LaneLemmas.{after_possible, reached_empty, reached_moved, state_reached, may_send, frames-append, end_closes}
use Rattle.krb_lane.specs.declared.item.Item.{Item}
use Rattle.krb_lane.specs.declared.item.Item.TheVariants.{End}
use Rattle.krb_lane.specs.declared.rule.Hand.{Hand}
use Rattle.krb_lane.specs.Items.{Numbered, item_of, items, frames_of, has_end, IsNumbered, IsNext}
use Rattle.krb_lane.specs.Rule.{hand, uncut, spent, puts, pulls, Knows, running, Fits, IsLane, state_of}
use Rattle.krb_lane.specs.Steps.{Leaves}
use Rattle.krb_lane.proofs.Items.{no_items, numbered_next, next_of}

at_end : (l : List Hand) (a b : Hand) (j : ℕ) → get_elem? l j ≢ some b → get_elem? (l ++ a ∷ []) j ≡ some b → j ≡ length l
at_end [] a b zero n e = refl
at_end [] a b (suc j) n e = absurd (some-ne-none b (sym e))
at_end (x ∷ xs) a b zero n e = absurd (n e)
at_end (x ∷ xs) a b (suc j) n e = ap suc (at_end xs a b j n e)

abbrev All : (ℕ → Hand → Type 0) → List Hand → Type 0
All F views = (pass : ℕ) (v : Hand) → Knows views pass v → F pass v

-- it holds of each view where it holds of the new one and of the others
all_set : (F : ℕ → Hand → Type 0) (views : List Hand) (pass : ℕ) (w : Hand) → F pass w → ((j : ℕ) (u : Hand) → j ≢ pass → Knows views j u → F j u) → All F (set views pass w)
all_set F views pass w mine others j u e = ⊎_elim (λ (x : (j ≡ pass) × (w ≡ u)). subst (λ (y : ℕ × Hand). F y.0 y.1) (λ i. (sym x.0 i, x.1 i)) mine)
    (λ (x : (j ≢ pass) × (get_elem? views j ≡ some u)). others j u x.0 x.1) (at_set views pass j w u e)

-- an empty lane, whose one pass has both rights
pub made : Leaves (empty 0) [] (uncut ∷ [])
made = (
  record {
    capacity = 0;
    sender = 0;
    receiver = 0;
    sent = [];
    got = [];
    state = reached_empty 0;
    numbered = tt;
    each = all_set (Fits 0 0 0 [] []) (uncut ∷ []) 0 uncut ((λ _. (refl, refl, refl)), λ _. (refl, refl, refl)) (λ j u other e. absurd (other (at_end [] _ u j (λ x. some-ne-none u (sym x)) e)));
  },
  refl,
)

sent_state : (capacity : ℕ) (sent got queue : List Item) (x : Item) → moved (running capacity sent got queue) (Send (item_of x)) ≡ running capacity (sent ++ x ∷ []) got (queue ++ x ∷ [])
sent_state capacity sent got queue x i = record { capacity = capacity; sent = sym (map-append item_of sent (x ∷ [])) i; got = items got; queue = sym (map-append item_of queue (x ∷ [])) i }

taken_state : (capacity : ℕ) (sent got queue : List Item) (x : Item) → moved (running capacity sent got (x ∷ queue)) Take ≡ running capacity sent (got ++ x ∷ []) queue
taken_state capacity sent got queue x i = record { capacity = capacity; sent = items sent; got = sym (map-append item_of got (x ∷ [])) i; queue = items queue }

-- the sender's pass puts the next item at the back of a queue with room
pub sent_step : (queue : List Item) (views : List Hand) (pass : ℕ) (v : Hand) (x : Item) (h : IsLane queue views) → Knows views pass v
    → v.sends ≡ true → length queue < v.capacity → has_end v.sent ≡ false → IsNext (length (frames_of v.sent)) x
    → Leaves (after_event (state_of h) (Send (item_of x))) (queue ++ x ∷ []) (set views pass (puts v x))
sent_step queue views pass v x h at may room unended next =
    let mine = h.each pass v at in
    let sent = h.sent ++ x ∷ [] in
    let same : v.sent ≡ h.sent = (mine.0 may).2 in
    let cap : v.capacity ≡ h.capacity = (mine.0 may).1 in
    let few : length (items queue) < h.capacity = let n = length-map queue item_of in omega (arith, n, room, cap) in
    let possible : is_possible (state_of h) (Send (item_of x)) ≡ true = may_send (state_of h) (item_of x) few (ap has_end (sym same) ∙ unended) in
    let is = sent_state h.capacity h.sent h.got queue x in (
      record {
        capacity = h.capacity;
        sender = h.sender;
        receiver = h.receiver;
        sent = sent;
        got = h.got;
        state = subst IsReached is (reached_moved (state_of h) (Send (item_of x)) possible h.state);
        numbered = numbered_next h.sent x h.numbered (subst (λ (l : List Item). IsNext (length (frames_of l)) x) same next);
        each = all_set (Fits h.capacity h.sender h.receiver sent h.got) views pass (puts v x) ((λ _. ((mine.0 may).0, cap, ap (λ (l : List Item). l ++ x ∷ []) same)), mine.1)
            (λ j u other e. ((λ p. absurd (other (((h.each j u e).0 p).0 ∙ sym (mine.0 may).0))), (h.each j u e).1));
      },
      sym (after_possible (state_of h) (Send (item_of x)) possible ∙ is),
    )

-- the receiver's pass takes the item at the front
pub taken_step : (queue : List Item) (views : List Hand) (pass : ℕ) (v : Hand) (x : Item) (h : IsLane (x ∷ queue) views) → Knows views pass v → v.takes ≡ true
    → Leaves (after_event (state_of h) Take) queue (set views pass (pulls v x)) × IsNext (length (frames_of v.got)) x
taken_step queue views pass v x h at may =
    let mine = h.each pass v at in
    let got = h.got ++ x ∷ [] in
    let same : v.got ≡ h.got = (mine.1 may).2 in
    let possible : is_possible (state_of h) Take ≡ true = lt-ltb 0 (length (items (x ∷ queue))) (omega arith) in
    let is = taken_state h.capacity h.sent h.got queue x in
    let linked : frames (items h.sent) ≡ frames (items h.got) ++ frames (items (x ∷ queue)) = ap frames (state_reached (state_of h) h.state).linked ∙ frames-append (items h.got) (items (x ∷ queue)) in (
      (
        record {
          capacity = h.capacity;
          sender = h.sender;
          receiver = h.receiver;
          sent = h.sent;
          got = got;
          state = subst IsReached is (reached_moved (state_of h) Take possible h.state);
          numbered = h.numbered;
          each = all_set (Fits h.capacity h.sender h.receiver h.sent got) views pass (pulls v x) (mine.0, λ _. ((mine.1 may).0, (mine.1 may).1, ap (λ (l : List Item). l ++ x ∷ []) same))
              (λ j u other e. ((h.each j u e).0, λ p. absurd (other (((h.each j u e).1 p).0 ∙ sym (mine.1 may).0))));
        },
        sym (after_possible (state_of h) Take possible ∙ is),
      ),
      subst (λ (l : List Item). IsNext (length (frames_of l)) x) (sym same) (next_of h.got x queue (subst (λ (l : List Numbered). IsNumbered 0 l) linked h.numbered)),
    )

-- after End nothing is queued
pub after_end : (queue : List Item) (views : List Hand) → IsLane (End ∷ queue) views → queue ≡ []
after_end queue views h = let s = state_reached (state_of h) h.state in no_items queue (end_closes (items h.got) (items queue) (subst (λ l. IsEndLast l) s.linked s.end_last))

-- a new channel's pass is cut into the sender's and the receiver's
pub cut_step : (capacity : ℕ) (queue : List Item) (views : List Hand) (pass : ℕ) → IsLane queue views → Knows views pass uncut
    → Leaves (empty capacity) queue (set views pass (hand true false capacity [] []) ++ hand false true capacity [] [] ∷ [])
cut_step c queue views pass h at =
    let l : Hand = hand true false c [] [] in
    let r : Hand = hand false true c [] [] in
    let mine = h.each pass uncut at in
    let unsent : [] ≡ h.sent = (mine.0 refl).2 in
    let ungot : [] ≡ h.got = (mine.1 refl).2 in
    let none : queue ≡ [] = no_items queue (sym (ap items unsent ∙ ((state_reached (state_of h) h.state).linked ∙ ap (λ (g : List Item). items g ++ items queue) (sym ungot)))) in
    let is : running c [] [] [] ≡ running c h.sent h.got queue = λ i. running c (unsent i) (ungot i) (sym none i) in
    let vs : List Hand = set views pass l in
    let Old : ℕ → Hand → Type 0 = λ j u. (u.sends ≡ true → (j ≡ h.sender) × (u.capacity ≡ c) × (u.sent ≡ h.sent)) × (u.takes ≢ true) in
    let old : All Old vs = all_set Old views pass l ((λ _. ((mine.0 refl).0, refl, unsent)), λ p. true≢false (sym p))
    (λ j u other e. ((λ p. absurd (other (((h.each j u e).0 p).0 ∙ sym (mine.0 refl).0))), λ p. other (((h.each j u e).1 p).0 ∙ sym (mine.1 refl).0))) in (
      record {
        capacity = c;
        sender = h.sender;
        receiver = length vs;
        sent = h.sent;
        got = h.got;
        state = subst IsReached is (reached_empty c);
        numbered = h.numbered;
        each = λ j u e. ⊎_elim (λ x. ((old j u x).0, λ p. absurd ((old j u x).1 p)))
            (λ (same : r ≡ u). ((λ p. absurd (true≢false (sym (ap (λ (y : Hand). y.sends) same ∙ p)))), λ p. (at_end vs r u j (λ x. (old j u x).1 p) e, sym (ap (λ (y : Hand). y.capacity) same), ap (λ (y : Hand). y.got) (sym same) ∙ ungot))) (at_snoc vs r u j e);
      },
      sym is,
    )

-- a call that is refused leaves its pass as it was
pub refused_step : (queue : List Item) (views : List Hand) (pass : ℕ) (v : Hand) (h : IsLane queue views) → Knows views pass v → Leaves (state_of h) queue (set views pass v)
refused_step queue views pass v h at = (
  record {
    capacity = h.capacity;
    sender = h.sender;
    receiver = h.receiver;
    sent = h.sent;
    got = h.got;
    state = h.state;
    numbered = h.numbered;
    each = all_set (Fits h.capacity h.sender h.receiver h.sent h.got) views pass v (h.each pass v at) (λ j u other e. h.each j u e);
  },
  refl,
)

-- the sender's pass takes in the receiver's, which is spent
pub met_step : (queue : List Item) (views : List Hand) (pass : ℕ) (v : Hand) (other : ℕ) (u : Hand) (h : IsLane queue views)
    → Knows views pass v → Knows views other u → other ≢ pass → v.sends ≡ true → u.takes ≡ true
    → Leaves (state_of h) queue (set (set views pass (hand true true v.capacity v.sent u.got)) other spent)
met_step queue views pass v other u h at was two a b =
    let both : Hand = hand true true v.capacity v.sent u.got in
    let mine = h.each pass v at in
    let vs : List Hand = set views pass both in
    let theirs = (h.each other u was).1 b in
    let Now : ℕ → Hand → Type 0 = λ j y. j ≢ other → Fits h.capacity h.sender pass h.sent h.got j y in
    let now : All Now vs = all_set Now views pass both (λ _. ((λ _. mine.0 a), λ _. (refl, (mine.0 a).1, theirs.2)))
    (λ j y _ e apart. ((h.each j y e).0, λ p. absurd (apart (((h.each j y e).1 p).0 ∙ sym theirs.0)))) in (
      record {
        capacity = h.capacity;
        sender = h.sender;
        receiver = pass;
        sent = h.sent;
        got = h.got;
        state = h.state;
        numbered = h.numbered;
        each = all_set (Fits h.capacity h.sender pass h.sent h.got) vs other spent ((λ p. absurd (true≢false (sym p))), λ p. absurd (true≢false (sym p))) (λ j y apart e. now j y e apart);
      },
      refl,
    )

-- The same as the channel asks for them.

pub sends : (n pass : ℕ) (v : Hand) (x : Item) → v.sends ≡ true → n ≡ v.capacity → has_end v.sent ≡ false → IsNext (length (frames_of v.sent)) x
    → Pushes IsLane n pass v x (λ w. w ≡ puts v x)
sends n pass v x may full unended next queue views room h at = (puts v x, (sent_step queue views pass v x h at may (subst (λ (m : ℕ). length queue < m) full room) unended next).0, refl)

-- the same after tries that changed nothing
pub sends_again : (n pass : ℕ) (v u : Hand) (x y : Item) → v ≡ u → x ≡ y → u.sends ≡ true → n ≡ u.capacity → has_end u.sent ≡ false
    → IsNext (length (frames_of u.sent)) y → Pushes IsLane n pass v x (λ w. w ≡ puts v x)
sends_again n pass v u x y same item may full unended next =
    sends n pass v x (ap (λ (w : Hand). w.sends) same ∙ may) (full ∙ sym (ap (λ (w : Hand). w.capacity) same)) (ap (λ (w : Hand). has_end w.sent) same ∙ unended)
    (subst (λ (z : Hand × Item). IsNext (length (frames_of z.0.sent)) z.1) (λ i. (sym same i, sym item i)) next)

pub takes : (pass : ℕ) (v : Hand) → v.takes ≡ true → Pops IsLane pass v (λ x w. (w ≡ pulls v x) × IsNext (length (frames_of v.got)) x)
takes pass v may x queue views h at = let t = taken_step queue views pass v x h at may in (pulls v x, t.0.0, (refl, t.1))

pub forks : (c pass : ℕ) (v : Hand) → v ≡ uncut → Forks IsLane pass v (hand true false c v.sent []) (hand false true c [] v.got)
forks c pass v is queue views h at =
    let a = ap (λ (y : Hand). y.sent) is in
    let b = ap (λ (y : Hand). y.got) is in
    subst (λ (y : List Item × List Item). IsLane queue (set views pass (hand true false c y.0 []) ++ hand false true c [] y.1 ∷ [])) (λ i. (sym a i, sym b i))
    (cut_step c queue views pass h (at ∙ ap some is)).0

pub merges : (pass : ℕ) (v : Hand) (other : ℕ) (u : Hand) → v.sends ≡ true → u.takes ≡ true → Merges IsLane pass v other u (hand true true v.capacity v.sent u.got) spent
merges pass v other u a b queue views h at two at' =
    let both : Hand = hand true true v.capacity v.sent u.got in
    let was : Knows views other u = ⊎_elim (λ x. absurd (two x.0)) (λ x. x.1) (at_set views pass other both u at') in
    (met_step queue views pass v other u h at was two a b).0
