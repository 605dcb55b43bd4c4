-- Which answer a row of conditions gives, from what the code's tests say.
use Rattle.std.proofs.Common.{◌≡◌, ℕ, ℤ, ◌≤◌, ◌<◌, ◌⊎◌, List, length, Option, Some, None, Result, Ok, Err, arith, inl, inr, refl, sym, ap, subst, false}
use Rattle.std.specs.Prelude.{IsErrAnd, IfErr, IfOk, OnErr, OnOk, MatchOption, take, drop}
use mir.Syntax.{w32}
use mir.Val.{SFits, of_z, to_z}
use Rattle.std.proofs.lemmas.Int.{to_z-of_z}
use Rattle.krb_base.specs.Limits.{user_data_limit}
use Rattle.krb_etype.specs.declared.etype.Etype.{Etype as EtypeValue}
use Rattle.krb_etype.specs.Etype.{etype_of, key_size}
use Rattle.krb_seal.specs.declared.refusal.Refusal.{Refusal}
use Rattle.krb_seal.specs.declared.refusal.Refusal.TheVariants.{Memory}
use Rattle.krb_seal.specs.Sealer.{HasFrameSize, SealerState, end_of_numbers}
use Rattle.krb_seal.specs.Opens.{OpenerState, Opens}
use Rattle.krb_seal.specs.Memory.{AsksForMemory, AsksWithoutDemands}
use Rattle.krb_structs.specs.declared.demand.KrbDemand.{KrbDemand}
use Rattle.krb_structs.specs.declared.moment.KrbMoment.{KrbMoment}
use Rattle.krb_structs.specs.declared.session.KrbSession.{KrbSession}
use Rattle.krb_structs.specs.declared.fault.Fault.{Fault}
use Rattle.krb_structs.specs.declared.fault.Fault.TheVariants.{Argument, Etype, KeySize, Refused, Room}
use Rattle.krb_structs.specs.Demand.{IsDemand, OpensWith}
use Rattle.krb_structs.specs.Fault.{IsDone, Needs, OrMemory, answer_of, fault_code}
use Rattle.krb_structs.specs.Moment.{IsTimed, micros_of}
use Rattle.krb_structs.specs.Opening.{HeldOpener, OpensTo}
use Rattle.krb_structs.specs.Reasons.{DemandAnswer, NeedsKey, NeedsMoment, NewAnswer, OpenAnswer, SealAnswer, SessionAnswer}
use Rattle.krb_structs.specs.Sealing.{IsReady}
use Rattle.krb_structs.specs.Session.{HaveRoom, IsSession}
use Rattle.krb_structs.specs.Unseals.{UnsealsInto}
use Rattle.krb_structs.proofs.Refusals.{is_memory}

-- a fault that a function hands on
pub answer_is : {A : Type 0} (result : Result A Fault) (f : Fault) → IsErrAnd result (λ e. e ≡ f) → answer_of result ≡ fault_code f
answer_is (Ok x) f is = absurd is
answer_is (Err e) f is = ap fault_code is

-- a moment was taken
pub timed : (at : KrbMoment) → NeedsMoment at IsDone 0 → IsTimed at
timed at (inl (unmet, is)) = absurd (omega arith)
timed at (inr (unreserved, inl (unmet, is))) = absurd (omega arith)
timed at (inr (unreserved, inr (is_moment, done))) = (unreserved, is_moment)

-- ---- sealing

-- it was ready, and it was done, or memory ran out
pub sealed_answer : (s : SealerState) (n : ℕ) (at : KrbMoment) (room code : ℕ) → IsReady s n at room → OrMemory IsDone code → SealAnswer s n at room code
sealed_answer s n at room code ready h =
    let can = ready.can in
    inr (ready.unreserved, inr (ready.is_moment, inr (can.live, inr (can.short, inr (can.left, (can.size, can.sizes, inr (can.fits, h)))))))

-- there was no room
pub no_room : (s : SealerState) (n : ℕ) (at : KrbMoment) (room size : ℕ) → IsTimed at → s.wiped ≡ false → n ≤ user_data_limit → ¬ (s.next ≡ end_of_numbers) → HasFrameSize s n (micros_of at) size → room < size
    → SealAnswer s n at room (fault_code Room)
no_room s n at room size timed live short left sizes over =
    inr (timed.0, inr (timed.1, inr (live, inr (short, inr (left, (size, sizes, inl (λ fits. omega arith, refl)))))))

-- ---- making

key_met_by : (o : Option EtypeValue) (n : ℕ) (Then : ℕ → Type 0) (code : ℕ) → MatchOption o (0 ≡ fault_code Etype) (λ e. Needs (n ≡ key_size e) KeySize IsDone 0) → Then code
    → MatchOption o (code ≡ fault_code Etype) (λ e. Needs (n ≡ key_size e) KeySize Then code)
key_met_by None n Then code h p = absurd (omega arith)
key_met_by (Some e) n Then code (inl (unmet, is)) p = absurd (omega arith)
key_met_by (Some e) n Then code (inr (fits, done)) p = inr (fits, p)

-- there was such a key, of a number that the code cast
pub key_met : (etype : ℤ) (n : ℕ) (Then : ℕ → Type 0) (code : ℕ) → SFits w32 etype → NeedsKey (to_z w32 (of_z w32 etype)) n IsDone 0 → Then code → NeedsKey etype n Then code
key_met etype n Then code fits h p = key_met_by (etype_of etype) n Then code (subst (λ (e : ℤ). NeedsKey e n IsDone 0) (to_z-of_z w32 etype fits) h) p

-- a session was made, and memory ran out later
pub session_or_memory : (IsWhole : Type 0) (mode sender receiver : ℕ) → SessionAnswer IsWhole mode sender receiver 0 → SessionAnswer IsWhole mode sender receiver 904
session_or_memory IsWhole mode sender receiver (inl (unmet, is)) = absurd (omega arith)
session_or_memory IsWhole mode sender receiver (inr (whole, inl (unmet, is))) = absurd (omega arith)
session_or_memory IsWhole mode sender receiver (inr (whole, inr (is_mode, inl (unmet, is)))) = absurd (omega arith)
session_or_memory IsWhole mode sender receiver (inr (whole, inr (is_mode, inr (have_room, h)))) = inr (whole, inr (is_mode, inr (have_room, inl refl)))

made_by : (o : Option EtypeValue) (n : ℕ) (IsWhole : Type 0) (mode sender receiver : ℕ) → MatchOption o (0 ≡ fault_code Etype) (λ e. Needs (n ≡ key_size e) KeySize (SessionAnswer IsWhole mode sender receiver) 0)
    → MatchOption o (904 ≡ fault_code Etype) (λ e. Needs (n ≡ key_size e) KeySize (SessionAnswer IsWhole mode sender receiver) 904)
made_by None n IsWhole mode sender receiver h = absurd (omega arith)
made_by (Some e) n IsWhole mode sender receiver (inl (unmet, is)) = absurd (omega arith)
made_by (Some e) n IsWhole mode sender receiver (inr (fits, h)) = inr (fits, session_or_memory IsWhole mode sender receiver h)

-- of a number that the code cast
pub new_answer : (etype : ℤ) (n : ℕ) (IsWhole : Type 0) (mode sender receiver code : ℕ) → SFits w32 etype → NewAnswer (to_z w32 (of_z w32 etype)) n IsWhole mode sender receiver code
    → NewAnswer etype n IsWhole mode sender receiver code
new_answer etype n IsWhole mode sender receiver code fits h = subst (λ (e : ℤ). NewAnswer e n IsWhole mode sender receiver code) (to_z-of_z w32 etype fits) h

-- a sealer or an opener was made, and memory ran out later
pub made_or_memory : (etype : ℤ) (n : ℕ) (IsWhole : Type 0) (mode sender receiver : ℕ) → NewAnswer etype n IsWhole mode sender receiver 0 → NewAnswer etype n IsWhole mode sender receiver 904
made_or_memory etype n IsWhole mode sender receiver h = made_by (etype_of etype) n IsWhole mode sender receiver h

last_of : (IsWhole : Type 0) (mode sender receiver code : ℕ) → (mode ≡ 20) ⊎ (mode ≡ 21) → IsWhole → HaveRoom sender receiver → SessionAnswer IsWhole mode sender receiver code → OrMemory IsDone code
last_of IsWhole mode sender receiver code is_mode whole room (inl (unmet, is)) = absurd (unmet whole)
last_of IsWhole mode sender receiver code is_mode whole room (inr (w, inl (unmet, is))) = absurd (unmet is_mode)
last_of IsWhole mode sender receiver code is_mode whole room (inr (w, inr (m, inl (unmet, is)))) = absurd (unmet room)
last_of IsWhole mode sender receiver code is_mode whole room (inr (w, inr (m, inr (r, h)))) = h

session_after : (One Two : Type 0) (mode sender receiver sender2 receiver2 code : ℕ) → SessionAnswer One mode sender receiver 0 → Two → HaveRoom sender2 receiver2 → SessionAnswer Two mode sender2 receiver2 code
    → SessionAnswer One mode sender receiver code
session_after One Two mode sender receiver sender2 receiver2 code (inl (unmet, is)) two room2 h = absurd (omega arith)
session_after One Two mode sender receiver sender2 receiver2 code (inr (one, inl (unmet, is))) two room2 h = absurd (omega arith)
session_after One Two mode sender receiver sender2 receiver2 code (inr (one, inr (is_mode, inl (unmet, is)))) two room2 h = absurd (omega arith)
session_after One Two mode sender receiver sender2 receiver2 code (inr (one, inr (is_mode, inr (room, done)))) two room2 h =
    inr (one, inr (is_mode, inr (room, last_of Two mode sender2 receiver2 code is_mode two room2 h)))

after_by : (o : Option EtypeValue) (n : ℕ) (One Two : Type 0) (mode sender receiver sender2 receiver2 code : ℕ) → MatchOption o (0 ≡ fault_code Etype) (λ e. Needs (n ≡ key_size e) KeySize (SessionAnswer One mode sender receiver) 0)
    → Two → HaveRoom sender2 receiver2 → MatchOption o (code ≡ fault_code Etype) (λ e. Needs (n ≡ key_size e) KeySize (SessionAnswer Two mode sender2 receiver2) code)
    → MatchOption o (code ≡ fault_code Etype) (λ e. Needs (n ≡ key_size e) KeySize (SessionAnswer One mode sender receiver) code)
after_by None n One Two mode sender receiver sender2 receiver2 code first two room2 h = absurd (omega arith)
after_by (Some e) n One Two mode sender receiver sender2 receiver2 code (inl (unmet, is)) two room2 h = absurd (omega arith)
after_by (Some e) n One Two mode sender receiver sender2 receiver2 code (inr (fits, first)) two room2 (inl (unmet, is)) = absurd (unmet fits)
after_by (Some e) n One Two mode sender receiver sender2 receiver2 code (inr (fits, first)) two room2 (inr (same, h)) =
    inr (fits, session_after One Two mode sender receiver sender2 receiver2 code first two room2 h)

-- a sealer was made, and then an opener under the same key and in the same mode: it lacks nothing but memory
pub made_after : (etype : ℤ) (n : ℕ) (One Two : Type 0) (mode sender receiver sender2 receiver2 code : ℕ) → NewAnswer etype n One mode sender receiver 0 → Two → HaveRoom sender2 receiver2
    → NewAnswer etype n Two mode sender2 receiver2 code → NewAnswer etype n One mode sender receiver code
made_after etype n One Two mode sender receiver sender2 receiver2 code first two room2 h = after_by (etype_of etype) n One Two mode sender receiver sender2 receiver2 code first two room2 h

-- ---- a session that is whole in other words

session_as : (One Two : Type 0) (mode sender receiver code : ℕ) → (One → Two) → (Two → One) → SessionAnswer One mode sender receiver code → SessionAnswer Two mode sender receiver code
session_as One Two mode sender receiver code to back (inl (unmet, is)) = inl (λ two. unmet (back two), is)
session_as One Two mode sender receiver code to back (inr (one, h)) = inr (to one, h)

new_as : (o : Option EtypeValue) (n : ℕ) (One Two : Type 0) (mode sender receiver code : ℕ) → (One → Two) → (Two → One)
    → MatchOption o (code ≡ fault_code Etype) (λ e. Needs (n ≡ key_size e) KeySize (SessionAnswer One mode sender receiver) code)
    → MatchOption o (code ≡ fault_code Etype) (λ e. Needs (n ≡ key_size e) KeySize (SessionAnswer Two mode sender receiver) code)
new_as None n One Two mode sender receiver code to back h = h
new_as (Some e) n One Two mode sender receiver code to back (inl (unmet, is)) = inl (unmet, is)
new_as (Some e) n One Two mode sender receiver code to back (inr (fits, h)) = inr (fits, session_as One Two mode sender receiver code to back h)

-- whether a session is whole doesn't turn on its first number
pub with_first : (etype : ℤ) (n : ℕ) (told : KrbSession) (first code : ℕ) → NewAnswer etype n (IsSession (record told { first = first })) told.mode told.sender.len told.receiver.len code
    → NewAnswer etype n (IsSession told) told.mode told.sender.len told.receiver.len code
with_first etype n told first code h =
    new_as (etype_of etype) n (IsSession (record told { first = first })) (IsSession told) told.mode told.sender.len told.receiver.len code
    (λ is. record { reserved = is.reserved; receiver = is.receiver }) (λ is. record { reserved = is.reserved; receiver = is.receiver }) h

-- a condition held
pub condition_met : (Condition : Type 0) → Needs Condition Argument IsDone 0 → Condition
condition_met Condition (inl (unmet, is)) = absurd (omega arith)
condition_met Condition (inr (met, done)) = met

-- ---- opening

-- the opener's refusal, or out of memory
pub open_refused : (o : OpenerState) (number now : ℕ) (at : KrbMoment) (frame : List ℕ) (r : Refusal) → IsTimed at → now ≡ micros_of at
    → {A : Type 0} → (◌≡◌ {A = Result A Refusal} (Err r) (Err Memory)) ⊎ Opens o number now frame (Err r) → (r ≡ Memory → AsksForMemory o number now frame)
    → (room : ℕ) → OpenAnswer (Some (Some o)) number at frame room (fault_code (Refused r))
open_refused o number now at frame r timed is (inl e) asks room =
    let same : r ≡ Memory = is_memory r e in inr (timed.0, inr (timed.1, inl (ap (λ (x : Refusal). fault_code (Refused x)) same, subst (λ (m : ℕ). AsksForMemory o number m frame) is (asks same))))
open_refused o number now at frame r timed is (inr p) asks room = inr (timed.0, inr (timed.1, inr (Err r, subst (λ (m : ℕ). Opens o number m frame (Err r)) is p, refl)))

-- a frame was opened, and there was room or not
pub opened_answer : (h : HeldOpener) (number : ℕ) (at : KrbMoment) (frame user : List ℕ) (room code : ℕ) → IsTimed at → OpensTo h number (micros_of at) frame (Ok user)
    → Needs (length user ≤ room) Room IsDone code → OpenAnswer h number at frame room code
opened_answer None number at frame user room code timed opens h = absurd opens
opened_answer (Some None) number at frame user room code timed opens h = absurd opens
opened_answer (Some (Some o)) number at frame user room code timed opens h = inr (timed.0, inr (timed.1, inr (Ok user, opens, h)))

-- the same with demands
pub demand_refused : (o : OpenerState) (d : KrbDemand) (now : ℕ) (at : KrbMoment) (frame : List ℕ) (room : ℕ) (r : Refusal) → IsDemand d → IsTimed at → now ≡ micros_of at
    → {A : Type 0} → (◌≡◌ {A = Result A Refusal} (Err r) (Err Memory)) ⊎ OpensWith o d now frame (Err r) → (r ≡ Memory → AsksWithoutDemands o frame)
    → DemandAnswer (Some (Some o)) d at frame room (fault_code (Refused r))
demand_refused o d now at frame room r is_demand timed is (inl e) asks =
    let same : r ≡ Memory = is_memory r e in inr (is_demand, inr (timed.0, inr (timed.1, inl (ap (λ (x : Refusal). fault_code (Refused x)) same, asks same))))
demand_refused o d now at frame room r is_demand timed is (inr p) asks = inr (is_demand, inr (timed.0, inr (timed.1, inr (Err r, subst (λ (m : ℕ). OpensWith o d m frame (Err r)) is p, refl))))

-- ---- a buffer

-- what was written had room or not
pub room_answer : (result : Result ℕ Fault) (n room : ℕ) → OnOk result (n ≤ room) → IfErr result (λ f. (f ≡ Room) × (room < n)) → Needs (n ≤ room) Room IsDone (answer_of result)
room_answer (Ok x) n room fits short = inr (fits, refl)
room_answer (Err f) n room fits short = let over : room < n = short.1 in inl (λ h. omega arith, ap fault_code short.0)

opens_into : (h : HeldOpener) (number now : ℕ) (frame user buffer : List ℕ) (result : Result ℕ Fault) → IfOk result (λ size. take size buffer ≡ user) → OpensTo h number now frame (Ok user)
    → IfOk result (λ size. OpensTo h number now frame (Ok (take size buffer)))
opens_into h number now frame user buffer (Ok size) is opens = subst (λ (u : List ℕ). OpensTo h number now frame (Ok u)) (sym is) opens
opens_into h number now frame user buffer (Err f) is opens = tt

-- user data that were opened, and were written or had no room
pub unseals : (h : HeldOpener) (number : ℕ) (at : KrbMoment) (frame before buffer user : List ℕ) (result : Result ℕ Fault) → IsTimed at → OpensTo h number (micros_of at) frame (Ok user)
    → IfOk result (λ size. take size buffer ≡ user) → IfOk result (λ size. size ≤ length buffer) → IfOk result (λ size. drop size buffer ≡ drop size before) → OnErr result (buffer ≡ before)
    → OnOk result (length user ≤ length before) → IfErr result (λ f. (f ≡ Room) × (length before < length user)) → UnsealsInto h number at frame before buffer result
unseals h number at frame before buffer user result timed opens written size rest kept fits short = record {
  opened = opens_into h number (micros_of at) frame user buffer result written opens;
  size = size;
  rest = rest;
  kept = kept;
  answer = opened_answer h number at frame user (length before) (answer_of result) timed opens (room_answer result (length user) (length before) fits short);
}
