-- A peer seals data, and the other one opens them.
use Rattle.std.proofs.Common.{◌≡◌, ◌≤◌, ◌*◌, ℕ, ℤ, suc, ◌+◌, Bool, true, false, List, [], ◌∷◌, ◌++◌, length, Some, Ok, refl, sym, ap, subst, ◌∙◌, inl, arith}
use Rattle.std.specs.Prelude.{◌||◌, nat_eq, nat_le}
use Rattle.std.specs.Int.{abs_diff}
use Rattle.std.proofs.lemmas.Bool.{eq-eqb, le-leb}
use Rattle.krb_base.specs.Bytes.{AreBytes}
use Rattle.krb_der.specs.declared.body.Body.{Body}
use Rattle.krb_der.specs.Moment.{last_moment, micros_per_second, moment_of, secs_of, usec_of}
use Rattle.krb_etype.specs.declared.etype.Etype.{Etype}
use Rattle.krb_etype.specs.Etype.{confounder_size, number_of}
use Rattle.krb_seal.specs.Authentic.{Authenticates, GivesBody}
use Rattle.krb_seal.specs.declared.session.Session.{Session}
use Rattle.krb_seal.specs.Opens.{opener_of}
use Rattle.krb_seal.specs.Seals.{Seals, body_of, sealed}
use Rattle.krb_seal.specs.Sealer.{end_of_numbers}
use Rattle.krb_seal.proofs.Authentics.{sealed_is_authentic}
use Rattle.krb_seal.proofs.SealedFrames.{all_met}
use Rattle.krb_structs.specs.Carried.{carried_of}
use Rattle.krb_structs.specs.declared.demand.KrbDemand.{KrbDemand}
use Rattle.krb_structs.specs.Demand.{demand_checks, needs_meet, number_meets, time_meets}
use Rattle.krb_structs.specs.Opening.{Gives, GivesTo}
use Rattle.krb_structs.specs.Peer.{PeerState, peer_expect, peer_opened, peer_sealed}
use Rattle.krb_structs.specs.Session.{expect_of, session_of}
use Rattle.krb_seal.specs.Exists.{HasHosts, CanBeSealed}
use Rattle.krb_laws.specs.Peers.{PeerEnd, PeerCall, Sealing, Opening, IsPeerAt, IsPeerCall, ArePeerCalls, ArePeers, WasSealed, opened_in, sealed_in}
use Rattle.krb_laws.specs.Peers.PeerCall.{Sealed, Opened}
use Rattle.krb_laws.specs.PeersHappen.{Suits, AreData, PeersHappen}
use Rattle.krb_seal.proofs.ExistsLemmas.{one_exists}

pub or_right : (a b : Bool) → b ≡ true → (a || b) ≡ true
or_right true b e = refl
or_right false b e = e

-- a body with a time and a number tells enough
pub sealed_tells : (d : KrbDemand) (s : Session) (n : ℕ) (user : List ℕ) (at : ℕ) → needs_meet d (body_of s n user at) ≡ true
sealed_tells d s n user at = or_right (nat_eq d.needs_time_or_number 0) true refl

-- calls that seal and open one frame, and those after them
call_left : (a c : PeerCall) (xs ys : List PeerCall) → ◌≡◌ {A = List PeerCall} (a ∷ xs) (c ∷ ys) → a ≡ c
call_left a c xs ys e = cc

calls_left : (a c : PeerCall) (xs ys : List PeerCall) → ◌≡◌ {A = List PeerCall} (a ∷ xs) (c ∷ ys) → xs ≡ ys
calls_left a c xs ys e = cc

same_opening : (o p : Opening) → ◌≡◌ {A = PeerCall} (Opened o) (Opened p) → o ≡ p
same_opening o p e = cc

no_opening : (s : Sealing) (o : Opening) → ◌≡◌ {A = PeerCall} (Sealed s) (Opened o) → ⊥
no_opening s o e = cc

more_sealed : (s : Sealing) (calls : List PeerCall) (frame : List ℕ) → WasSealed calls frame → WasSealed (Sealed s ∷ calls) frame
more_sealed s calls frame w = record { k = suc w.k; sealing = w.sealing; there = w.there; is = w.is }

module _ (etype : Etype) (a b : PeerEnd) (at : ℕ) (conf : List ℕ) (known : number_of etype ≡ a.etype) (peers : ArePeers a b) (suits : Suits a b) (hosts : HasHosts (session_of a.session))
    (moment : at ≤ last_moment) (long : length conf ≡ confounder_size) (drawn : AreBytes conf) where
  abbrev frame_at : ℕ → List ℕ → List ℕ
  frame_at n user = sealed etype a.key (session_of a.session) n user at conf

  seals_at : (n : ℕ) (user : List ℕ) → CanBeSealed n at user conf → Seals a.etype a.key (session_of a.session) n user at conf (frame_at n user)
  seals_at n user can = subst (λ (t : ℤ). Seals t a.key (session_of a.session) n user at conf (frame_at n user)) known ((one_exists etype a.key (session_of a.session) n at user conf (frame_at n user) hosts can).1 refl)

  abbrev demand : ℕ → KrbDemand
  demand n = record b.demand { number = n }

  in_time : (n : ℕ) (user : List ℕ) → time_meets (demand n) at (body_of (session_of a.session) n user at) ≡ true
  in_time n user =
      let back : moment_of (secs_of at) (usec_of at) ≡ at = omega arith in
      let none : abs_diff at (moment_of (secs_of at) (usec_of at)) ≤ micros_per_second * b.demand.skew = rw back (omega arith) in
      or_right (nat_eq b.demand.how_time 0) (nat_le (abs_diff at (moment_of (secs_of at) (usec_of at))) (micros_per_second * b.demand.skew)) (le-leb _ _ none)

  gives_at : (n : ℕ) (user : List ℕ) → CanBeSealed n at user conf
      → Gives (opener_of b.etype b.key (expect_of (peer_expect b.session b.demand))) (demand n) at (frame_at n user) user (carried_of (body_of (session_of a.session) n user at))
  gives_at n user can =
      let s = session_of a.session in
      let x = expect_of (peer_expect b.session b.demand) in
      let body : Body = body_of s n user at in
      let mine : Seals b.etype b.key s n user at conf (frame_at n user) = rw (← peers.etype, ← peers.key) (seals_at n user can) in
      let its : Authenticates (opener_of b.etype b.key x) (frame_at n user) (Ok body) = sealed_is_authentic b.etype b.key s x n at user conf (frame_at n user) mine peers.mode in
      let number : number_meets (demand n) (Some n) ≡ true = or_right (nat_eq b.demand.how_number 0) (nat_eq n n) (eq-eqb n n refl) in
      (body, (Ok body, its, all_met (demand_checks (demand n) at body) (GivesBody body) (Ok body) (suits.room, (suits.addresses, (in_time n user, (number, (sealed_tells (demand n) s n user at, tt))))) refl), refl, refl)

  -- a talk, with what its frames are
  record Spoken (pa pb : PeerState) (data_of : List (List ℕ)) : Type 0 where
    pub calls_a : List PeerCall
    pub calls_b : List PeerCall
    pub end_a : PeerState
    pub end_b : PeerState
    pub are_a : ArePeerCalls a pa calls_a end_a
    pub are_b : ArePeerCalls b pb calls_b end_b
    pub theirs : (front back : List PeerCall) (o : Opening) → calls_b ≡ front ++ Opened o ∷ back → WasSealed calls_a o.frame
    pub silent : (front back : List PeerCall) (o : Opening) → calls_a ≡ front ++ Opened o ∷ back → ⊥
    pub sealed : sealed_in calls_a ≡ data_of
    pub opened : opened_in calls_b ≡ data_of

  none_of : (front back : List PeerCall) (call : PeerCall) → ◌≡◌ {A = List PeerCall} [] (front ++ call ∷ back) → ⊥
  none_of [] back call e = cc
  none_of (c ∷ front) back call e = cc

  speak : (data_of : List (List ℕ)) (pa pb : PeerState) (n x : ℕ) → IsPeerAt a n x pa → IsPeerAt b x n pb → n + length data_of ≤ end_of_numbers → AreData data_of → Spoken pa pb data_of
  speak [] pa pb n x at-a at-b fits are = record {
    calls_a = [];
    calls_b = [];
    end_a = pa;
    end_b = pb;
    are_a = refl;
    are_b = refl;
    theirs = λ front back o e. absurd (none_of front back (Opened o) e);
    silent = λ front back o e. none_of front back (Opened o) e;
    sealed = refl;
    opened = refl;
  }
  speak (user ∷ rest) pa pb n x at-a at-b fits are =
      let can : CanBeSealed n at user conf = record { number = omega (arith, fits); moment = moment; few = (are 0 user refl).0; bytes = (are 0 user refl).1; confounder = long; drawn = drawn } in
      let s : Sealing = record { user = user; at = at; confounder = conf; frame = frame_at n user } in
      let o : Opening = record { frame = frame_at n user; now = at; user = user; told = carried_of (body_of (session_of a.session) n user at) } in
      let seals : IsPeerCall a pa (Sealed s) (peer_sealed pa) =
      (subst (λ (r : PeerState). Seals r.sealer.etype r.sealer.key r.sealer.session r.sealer.next user at conf (frame_at n user)) (sym at-a.is) (seals_at n user can), refl) in
      let opens : IsPeerCall b pb (Opened o) (peer_opened pb) =
      (subst (λ (r : PeerState). GivesTo (Some r.opener) r.demand at (frame_at n user) user o.told) (sym at-b.is) (gives_at n user can), refl) in
      let next-a : IsPeerAt a (n + 1) x (peer_sealed pa) = record { first = at-a.first; is = ap (λ (r : PeerState). peer_sealed r) at-a.is } in
      let next-b : IsPeerAt b x (n + 1) (peer_opened pb) = record { first = at-b.first; is = ap (λ (r : PeerState). peer_opened r) at-b.is } in
      let later = speak rest (peer_sealed pa) (peer_opened pb) (n + 1) x next-a next-b (omega (arith, fits)) (λ k u there. are (suc k) u there) in
      record {
        calls_a = Sealed s ∷ later.calls_a;
        calls_b = Opened o ∷ later.calls_b;
        end_a = later.end_a;
        end_b = later.end_b;
        are_a = (peer_sealed pa, seals, later.are_a);
        are_b = (peer_opened pb, opens, later.are_b);
        theirs = theirs s o refl later.calls_a later.calls_b later.theirs;
        silent = silent s later.calls_a later.silent;
        sealed = ap (λ l. user ∷ l) later.sealed;
        opened = ap (λ l. user ∷ l) later.opened;
      }
    where
      theirs : (s : Sealing) (o : Opening) → s.frame ≡ o.frame → (ca cb : List PeerCall) → ((front back : List PeerCall) (p : Opening) → cb ≡ front ++ Opened p ∷ back → WasSealed ca p.frame)
          → (front back : List PeerCall) (p : Opening) → Opened o ∷ cb ≡ front ++ Opened p ∷ back → WasSealed (Sealed s ∷ ca) p.frame
      theirs s o same ca cb more [] back p e =
          record { k = 0; sealing = s; there = refl; is = same ∙ ap (λ (q : Opening). q.frame) (same_opening o p (call_left (Opened o) (Opened p) cb back e)) }
      theirs s o same ca cb more (c ∷ front) back p e = more_sealed s ca p.frame (more front back p (calls_left (Opened o) c cb (front ++ Opened p ∷ back) e))

      silent : (s : Sealing) (ca : List PeerCall) → ((front back : List PeerCall) (p : Opening) → ca ≡ front ++ Opened p ∷ back → ⊥)
          → (front back : List PeerCall) (p : Opening) → Sealed s ∷ ca ≡ front ++ Opened p ∷ back → ⊥
      silent s ca more [] back p e = no_opening s p (call_left (Sealed s) (Opened p) ca back e)
      silent s ca more (c ∷ front) back p e = more front back p (calls_left (Sealed s) c ca (front ++ Opened p ∷ back) e)

pub happen : PeersHappen
happen etype a b pa pb n x at data_of conf known peers suits hosts at-a at-b fits are moment long drawn =
    let t = speak etype a b at conf known peers suits hosts moment long drawn data_of pa pb n x at-a at-b fits are in
    record {
      calls_a = t.calls_a;
      calls_b = t.calls_b;
      end_a = t.end_a;
      end_b = t.end_b;
      are_a = t.are_a;
      are_b = t.are_b;
      to_b = λ front back o e. inl (inl (t.theirs front back o e));
      to_a = λ front back o e. absurd (t.silent front back o e);
      sealed = t.sealed;
      opened = t.opened;
    }
