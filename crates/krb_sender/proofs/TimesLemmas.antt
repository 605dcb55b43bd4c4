-- A tree of times.
use Rattle.std.proofs.Common.{◌≡◌, ◌≢◌, ℕ, zero, suc, ◌+◌, ◌-◌, ◌*◌, ◌/◌, ◌^◌, ◌<◌, ◌≤◌, List, [], ◌∷◌, ◌++◌, length, set, refl, sym, subst, inl, inr, arith, get_or-set_other, get_or-set_same, length-append}
use Rattle.std.proofs.lemmas.Bool.{cases_eq, cases_lt}
use Rattle.std.proofs.lemmas.List.{get_or_past}
use Rattle.krb_sender.specs.Times.{never, time_of, least_below, IsNode, AllNodes, NodesBut, IsTree}

-- ---- one more

pub time_of-add : (l : List ℕ) (k : ℕ) → time_of (l ++ never ∷ []) k ≡ time_of l k
time_of-add [] zero = refl
time_of-add [] (suc k) = refl
time_of-add (x ∷ l) zero = refl
time_of-add (x ∷ l) (suc k) = time_of-add l k

pub tree_add : (at least : List ℕ) → length at < 2 ^ 32 → IsTree at least → IsTree (at ++ never ∷ []) (least ++ never ∷ [])
tree_add at least few tree = record {
  few = omega (arith, few, length-append at (never ∷ []));
  sized = omega (arith, tree.sized, length-append at (never ∷ []), length-append least (never ∷ []));
  nodes = λ k. omega (arith, tree.nodes k, time_of-add at k, time_of-add least k, time_of-add least (2 * k + 1), time_of-add least (2 * k + 2));
}

-- ---- one place has a different least

node_self : (at least : List ℕ) (i v : ℕ) → i < length least → v ≡ least_below at least i → IsNode at (set least i v) i
node_self at least i v there is =
    let same : time_of (set least i v) i ≡ v = get_or-set_same least i v never there in
    let left : time_of (set least i v) (2 * i + 1) ≡ time_of least (2 * i + 1) = get_or-set_other least i (2 * i + 1) v never (λ e. absurd (omega (arith, e))) in
    let right : time_of (set least i v) (2 * i + 2) ≡ time_of least (2 * i + 2) = get_or-set_other least i (2 * i + 2) v never (λ e. absurd (omega (arith, e))) in
    omega (arith, same, left, right, is)

node_after : (at least : List ℕ) (i k v : ℕ) → k ≢ i → (2 * k + 1) ≢ i → (2 * k + 2) ≢ i → IsNode at least k → IsNode at (set least i v) k
node_after at least i k v apart apart_left apart_right is =
    let same : time_of (set least i v) k ≡ time_of least k = get_or-set_other least i k v never apart in
    let left : time_of (set least i v) (2 * k + 1) ≡ time_of least (2 * k + 1) = get_or-set_other least i (2 * k + 1) v never apart_left in
    let right : time_of (set least i v) (2 * k + 2) ≡ time_of least (2 * k + 2) = get_or-set_other least i (2 * k + 2) v never apart_right in
    omega (arith, same, left, right, is)

-- then the one above it may have another
pub nodes_up : (at least : List ℕ) (i v : ℕ) → 0 < i → i < length least → v ≡ least_below at least i → NodesBut at least i → NodesBut at (set least i v) ((i - 1) / 2)
nodes_up at least i v some there is others k apart = elim (cases_eq k i) [
  | inl same ↦ subst (λ p. IsNode at (set least i v) p) (sym same) (node_self at least i v there is)
  | inr away ↦ node_after at least i k v away (λ e. apart (omega (arith, e))) (λ e. apart (omega (arith, e))) (others k away)
]

-- above the first there is none
pub nodes_root : (at least : List ℕ) (v : ℕ) → 0 < length least → v ≡ least_below at least 0 → NodesBut at least 0 → AllNodes at (set least 0 v)
nodes_root at least v there is others k = elim (cases_eq k 0) [
  | inl same ↦ subst (λ p. IsNode at (set least 0 v) p) (sym same) (node_self at least 0 v there is)
  | inr away ↦ node_after at least 0 k v away (λ e. absurd (omega (arith, e))) (λ e. absurd (omega (arith, e))) (others k away)
]

-- a place has a different time
pub nodes_set : (at least : List ℕ) (i v : ℕ) → AllNodes at least → NodesBut (set at i v) least i
nodes_set at least i v nodes k apart =
    let same : time_of (set at i v) k ≡ time_of at k = get_or-set_other at i k v never apart in
    omega (arith, same, nodes k)

-- ---- the first of all

root_le : (at least : List ℕ) → AllNodes at least → (n k : ℕ) → k ≤ n → time_of least 0 ≤ time_of least k
root_le at least nodes n zero le = omega arith
root_le at least nodes zero (suc j) le = absurd (omega (arith, le))
root_le at least nodes (suc n) (suc j) le =
    let half : ℕ = j / 2 in
    let up : time_of least 0 ≤ time_of least (j / 2) = root_le at least nodes n (j / 2) (omega (arith, le)) in
    let left : time_of least (j / 2) ≤ time_of least (2 * (j / 2) + 1) = omega (arith, nodes (j / 2)) in
    let right : time_of least (j / 2) ≤ time_of least (2 * (j / 2) + 2) = omega (arith, nodes (j / 2)) in
    elim (cases_eq j (2 * (j / 2))) [
      | inl even ↦
          let is : 2 * (j / 2) + 1 ≡ suc j = omega (arith, even) in
          let down : time_of least (j / 2) ≤ time_of least (suc j) = subst (λ p. time_of least (j / 2) ≤ time_of least p) is left in
          omega (arith, up, down)
      | inr odd ↦
          let is : 2 * (j / 2) + 2 ≡ suc j = omega (arith, odd) in
          let down : time_of least (j / 2) ≤ time_of least (suc j) = subst (λ p. time_of least (j / 2) ≤ time_of least p) is right in
          omega (arith, up, down)
    ]

pub root_first : (at least : List ℕ) → AllNodes at least → (k : ℕ) → time_of least 0 ≤ time_of at k
root_first at least nodes k = omega (arith, root_le at least nodes k k (omega arith), nodes k)

-- where neither a place's own time nor that of the left one below it is the least, that of the right one is
pub below_right : (at least : List ℕ) (place : ℕ) → IsTree at least → place < length at
    → time_of at place ≢ time_of least place → time_of least (2 * place + 1) ≢ time_of least place → time_of at place ≤ never
    → (2 * place + 1 + 1 < length at) × (time_of least (2 * place + 1 + 1) ≡ time_of least place)
below_right at least place tree there apart apart_left most =
    let right : time_of least (2 * place + 2) ≡ time_of least place = omega (arith, tree.nodes place, apart, apart_left) in
    let next : 2 * place + 2 ≡ 2 * place + 1 + 1 = omega arith in
    elim (cases_lt (2 * place + 2) (length at)) [
      | inl lt ↦ (omega (arith, lt), subst (λ n. time_of least n ≡ time_of least place) next right)
      | inr past ↦
          let none : time_of least (2 * place + 2) ≡ never = get_or_past least (2 * place + 2) never (omega (arith, past, tree.sized)) in
          absurd (apart (omega (arith, none, right, most, tree.nodes place)))
    ]
