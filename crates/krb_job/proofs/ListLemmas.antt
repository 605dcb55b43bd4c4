-- The items of a list one after another.
use Rattle.std.proofs.Common.{◌≡◌, ◌<◌, ◌≤◌, ◌+◌, ℕ, List, [], ◌∷◌, ◌++◌, drop, get_or, length, Option, Some, None, Ok, ap, refl, sym, ◌∙◌, arith}
use Rattle.std.specs.Prelude.{ok_or}
use Rattle.std.proofs.Math.Seq.{append_snoc}
use Rattle.std.proofs.lemmas.List.{drop_more, at_drop_all, append-nil}
use Rattle.toml.specs.Data.{Data}
use Rattle.toml.specs.View.{items_view, view}
use Rattle.toml.specs.declared.value.Value.{Value}
use Rattle.krb_base.specs.Steps.{◌>>=◌}
use Rattle.krb_job.specs.Lists.{count, each}
use Rattle.krb_job.proofs.Given.{given}

pub count_view : (vs : List Value) → count (items_view vs) ≡ length vs
count_view [] = refl
count_view (v ∷ vs) = grind (arith, count_view vs)

-- these, and then the others
abbrev pub joined : {A : Type 0} → List A → Option (List A) → Option (List A)
joined done None = None
joined done (Some xs) = Some (done ++ xs)

-- one item more
joined_more : {A : Type 0} (done : List A) (x : A) (rest : Option (List A)) → joined done (rest >>= λ xs. Some (x ∷ xs)) ≡ joined (done ++ x ∷ []) rest
joined_more done x None = refl
joined_more done x (Some xs) = ap Some (sym (append_snoc done x xs))

-- one item more, which was read
pub joined_next : {A E : Type 0} (read : Data → Option A) (items : List Value) (i : ℕ) (item : Value) (e : E) (done new : List A) (x : A)
    → each read (items_view items) ≡ joined done (each read (items_view (drop i items))) → i < length items → item ≡ get_or items i item
    → ok_or (read (view item)) e ≡ Ok x → new ≡ done ++ x ∷ [] → each read (items_view items) ≡ joined new (each read (items_view (drop (i + 1) items)))
joined_next read items i item e done new x so_far within at is pushed =
    let next : drop i items ≡ item ∷ drop (i + 1) items = drop_more items i item within ∙ ap (λ (v : Value). v ∷ drop (i + 1) items) (sym at) in
    so_far ∙ ap (λ (vs : List Value). joined done (each read (items_view vs))) next
    ∙ ap (λ (o : Option _). joined done (o >>= λ y. each read (items_view (drop (i + 1) items)) >>= λ ys. Some (y ∷ ys))) (given (read (view item)) e x is)
    ∙ joined_more done x (each read (items_view (drop (i + 1) items)))
    ∙ ap (λ (all : List _). joined all (each read (items_view (drop (i + 1) items)))) (sym pushed)

-- no item before the first
joined_first : {A : Type 0} (done : List A) (o : Option (List A)) → done ≡ [] → o ≡ joined done o
joined_first done None empty = refl
joined_first done (Some xs) empty = rw empty refl

pub joined_none : {A : Type 0} (read : Data → Option A) (items : List Value) (done : List A) → done ≡ []
    → each read (items_view items) ≡ joined done (each read (items_view items))
joined_none read items done empty = joined_first done (each read (items_view items)) empty

-- an item that can't be read
pub joined_stop : {A : Type 0} (read : Data → Option A) (items : List Value) (i : ℕ) (item : Value) (done : List A)
    → each read (items_view items) ≡ joined done (each read (items_view (drop i items))) → i < length items → item ≡ get_or items i item
    → read (view item) ≡ None → each read (items_view items) ≡ None
joined_stop read items i item done so_far within at none =
    let next : drop i items ≡ item ∷ drop (i + 1) items = drop_more items i item within ∙ ap (λ (v : Value). v ∷ drop (i + 1) items) (sym at) in
    so_far ∙ ap (λ (vs : List Value). joined done (each read (items_view vs))) next
    ∙ ap (λ (o : Option _). joined done (o >>= λ y. each read (items_view (drop (i + 1) items)) >>= λ ys. Some (y ∷ ys))) none

-- the items were all read
pub joined_all : {A E : Type 0} (read : Data → Option A) (items : List Value) (i : ℕ) (done : List A) (e : E)
    → each read (items_view items) ≡ joined done (each read (items_view (drop i items))) → length items ≤ i → ok_or (each read (items_view items)) e ≡ Ok done
joined_all read items i done e so_far past =
    ap (λ (o : Option (List _)). ok_or o e) (so_far ∙ at_drop_all (λ (vs : List Value). joined done (each read (items_view vs))) items i past ∙ ap Some (append-nil done))
