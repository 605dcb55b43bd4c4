-- The tree of a document, by its accessors.
use Rattle.std.proofs.Common.{◌≡◌, ℕ, nat_le, ◌&&◌, cond, length, List, Some, None, refl, ap}
use Rattle.toml.specs.Data.{Data, string, integer, float, boolean, datetime, array, table, as_str, as_array}
use Rattle.toml.specs.View.{items_view}
use Rattle.toml.specs.declared.value.Value.{Value}
use Rattle.krb_job.specs.Values.{bytes_of}
use Rattle.krb_job.specs.Lists.{items_of}
use Rattle.krb_job.proofs.ListLemmas.{count_view}

pub is_text : (d : Data) (text : List ℕ) → Some text ≡ as_str d → d ≡ string text
is_text (string s) text e = let same : s ≡ text = cc in ap string same
is_text (integer z) text e = absurd cc
is_text (float x) text e = absurd cc
is_text (boolean b) text e = absurd cc
is_text (datetime dt) text e = absurd cc
is_text (array ds) text e = absurd cc
is_text (table ms) text e = absurd cc

-- a list of as many items as allowed
pub items_of-array : (low high : ℕ) (vs : List Value) (d : Data) → Some (items_view vs) ≡ as_array d
    → items_of low high d ≡ cond (nat_le low (length vs) && nat_le (length vs) high) (Some (items_view vs)) None
items_of-array low high vs (array ds) e = let same : ds ≡ items_view vs = cc in rw (same, count_view vs) refl
items_of-array low high vs (string s) e = absurd cc
items_of-array low high vs (integer z) e = absurd cc
items_of-array low high vs (float x) e = absurd cc
items_of-array low high vs (boolean b) e = absurd cc
items_of-array low high vs (datetime dt) e = absurd cc
items_of-array low high vs (table ms) e = absurd cc

-- what isn't a text stands for no bytes
pub no_text : (low high : ℕ) (d : Data) → None ≡ as_str d → bytes_of low high d ≡ None
no_text low high (string text) e = absurd cc
no_text low high (integer z) e = refl
no_text low high (float x) e = refl
no_text low high (boolean b) e = refl
no_text low high (datetime dt) e = refl
no_text low high (array ds) e = refl
no_text low high (table ms) e = refl
