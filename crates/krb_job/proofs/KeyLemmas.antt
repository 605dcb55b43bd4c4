-- The keys of a table.
use Rattle.std.proofs.Common.{◌≡◌, ℕ, List, [], ◌∷◌, map, refl, ap, ap₂, Bor, ◌&&◌, ◌||◌, string_bytes}
use Rattle.std.specs.List.{list_any, list_all}
use Rattle.std.specs.Str.{bytes_eq}
use Rattle.std.specs.Map.{keys_of}
use Rattle.toml.proofs.Views.{Entry}
use Rattle.toml.specs.View.{members_view}
use Rattle.krb_job.specs.Keys.{has_only}

among_keys : (name : List ℕ) (known : List (Bor (List ℕ))) → list_any (λ k. bytes_eq name k.now) known ≡ list_any (bytes_eq name) (map (λ k. k.now) known)
among_keys name [] = refl
among_keys name (k ∷ ks) = ap (λ b. bytes_eq name k.now || b) (among_keys name ks)

-- each name is among the keys
pub names_only : (known : List (Bor (List ℕ))) (es : List Entry)
    → list_all (λ name. list_any (λ k. bytes_eq (string_bytes name) k.now) known) (keys_of es) ≡ has_only (map (λ k. k.now) known) (members_view es)
names_only known [] = refl
names_only known (e ∷ es) = ap₂ (λ a b. a && b) (among_keys (string_bytes e.0) known) (names_only known es)
