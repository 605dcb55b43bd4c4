-- What the checks of a sender let through keeps the limits of a job's types.
use Rattle.std.proofs.Common.{◌≡◌, ◌≤◌, ◌<◌, ℕ, nat_le, Bool, true, false, ◌&&◌, List, [], ◌∷◌, length, Option, Some, None, Result, Ok, IsSome, All, refl, subst, arith}
use Rattle.std.proofs.lemmas.Grind.{common_steps}
use Rattle.std.proofs.lemmas.Bool.Decides.{nat_tests}
use Rattle.std.proofs.lemmas.List.Elements.{All-nil, All-cons}
use Rattle.std.specs.Result.{result_ok}
use Rattle.hex.specs.Hex.{decode_of}
use Rattle.toml.specs.Data.{Data, string, integer, float, boolean, datetime, array, table, Items, no_items, item, Members}
use Rattle.krb_base.specs.Limits.{address_limit, text_limit}
use Rattle.krb_der.specs.declared.address.HostAddress.{HostAddress}
use Rattle.krb_seal.specs.Session.{IsShortAddress}
use Rattle.krb_job.specs.declared.place.Place.{Place}
use Rattle.krb_base.specs.Steps.{◌>>=◌}
use Rattle.krb_job.specs.Limits.{AreShortTexts}
use Rattle.krb_job.specs.Address.{address_named, address_of}
use Rattle.krb_job.specs.Decimal.{int32_of}
use Rattle.krb_job.specs.Text.{split_at}
use Rattle.krb_job.specs.Values.{sized, bytes_of, hex_of}
use Rattle.krb_job.specs.Lists.{count, each, items_of, moment_of, moments_of, texts_of}
use Rattle.krb_job.specs.Keys.{at_key, needed, only_if}
use Rattle.krb_base.proofs.OptionSteps.{bind_some}
use Rattle.krb_job.proofs.Given.{within, value_at, barred-absent}

-- no more bytes than allowed were read
most-hex : (high : ℕ) (text b : List ℕ) → hex_of 0 high text ≡ Some b → length b ≤ high
most-hex high text b e =
    let s = bind_some (result_ok (decode_of text)) (sized 0 high) b e in
    let fit = within (nat_le 0 (length s.0) && nat_le (length s.0) high) s.0 b s.2 in
    grind (arith, nat_tests, common_steps)

most-bytes : (high : ℕ) (d : Data) (b : List ℕ) → bytes_of 0 high d ≡ Some b → length b ≤ high
most-bytes high (string text) b e = most-hex high text b e
most-bytes high (integer z) b e = absurd cc
most-bytes high (float x) b e = absurd cc
most-bytes high (boolean x) b e = absurd cc
most-bytes high (datetime dt) b e = absurd cc
most-bytes high (array ds) b e = absurd cc
most-bytes high (table ms) b e = absurd cc

-- nor of an address
named-short : (text : List ℕ) (a : HostAddress) → address_named text ≡ Some a → IsShortAddress a
named-short text a e =
    let parts = bind_some (split_at 58 text) (λ p. int32_of p.0 >>= λ kind. hex_of 0 address_limit p.1 >>= λ bytes. Some (record { kind = kind; bytes = bytes })) a e in
    let kind = bind_some (int32_of parts.0.0) (λ kind. hex_of 0 address_limit parts.0.1 >>= λ bytes. Some (record { kind = kind; bytes = bytes })) a parts.2 in
    let bytes = bind_some (hex_of 0 address_limit parts.0.1) (λ bytes. Some (record { kind = kind.0; bytes = bytes })) a kind.2 in
    let same : ◌≡◌ {A = HostAddress} (record { kind = kind.0; bytes = bytes.0 }) a = let f = bytes.2 in cc in
    let short : length bytes.0 ≤ address_limit = most-hex address_limit parts.0.1 bytes.0 bytes.1 in
    subst (λ (z : HostAddress). IsShortAddress z) same (grind (arith, short))

data-short : (d : Data) (a : HostAddress) → address_of d ≡ Some a → IsShortAddress a
data-short (string text) a e = named-short text a e
data-short (integer z) a e = absurd cc
data-short (float x) a e = absurd cc
data-short (boolean x) a e = absurd cc
data-short (datetime dt) a e = absurd cc
data-short (array ds) a e = absurd cc
data-short (table ms) a e = absurd cc

pub address-short : (place : Place) (ms : Members) (a : HostAddress) → needed place address_of ms ≡ Ok a → IsShortAddress a
address-short place ms a e =
    let found = value_at place address_of ms a e in
    data-short found.0 a found.1

-- what holds of each value that an item may have holds of all that were read
All-each : {A : Type 0} (P : A → Type 0) (of : Data → Option A) → ((d : Data) (x : A) → of d ≡ Some x → P x)
    → (ds : Items) (xs : List A) → each of ds ≡ Some xs → All P xs
All-each P of fits no_items xs e = let same : [] ≡ xs = cc in rw (← same) (All-nil P)
All-each P of fits (item d ds) xs e =
    let first = bind_some (of d) (λ x. each of ds >>= λ ys. Some (x ∷ ys)) xs e in
    let others = bind_some (each of ds) (λ ys. Some (first.0 ∷ ys)) xs first.2 in
    let same : first.0 ∷ others.0 ≡ xs = cc in
    rw (← same) (All-cons P first.0 others.0 (fits d first.0 first.1) (All-each P of fits ds others.0 others.1))

-- each item gives one value
length-each : {A : Type 0} (of : Data → Option A) (ds : Items) (xs : List A) → each of ds ≡ Some xs → length xs ≡ count ds
length-each of no_items xs e = let same : [] ≡ xs = cc in rw (← same) refl
length-each of (item d ds) xs e =
    let first = bind_some (of d) (λ x. each of ds >>= λ ys. Some (x ∷ ys)) xs e in
    let others = bind_some (each of ds) (λ ys. Some (first.0 ∷ ys)) xs first.2 in
    let same : first.0 ∷ others.0 ≡ xs = cc in
    rw (← same) (grind (arith, length-each of ds others.0 others.1))

-- a list of as many items as allowed
items-within : (low high : ℕ) (d : Data) (ds : Items) → items_of low high d ≡ Some ds → low ≤ count ds
items-within low high (array es) ds e = grind (arith, nat_tests, common_steps)
items-within low high (string text) ds e = absurd cc
items-within low high (integer z) ds e = absurd cc
items-within low high (float x) ds e = absurd cc
items-within low high (boolean x) ds e = absurd cc
items-within low high (datetime dt) ds e = absurd cc
items-within low high (table ms) ds e = absurd cc

-- there is a moment at least
some-moments : (d : Data) (moments : List ℕ) → moments_of d ≡ Some moments → 0 < length moments
some-moments d moments e =
    let items = bind_some (items_of 1 2000 d) (each moment_of) moments e in
    omega (arith, items-within 1 2000 d items.0 items.1, length-each moment_of items.0 moments items.2)

-- the moments of a key that has to be there
pub moments-there : (place : Place) (ms : Members) (moments : List ℕ) → needed place moments_of ms ≡ Ok moments → 0 < length moments
moments-there place ms moments e = let at = value_at place moments_of ms moments e in some-moments at.0 moments at.1

-- no text is too long
short-texts : (d : Data) (texts : List (List ℕ)) → texts_of d ≡ Some texts → AreShortTexts texts
short-texts d texts e =
    let items = bind_some (items_of 0 1000 d) (each (bytes_of 0 text_limit)) texts e in
    All-each (λ text. length text ≤ text_limit) (bytes_of 0 text_limit) (most-bytes text_limit) items.0 texts items.2

-- the texts of a key of some commands
pub texts-fit : (allowed : Bool) (place : Place) (ms : Members) (texts : List (List ℕ))
    → only_if allowed [] place (needed place texts_of ms) ms ≡ Ok texts → AreShortTexts texts
texts-fit true place ms texts e = let at = value_at place texts_of ms texts e in short-texts at.0 texts at.1
texts-fit false place ms texts e = let same = barred-absent [] place (at_key place ms) texts e in rw (← same) (All-nil (λ text. length text ≤ text_limit))

-- where there is a value for the commands that seal, there is a moment for them
pub moments-beside : {A : Type 0} (allowed : Bool) (there : Place) (place : Place) (value : Result (Option A) Place) (ms : Members) (x : Option A) (moments : List ℕ)
    → only_if allowed None there value ms ≡ Ok x → only_if allowed [] place (needed place moments_of ms) ms ≡ Ok moments → IsSome x → 0 < length moments
moments-beside true there place value ms x moments made e some = moments-there place ms moments e
moments-beside false there place value ms x moments made e some = let same = barred-absent None there (at_key there ms) x made in absurd cc
