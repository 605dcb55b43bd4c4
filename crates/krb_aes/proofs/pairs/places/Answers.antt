use Rattle.std.proofs.Common.{◌≡◌, ℕ, ◌/◌, bit_and, bit_xor, true, refl}
use Rattle.krb_aes.proofs.Mixing.{all_below}
use Rattle.krb_aes.specs.Nibbles.{is_place, inverses, scaled_inverses, entry, first_place, second_place}
use Rattle.krb_aes.proofs.Lanes.{places_of_bytes, looked_of, sum_of}
use Rattle.krb_aes.proofs.pairs.places.Goals as goal

abbrev high : ℕ → ℕ
high b = b / 16

abbrev low : ℕ → ℕ
low b = bit_and b 15

abbrev both : ℕ → ℕ
both b = bit_xor (high b) (low b)

abbrev scaled : ℕ → ℕ
scaled b = entry scaled_inverses (low b)

abbrev first : ℕ → ℕ
first b = bit_xor (entry inverses (high b)) (scaled b)

abbrev second : ℕ → ℕ
second b = bit_xor (entry inverses (both b)) (scaled b)

first_all : all_below (λ b. is_place (first_place b)) 256 ≡ true
unfolding first_place
first_all = refl

second_all : all_below (λ b. is_place (second_place b)) 256 ≡ true
unfolding second_place
second_all = refl

pub look_up-scaled-requires : goal.look_up-scaled-requires
look_up-scaled-requires c = places_of_bytes low c.args.x c.low-k.result c.fits-x.1 c.low-k.ensures refl

pub look_up-requires : goal.look_up-requires
look_up-requires c = places_of_bytes high c.args.x c.high-i.result c.fits-x.1 c.high-i.ensures refl

pub look_up-requires-2 : goal.look_up-requires-2
look_up-requires-2 c = places_of_bytes both c.args.x _ c.fits-x.1 (sum_of high low c.args.x c.high-i.ensures c.low-k.ensures) refl

pub look_up-requires-3 : goal.look_up-requires-3
look_up-requires-3 c =
    let s = looked_of scaled_inverses low c.args.x c.look_up-scaled.ensures c.low-k.ensures in
    let f = looked_of inverses high c.args.x c.look_up.ensures c.high-i.ensures in
    places_of_bytes first c.args.x _ c.fits-x.1 (sum_of (λ b. entry inverses (high b)) scaled c.args.x f s) refl

pub look_up-requires-4 : goal.look_up-requires-4
look_up-requires-4 c =
    let s = looked_of scaled_inverses low c.args.x c.look_up-scaled.ensures c.low-k.ensures in
    let j = sum_of high low c.args.x c.high-i.ensures c.low-k.ensures in
    let f = looked_of inverses both c.args.x c.look_up-2.ensures j in
    places_of_bytes second c.args.x _ c.fits-x.1 (sum_of (λ b. entry inverses (both b)) scaled c.args.x f s) refl

pub returns-clause-first : goal.returns-clause-first
unfolding first_place
returns-clause-first c =
    let s = looked_of scaled_inverses low c.args.x c.look_up-scaled.ensures c.low-k.ensures in
    let j = sum_of high low c.args.x c.high-i.ensures c.low-k.ensures in
    let f = looked_of inverses high c.args.x c.look_up.ensures c.high-i.ensures in
    let p = sum_of (λ b. entry inverses (high b)) scaled c.args.x f s in
    sum_of (λ b. entry inverses (first b)) both c.args.x (looked_of inverses first c.args.x c.look_up-3.ensures p) j

pub returns-clause-second : goal.returns-clause-second
unfolding second_place
returns-clause-second c =
    let s = looked_of scaled_inverses low c.args.x c.look_up-scaled.ensures c.low-k.ensures in
    let j = sum_of high low c.args.x c.high-i.ensures c.low-k.ensures in
    let f = looked_of inverses both c.args.x c.look_up-2.ensures j in
    let p = sum_of (λ b. entry inverses (both b)) scaled c.args.x f s in
    sum_of (λ b. entry inverses (second b)) high c.args.x (looked_of inverses second c.args.x c.look_up-4.ensures p) c.high-i.ensures

pub returns-clause-first_ok : goal.returns-clause-first_ok
returns-clause-first_ok c = places_of_bytes first_place c.args.x _ c.fits-x.1 (returns-clause-first c) first_all

pub returns-clause-second_ok : goal.returns-clause-second_ok
returns-clause-second_ok c = places_of_bytes second_place c.args.x _ c.fits-x.1 (returns-clause-second c) second_all
