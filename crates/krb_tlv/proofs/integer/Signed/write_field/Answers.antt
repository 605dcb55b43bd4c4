use Rattle.std.proofs.Common.{◌≡◌, ◌<◌, ◌≤◌, ◌^◌, ◌-◌, ◌++◌, ℕ, ℤ, Bool, true, false, List, [], ◌∷◌, length, drop, get_or, arith, refl, sym, ap, ◌∙◌}
use Rattle.std.proofs.lemmas.Result.{on_ok_weaker}
use Rattle.krb_tlv.specs.Element.{header, tagged}
use Rattle.krb_tlv.specs.Length.{length_octets}
use Rattle.krb_tlv.specs.Integer.{width, int_octets, integer}
use Rattle.krb_tlv.specs.Reading.{signed, five_octets}
use Rattle.krb_tlv.proofs.Numbers.{width-octets, width-complement}
use Rattle.krb_tlv.proofs.integer.Signed.write_field.Goals as goal

content : (negative : Bool) (n : ℕ) → n < 2 ^ 32 → drop (5 - width n) (five_octets negative n) ≡ int_octets (signed negative n)
unfolding int_octets
content false n lt = width-octets n lt
content true n lt = width-complement n lt

-- five octets, one by one
each : List ℕ → List ℕ
each octets = get_or octets 0 0 ∷ get_or octets 1 0 ∷ get_or octets 2 0 ∷ get_or octets 3 0 ∷ get_or octets 4 0 ∷ []

five : (negative : Bool) (n : ℕ) → five_octets negative n ≡ each (five_octets negative n)
unfolding each
five false n = refl
five true n = refl

-- the content of a number are the last w of its five octets
last : (negative : Bool) (n w : ℕ) (octets : List ℕ) → n < 2 ^ 32 → w ≡ width n → octets ≡ five_octets negative n
    → int_octets (signed negative n) ≡ drop (5 - w) (each octets)
last negative n w octets lt wide is =
    let same : drop (5 - width n) (each octets) ≡ drop (5 - width n) (five_octets negative n) =
    ap (λ (x : List ℕ). drop (5 - width n) (each x)) is ∙ ap (drop (5 - width n)) (sym (five negative n)) in
    sym (ap (λ (k : ℕ). drop (5 - k) (each octets)) wide ∙ same ∙ content negative n lt)

-- a field whose number has this content
field : (tag : ℕ) (z : ℤ) (xs : List ℕ) → int_octets z ≡ xs → tagged tag (integer z) ≡ tagged tag (tagged 0x02 xs)
field tag z xs is = ap (λ (x : List ℕ). tagged tag (tagged 0x02 x)) is

pub returns-in-1 : goal.returns-in-1
unfolding tagged header length_octets each
returns-in-1 c =
    let m = c.args.self.now in
    let octets = c.octets.result in
    let w = c.width_of.ensures.value ∙ ap width c.from.ensures in
    let is = field c.args.tag (signed m.negative m.n) (get_or octets 4 0 ∷ []) (last m.negative m.n 1 octets (omega arith) (sym c.in-1.is ∙ w) c.octets.ensures) in
    on_ok_weaker c.put.result (λ e. e ∙ ap (λ (x : List ℕ). c.args.out.now ++ x) (sym is)) c.put.ensures

pub returns-in-2 : goal.returns-in-2
unfolding tagged header length_octets each
returns-in-2 c =
    let m = c.args.self.now in
    let octets = c.octets.result in
    let w = c.width_of.ensures.value ∙ ap width c.from.ensures in
    let is = field c.args.tag (signed m.negative m.n) (get_or octets 3 0 ∷ get_or octets 4 0 ∷ []) (last m.negative m.n 2 octets (omega arith) (sym c.in-2.is ∙ w) c.octets.ensures) in
    on_ok_weaker c.put-in-2.result (λ e. e ∙ ap (λ (x : List ℕ). c.args.out.now ++ x) (sym is)) c.put-in-2.ensures

pub returns-in-3 : goal.returns-in-3
unfolding tagged header length_octets each
returns-in-3 c =
    let m = c.args.self.now in
    let octets = c.octets.result in
    let w = c.width_of.ensures.value ∙ ap width c.from.ensures in
    let is = field c.args.tag (signed m.negative m.n) (get_or octets 2 0 ∷ get_or octets 3 0 ∷ get_or octets 4 0 ∷ []) (last m.negative m.n 3 octets (omega arith) (sym c.in-3.is ∙ w) c.octets.ensures) in
    on_ok_weaker c.put-in-3.result (λ e. e ∙ ap (λ (x : List ℕ). c.args.out.now ++ x) (sym is)) c.put-in-3.ensures

pub returns-in-4 : goal.returns-in-4
unfolding tagged header length_octets each
returns-in-4 c =
    let m = c.args.self.now in
    let octets = c.octets.result in
    let w = c.width_of.ensures.value ∙ ap width c.from.ensures in
    let is = field c.args.tag (signed m.negative m.n) (get_or octets 1 0 ∷ get_or octets 2 0 ∷ get_or octets 3 0 ∷ get_or octets 4 0 ∷ []) (last m.negative m.n 4 octets (omega arith) (sym c.in-4.is ∙ w) c.octets.ensures) in
    on_ok_weaker c.put-in-4.result (λ e. e ∙ ap (λ (x : List ℕ). c.args.out.now ++ x) (sym is)) c.put-in-4.ensures

pub returns-in_default : goal.returns-in_default
unfolding tagged header length_octets each
returns-in_default c =
    let m = c.args.self.now in
    let octets = c.octets.result in
    let w = c.width_of.ensures.value ∙ ap width c.from.ensures in
    let is = field c.args.tag (signed m.negative m.n) (get_or octets 0 0 ∷ get_or octets 1 0 ∷ get_or octets 2 0 ∷ get_or octets 3 0 ∷ get_or octets 4 0 ∷ []) (last m.negative m.n 5 octets (omega arith) (grind (arith, w)) c.octets.ensures) in
    on_ok_weaker c.put-in_default.result (λ e. e ∙ ap (λ (x : List ℕ). c.args.out.now ++ x) (sym is)) c.put-in_default.ensures
