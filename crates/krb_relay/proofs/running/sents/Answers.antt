-- One sender more.
use Rattle.std.proofs.Common.{◌≡◌, ◌∙◌, ◌<◌, ◌+◌, ◌++◌, ◌∷◌, [], ap, sym, ℕ, List, length, map, take, get_or}
use Rattle.std.proofs.lemmas.List.{map_more}
use Rattle.krb_relay.proofs.running.sents.Goals as goal

one_more : {A B : Type 0} (f : A → B) (xs : List A) (i : ℕ) (x : A) (y : B) (ys zs : List B) → ys ≡ map f (take i xs)
    → i < length xs → x ≡ get_or xs i x → y ≡ f x → zs ≡ ys ++ y ∷ [] → zs ≡ map f (take (i + 1) xs)
one_more f xs i x y ys zs so_far within at is pushed =
    pushed ∙ ap (λ l. l ++ y ∷ []) so_far ∙ ap (λ v. map f (take i xs) ++ v ∷ []) (is ∙ ap f at) ∙ sym (map_more f xs i x within)

pub loop-sending-preserved : goal.loop-sending-preserved
loop-sending-preserved g c =
    one_more _ c.args.sendings.now c.loop-sending.sending-index c.sending-item.result c.sent.result c.loop-sending.sents.items c.push.new.self.items
    c.loop-sending.invariant c.loop-sending-test.true c.sending-item.is c.sent.ensures.sent c.in_ok-push.ensures.items
