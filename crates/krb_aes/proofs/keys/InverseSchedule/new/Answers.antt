use Rattle.std.proofs.Common.{Bool, take, sym, ap, refl, ◌∙◌, arith}
use Rattle.std.proofs.lemmas.List.{length-take-le}
use Rattle.krb_aes.specs.Keys.{expanded_key, key_bytes}
use Rattle.krb_aes.proofs.KeyLemmas.{expanded_whole, expanded_front}
use Rattle.krb_aes.proofs.ZeroKeys.{never_zero, padded_whole}
use Rattle.krb_aes.proofs.keys.InverseSchedule.new.Goals as goal

pub invariant_of-t-7 : goal.invariant_of-t-7
invariant_of-t-7 c =
    let is = expanded_whole c.key.inside.bytes _ c.key.told c.expand-words.ensures.size c.expand-words.ensures.value in
    record {
      padded = padded_whole c.expand-words.result;
      live = λ e z. never_zero c.key.inside.bytes 8 (omega (arith, c.key.told)) (omega arith) refl refl (rw is at z);
      backward = λ e. c.inverse_round_keys-backward.ensures;
      no_words = λ e. cc e;
      no_backward = λ e. cc e;
    }

pub slice_bounds-inverse_round_keys-end-else-key : goal.slice_bounds-inverse_round_keys-end-else-key
slice_bounds-inverse_round_keys-end-else-key c = sym (length-take-le 44 c.expand-words-else-key.result (omega (arith, c.expand-words-else-key.ensures.size)))

pub inverse_round_keys-backward-requires-else-key-clause-size : goal.inverse_round_keys-backward-requires-else-key-clause-size
inverse_round_keys-backward-requires-else-key-clause-size c = omega (arith, length-take-le 44 c.expand-words-else-key.result (omega (arith, c.expand-words-else-key.ensures.size)))

pub invariant_of-result : goal.invariant_of-result
invariant_of-result c =
    let size = length-take-le 16 c.key.inside.bytes (omega (arith, c.key.told)) in
    let is = expanded_front (take 16 c.key.inside.bytes) c.expand-words-else-key.result size c.expand-words-else-key.ensures.value in
    record {
      padded = rw is c.expand-words-else-key.ensures.value;
      live = λ e z. never_zero (take 16 c.key.inside.bytes) 4 (omega (arith, size)) (omega arith) refl refl (rw is at z);
      backward = λ e. c.inverse_round_keys-backward-else-key.ensures;
      no_words = λ e. cc e;
      no_backward = λ e. cc e;
    }

pub returns-then-key : goal.returns-then-key
returns-then-key c =
    expanded_whole c.key.inside.bytes _ c.key.told c.expand-words.ensures.size c.expand-words.ensures.value
    ∙ ap expanded_key (ap (λ (b : Bool). key_bytes b c.key.inside.bytes) (sym c.if-key.true) ∙ c.key.view_is)

pub returns-else-key : goal.returns-else-key
returns-else-key c =
    expanded_front (take 16 c.key.inside.bytes) _ (length-take-le 16 c.key.inside.bytes (omega arith)) c.expand-words-else-key.ensures.value
    ∙ ap expanded_key (ap (λ (b : Bool). key_bytes b c.key.inside.bytes) (sym c.if-key.false) ∙ c.key.view_is)
