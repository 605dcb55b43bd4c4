-- What the code follows: the same of the round keys of the inverse cipher.
use Rattle.std.specs.Prelude.{◌≡◌, true, false}
use Rattle.krb_base.specs.Bytes.{AreZero}
use Rattle.krb_aes.specs.Keys.{IsPadded, key_words}
use Rattle.krb_aes.specs.Rounds.{AreInverseRoundKeys, turns_of, zero_keys}
use Rattle.krb_aes.specs.declared.keys.InverseSchedule.TheInside.{Inside}

pub record IsExpandedBackward (a : Inside) : Type 0 where
  pub padded : IsPadded a.words (key_words a.wide a.words)
  pub live : a.wiped ≡ false → AreZero (key_words a.wide a.words) → ⊥
  pub backward : a.wiped ≡ false
      → AreInverseRoundKeys a.backward (turns_of a.wide) (key_words a.wide a.words)
  pub no_words : a.wiped ≡ true → AreZero a.words
  pub no_backward : a.wiped ≡ true → a.backward ≡ zero_keys
