-- The digits of a text one after another.
use Rattle.std.proofs.Common.{◌≡◌, ℕ, ◌+◌, ◌*◌, ◌<◌, ◌≤◌, List, length, drop, get_or, Some, None, ap, ◌∙◌}
use Rattle.std.proofs.lemmas.List.{at_drop_more, at_drop_all}
use Rattle.krb_base.specs.Steps.{◌>>=◌}
use Rattle.krb_job.specs.Decimal.{digit_of, digits_from}

pub digit_step : (text : List ℕ) (i n d : ℕ) → i < length text → digit_of (get_or text i 0) ≡ Some d
    → digits_from n (drop i text) ≡ digits_from (10 * n + d) (drop (i + 1) text)
unfolding digits_from
digit_step text i n d within is = at_drop_more (digits_from n) text i 0 within ∙ ap (λ o. o >>= λ e. digits_from (10 * n + e) (drop (i + 1) text)) is

pub digit_stop : (text : List ℕ) (i n : ℕ) → i < length text → digit_of (get_or text i 0) ≡ None → digits_from n (drop i text) ≡ None
unfolding digits_from
digit_stop text i n within is = at_drop_more (digits_from n) text i 0 within ∙ ap (λ o. o >>= λ e. digits_from (10 * n + e) (drop (i + 1) text)) is

pub digits_end : (text : List ℕ) (i n : ℕ) → length text ≤ i → digits_from n (drop i text) ≡ Some n
unfolding digits_from
digits_end text i n past = at_drop_all (digits_from n) text i past
