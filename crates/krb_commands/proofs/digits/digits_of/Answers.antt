use Rattle.std.proofs.Common.{◌≡◌, ◌∙◌, ap, not, filter, rules}
use Rattle.std.proofs.lemmas.Fn.{filter_same}
use Rattle.krb_commands.specs.Digits.{digits_of, is_separator}
use Rattle.krb_commands.proofs.digits.digits_of.Goals as goal

pub returns : goal.returns
returns c =
    let kept : c.retain.new.self.items ≡ filter (λ byte. not (is_separator byte)) c.in_ok-bytes.bytes.items =
    filter_same _ (λ byte. not (is_separator byte)) _ (λ x b f' k. search rules) _ _ c.retain.ensures.filtered in
    let copied : c.in_ok-bytes.bytes.items ≡ c.args.text.now = search rules in
    c.new.ensures ∙ kept ∙ ap digits_of copied
