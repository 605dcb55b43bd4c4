-- The digits of a text.
use Rattle.std.specs.Prelude.{ℕ, List, Bool, ◌==◌, ◌||◌, not, filter}
use Rattle.krb_commands.specs.declared.form.Form.{Form}
use Rattle.krb_commands.specs.declared.form.Form.TheVariants.{Lines, Any}

-- a space, a tab, a line feed, a carriage return or a colon
abbrev pub is_separator : ℕ → Bool
is_separator byte = byte == 32 || (byte == 9 || (byte == 10 || (byte == 13 || byte == 58)))

-- what is left of a text without separators
abbrev pub digits_of : List ℕ → List ℕ
digits_of text = filter (λ byte. not (is_separator byte)) text

-- what has to be the digits of a text: all of it, or what is left without separators
abbrev pub digits_in : Form → List ℕ → List ℕ
digits_in Lines text = text
digits_in Any text = digits_of text
