-- The command line, in the words of `clap`.
use Rattle.std.specs.Prelude.{◌≡◌, ℕ, List, [], ◌∷◌, Option, Some, None, codes, option_map}
use Rattle.std.specs.Prelude.{Bool, true, false}
use Rattle.std.specs.Prelude.{if◌then◌else◌}
use Rattle.std.specs.Borrow.{Bor}
use Rattle.std.specs.Str.{bytes_eq}
use Rattle.clap.specs.Words.{App, Row, Rule, Shape, Text, first_of, new_app, new_rule}
use Rattle.clap.specs.Words.{with_subcommand, subcommand_name_of}
use Rattle.clap.specs.Simple.{new_shape, on_top}
use Rattle.clap.specs.declared.builder.action.ArgAction.TheVariants.{SetTrue}
use Rattle.clap.specs.declared.parser.matches.ArgMatches.{ArgMatches}
use Rattle.krb_commands.specs.declared.form.Form.{Form}
use Rattle.krb_commands.specs.declared.form.Form.TheVariants.{Lines, Any}
use Rattle.krb_program.specs.declared.command.Asked.{Asked}
use Rattle.krb_program.specs.declared.command.Cmd.{Cmd}
use Rattle.krb_program.specs.declared.command.Cmd.TheVariants.{Show, Vectors, Seal, Open, Relay}

-- the word of each command
abbrev pub word_of : Cmd → List ℕ
word_of Show = codes "show"
word_of Vectors = codes "vectors"
word_of Seal = codes "seal"
word_of Open = codes "open"
word_of Relay = codes "relay"

-- a command is wanted, and `help` is none
abbrev pub no_commands : App
no_commands =
    on_top (λ s. record s {
      has_version = true;
      subcommand_required = true;
      disable_help_subcommand = true;
    })
    (new_app (codes "krbrelay"))

-- an option `--name VALUE`
abbrev pub option_rule : Text → Rule
option_rule name = record (new_rule name) { long = Some name; value_names = 1 }

-- an option `--name`
abbrev pub flag_rule : Text → Rule
flag_rule name = record (new_rule name) { long = Some name; action = Some SetTrue }

-- a command of the command line: `show` and `open` have options
abbrev pub shape_for : Cmd → Shape
shape_for Show = record (new_shape (codes "show")) {
  rules = flag_rule (codes "any") ∷ option_rule (codes "key") ∷ option_rule (codes "etype") ∷ [];
}
shape_for Vectors = new_shape (word_of Vectors)
shape_for Seal = new_shape (word_of Seal)
shape_for Open = record (new_shape (codes "open")) { rules = flag_rule (codes "plain") ∷ [] }
shape_for Relay = new_shape (word_of Relay)

abbrev pub with_word : App → Cmd → App
with_word app command = with_subcommand app (shape_for command)

-- the program's command line
abbrev pub krbrelay_app : App
krbrelay_app =
    with_word
    (with_word (with_word (with_word (with_word no_commands Show) Vectors) Seal) Open) Relay

-- the word is a command's
abbrev pub IsWord : List ℕ → Type 0
IsWord word = (command : Cmd) × (word ≡ word_of command)

-- a command was entered
abbrev pub IsNamed : ArgMatches → Type 0
IsNamed m = (command : Cmd) × (subcommand_name_of m ≡ Some (word_of command))

-- the form of `show`'s input, by the value of the option `--any`
abbrev pub form_of : Option Text → Form
form_of None = Lines
form_of (Some text) = if bytes_eq text (codes "true") then Any else Lines

-- an option without a value is there, by its text
abbrev pub is_set : Option Text → Bool
is_set None = false
is_set (Some text) = bytes_eq text (codes "true")

abbrev pub text_behind : Option (Bor Text) → Option Text
text_behind text = option_map (λ t. t.now) text

-- what was entered is this command, with these values of its options
pub record IsEntered (found : Option (Text × List Row)) (asked : Asked) : Type 0 where
  pub options : List Row
  pub command : found ≡ Some (word_of asked.command, options)
  pub form : asked.form ≡ form_of (first_of (codes "any") options)
  pub key : text_behind asked.key ≡ first_of (codes "key") options
  pub etype : text_behind asked.etype ≡ first_of (codes "etype") options
  pub plain : asked.plain ≡ is_set (first_of (codes "plain") options)
