-- A parse that succeeds names a command.
use Rattle.std.proofs.Common.{◌≡◌, Bool, true, false, ◌&&◌, not, cond, List, [], ◌∷◌, refl, sym, ap, ap₂, ◌∙◌, Option, Some, None, is_some, option_map, find, codes, Bor}
use Rattle.clap.specs.Words.{App, Row, Shape, Text, first_value, found_of, rows_of, subcommand_of, subcommand_rows_of, subcommand_name_of, Kinds, fault_of, is_simple, is_simple_and_free, built}
use Rattle.clap.specs.Simple.{entered, rows_at, label_of, names_of, argument_words}
use Rattle.clap.specs.Walk.{Held, Names, answers_to, walk, walk_from, nothing_held, finished, settled, stop_after}
use Rattle.clap.specs.Faults.{level_fault, walk_fault, settle_fault, defaults_fault, check_fault, entered_fault}
use Rattle.clap.specs.Takes.{is_given}
use Rattle.clap.specs.Facts.{explicit_source}
use Rattle.std.specs.List.{list_any}
use Rattle.clap.specs.Kinds.{or_else, check_kinds}
use Rattle.clap.specs.declared.parser.matches.ArgMatches.{ArgMatches}
use Rattle.krb_program.specs.declared.command.Asked.{Asked}
use Rattle.krb_program.specs.Command.{IsEntered, IsWord, IsNamed, form_of, is_set, krbrelay_app, text_behind, word_of}
use Rattle.clap.proofs.WalkLemmas.{first_value-rows}
use Rattle.krb_program.specs.declared.command.Cmd.{Cmd}
use Rattle.clap.specs.declared.parser.matches.ArgMatches.TheViews.{out-ArgMatches, out-SubCommand}
use Rattle.std.specs.Box.{box_value}
use Rattle.clap.specs.Words.{subcommand_rows}
use Rattle.krb_program.specs.declared.command.Cmd.TheVariants.{Show, Vectors, Seal, Open, Relay}

-- the command as it is parsed
abbrev pub krbrelay_built : App
krbrelay_built = built krbrelay_app

pub is_simple_app : is_simple krbrelay_app ≡ true
is_simple_app = refl

pub is_free_app : is_simple_and_free krbrelay_app ≡ true
is_free_app = refl

or_else_parts : (a b : Kinds) → or_else a b ≡ [] → (a ≡ []) × (b ≡ [])
or_else_parts [] b e = (refl, e)
or_else_parts (k ∷ ks) b e = absurd cc

-- no fault, so that a subcommand was there
has_subcommand_step : (help has argument required : Bool) → required ≡ true → check_kinds help (not has && required) argument ≡ [] → has ≡ true
has_subcommand_step help true argument required r e = refl
has_subcommand_step true false argument required r e = absurd cc
has_subcommand_step false false argument true r e = absurd cc
has_subcommand_step false false argument false r e = absurd cc

level_has_subcommand : (s : Shape) (names : Names) (h : Held) (words : List Text) (has : Bool) (below : Kinds) → s.subcommand_required ≡ true
    → level_fault s names h words has below ≡ [] → has ≡ true
level_has_subcommand s names h words has below required e =
    let end = (walk s.rules names h words).held in
    let rows = finished s.rules end in
    let defaults = defaults_fault (settled s.rules end).rows s.rules in
    let settle = settle_fault s.rules s.args_override_self end in
    let rest = or_else defaults (check_fault s rows has) in
    let one = or_else_parts (walk_fault s names (walk_from h) words) (or_else below (or_else settle rest)) e in
    let two = or_else_parts below (or_else settle rest) one.1 in
    let three = or_else_parts settle rest two.1 in
    let four = or_else_parts defaults (check_fault s rows has) three.1 in
    has_subcommand_step (not has && (s.arg_required_else_help && not (list_any (λ r. explicit_source r.source) rows))) has
    (not (s.subcommand_negates_reqs && has) && list_any (λ a. a.required && not (is_given a.id rows)) s.rules) s.subcommand_required required four.1

pub some_subcommand : (words : List Text) → fault_of krbrelay_app words ≡ [] → is_some (subcommand_of krbrelay_app words) ≡ true
some_subcommand words e =
    let stop = (walk krbrelay_built.top.rules (names_of krbrelay_built) nothing_held (argument_words krbrelay_built words)).stopped in
    level_has_subcommand krbrelay_built.top (names_of krbrelay_built) nothing_held (argument_words krbrelay_built words) (is_some (entered krbrelay_built stop))
    (entered_fault krbrelay_built stop) refl e

-- what a parse entered has the word of a command
abbrev pub Found : Option (Text × List Row) → Type 0
Found o = (command : Cmd) × (option_map (λ p. p.0) o ≡ Some (word_of command))

abbrev NameWords : List Shape → Type 0
NameWords [] = Unit {0}
NameWords (s ∷ ss) = IsWord s.name × NameWords ss

found_step : (b : Bool) (rest : List Text) (s : Shape) (o : Option Shape) → IsWord s.name
    → (is_some (option_map (λ t. rows_at t rest) o) ≡ true → Found (option_map (λ t. rows_at t rest) o))
    → is_some (option_map (λ t. rows_at t rest) (cond b (Some s) o)) ≡ true → Found (option_map (λ t. rows_at t rest) (cond b (Some s) o))
found_step true rest s o word later e = (word.0, ap Some word.1)
found_step false rest s o word later e = later e

find_words : (test : Shape → Bool) (rest : List Text) (shapes : List Shape) → NameWords shapes
    → is_some (option_map (λ t. rows_at t rest) (find test shapes)) ≡ true → Found (option_map (λ t. rows_at t rest) (find test shapes))
find_words test rest [] words e = absurd cc
find_words test rest (s ∷ ss) words e = found_step (test s) rest s (find test ss) words.0 (find_words test rest ss words.1) e

the_words : NameWords krbrelay_built.subs
the_words = ((Show, refl), ((Vectors, refl), ((Seal, refl), ((Open, refl), ((Relay, refl), tt)))))

entered_word : (stop : Option (Text × List Text)) → is_some (entered krbrelay_built stop) ≡ true → Found (entered krbrelay_built stop)
entered_word None e = absurd cc
entered_word (Some p) e = find_words (λ s. answers_to p.0 (label_of s)) p.1 krbrelay_built.subs the_words e

name_of_rows : (m : ArgMatches) → subcommand_name_of m ≡ option_map (λ p. p.0) (subcommand_rows_of m)
name_of_rows m = elim ((out-ArgMatches m).subcommand) as (λ o. option_map (λ b. (out-SubCommand (box_value b)).name.now) o ≡ option_map (λ p. p.0) (subcommand_rows o)) [
  | None ↦ refl
  | Some b ↦ refl
]

pub parsed_is_named : (m : ArgMatches) (words : List Text) → subcommand_rows_of m ≡ subcommand_of krbrelay_app words → fault_of krbrelay_app words ≡ [] → IsNamed m
parsed_is_named m words rows none =
    let stop = stop_after krbrelay_built.top.rules (names_of krbrelay_built) (argument_words krbrelay_app words) in
    let word = entered_word stop (some_subcommand words none) in
    (word.0, name_of_rows m ∙ ap (option_map (λ p. p.0)) rows ∙ word.1)

-- ---- what a parse entered

rows_are : (o : Option (Text × List Row)) (name : Text) (rows : List Row) → Some name ≡ option_map (λ p. p.0) o → Some rows ≡ option_map (λ p. p.1) o → o ≡ Some (name, rows)
rows_are None name rows e f = absurd cc
rows_are (Some p) name rows e f =
    let same-name : name ≡ p.0 = cc in
    let same-rows : rows ≡ p.1 = cc in
    ap₂ (λ a b. Some (a, b)) (sym same-name) (sym same-rows)

rows_entered : (m : ArgMatches) (name : Text) (rows : List Row) → Some name ≡ subcommand_name_of m → Some rows ≡ option_map (λ p. p.1) (subcommand_rows_of m)
    → subcommand_rows_of m ≡ Some (name, rows)
rows_entered m name rows named are = rows_are (subcommand_rows_of m) name rows (named ∙ name_of_rows m) are

pub entered_from : (m : ArgMatches) (found : Option (Bor Text × Bor ArgMatches)) (p : Bor Text × Bor ArgMatches) (asked : Asked)
    → option_map (λ q. q.0.now) found ≡ subcommand_name_of m → option_map (λ q. rows_of (found_of q.1.now)) found ≡ option_map (λ q. q.1) (subcommand_rows_of m)
    → found ≡ Some p → p.0.now ≡ word_of asked.command
    → (any : Option (Bor Text)) → asked.form ≡ form_of (text_behind any) → text_behind any ≡ first_value (found_of p.1.now) (codes "any")
    → text_behind asked.key ≡ first_value (found_of p.1.now) (codes "key") → text_behind asked.etype ≡ first_value (found_of p.1.now) (codes "etype")
    → (set : Option (Bor Text)) → asked.plain ≡ is_set (text_behind set) → text_behind set ≡ first_value (found_of p.1.now) (codes "plain")
    → IsEntered (subcommand_rows_of m) asked
entered_from m found p asked named rows is word any form given key etype set plain there =
    let options = rows_of (found_of p.1.now) in record {
      options = options;
      command = rows_entered m p.0.now options (ap (option_map (λ q. q.0.now)) (sym is) ∙ named) (ap (option_map (λ q. rows_of (found_of q.1.now))) (sym is) ∙ rows)
          ∙ ap (λ w. Some (w, options)) word;
      form = form ∙ ap form_of (given ∙ first_value-rows (found_of p.1.now) (codes "any"));
      key = key ∙ first_value-rows (found_of p.1.now) (codes "key");
      etype = etype ∙ first_value-rows (found_of p.1.now) (codes "etype");
      plain = plain ∙ ap is_set (there ∙ first_value-rows (found_of p.1.now) (codes "plain"));
    }
